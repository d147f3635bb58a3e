-- What an arc says of the places of its array.
use Rattle.std.specs.Prelude.{ℤ, ◌-ℤ◌, ◌≤ℤ◌, List}
use Rattle.species_linear.specs.Point.{Point}
use Rattle.species_linear.specs.Value.{form_at}
use Rattle.species_arcs.specs.declared.places.Arc.{Arc}
use Rattle.species_arcs.specs.declared.places.ArcDim.{ArcDim}
use Rattle.species_arcs.specs.declared.spans.Span.{Span}
use Rattle.species_arcs.specs.Spans.{IsInSpan}
use Rattle.species_arcs.specs.Pairwise.{Pairwise}

-- The offsets of a dimension.
abbrev pub offsets_of : ArcDim → Span
offsets_of d = record { low = d.a; high = d.b; stride = d.stride }

-- The index is one of at + a, at + a + stride, and so on up to at + b, where the iterators have these values.
abbrev pub IsInDim : ArcDim → Point → ℤ → Type 0
IsInDim d iters index = IsInSpan (offsets_of d) (index -ℤ form_at d.at iters)

-- The set of an arc in an iteration: the places with such an index in each dimension.
abbrev pub IsInSet : Arc → Point → List ℤ → Type 0
IsInSet arc iters place = Pairwise (λ d index. IsInDim d iters index) arc.dims place

-- The index lies from low to high, where the iterators of the loops around the nest have these values.
abbrev pub IsInDimDomain : ArcDim → Point → ℤ → Type 0
IsInDimDomain d outer index = (form_at d.low outer ≤ℤ index) × (index ≤ℤ form_at d.high outer)

-- The domain of an arc: the places whose index in each dimension does.
abbrev pub IsInDomain : Arc → Point → List ℤ → Type 0
IsInDomain arc outer place = Pairwise (λ d index. IsInDimDomain d outer index) arc.dims place
