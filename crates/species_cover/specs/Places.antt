-- The places of a given arc in an iteration.
use Rattle.std.specs.Prelude.{◌≡◌, ◌-ℤ◌, ℤ, List, Some, IsTrue}
use Rattle.std.specs.List.{Any}
use Rattle.species_linear.specs.Point.{Point}
use Rattle.species_linear.specs.Value.{form_at}
use Rattle.species_arcs.specs.declared.places.Arc.{Arc}
use Rattle.species_arcs.specs.declared.spans.Span.{Span}
use Rattle.species_arcs.specs.Pairwise.{Pairwise}
use Rattle.species_arcs.specs.Spans.{IsInSpan}
use Rattle.species_notation.specs.declared.given.GivenArc.{GivenArc}
use Rattle.species_notation.specs.declared.given.GivenDim.{GivenDim}

-- The offsets of a given dimension.
abbrev pub offsets_of : GivenDim → Span
offsets_of g = record { low = g.a; high = g.b; stride = g.stride }

-- The index is one of at + a, at + a + stride, and so on up to at + b, where the iterators have these values.
abbrev pub IsInGivenDim : Point → GivenDim → ℤ → Type 0
IsInGivenDim iters g index = IsInSpan (offsets_of g) (index -ℤ form_at g.at iters)

-- A given arc of the array and direction of a derived one, all of whose names are known, has this place.
pub record HasPlace (d : Arc) (iters : Point) (place : List ℤ) (g : GivenArc) : Type 0 where
  pub array : g.array ≡ Some d.array
  pub direction : g.dir ≡ d.dir
  pub known : IsTrue g.known
  pub indices : Pairwise (IsInGivenDim iters) g.dims place

-- Some given arc does.
abbrev pub IsInSome : Arc → Point → List ℤ → List GivenArc → Type 0
IsInSome d iters place given = Any (HasPlace d iters place) given
