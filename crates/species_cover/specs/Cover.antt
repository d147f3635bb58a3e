-- When a given arc says at least what a derived arc says.
use Rattle.std.specs.Prelude.{◌≡◌, ◌+ℤ◌, ◌<◌, min, ℕ, Bool, List, length, slice_index_or, Some, IsTrue}
use Rattle.std.specs.List.{Any}
use Rattle.species_arcs.specs.declared.places.Arc.{Arc}
use Rattle.species_arcs.specs.declared.places.ArcDim.{ArcDim}
use Rattle.species_arcs.specs.declared.spans.Span.{Span}
use Rattle.species_arcs.specs.Pairwise.{Pairwise}
use Rattle.species_notation.specs.declared.given.GivenArc.{GivenArc}
use Rattle.species_notation.specs.declared.given.GivenDim.{GivenDim}
use Rattle.species_cover.specs.Within.{IsWithin}

-- The indices of a dimension, with the constant and without what moves with iterators.
abbrev pub derived_span : ArcDim → Span
derived_span d = record { low = d.at.constant +ℤ d.a; high = d.at.constant +ℤ d.b; stride = d.stride }

abbrev pub given_span : GivenDim → Span
given_span g = record { low = g.at.constant +ℤ g.a; high = g.at.constant +ℤ g.b; stride = g.stride }

-- The dimension moves with the same iterators, and each index of the derived one is an index of the given one; if the
-- given arc is exact, both have the same indices. Terms rise in their levels and have no coefficient 0, so they are
-- the same where the coefficients are.
pub record CoversDim (exact : Bool) (g : GivenDim) (d : ArcDim) : Type 0 where
  pub terms : g.at.terms ≡ d.at.terms
  pub indices : IsWithin (derived_span d) (given_span g)
  pub no_wider : IsTrue exact → IsWithin (given_span g) (derived_span d)

-- The word and the domain of the given arc are not looked at. An exact one covers only what is exact too.
pub record Covers (g : GivenArc) (d : Arc) : Type 0 where
  pub known : IsTrue g.known
  pub array : g.array ≡ Some d.array
  pub direction : g.dir ≡ d.dir
  pub exact : IsTrue g.exact → IsTrue d.exact
  pub dims : Pairwise (CoversDim g.exact) g.dims d.dims

-- One of the given arcs covers the derived one.
abbrev pub IsCovered : List GivenArc → Arc → Type 0
IsCovered given d = Any (λ g. Covers g d) given

-- The derived arc of this number is the first that no given arc covers.
pub record IsFirstUncovered (given : List GivenArc) (derived : List Arc) (n : ℕ) : Type 0 where
  pub within : n < length derived
  pub uncovered : (d : Arc) → IsCovered given (slice_index_or derived n d) → ⊥
  pub before : (k : ℕ) (d : Arc) → k < n → IsCovered given (slice_index_or derived k d)

-- The number of an arc in 32 bits; those that do not fit have the greatest.
abbrev pub numbered : ℕ → ℕ
numbered n = min n 4294967295
