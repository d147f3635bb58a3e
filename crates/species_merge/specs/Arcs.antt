-- The arcs of the classes of references.
use Rattle.std.specs.Prelude.{◌≡◌, ◌≢◌, ◌↔◌, ℕ, suc, ◌+◌, ◌/◌, pos, ◌+ℤ◌, ◌-ℤ◌, true, false, nat_lt, List, [], ◌∷◌, length, map, IsTrue}
use Rattle.std.specs.Int.RustNames.{unsigned_abs}
use Rattle.species_affine.specs.declared.subscript.Subscript.{Subscript}
use Rattle.species_arcs.specs.Pairwise.{Pairwise}
use Rattle.species_arcs.specs.declared.places.Arc.{Arc}
use Rattle.species_arcs.specs.declared.places.ArcDim.{ArcDim}
use Rattle.species_arcs.specs.declared.spans.Span.{Span}
use Rattle.species_linear.specs.Rising.{IsRising}
use Rattle.species_references.specs.declared.nest.Reference.{Reference}
use Rattle.species_merge.specs.Hulls.{IsHullOf}
use Rattle.species_merge.specs.Classes.{terms_of, terms_below, terms_from, Class, members, classes_of, column}
use Rattle.species_merge.specs.Bands.{moves_of, IsLeastAmong, IsEndOf}
use Rattle.species_merge.specs.Exact.{IsExact}
use Rattle.species_merge.specs.declared.bands.BandBound.{BandBound}

-- The indices of a dimension, with the constant and without what moves with iterators.
abbrev pub added_in : ArcDim → Span
added_in d = record { low = d.at.constant +ℤ d.a; high = d.at.constant +ℤ d.b; stride = d.stride }

-- A dimension of an arc: the subscript of the class's first reference, and the boxes of all.
pub record IsDimOf (outer : ℕ) (bands : List BandBound) (s : Subscript) (xs : List Span) (d : ArcDim) : Type 0 where
  -- it moves with the iterators below those of the inner loops
  pub terms : d.at.terms ≡ terms_below (outer + length bands) (terms_of s)
  pub rising : IsRising d.at.terms
  -- the offsets are the hull of the boxes; where they are one number, it is the constant
  pub hull : IsHullOf xs (added_in d)
  pub single : d.a ≡ d.b → d.a ≡ pos 0
  pub several : d.a ≢ d.b → d.at.constant ≡ pos 0
  pub elements : d.elements ≡ suc (unsigned_abs (d.b -ℤ d.a) / d.stride)
  pub driven : d.driven ≡ nat_lt 0 (length (terms_from outer d.at.terms))
  pub step : IsLeastAmong (moves_of outer bands d.at.terms) d.step
  pub low : IsEndOf true outer bands d.at d.a d.low
  pub high : IsEndOf false outer bands d.at d.b d.high

-- the dimensions of an arc, of which the first has number k
abbrev pub AreDimsFrom : ℕ → List BandBound → List Reference → ℕ → List Subscript → List ArcDim → Type 0
AreDimsFrom outer bands rs k [] [] = Unit {0}
AreDimsFrom outer bands rs k [] (d ∷ ds) = ⊥
AreDimsFrom outer bands rs k (s ∷ ss) [] = ⊥
AreDimsFrom outer bands rs k (s ∷ ss) (d ∷ ds) = IsDimOf outer bands s (column rs k) d × AreDimsFrom outer bands rs (suc k) ss ds

-- The arc of a class, in so many loops around the nest, for the band with these bounds.
pub record IsArcOf (outer : ℕ) (bands : List BandBound) (c : Class) (arc : Arc) : Type 0 where
  pub array : arc.array ≡ c.first.array
  pub direction : arc.dir ≡ c.first.dir
  pub dims : AreDimsFrom outer bands (members c) 0 c.first.subs arc.dims
  pub exact : IsTrue arc.exact ↔ IsExact (outer + length bands) c (map added_in arc.dims)

-- An arc for each class, in the order of their first references.
abbrev pub AreArcsOf : ℕ → List BandBound → List Reference → List Arc → Type 0
AreArcsOf outer bands rs arcs = Pairwise (IsArcOf outer bands) (classes_of (outer + length bands) rs) arcs
