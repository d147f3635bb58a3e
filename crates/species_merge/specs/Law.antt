-- What the arcs of references say: their sets hold all that the references may touch, lie in their domains, and have no other place
-- where they are exact.
use Rattle.std.specs.Prelude.{◌≡◌, ℕ, ◌+◌, ◌<◌, ℤ, ◌-ℤ◌, ◌≤ℤ◌, false, List, [], ◌∷◌, ◌++◌, length, drop, All, Option, Some, None, IsTrue}
use Rattle.std.specs.List.{Any}
use Rattle.std.specs.Int.{◌∣◌}
use Rattle.std.specs.Int.RustNames.{unsigned_abs}
use Rattle.species_affine.specs.declared.subscript.Subscript.{Subscript}
use Rattle.species_arcs.specs.Pairwise.{Pairwise}
use Rattle.species_arcs.specs.Sets.{IsInSet, IsInDomain}
use Rattle.species_arcs.specs.Spans.{IsInSpan}
use Rattle.species_arcs.specs.declared.places.Arc.{Arc}
use Rattle.species_arcs.specs.declared.spans.Span.{Span}
use Rattle.species_ast.specs.declared.tree.Loop.{Loop}
use Rattle.species_ast.specs.Scope.Forms.{Form, form_value}
use Rattle.species_ast.specs.Scope.Hulls.{Range}
use Rattle.species_ast.specs.Scope.References as text
use Rattle.species_linear.specs.Point.{Point, point_of}
use Rattle.species_linear.specs.Value.{form_at, sum_at}
use Rattle.species_occurrences.specs.Iterators.{MayTake, AreTaken}
use Rattle.species_occurrences.specs.Surely.{AreConstant}
use Rattle.species_references.specs.Boxes.{has_constant_bounds, unit_of}
use Rattle.species_references.specs.Law.{HasTurns}
use Rattle.species_references.specs.References.{direction_of, IsReference}
use Rattle.species_references.specs.declared.nest.Reference.{Reference}
use Rattle.species_merge.specs.Classes.{terms_of, terms_below}
use Rattle.species_merge.specs.Bands.{bound_at}
use Rattle.species_merge.specs.Arcs.{AreArcsOf}
use Rattle.species_merge.specs.declared.bands.BandBound.{BandBound}

-- ---- sets

-- Each index, less what the iterators below level `top` add to it, is a number of the box of its dimension.
abbrev pub AreInBoxes : ℕ → Point → List Subscript → List Span → List ℤ → Type 0
AreInBoxes top p [] [] [] = Unit {0}
AreInBoxes top p [] [] (v ∷ vs) = ⊥
AreInBoxes top p [] (x ∷ xs) vs = ⊥
AreInBoxes top p (s ∷ ss) [] vs = ⊥
AreInBoxes top p (s ∷ ss) (x ∷ xs) [] = ⊥
AreInBoxes top p (s ∷ ss) (x ∷ xs) (v ∷ vs) =
    IsInSpan x (v -ℤ sum_at (terms_below top (terms_of s)) p) × AreInBoxes top p ss xs vs

-- the arc is one of the reference's array and direction, and its set has the place
pub record IsHeld (p : Point) (place : List ℤ) (r : Reference) (a : Arc) : Type 0 where
  pub array : a.array ≡ r.array
  pub direction : a.dir ≡ r.dir
  pub held : IsInSet a p place

-- Where its indices lie in the boxes of a reference, a place is in the set of an arc of the reference's array and direction.
abbrev pub SetsHoldBoxes : Type 0
SetsHoldBoxes = (outer : ℕ) (bands : List BandBound) (rs : List Reference) (arcs : List Arc) (p : Point) (place : List ℤ) → AreArcsOf outer bands rs arcs
    → All (λ r. AreInBoxes (outer + length bands) p r.subs r.boxes place → Any (IsHeld p place r) arcs) rs

-- ---- domains

-- each iterator of the band lies from its least to its greatest value
abbrev pub AreInBand : ℕ → List BandBound → Point → Type 0
AreInBand outer bands p = (k : ℕ) → k < length bands
    → (form_at (bound_at bands k).least p ≤ℤ p (outer + k)) × (p (outer + k) ≤ℤ form_at (bound_at bands k).greatest p)

-- Then the set of an arc lies in its domain.
abbrev pub SetsLieInDomains : Type 0
SetsLieInDomains = (outer : ℕ) (bands : List BandBound) (rs : List Reference) (arcs : List Arc) (p : Point) (place : List ℤ) → AreArcsOf outer bands rs arcs
    → AreInBand outer bands p → All (λ a. IsInSet a p place → IsInDomain a p place) arcs

-- ---- exact sets

-- the index is the value of the form of an affine subscript
abbrev pub IsValueAt : List ℤ → Option Form → ℤ → Type 0
IsValueAt iters (Some f) v = v ≡ form_value f iters
IsValueAt iters None v = ⊥

-- The reference is one of the arc's array and direction. It is evaluated in each turn of the inner loops, which have constant bounds,
-- and in a turn that they take it has this place.
pub record IsTouchedBy (top : ℕ) (iters place : List ℤ) (a : Arc) (q : text.Reference) : Type 0 where
  pub array : q.array ≡ a.array
  pub direction : q.direction ≡ direction_of a.dir
  pub always : q.conditional ≡ false
  pub constant : AreConstant (drop top q.path)
  pub inner : List ℤ
  pub taken : AreTaken (drop top q.path) inner
  pub indices : Pairwise (IsValueAt (iters ++ inner)) q.subs place

-- A range whose numbers, from the least to the greatest in whole units, are values that its iterator may take.
pub record IsFullyTaken (r : Range) : Type 0 where
  pub whole : unit_of r ∣ unsigned_abs (r.high -ℤ r.low)
  pub taken : (i : ℤ) → r.low ≤ℤ i → i ≤ℤ r.high → unit_of r ∣ unsigned_abs (i -ℤ r.low) → MayTake r i

-- Around the reference, from this level on, each range from a constant to a constant is such a one, if it is not empty.
abbrev pub AreSettled : ℕ → text.Reference → Type 0
AreSettled inner q = All (λ r. IsTrue (has_constant_bounds r) → r.low ≤ℤ r.high → IsFullyTaken r) (drop inner q.path)

-- So it is of the references of a nest.
abbrev pub ReferencesAreSettled : Type 0
ReferencesAreSettled = (adds : text.Adding) (head : Loop) (at : List ℕ) (path : List Range) (depth : ℕ)
    → All (AreSettled (length path + depth)) (text.references_of adds head at path depth)

-- Then each place of the set of an exact arc is touched by one of the references, at any values of the iterators outside the inner
-- loops.
abbrev pub ExactSetsAreTouched : Type 0
ExactSetsAreTouched = (sizes : ℕ → List ℕ) (outer : ℕ) (bands : List BandBound) (rs : List Reference) (qs : List text.Reference) (arcs : List Arc)
    (iters place : List ℤ) → Pairwise (IsReference sizes (outer + length bands)) rs qs → All (HasTurns (outer + length bands)) qs
    → All (AreSettled (outer + length bands)) qs → AreArcsOf outer bands rs arcs → length iters ≡ outer + length bands
    → All (λ a. IsTrue a.exact → IsInSet a (point_of iters) place → Any (IsTouchedBy (outer + length bands) iters place a) qs) arcs
