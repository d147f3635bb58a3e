-- Iterators that loops may take, as points of the iteration space.
use Rattle.std.proofs.Common.{◌≡◌, ◌≢◌, refl, ap, sym, ◌∙◌, subst, arith, ℕ, zero, suc, ◌+◌, ◌<◌, ◌≤◌, List, [], ◌∷◌, ℤ, pos, ◌≤ℤ◌, ◌+ℤ◌, ◌*ℤ◌, Bool, true, false, nat_lt, if◌then◌else◌, ◌⊎◌, inl, inr, Option, Some, None}
use Rattle.std.specs.Prelude.{is_some, IsSome, unwrap_or}
use Rattle.std.proofs.lemmas.Int.{ints, by_lt_z}
use Rattle.std.proofs.Math.IntN.{*ℤ_comm}
use Rattle.std.proofs.lemmas.Bool.Decides.{nat_tests}
use Rattle.species_integers.proofs.Products.{one_mul}
use Rattle.species_linear.specs.declared.loops.LoopRange.{LoopRange}
use Rattle.species_linear.specs.Point.{Point, point_of}
use Rattle.species_linear.specs.Box.{range_at}
use Rattle.species_occurrences.specs.Iterators.{IsCounted, MayTake, AreTaken}
use Rattle.species_references.specs.Ranges.{range_seen, ranges_seen}
use Rattle.species_region.specs.Coordinate.{iterator_at, iterators_at, IsCoordinate}
use Rattle.species_region.specs.Region.{Differ, IsInRegion}
use Rattle.species_region.specs.Asked.{ShareLoops}
use Rattle.species_depend.specs.Refuted.{directed}

-- ---- the coordinate of one iterator

-- a counter where the start is a constant, and else the iterator
abbrev HasCoordinate : Option ℤ → ℤ → ℤ → Type 0
HasCoordinate start step i = (v : ℤ) × ((unwrap_or start (pos 0) +ℤ (if is_some start then step else pos 1) *ℤ v) ≡ i) × (IsSome start → pos 0 ≤ℤ v)

counted : (start : Option ℤ) (step i : ℤ) → IsCounted start step i → HasCoordinate start step i
counted (Some first) step i h = (pos h.0, ap (λ (z : ℤ). first +ℤ z) (*ℤ_comm step (pos h.0)) ∙ sym h.1, λ s. omega (arith, ints))
counted None step i h = (i, omega (arith, ints, one_mul i), λ s. absurd cc)

-- ---- points

-- a coordinate before the others
abbrev before : ℤ → Point → Point
before v x zero = v
before v x (suc k) = x k

-- a point of the space at these iterators
pub record IsPointAt (path : List LoopRange) (iters : List ℤ) (x : Point) : Type 0 where
  pub inside : (k : ℕ) → IsCoordinate (range_at path k) (x k)
  pub at : (k : ℕ) → iterators_at path x k ≡ point_of iters k

nowhere : IsPointAt [] [] (λ k. pos 0)
nowhere = record {
  inside = λ k. ((omega (arith, ints), omega (arith, ints)), λ h. absurd cc);
  at = λ k. refl;
}

pub coordinates : (path : List LoopRange) (iters : List ℤ) → AreTaken (ranges_seen path) iters → (x : Point) × IsPointAt path iters x
coordinates [] [] h = ((λ k. pos 0), nowhere)
coordinates [] (i ∷ iters) h = absurd h
coordinates (r ∷ path) [] h = absurd h
coordinates (r ∷ path) (i ∷ iters) h =
    let rest = coordinates path iters h.1 in
    let taken : MayTake (range_seen r) i = h.0 in
    let c = counted r.start r.step i taken.2 in
    let v : ℤ = c.0 in (
      before v rest.0,
      record {
        inside = inside v rest.0 (subst (λ (z : ℤ). (r.low ≤ℤ z) × (z ≤ℤ r.high)) (sym c.1) (taken.0, taken.1), c.2) rest.1.inside;
        at = at v rest.0 c.1 rest.1.at;
      },
    )
  where
    inside : (v : ℤ) (x : Point) → IsCoordinate r v → ((k : ℕ) → IsCoordinate (range_at path k) (x k)) → (k : ℕ) → IsCoordinate (range_at (r ∷ path) k) (before v x k)
    inside v x here there zero = here
    inside v x here there (suc k) = there k

    at : (v : ℤ) (x : Point) → iterator_at r v ≡ i → ((k : ℕ) → iterators_at path x k ≡ point_of iters k) → (k : ℕ) → iterators_at (r ∷ path) (before v x) k ≡ point_of (i ∷ iters) k
    at v x here there zero = here
    at v x here there (suc k) = there k

-- ---- two points that agree below a level

abbrev joined : ℕ → Point → Point → Point
joined l x y k = if nat_lt k l then x k else y k

joined_below : (l : ℕ) (x y : Point) (k : ℕ) → k < l → joined l x y k ≡ x k
joined_below l x y k h = let t : nat_lt k l ≡ true = grind (arith, nat_tests) in rw t refl

joined_from : (l : ℕ) (x y : Point) (k : ℕ) → l ≤ k → joined l x y k ≡ y k
joined_from l x y k h = let t : nat_lt k l ≡ false = grind (arith, nat_tests) in rw t refl

below_or_from : (k l : ℕ) → (k < l) ⊎ (l ≤ k)
below_or_from k l = grind arith

-- the second point with the first's coordinates below the level, where the loops and the iterators are the same
joined_point : (l : ℕ) (ps qs : List LoopRange) (is js : List ℤ) (x y : Point) → IsPointAt ps is x → IsPointAt qs js y →
    ((k : ℕ) → k < l → range_at ps k ≡ range_at qs k) → ((k : ℕ) → k < l → point_of is k ≡ point_of js k) → IsPointAt qs js (joined l x y)
joined_point l ps qs is js x y first second loops same = record { inside = inside; at = at }
  where
    inside : (k : ℕ) → IsCoordinate (range_at qs k) (joined l x y k)
    inside k = elim (below_or_from k l) [
      | inl h ↦ rw (joined_below l x y k h) (subst (λ (r : LoopRange). IsCoordinate r (x k)) (loops k h) (first.inside k))
      | inr h ↦ rw (joined_from l x y k h) (second.inside k)
    ]

    at : (k : ℕ) → iterators_at qs (joined l x y) k ≡ point_of js k
    at k = elim (below_or_from k l) [
      | inl h ↦ rw (joined_below l x y k h) (ap (λ (r : LoopRange). iterator_at r (x k)) (sym (loops k h)) ∙ (first.at k ∙ same k h))
      | inr h ↦ rw (joined_from l x y k h) (second.at k)
    ]

-- different numbers differ in one direction
pub one_direction : (u v : ℤ) → u ≢ v → (less : Bool) × Differ less u v
one_direction u v apart = by_lt_z {P = (less : Bool) × Differ less u v} u v (λ h. (true, h)) above
  where
    above : v ≤ℤ u → (less : Bool) × Differ less u v
    above h = by_lt_z {P = (less : Bool) × Differ less u v} v u (λ g. (false, g)) (λ g. absurd (apart (omega (arith, ints, h, g))))

-- Iterators that are the same before a level and differ there are a pair of the region of the level, in one of the two directions.
pub in_region : (outer level : ℕ) (ps qs : List LoopRange) (is js : List ℤ) → AreTaken (ranges_seen ps) is → AreTaken (ranges_seen qs) js → ShareLoops (directed outer level true) ps qs →
    ((k : ℕ) → k < outer + level → point_of is k ≡ point_of js k) → point_of is (outer + level) ≢ point_of js (outer + level) →
    (less : Bool) × (x : Point) × (y : Point) × IsInRegion (directed outer level less) ps qs x y × IsPointAt ps is x × IsPointAt qs js y
in_region outer level ps qs is js lie lie_other loops same differ =
    let first = coordinates ps is lie in
    let second = coordinates qs js lie_other in
    let l = outer + level in
    let x = first.0 in
    let y = joined l x second.0 in
    let at_y : IsPointAt qs js y = joined_point l ps qs is js x second.0 first.1 second.1 (λ k h. loops.same k (omega (arith, h))) same in
    let apart : x l ≢ y l = λ e. differ (sym (first.1.at l) ∙ (ap (λ (r : LoopRange). iterator_at r (x l)) (loops.same l (omega arith)) ∙ (ap (λ (z : ℤ). iterator_at (range_at qs l) z) e ∙ at_y.at l))) in
    let d = one_direction (x l) (y l) apart in
    (d.0, x, y, record { first = λ k h. first.1.inside k; second = λ k h. at_y.inside k; agree = λ k h. sym (joined_below l x second.0 k h); differ = d.1 }, first.1, at_y)
