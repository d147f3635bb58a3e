-- The counters of a loop: division gives the first and the last.
use Rattle.std.proofs.Common.{◌≡◌, ℕ, ◌+◌, ◌*◌, ◌/◌, ◌<◌, ◌≤◌, ℤ, pos, negsuc, ◌+ℤ◌, ◌-ℤ◌, ◌*ℤ◌, ◌≤ℤ◌, ◌<ℤ◌, arith, ap, refl, Some, ◌↔◌}
use Rattle.std.proofs.lemmas.Int.{ints}
use Rattle.std.proofs.Math.IntN.{neg_ℤ, pos-*ℤ-pos}
use Rattle.std.proofs.Math.Nat.{le-div_iff_mul-le, div-lt_iff_lt-mul, mul_comm}
use Rattle.species_integers.proofs.Products.{neg_mul}
use Rattle.species_linear.specs.declared.loops.LoopRange.{LoopRange}
use Rattle.species_region.specs.Coordinate.{iterator_at, IsCoordinate}

-- the multiples of n that are not below near are those from the counter first on
abbrev pub IsFirstFrom : ℕ → ℤ → ℤ → Type 0
IsFirstFrom n near first = (v : ℤ) → ((pos 0 ≤ℤ v) × (near ≤ℤ (pos n *ℤ v))) ↔ (first ≤ℤ v)

-- the multiples of n that are not above far are those up to the counter last
abbrev pub IsLastTo : ℕ → ℤ → ℤ → Type 0
IsLastTo n far last = (v : ℤ) → pos 0 ≤ℤ v → ((pos n *ℤ v) ≤ℤ far) ↔ (v ≤ℤ last)

multiple_nonnegative : (n : ℕ) (v : ℤ) → pos 0 ≤ℤ v → pos 0 ≤ℤ (pos n *ℤ v)
multiple_nonnegative n (pos m) h = omega (arith, ints, pos-*ℤ-pos n m)
multiple_nonnegative n (negsuc m) h = absurd (omega (arith, ints, h))

pub first_is_zero : (n : ℕ) (near : ℤ) → near ≤ℤ pos 0 → IsFirstFrom n near (pos 0)
first_is_zero n near h v = ((λ both. both.0), (λ above. (above, omega (arith, ints, h, multiple_nonnegative n v above))))

-- b + 1 is at most n * m exactly from b / n + 1 on
first_multiple : (b n m : ℕ) → 0 < n → ((b + 1) ≤ n * m) ↔ ((b / n + 1) ≤ m)
first_multiple b n m h =
    let by_division = div-lt_iff_lt-mul {k = n} {x = b} {y = m} h in (
      (λ p. omega (arith, by_division.1 (omega (arith, p, mul_comm n m)))),
      (λ p. omega (arith, by_division.0 (omega (arith, p)), mul_comm n m)),
    )

pub first_by_division : (n b : ℕ) (near : ℤ) → 0 < n → near ≡ pos (b + 1) → IsFirstFrom n near (pos (b / n + 1))
first_by_division n b near h is (pos m) = (
  (λ both. omega (arith, ints, (first_multiple b n m h).0 (omega (arith, ints, both.1, is, pos-*ℤ-pos n m)))),
  (λ above. (omega (arith, ints), omega (arith, ints, (first_multiple b n m h).1 (omega (arith, ints, above)), is, pos-*ℤ-pos n m))),
)
first_by_division n b near h is (negsuc m) = ((λ both. absurd (omega (arith, ints, both.0))), (λ above. absurd (omega (arith, ints, above))))

pub last_is_none : (n : ℕ) (far : ℤ) → far <ℤ pos 0 → IsLastTo n far (negsuc 0)
last_is_none n far h v above = (
  (λ p. absurd (omega (arith, ints, h, p, multiple_nonnegative n v above))),
  (λ p. absurd (omega (arith, ints, above, p))),
)

pub last_by_division : (n f : ℕ) (far : ℤ) → 0 < n → far ≡ pos f → IsLastTo n far (pos (f / n))
last_by_division n f far h is (pos m) above =
    let by_division = le-div_iff_mul-le {k = n} {x = m} {y = f} h in (
      (λ p. omega (arith, ints, by_division.1 (omega (arith, ints, p, is, pos-*ℤ-pos n m, mul_comm n m)))),
      (λ p. omega (arith, ints, by_division.0 (omega (arith, ints, p)), is, pos-*ℤ-pos n m, mul_comm n m)),
    )
last_by_division n f far h is (negsuc m) above = absurd (omega (arith, ints, above))

-- ---- the coordinates of a loop that is counted
counted_is : (r : LoopRange) (s v : ℤ) → r.start ≡ Some s →
    IsCoordinate r v ↔ (((r.low ≤ℤ (s +ℤ r.step *ℤ v)) × ((s +ℤ r.step *ℤ v) ≤ℤ r.high)) × (pos 0 ≤ℤ v))
counted_is r s v is = rw is ((λ h. (h.0, h.1 refl)), (λ h. (h.0, λ counted. h.1)))

pub counters_up : (r : LoopRange) (s first last : ℤ) (n : ℕ) → r.start ≡ Some s → r.step ≡ pos n → IsFirstFrom n (r.low -ℤ s) first → IsLastTo n (r.high -ℤ s) last →
    (v : ℤ) → IsCoordinate r v ↔ ((first ≤ℤ v) × (v ≤ℤ last))
counters_up r s first last n is step from to v =
    let counted = counted_is r s v is in
    let moved : s +ℤ r.step *ℤ v ≡ s +ℤ pos n *ℤ v = ap (λ (z : ℤ). s +ℤ z *ℤ v) step in (
      (λ h. let inside = counted.0 h in
          ((from v).0 (inside.1, omega (arith, ints, inside.0.0, moved)), (to v inside.1).0 (omega (arith, ints, inside.0.1, moved)))),
      (λ h. let above = (from v).1 h.0 in
          let below = (to v above.0).1 h.1 in
          counted.1 ((omega (arith, ints, above.1, moved), omega (arith, ints, below, moved)), above.0)),
    )

pub counters_down : (r : LoopRange) (s first last : ℤ) (n : ℕ) → r.start ≡ Some s → r.step ≡ neg_ℤ (pos n) → IsFirstFrom n (s -ℤ r.high) first → IsLastTo n (s -ℤ r.low) last →
    (v : ℤ) → IsCoordinate r v ↔ ((first ≤ℤ v) × (v ≤ℤ last))
counters_down r s first last n is step from to v =
    let counted = counted_is r s v is in
    let moved : s +ℤ r.step *ℤ v ≡ s -ℤ pos n *ℤ v = omega (arith, ints, ap (λ (z : ℤ). z *ℤ v) step, neg_mul (pos n) v) in (
      (λ h. let inside = counted.0 h in
          ((from v).0 (inside.1, omega (arith, ints, inside.0.1, moved)), (to v inside.1).0 (omega (arith, ints, inside.0.0, moved)))),
      (λ h. let above = (from v).1 h.0 in
          let below = (to v above.0).1 h.1 in
          counted.1 ((omega (arith, ints, below, moved), omega (arith, ints, above.1, moved)), above.0)),
    )

pub counted_iterator : (r : LoopRange) (s v : ℤ) → r.start ≡ Some s → iterator_at r v ≡ s +ℤ r.step *ℤ v
counted_iterator r s v is = rw is refl
