-- Where two forms have one value at a pair of the region, each common divisor of the coefficients divides the constant.
use Rattle.std.proofs.Common.{◌≡◌, ℕ, ◌<◌, ℤ, pos, ◌+ℤ◌, ◌-ℤ◌, ◌*ℤ◌, arith, refl, subst, ap, List, IsTrue, nat_lt, ◌↔◌}
use Rattle.std.specs.Int.{◌∣◌}
use Rattle.std.specs.Int.RustNames.{unsigned_abs, int_div, int_rem}
use Rattle.std.proofs.lemmas.Int.{ints, quot-rem}
use Rattle.std.proofs.lemmas.Nat.Gcd.{dvd-zero, dvd_trans}
use Rattle.std.proofs.lemmas.Bool.Decides.{nat_tests}
use Rattle.std.proofs.Math.IntN.{*ℤ_comm}
use Rattle.species_linear.specs.declared.forms.Form.{Form}
use Rattle.species_linear.specs.declared.loops.LoopRange.{LoopRange}
use Rattle.species_linear.specs.declared.loops.Direction.{Direction}
use Rattle.species_linear.specs.Rising.{IsRising}
use Rattle.species_linear.specs.Point.{Point}
use Rattle.species_linear.specs.Value.{form_at, coefficient_at, NamesOnly}
use Rattle.species_linear.specs.Box.{range_at}
use Rattle.species_linear.proofs.Levels.{difference_by_level}
use Rattle.species_region.specs.Coordinate.{origin_of, unit_of, iterators_at, origins_of}
use Rattle.species_region.specs.Region.{level_of, IsInRegion, NeverMeet}
use Rattle.species_region.specs.Asked.{ShareLoops}
use Rattle.species_gcd.specs.Divisor.{IsCommonDivisor, IsGcdOfDifference, constant_of, DividesDifference}
use Rattle.species_gcd.proofs.Totals.{part_of, dvd_part, dvd_totals, dvd_from_apart, dvd_apart_turned}
use Rattle.species_gcd.proofs.Coefficients.{at_level}

below_from_test : (k n : ℕ) → IsTrue (nat_lt k n) → k < n
below_from_test k n t = grind (arith, nat_tests)

-- whole units apart, by the same number at the shared levels, the differences are a multiple of each common divisor apart
pub dvd_differences : (n : ℕ) (p q : Form) (at : Direction) (ps qs : List LoopRange) (d : ℕ) (x y u v : Point) (i j : ℕ → ℤ) →
    IsRising p.terms → IsRising q.terms → NamesOnly p n → NamesOnly q n → ShareLoops at ps qs → IsCommonDivisor p q at ps qs d →
    ((k : ℕ) → x k ≡ u k +ℤ unit_of (range_at ps k) *ℤ i k) → ((k : ℕ) → y k ≡ v k +ℤ unit_of (range_at qs k) *ℤ j k) →
    ((k : ℕ) → k < level_of at → i k ≡ j k) →
    d ∣ unsigned_abs ((form_at p x -ℤ form_at q y) -ℤ (form_at p u -ℤ form_at q v))
dvd_differences n p q at ps qs d x y u v i j rising_p rising_q named_p named_q loops common first second same =
    rw (difference_by_level p q n x y rising_p rising_q named_p named_q, difference_by_level p q n u v rising_p rising_q named_p named_q)
    (dvd_totals {X = ℤ × ℤ} d (p.constant -ℤ q.constant) (λ k. part_of (coefficient_at p.terms k) (coefficient_at q.terms k)) (λ k. (x k, y k)) (λ k. (u k, v k)) n
    (λ k h. rw (first k, second k) (dvd_part (nat_lt k (level_of at)) d (coefficient_at p.terms k) (coefficient_at q.terms k)
    (unit_of (range_at ps k)) (unit_of (range_at qs k)) (i k) (j k) (u k) (v k) (at_level p q at ps qs d k common)
    (λ t. ap unit_of (loops.same k (omega (arith, below_from_test k (level_of at) t))))
    (λ t. same k (below_from_test k (level_of at) t)))))

-- a solution
pub divides_where_met : (n : ℕ) (p q : Form) (at : Direction) (ps qs : List LoopRange) (d : ℕ) (x y : Point) →
    IsRising p.terms → IsRising q.terms → NamesOnly p n → NamesOnly q n → ShareLoops at ps qs → IsCommonDivisor p q at ps qs d →
    IsInRegion at ps qs x y → form_at p (iterators_at ps x) ≡ form_at q (iterators_at qs y) → d ∣ unsigned_abs (constant_of p q ps qs)
divides_where_met n p q at ps qs d x y rising_p rising_q named_p named_q loops common region meet =
    let difference : ℤ = form_at p (iterators_at ps x) -ℤ form_at q (iterators_at qs y) in
    let nothing : pos 0 ≡ form_at p (iterators_at ps x) -ℤ form_at q (iterators_at qs y) = omega (arith, ints, meet) in
    dvd_from_apart d (constant_of p q ps qs) difference
    (dvd_apart_turned d difference (constant_of p q ps qs)
    (dvd_differences n p q at ps qs d (iterators_at ps x) (iterators_at qs y) (origins_of ps) (origins_of qs) x y
    rising_p rising_q named_p named_q loops common (λ k. refl) (λ k. refl) region.agree))
    (subst (λ (z : ℤ). d ∣ unsigned_abs z) nothing (dvd-zero d))

-- so a difference that is not divided has no solution in the region
pub not_divided_never_met : (n : ℕ) (p q : Form) (at : Direction) (ps qs : List LoopRange) (g : ℕ) →
    IsRising p.terms → IsRising q.terms → NamesOnly p n → NamesOnly q n → ShareLoops at ps qs → IsGcdOfDifference p q at ps qs g →
    ¬ (g ∣ unsigned_abs (constant_of p q ps qs)) → NeverMeet p q at ps qs
not_divided_never_met n p q at ps qs g rising_p rising_q named_p named_q loops is not_divided x y region meet =
    not_divided (divides_where_met n p q at ps qs g x y rising_p rising_q named_p named_q loops is.common region meet)

-- ---- origins up to whole units
abbrev pub residue_of : LoopRange → ℤ
residue_of r = int_rem (origin_of r) (unit_of r)

abbrev pub residues_of : List LoopRange → Point
residues_of path k = residue_of (range_at path k)

origin_from_residue : (r : LoopRange) → origin_of r ≡ residue_of r +ℤ unit_of r *ℤ int_div (origin_of r) (unit_of r)
origin_from_residue r = omega (arith, ints, quot-rem (origin_of r) (unit_of r), *ℤ_comm (unit_of r) (int_div (origin_of r) (unit_of r)))

quotients_of : List LoopRange → ℕ → ℤ
quotients_of path k = int_div (origin_of (range_at path k)) (unit_of (range_at path k))

apart_from_residues : (n : ℕ) (p q : Form) (at : Direction) (ps qs : List LoopRange) (d : ℕ) →
    IsRising p.terms → IsRising q.terms → NamesOnly p n → NamesOnly q n → ShareLoops at ps qs → IsCommonDivisor p q at ps qs d →
    d ∣ unsigned_abs (constant_of p q ps qs -ℤ (form_at p (residues_of ps) -ℤ form_at q (residues_of qs)))
unfolding quotients_of
apart_from_residues n p q at ps qs d rising_p rising_q named_p named_q loops common =
    dvd_differences n p q at ps qs d (origins_of ps) (origins_of qs) (residues_of ps) (residues_of qs) (quotients_of ps) (quotients_of qs)
    rising_p rising_q named_p named_q loops common (λ k. origin_from_residue (range_at ps k)) (λ k. origin_from_residue (range_at qs k))
    (λ k h. ap (λ (r : LoopRange). int_div (origin_of r) (unit_of r)) (loops.same k (omega (arith, h))))

-- the residues decide as the origins do
pub residues_decide : (n : ℕ) (p q : Form) (at : Direction) (ps qs : List LoopRange) (d : ℕ) →
    IsRising p.terms → IsRising q.terms → NamesOnly p n → NamesOnly q n → ShareLoops at ps qs → IsCommonDivisor p q at ps qs d →
    (d ∣ unsigned_abs (form_at p (residues_of ps) -ℤ form_at q (residues_of qs))) ↔ (d ∣ unsigned_abs (constant_of p q ps qs))
residues_decide n p q at ps qs d rising_p rising_q named_p named_q loops common =
    let residual : ℤ = form_at p (residues_of ps) -ℤ form_at q (residues_of qs) in
    let apart = apart_from_residues n p q at ps qs d rising_p rising_q named_p named_q loops common in (
      (λ h. dvd_from_apart d (constant_of p q ps qs) residual apart h),
      (λ h. dvd_from_apart d residual (constant_of p q ps qs) (dvd_apart_turned d (constant_of p q ps qs) residual apart) h),
    )

-- one greatest common divisor stands for all
pub gcd_decides : (p q : Form) (at : Direction) (ps qs : List LoopRange) (g : ℕ) → IsGcdOfDifference p q at ps qs g →
    (g ∣ unsigned_abs (constant_of p q ps qs)) ↔ DividesDifference p q at ps qs
gcd_decides p q at ps qs g is = ((λ h other is_other. dvd_trans other (is.greatest other is_other.common) h), (λ all. all g is))
