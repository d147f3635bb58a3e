-- The steps of the loop over levels, and its end.
use Rattle.std.proofs.Common.{◌≡◌, ℕ, ◌+◌, ◌*◌, ◌^◌, ◌<◌, ◌≤◌, ℤ, ◌+ℤ◌, ◌-ℤ◌, ◌*ℤ◌, arith, sym, ap, add-one, List, nat_lt, ◌↔◌}
use Rattle.std.specs.Int.{◌∣◌, IsGcd}
use Rattle.std.specs.Int.RustNames.{unsigned_abs}
use Rattle.species_integers.proofs.Sizes.{abs_sum, abs_difference, abs_product}
use Rattle.species_linear.specs.declared.forms.Form.{Form}
use Rattle.species_linear.specs.declared.loops.LoopRange.{LoopRange}
use Rattle.species_linear.specs.declared.loops.Direction.{Direction}
use Rattle.species_linear.specs.Rising.{IsRising}
use Rattle.species_linear.specs.Value.{form_at, coefficient_at, NamesOnly}
use Rattle.species_linear.specs.Box.{range_at}
use Rattle.species_linear.proofs.Parts.{total_of}
use Rattle.species_linear.proofs.Levels.{difference_by_level}
use Rattle.species_region.specs.Coordinate.{unit_of}
use Rattle.species_region.specs.Region.{level_of, NeverMeet}
use Rattle.species_region.specs.Asked.{ShareLoops}
use Rattle.species_gcd.specs.Divisor.{IsGcdOfDifference, DividesLevel, DividesDifference, constant_of}
use Rattle.species_gcd.proofs.Totals.{part_of, dvd_same}
use Rattle.species_gcd.proofs.Coefficients.{DividesAt, IsGcdBelow, gcd_next, gcd_end}
use Rattle.species_gcd.proofs.Solutions.{residue_of, residues_of, residues_decide, gcd_decides, not_divided_never_met}

-- the constant and the parts at the residues of the levels below n
abbrev pub residual_below : (p q : Form) (ps qs : List LoopRange) → ℕ → ℤ
residual_below p q ps qs n =
    total_of {X = ℤ × ℤ} (p.constant -ℤ q.constant) (λ k. part_of (coefficient_at p.terms k) (coefficient_at q.terms k)) (λ k. (residues_of ps k, residues_of qs k)) n

-- one level more of the divisor: `here` is as the code has it
pub divisor_next : (p q : Form) (at : Direction) (ps qs : List LoopRange) (n l g h next : ℕ) (a b : ℤ) (r s : LoopRange) → IsGcdBelow p q at ps qs n g →
    l ≡ level_of at → a ≡ coefficient_at p.terms n → b ≡ coefficient_at q.terms n → r ≡ range_at ps n → s ≡ range_at qs n →
    ((d : ℕ) → (d ∣ h) ↔ DividesLevel (nat_lt n l) d a b (unit_of r) (unit_of s)) → IsGcd g h next → IsGcdBelow p q at ps qs (n + 1) next
divisor_next p q at ps qs n l g h next a b r s before is_level is_a is_b is_r is_s here is =
    gcd_next p q at ps qs n g h next before (λ d. (
      (λ divides. as_level d (here d).0 divides),
      (λ all. (here d).1 (from_level d all)),
    )) is
  where
    as_level : (d : ℕ) → (d ∣ h → DividesLevel (nat_lt n l) d a b (unit_of r) (unit_of s)) → d ∣ h → DividesAt p q at ps qs n d
    as_level d f divides = rw (← is_level, ← is_a, ← is_b, ← is_r, ← is_s) (f divides)

    from_level : (d : ℕ) → DividesAt p q at ps qs n d → DividesLevel (nat_lt n l) d a b (unit_of r) (unit_of s)
    from_level d all = rw (is_level, is_a, is_b, is_r, is_s) all

-- one level more of the constant
pub constant_next : (p q : Form) (ps qs : List LoopRange) (n : ℕ) (total a b x y next : ℤ) → total ≡ residual_below p q ps qs n →
    a ≡ coefficient_at p.terms n → b ≡ coefficient_at q.terms n → x ≡ residue_of (range_at ps n) → y ≡ residue_of (range_at qs n) →
    next ≡ total +ℤ ((a *ℤ x) -ℤ (b *ℤ y)) → next ≡ residual_below p q ps qs (n + 1)
constant_next p q ps qs n total a b x y next before is_a is_b is_x is_y step =
    rw (add-one, ← is_a, ← is_b, ← is_x, ← is_y, ← before) step

pub constant_next_small : (n : ℕ) (total a b x y next : ℤ) → unsigned_abs total ≤ (1 + n) * 2 ^ 102 →
    unsigned_abs a < 2 ^ 70 → unsigned_abs b < 2 ^ 70 → unsigned_abs x ≤ 2 ^ 31 → unsigned_abs y ≤ 2 ^ 31 →
    next ≡ total +ℤ ((a *ℤ x) -ℤ (b *ℤ y)) → unsigned_abs next ≤ (1 + (n + 1)) * 2 ^ 102
constant_next_small n total a b x y next small small_a small_b small_x small_y step =
    rw step (omega (
      arith,
      small,
      abs_sum total ((a *ℤ x) -ℤ (b *ℤ y)),
      abs_difference (a *ℤ x) (b *ℤ y),
      abs_product a x (2 ^ 70) (2 ^ 31) (omega arith) small_x,
      abs_product b y (2 ^ 70) (2 ^ 31) (omega arith) small_y,
    ))

-- over the levels of both forms the total decides
pub total_decides : (n : ℕ) (p q : Form) (at : Direction) (ps qs : List LoopRange) (g : ℕ) (total : ℤ) →
    IsRising p.terms → IsRising q.terms → NamesOnly p n → NamesOnly q n → ShareLoops at ps qs → IsGcdOfDifference p q at ps qs g →
    total ≡ residual_below p q ps qs n → (g ∣ unsigned_abs total) ↔ (g ∣ unsigned_abs (constant_of p q ps qs))
total_decides n p q at ps qs g total rising_p rising_q named_p named_q loops is total_is =
    let residual : total ≡ form_at p (residues_of ps) -ℤ form_at q (residues_of qs) =
    rw (difference_by_level p q n (residues_of ps) (residues_of qs) rising_p rising_q named_p named_q) total_is in
    let decide = residues_decide n p q at ps qs g rising_p rising_q named_p named_q loops is.common in (
      (λ h. decide.0 (dvd_same g _ _ (ap unsigned_abs residual) h)),
      (λ h. dvd_same g _ _ (ap unsigned_abs (sym residual)) (decide.1 h)),
    )

pub divides_at_end : (n : ℕ) (p q : Form) (at : Direction) (ps qs : List LoopRange) (g : ℕ) (total : ℤ) →
    IsRising p.terms → IsRising q.terms → NamesOnly p n → NamesOnly q n → ShareLoops at ps qs → level_of at ≤ n →
    IsGcdBelow p q at ps qs n g → total ≡ residual_below p q ps qs n → (g ∣ unsigned_abs total) ↔ DividesDifference p q at ps qs
divides_at_end n p q at ps qs g total rising_p rising_q named_p named_q loops few below total_is =
    let is = gcd_end n p q at ps qs g named_p named_q few below in
    let by_total = total_decides n p q at ps qs g total rising_p rising_q named_p named_q loops is total_is in
    let by_gcd = gcd_decides p q at ps qs g is in
    ((λ h. by_gcd.0 (by_total.0 h)), (λ h. by_total.1 (by_gcd.1 h)))

pub never_met_at_end : (n : ℕ) (p q : Form) (at : Direction) (ps qs : List LoopRange) (g : ℕ) (total : ℤ) →
    IsRising p.terms → IsRising q.terms → NamesOnly p n → NamesOnly q n → ShareLoops at ps qs → level_of at ≤ n →
    IsGcdBelow p q at ps qs n g → total ≡ residual_below p q ps qs n → ¬ (g ∣ unsigned_abs total) → NeverMeet p q at ps qs
never_met_at_end n p q at ps qs g total rising_p rising_q named_p named_q loops few below total_is not_divided =
    let is = gcd_end n p q at ps qs g named_p named_q few below in
    let by_total = total_decides n p q at ps qs g total rising_p rising_q named_p named_q loops is total_is in
    not_divided_never_met n p q at ps qs g rising_p rising_q named_p named_q loops is (λ h. not_divided (by_total.1 h))
