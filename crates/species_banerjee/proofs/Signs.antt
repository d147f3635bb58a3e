-- The extremes over all levels decide the sign over the region.
use Rattle.std.proofs.Common.{◌≡◌, ℕ, zero, suc, ◌+◌, ◌*◌, ◌^◌, ◌<◌, ◌≤◌, ℤ, pos, ◌+ℤ◌, ◌-ℤ◌, ◌*ℤ◌, ◌<ℤ◌, arith, refl, subst, add-one, List, length, true, false, nat_lt, if◌then◌else◌, ◌⊎◌, inl, inr, ◌↔◌}
use Rattle.std.specs.Int.RustNames.{unsigned_abs}
use Rattle.std.proofs.lemmas.Int.{ints}
use Rattle.std.proofs.lemmas.Bool.Decides.{nat_tests}
use Rattle.species_integers.proofs.Sizes.{abs_sum}
use Rattle.species_linear.specs.declared.forms.Form.{Form}
use Rattle.species_linear.specs.declared.loops.LoopRange.{LoopRange}
use Rattle.species_linear.specs.declared.loops.Direction.{Direction}
use Rattle.species_linear.specs.Rising.{IsRising}
use Rattle.species_linear.specs.Point.{Point}
use Rattle.species_linear.specs.Value.{coefficient_at, NamesOnly}
use Rattle.species_linear.specs.Box.{IsLeastOver, IsGreatestOver}
use Rattle.species_linear.proofs.Parts.{total_of, IsAllowedBelow, total_same, least_next, greatest_next}
use Rattle.species_linear.proofs.Levels.{difference_by_level}
use Rattle.species_region.specs.Coordinate.{iterators_at}
use Rattle.species_region.specs.Region.{IsInRegion, difference_at, NeverMeet}
use Rattle.species_region.specs.Asked.{ShareLoops}
use Rattle.species_banerjee.specs.declared.pairs.LoopPair.{LoopPair}
use Rattle.species_banerjee.specs.Excluded.{IsPositive, IsNegative, IsExcluded}
use Rattle.species_banerjee.specs.LoopPair.{loop_pair_at, Allows, IsOpen, gap_of}
use Rattle.species_banerjee.proofs.Regroup.{clipped, clipped_value, region_allowed, allowed_region}

-- the pairs that the level k allows, and what it adds to the difference
abbrev pub allows_at : Direction → List LoopRange → List LoopRange → ℕ → ℤ × ℤ → Type 0
allows_at at ps qs k z = Allows (loop_pair_at at ps qs k) z

abbrev pub gap_at : (p q : Form) → Direction → List LoopRange → List LoopRange → ℕ → ℤ × ℤ → ℤ
gap_at p q at ps qs k z = gap_of (loop_pair_at at ps qs k) (coefficient_at p.terms k) (coefficient_at q.terms k) z

abbrev pub total_below : (p q : Form) → Direction → List LoopRange → List LoopRange → ℕ → (ℕ → ℤ × ℤ) → ℤ
total_below p q at ps qs n x = total_of {X = ℤ × ℤ} (p.constant -ℤ q.constant) (gap_at p q at ps qs) x n

-- the least and the greatest total over the pairs of the levels below n
abbrev pub IsLeastBelow : (p q : Form) → Direction → List LoopRange → List LoopRange → ℕ → ℤ → Type 0
IsLeastBelow p q at ps qs n z = IsLeastOver {X = ℕ → ℤ × ℤ} (IsAllowedBelow {X = ℤ × ℤ} (allows_at at ps qs) n) (total_below p q at ps qs n) z

abbrev pub IsGreatestBelow : (p q : Form) → Direction → List LoopRange → List LoopRange → ℕ → ℤ → Type 0
IsGreatestBelow p q at ps qs n z = IsGreatestOver {X = ℕ → ℤ × ℤ} (IsAllowedBelow {X = ℤ × ℤ} (allows_at at ps qs) n) (total_below p q at ps qs n) z

pub least_first : (p q : Form) (at : Direction) (ps qs : List LoopRange) → IsLeastBelow p q at ps qs 0 (p.constant -ℤ q.constant)
least_first p q at ps qs = ((λ x allowed. omega (arith, ints)), ((λ k. (pos 0, pos 0)), (λ k h. absurd (omega (arith, h))), refl))

pub greatest_first : (p q : Form) (at : Direction) (ps qs : List LoopRange) → IsGreatestBelow p q at ps qs 0 (p.constant -ℤ q.constant)
greatest_first p q at ps qs = ((λ x allowed. omega (arith, ints)), ((λ k. (pos 0, pos 0)), (λ k h. absurd (omega (arith, h))), refl))

-- one level more; l, a and b are as the code has them
pub least_more : (p q : Form) (at : Direction) (ps qs : List LoopRange) (n : ℕ) (low more next a b : ℤ) (l : LoopPair) → IsLeastBelow p q at ps qs n low →
    l ≡ loop_pair_at at ps qs n → a ≡ coefficient_at p.terms n → b ≡ coefficient_at q.terms n →
    IsLeastOver (Allows l) (gap_of l a b) more → next ≡ low +ℤ more → IsLeastBelow p q at ps qs (n + 1) next
least_more p q at ps qs n low more next a b l before is_l is_a is_b here step =
    let with_loops = subst (λ (m : LoopPair). IsLeastOver (Allows m) (gap_of m a b) more) is_l here in
    let with_first = subst (λ (c : ℤ). IsLeastOver (allows_at at ps qs n) (gap_of (loop_pair_at at ps qs n) c b) more) is_a with_loops in
    let there = subst (λ (c : ℤ). IsLeastOver (allows_at at ps qs n) (gap_of (loop_pair_at at ps qs n) (coefficient_at p.terms n) c) more) is_b with_first in
    rw (add-one, step) (least_next {X = ℤ × ℤ} (allows_at at ps qs) (p.constant -ℤ q.constant) (gap_at p q at ps qs) n low more before there)

pub greatest_more : (p q : Form) (at : Direction) (ps qs : List LoopRange) (n : ℕ) (high more next a b : ℤ) (l : LoopPair) → IsGreatestBelow p q at ps qs n high →
    l ≡ loop_pair_at at ps qs n → a ≡ coefficient_at p.terms n → b ≡ coefficient_at q.terms n →
    IsGreatestOver (Allows l) (gap_of l a b) more → next ≡ high +ℤ more → IsGreatestBelow p q at ps qs (n + 1) next
greatest_more p q at ps qs n high more next a b l before is_l is_a is_b here step =
    let with_loops = subst (λ (m : LoopPair). IsGreatestOver (Allows m) (gap_of m a b) more) is_l here in
    let with_first = subst (λ (c : ℤ). IsGreatestOver (allows_at at ps qs n) (gap_of (loop_pair_at at ps qs n) c b) more) is_a with_loops in
    let there = subst (λ (c : ℤ). IsGreatestOver (allows_at at ps qs n) (gap_of (loop_pair_at at ps qs n) (coefficient_at p.terms n) c) more) is_b with_first in
    rw (add-one, step) (greatest_next {X = ℤ × ℤ} (allows_at at ps qs) (p.constant -ℤ q.constant) (gap_at p q at ps qs) n high more before there)

pub more_small : (n : ℕ) (total more next : ℤ) → unsigned_abs total ≤ (1 + n) * 2 ^ 112 → unsigned_abs more ≤ 2 ^ 112 → next ≡ total +ℤ more →
    unsigned_abs next ≤ (1 + (n + 1)) * 2 ^ 112
more_small n total more next small small_more step = rw step (omega (arith, small, small_more, abs_sum total more))

-- ---- totals and differences
total_is : (p q : Form) (at : Direction) (ps qs : List LoopRange) (x y : Point) (n : ℕ) →
    total_of {X = ℤ × ℤ} (p.constant -ℤ q.constant) (λ k z. (coefficient_at p.terms k *ℤ z.0) -ℤ (coefficient_at q.terms k *ℤ z.1)) (λ k. (iterators_at ps x k, iterators_at qs y k)) n ≡
    total_below p q at ps qs n (λ k. (x k, y k))
total_is p q at ps qs x y zero = refl
total_is p q at ps qs x y (suc n) = rw (total_is p q at ps qs x y n) refl

pub difference_is : (n : ℕ) (p q : Form) (at : Direction) (ps qs : List LoopRange) (x y : Point) → IsRising p.terms → IsRising q.terms → NamesOnly p n → NamesOnly q n →
    difference_at p q ps qs x y ≡ total_below p q at ps qs n (λ k. (x k, y k))
difference_is n p q at ps qs x y rising_p rising_q named_p named_q =
    rw (difference_by_level p q n (iterators_at ps x) (iterators_at qs y) rising_p rising_q named_p named_q) (total_is p q at ps qs x y n)

-- at each pair of the region the difference is a total of allowed pairs
pub total_in_region : (n : ℕ) (p q : Form) (at : Direction) (ps qs : List LoopRange) (x y : Point) → IsRising p.terms → IsRising q.terms → NamesOnly p n → NamesOnly q n →
    NamesOnly p (length ps) → NamesOnly q (length qs) → difference_at p q ps qs x y ≡ total_below p q at ps qs n (λ k. (clipped ps x k, clipped qs y k))
total_in_region n p q at ps qs x y rising_p rising_q named_p named_q path_p path_q =
    rw (← clipped_value p ps x path_p, ← clipped_value q qs y path_q) (difference_is n p q at ps qs (clipped ps x) (clipped qs y) rising_p rising_q named_p named_q)

-- the pairs of x below n, and those of z from there on
abbrev joined : ℕ → (ℕ → ℤ × ℤ) → (ℕ → ℤ × ℤ) → ℕ → ℤ × ℤ
joined n x z k = if nat_lt k n then x k else z k

below_or_not : (k n : ℕ) → (nat_lt k n ≡ true) × (k < n) ⊎ ((nat_lt k n ≡ false) × (n ≤ k))
below_or_not k n = grind (arith, nat_tests)

joined_below : (n : ℕ) (x z : ℕ → ℤ × ℤ) (k : ℕ) → k < n → joined n x z k ≡ x k
joined_below n x z k h = let t : nat_lt k n ≡ true = grind (arith, nat_tests) in rw t refl

joined_allowed : (n : ℕ) (at : Direction) (ps qs : List LoopRange) (x z : ℕ → ℤ × ℤ) → IsAllowedBelow {X = ℤ × ℤ} (allows_at at ps qs) n x →
    ((k : ℕ) → allows_at at ps qs k (z k)) → (k : ℕ) → allows_at at ps qs k (joined n x z k)
joined_allowed n at ps qs x z below each k = elim (below_or_not k n) [
  | inl t ↦ rw t.0 (below k t.1)
  | inr t ↦ rw t.0 (each k)
]

-- a total of allowed pairs below n is a difference in the region
pub reached : (n : ℕ) (p q : Form) (at : Direction) (ps qs : List LoopRange) (g : ℤ) → IsRising p.terms → IsRising q.terms → NamesOnly p n → NamesOnly q n →
    ((k : ℕ) → IsOpen (loop_pair_at at ps qs k)) → (x : ℕ → ℤ × ℤ) × IsAllowedBelow {X = ℤ × ℤ} (allows_at at ps qs) n x × (total_below p q at ps qs n x ≡ g) →
    (x : Point) × (y : Point) × IsInRegion at ps qs x y × (difference_at p q ps qs x y ≡ g)
reached n p q at ps qs g rising_p rising_q named_p named_q each found =
    let z : ℕ → ℤ × ℤ = joined n found.0 (λ k. (each k).0) in
    let x : Point = λ k. (z k).0 in
    let y : Point = λ k. (z k).1 in (
      x,
      y,
      allowed_region at ps qs x y (joined_allowed n at ps qs found.0 (λ k. (each k).0) found.1 (λ k. (each k).1)),
      omega (
        arith,
        ints,
        difference_is n p q at ps qs x y rising_p rising_q named_p named_q,
        total_same {X = ℤ × ℤ} (p.constant -ℤ q.constant) (gap_at p q at ps qs) z found.0 n (joined_below n found.0 (λ k. (each k).0)),
        found.2,
      ),
    )

pub sign_by_extremes : (n : ℕ) (p q : Form) (at : Direction) (ps qs : List LoopRange) (low high : ℤ) → IsRising p.terms → IsRising q.terms → NamesOnly p n → NamesOnly q n →
    NamesOnly p (length ps) → NamesOnly q (length qs) → ShareLoops at ps qs → ((k : ℕ) → IsOpen (loop_pair_at at ps qs k)) →
    IsLeastBelow p q at ps qs n low → IsGreatestBelow p q at ps qs n high →
    ((pos 0 <ℤ low) ⊎ (high <ℤ pos 0)) ↔ (IsPositive p q at ps qs ⊎ IsNegative p q at ps qs)
sign_by_extremes n p q at ps qs low high rising_p rising_q named_p named_q path_p path_q loops each least greatest =
    let at_least = reached n p q at ps qs low rising_p rising_q named_p named_q each least.1 in
    let at_greatest = reached n p q at ps qs high rising_p rising_q named_p named_q each greatest.1 in (
      (λ h. elim h [
        | inl above ↦ inl (λ x y region. omega (
          arith,
          ints,
          above,
          total_in_region n p q at ps qs x y rising_p rising_q named_p named_q path_p path_q,
          least.0 (λ k. (clipped ps x k, clipped qs y k)) (λ k s. region_allowed at ps qs x y loops region k),
        ))
        | inr below ↦ inr (λ x y region. omega (
          arith,
          ints,
          below,
          total_in_region n p q at ps qs x y rising_p rising_q named_p named_q path_p path_q,
          greatest.0 (λ k. (clipped ps x k, clipped qs y k)) (λ k s. region_allowed at ps qs x y loops region k),
        ))
      ]),
      (λ h. elim h [
        | inl positive ↦ inl (omega (arith, ints, positive at_least.0 at_least.1 at_least.2, at_least.3))
        | inr negative ↦ inr (omega (arith, ints, negative at_greatest.0 at_greatest.1 at_greatest.2, at_greatest.3))
      ]),
    )

-- what is excluded has no solution
pub excluded_never_met : (p q : Form) (at : Direction) (ps qs : List LoopRange) → IsExcluded p q at ps qs → NeverMeet p q at ps qs
excluded_never_met p q at ps qs (inl empty) x y region meet = empty x y region
excluded_never_met p q at ps qs (inr (inl positive)) x y region meet = omega (arith, ints, positive x y region, meet)
excluded_never_met p q at ps qs (inr (inr negative)) x y region meet = omega (arith, ints, negative x y region, meet)
