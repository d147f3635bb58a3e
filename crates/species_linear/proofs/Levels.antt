-- The sum over terms as a sum over levels.
use Rattle.std.proofs.Common.{◌≡◌, ℕ, zero, suc, ◌+◌, ◌<◌, ◌≤◌, ℤ, pos, ◌+ℤ◌, ◌-ℤ◌, ◌*ℤ◌, arith, refl, sym, ap, subst, List, [], ◌∷◌, false, nat_eq, All, ◌⊎◌, inl, inr}
use Rattle.std.proofs.lemmas.Int.{ints}
use Rattle.std.proofs.lemmas.Bool.{eq-eqb}
use Rattle.std.proofs.lemmas.Bool.Decides.{nat_tests}
use Rattle.species_integers.proofs.Products.{mul_zero, plus_mul, mul_assoc, mul_plus}
use Rattle.species_linear.specs.declared.forms.Term.{Term}
use Rattle.species_linear.specs.declared.forms.Form.{Form}
use Rattle.species_linear.specs.Rising.{IsRising, IsRisingFrom}
use Rattle.species_linear.specs.Point.{Point}
use Rattle.species_linear.specs.Value.{sum_at, form_at, coefficient_at, NamesOnly}
use Rattle.species_linear.proofs.Coefficients.{coefficient_before}
use Rattle.species_linear.proofs.Parts.{total_of, total_difference}

-- A constant, and the products of the coefficients with a point's values at the levels below n.
abbrev pub by_level : ℤ → (ℕ → ℤ) → Point → ℕ → ℤ
by_level c a x n = total_of c (λ k z. a k *ℤ z) x n

-- the first term's coefficient is not there below its level
first_below : (t : Term) (ts : List Term) (x : Point) (n : ℕ) → n ≤ t.level → by_level (pos 0) (coefficient_at (t ∷ ts)) x n ≡ by_level (pos 0) (coefficient_at ts) x n
first_below t ts x zero h = refl
first_below t ts x (suc n) h =
    let other : nat_eq t.level n ≡ false = grind (arith, nat_tests) in
    rw (other, first_below t ts x n (omega arith)) refl

at_or_past : (l n : ℕ) → l < suc n → (l < n) ⊎ (l ≡ n)
at_or_past l n h = grind arith

-- and it counts once past it
first_past : (t : Term) (ts : List Term) (x : Point) (n : ℕ) → coefficient_at ts t.level ≡ pos 0 → t.level < n →
    by_level (pos 0) (coefficient_at (t ∷ ts)) x n ≡ (t.coefficient *ℤ x t.level) +ℤ by_level (pos 0) (coefficient_at ts) x n
first_past t ts x zero none h = absurd (omega (arith, h))
first_past t ts x (suc n) none h = elim (at_or_past t.level n h) [
  | inl s ↦ (let other : nat_eq t.level n ≡ false = grind (arith, nat_tests) in rw other (omega (arith, ints, first_past t ts x n none s)))
  | inr e ↦ (let gone : coefficient_at ts n ≡ pos 0 = subst (λ (j : ℕ). coefficient_at ts j ≡ pos 0) e none in
      rw (eq-eqb t.level n e, gone) (omega (arith, ints, first_below t ts x n (omega (arith, e)), mul_zero (x n), ap (λ (j : ℕ). t.coefficient *ℤ x j) e)))
]

no_terms : (x : Point) (n : ℕ) → by_level (pos 0) (coefficient_at []) x n ≡ pos 0
no_terms x zero = refl
no_terms x (suc n) = omega (arith, ints, no_terms x n, mul_zero (x n))

sum_from : (k : ℕ) (ts : List Term) (n : ℕ) (x : Point) → IsRisingFrom k ts → All (λ t. t.level < n) ts → sum_at ts x ≡ by_level (pos 0) (coefficient_at ts) x n
sum_from k [] n x rising below = sym (no_terms x n)
sum_from k (t ∷ ts) n x rising below =
    omega (
      arith,
      ints,
      first_past t ts x n (coefficient_before (t.level + 1) t.level ts rising.2 (omega arith)) (below 0 t (omega arith)),
      sum_from (t.level + 1) ts n x rising.2 (λ j d l. below (suc j) d (omega arith)),
    )

-- the sum of rising terms by level
pub sum_by_level : (ts : List Term) (n : ℕ) (x : Point) → IsRising ts → All (λ t. t.level < n) ts → sum_at ts x ≡ by_level (pos 0) (coefficient_at ts) x n
sum_by_level ts n x rising below = sum_from 0 ts n x rising below

constant_apart : (c : ℤ) (a : ℕ → ℤ) (x : Point) (n : ℕ) → by_level c a x n ≡ c +ℤ by_level (pos 0) a x n
constant_apart c a x zero = omega (arith, ints)
constant_apart c a x (suc n) = omega (arith, ints, constant_apart c a x n)

-- a form by level
pub form_by_level : (f : Form) (n : ℕ) (x : Point) → IsRising f.terms → NamesOnly f n → form_at f x ≡ by_level f.constant (coefficient_at f.terms) x n
form_by_level f n x rising named = omega (arith, ints, sum_by_level f.terms n x rising named, constant_apart f.constant (coefficient_at f.terms) x n)

-- the difference of two forms at two points, as one sum over the levels of both
pub difference_by_level : (f g : Form) (n : ℕ) (x y : Point) → IsRising f.terms → IsRising g.terms → NamesOnly f n → NamesOnly g n →
    form_at f x -ℤ form_at g y ≡
    total_of {X = ℤ × ℤ} (f.constant -ℤ g.constant) (λ k z. (coefficient_at f.terms k *ℤ z.0) -ℤ (coefficient_at g.terms k *ℤ z.1)) (λ k. (x k, y k)) n
difference_by_level f g n x y rising_f rising_g named_f named_g =
    rw (form_by_level f n x rising_f named_f, form_by_level g n y rising_g named_g)
    (total_difference f.constant g.constant (λ k z. coefficient_at f.terms k *ℤ z) (λ k z. coefficient_at g.terms k *ℤ z) x y n)

-- ---- coefficients that add up, or are multiples
by_level_same : (c : ℤ) (a b : ℕ → ℤ) (x : Point) (n : ℕ) → ((k : ℕ) → a k ≡ b k) → by_level c a x n ≡ by_level c b x n
by_level_same c a b x zero same = refl
by_level_same c a b x (suc n) same = rw (same n, by_level_same c a b x n same) refl

by_level_sum : (a b : ℕ → ℤ) (x : Point) (n : ℕ) → by_level (pos 0) (λ k. a k +ℤ b k) x n ≡ by_level (pos 0) a x n +ℤ by_level (pos 0) b x n
by_level_sum a b x zero = omega (arith, ints)
by_level_sum a b x (suc n) = omega (arith, ints, by_level_sum a b x n, plus_mul (a n) (b n) (x n))

by_level_multiple : (c : ℤ) (a : ℕ → ℤ) (x : Point) (n : ℕ) → by_level (pos 0) (λ k. c *ℤ a k) x n ≡ c *ℤ by_level (pos 0) a x n
by_level_multiple c a x zero = omega (arith, ints, mul_plus c (pos 0) (pos 0))
by_level_multiple c a x (suc n) = omega (arith, ints, by_level_multiple c a x n, mul_assoc c (a n) (x n), mul_plus c (by_level (pos 0) a x n) (a n *ℤ x n))

-- terms with the coefficients of two lists together have the sum of both
pub sum_at-of_sum : (ts us ws : List Term) (n : ℕ) (x : Point) → IsRising ts → IsRising us → IsRising ws →
    All (λ t. t.level < n) ts → All (λ t. t.level < n) us → All (λ t. t.level < n) ws →
    ((k : ℕ) → coefficient_at ws k ≡ coefficient_at ts k +ℤ coefficient_at us k) → sum_at ws x ≡ sum_at ts x +ℤ sum_at us x
sum_at-of_sum ts us ws n x rising_ts rising_us rising_ws below_ts below_us below_ws both =
    omega (
      arith,
      ints,
      sum_by_level ts n x rising_ts below_ts,
      sum_by_level us n x rising_us below_us,
      sum_by_level ws n x rising_ws below_ws,
      by_level_same (pos 0) (coefficient_at ws) (λ k. coefficient_at ts k +ℤ coefficient_at us k) x n both,
      by_level_sum (coefficient_at ts) (coefficient_at us) x n,
    )

-- terms with multiples of the coefficients have the multiple of the sum
pub sum_at-of_multiple : (c : ℤ) (ts ws : List Term) (n : ℕ) (x : Point) → IsRising ts → IsRising ws →
    All (λ t. t.level < n) ts → All (λ t. t.level < n) ws → ((k : ℕ) → coefficient_at ws k ≡ c *ℤ coefficient_at ts k) → sum_at ws x ≡ c *ℤ sum_at ts x
sum_at-of_multiple c ts ws n x rising_ts rising_ws below_ts below_ws each =
    omega (
      arith,
      ints,
      ap (λ (z : ℤ). c *ℤ z) (sum_by_level ts n x rising_ts below_ts),
      sum_by_level ws n x rising_ws below_ws,
      by_level_same (pos 0) (coefficient_at ws) (λ k. c *ℤ coefficient_at ts k) x n each,
      by_level_multiple c (coefficient_at ts) x n,
    )
