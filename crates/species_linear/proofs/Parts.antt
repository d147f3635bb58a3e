-- Sums of separate parts, one for each level: their extremes are the sums of the extremes.
--
-- A level has a value of a type X: an iterator, or the pair of iterators of two references.
use Rattle.std.proofs.Common.{◌≡◌, ℕ, zero, suc, ◌<◌, ℤ, ◌+ℤ◌, ◌-ℤ◌, arith, refl, sym, subst, false, nat_eq, if◌then◌else◌, ◌⊎◌, inl, inr}
use Rattle.std.proofs.lemmas.Int.{ints}
use Rattle.std.proofs.lemmas.Bool.{eq-eqb}
use Rattle.std.proofs.lemmas.Bool.Decides.{nat_tests}
use Rattle.species_linear.specs.Box.{IsLeastOver, IsGreatestOver}

-- A constant and the parts of the levels below n.
abbrev pub total_of : {X : Type 0} → ℤ → (ℕ → X → ℤ) → (ℕ → X) → ℕ → ℤ
total_of c part x zero = c
total_of c part x (suc n) = total_of c part x n +ℤ part n (x n)

-- Each level below n has a value that R allows there.
abbrev pub IsAllowedBelow : {X : Type 0} → (ℕ → X → Type 0) → ℕ → (ℕ → X) → Type 0
IsAllowedBelow R n x = (k : ℕ) → k < n → R k (x k)

-- Other values, with v at the level n.
abbrev pub put : {X : Type 0} → ℕ → X → (ℕ → X) → (ℕ → X)
put n v x k = if nat_eq k n then v else x k

pub put_here : {X : Type 0} (n : ℕ) (v : X) (x : ℕ → X) → put n v x n ≡ v
put_here n v x = rw (eq-eqb n n refl) refl

pub put_below : {X : Type 0} (n : ℕ) (v : X) (x : ℕ → X) (k : ℕ) → k < n → put n v x k ≡ x k
put_below n v x k h = let other : nat_eq k n ≡ false = grind (arith, nat_tests) in rw other refl

pub put_above : {X : Type 0} (n : ℕ) (v : X) (x : ℕ → X) (k : ℕ) → n < k → put n v x k ≡ x k
put_above n v x k h = let other : nat_eq k n ≡ false = grind (arith, nat_tests) in rw other refl

-- the total below n does not see the levels from n on
pub total_same : {X : Type 0} (c : ℤ) (part : ℕ → X → ℤ) (x y : ℕ → X) (n : ℕ) → ((k : ℕ) → k < n → x k ≡ y k) → total_of c part x n ≡ total_of c part y n
total_same c part x y zero same = refl
total_same c part x y (suc n) same = rw (same n (omega arith), total_same c part x y n (λ k h. same k (omega (arith, h)))) refl

-- the difference of two totals is the total of the differences, over pairs of values
pub total_difference : {X Y : Type 0} (c d : ℤ) (part : ℕ → X → ℤ) (other : ℕ → Y → ℤ) (x : ℕ → X) (y : ℕ → Y) (n : ℕ) →
    total_of c part x n -ℤ total_of d other y n ≡ total_of {X = X × Y} (c -ℤ d) (λ k z. part k z.0 -ℤ other k z.1) (λ k. (x k, y k)) n
total_difference c d part other x y zero = refl
total_difference c d part other x y (suc n) = omega (arith, ints, total_difference c d part other x y n)

below_or_at : (k n : ℕ) → k < suc n → (k < n) ⊎ (k ≡ n)
below_or_at k n h = grind arith

-- an allowed value more at the level n
pub put_allowed : {X : Type 0} (R : ℕ → X → Type 0) (n : ℕ) (v : X) (x : ℕ → X) → IsAllowedBelow R n x → R n v → IsAllowedBelow R (suc n) (put n v x)
put_allowed R n v x allowed h k l = elim (below_or_at k n l) [
  | inl s ↦ rw (put_below n v x k s) (allowed k s)
  | inr e ↦ subst (λ (j : ℕ). R j (put n v x j)) (sym e) (rw (put_here n v x) h)
]

pub put_total : {X : Type 0} (c : ℤ) (part : ℕ → X → ℤ) (n : ℕ) (v : X) (x : ℕ → X) → total_of c part (put n v x) (suc n) ≡ total_of c part x n +ℤ part n v
put_total c part n v x = rw (put_here n v x, total_same c part (put n v x) x n (put_below n v x)) refl

-- ---- one level more
pub least_next : {X : Type 0} (R : ℕ → X → Type 0) (c : ℤ) (part : ℕ → X → ℤ) (n : ℕ) (low l : ℤ) →
    IsLeastOver (IsAllowedBelow R n) (λ x. total_of c part x n) low → IsLeastOver (R n) (part n) l →
    IsLeastOver (IsAllowedBelow R (suc n)) (λ x. total_of c part x (suc n)) (low +ℤ l)
least_next R c part n low l before here = (
  (λ x allowed. omega (arith, ints, here.0 (x n) (allowed n (omega arith)), before.0 x (λ k s. allowed k (omega (arith, s))))),
  (
    put n here.1.0 before.1.0,
    put_allowed R n here.1.0 before.1.0 before.1.1 here.1.1,
    rw (put_total c part n here.1.0 before.1.0) (omega (arith, ints, before.1.2, here.1.2)),
  ),
)

pub greatest_next : {X : Type 0} (R : ℕ → X → Type 0) (c : ℤ) (part : ℕ → X → ℤ) (n : ℕ) (high h : ℤ) →
    IsGreatestOver (IsAllowedBelow R n) (λ x. total_of c part x n) high → IsGreatestOver (R n) (part n) h →
    IsGreatestOver (IsAllowedBelow R (suc n)) (λ x. total_of c part x (suc n)) (high +ℤ h)
greatest_next R c part n high h before here = (
  (λ x allowed. omega (arith, ints, here.0 (x n) (allowed n (omega arith)), before.0 x (λ k s. allowed k (omega (arith, s))))),
  (
    put n here.1.0 before.1.0,
    put_allowed R n here.1.0 before.1.0 before.1.1 here.1.1,
    rw (put_total c part n here.1.0 before.1.0) (omega (arith, ints, before.1.2, here.1.2)),
  ),
)

-- ---- all levels below n: `lows` and `highs` have the extremes by level. The values from n on are those of `x`.
pub least_total : {X : Type 0} (R : ℕ → X → Type 0) (c : ℤ) (part : ℕ → X → ℤ) (lows : ℕ → ℤ) (x : ℕ → X) (n : ℕ) →
    ((k : ℕ) → k < n → IsLeastOver (R k) (part k) (lows k)) →
    IsLeastOver (IsAllowedBelow R n) (λ y. total_of c part y n) (total_of c (λ k z. z) lows n)
least_total R c part lows x zero each = ((λ y allowed. omega (arith, ints)), (x, (λ k h. absurd (omega (arith, h))), refl))
least_total R c part lows x (suc n) each =
    least_next R c part n (total_of c (λ k z. z) lows n) (lows n) (least_total R c part lows x n (λ k h. each k (omega (arith, h)))) (each n (omega arith))

pub greatest_total : {X : Type 0} (R : ℕ → X → Type 0) (c : ℤ) (part : ℕ → X → ℤ) (highs : ℕ → ℤ) (x : ℕ → X) (n : ℕ) →
    ((k : ℕ) → k < n → IsGreatestOver (R k) (part k) (highs k)) →
    IsGreatestOver (IsAllowedBelow R n) (λ y. total_of c part y n) (total_of c (λ k z. z) highs n)
greatest_total R c part highs x zero each = ((λ y allowed. omega (arith, ints)), (x, (λ k h. absurd (omega (arith, h))), refl))
greatest_total R c part highs x (suc n) each =
    greatest_next R c part n (total_of c (λ k z. z) highs n) (highs n) (greatest_total R c part highs x n (λ k h. each k (omega (arith, h)))) (each n (omega arith))

-- ---- two parts over values of their own
pub least_sum : {X Y : Type 0} (P : X → Type 0) (Q : Y → Type 0) (part : X → ℤ) (other : Y → ℤ) (y z : ℤ) →
    IsLeastOver P part y → IsLeastOver Q other z → IsLeastOver {X = X × Y} (λ w. P w.0 × Q w.1) (λ w. part w.0 +ℤ other w.1) (y +ℤ z)
least_sum P Q part other y z p q = (
  (λ w allowed. omega (arith, ints, p.0 w.0 allowed.0, q.0 w.1 allowed.1)),
  ((p.1.0, q.1.0), (p.1.1, q.1.1), omega (arith, ints, p.1.2, q.1.2)),
)

pub greatest_sum : {X Y : Type 0} (P : X → Type 0) (Q : Y → Type 0) (part : X → ℤ) (other : Y → ℤ) (y z : ℤ) →
    IsGreatestOver P part y → IsGreatestOver Q other z → IsGreatestOver {X = X × Y} (λ w. P w.0 × Q w.1) (λ w. part w.0 +ℤ other w.1) (y +ℤ z)
greatest_sum P Q part other y z p q = (
  (λ w allowed. omega (arith, ints, p.0 w.0 allowed.0, q.0 w.1 allowed.1)),
  ((p.1.0, q.1.0), (p.1.1, q.1.1), omega (arith, ints, p.1.2, q.1.2)),
)
