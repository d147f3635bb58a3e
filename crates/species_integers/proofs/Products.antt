-- Products of whole numbers: they distribute over sums, are associative and monotone.
use Rattle.std.proofs.Common.{◌≡◌, ℕ, zero, suc, ℤ, pos, negsuc, ◌+ℤ◌, ◌-ℤ◌, ◌*ℤ◌, ◌≤ℤ◌, ap, arith}
use Rattle.std.proofs.lemmas.Int.{ints}
use Rattle.std.proofs.Math.IntN.{suc_ℤ-*ℤ, pred_ℤ-*ℤ, zero-*ℤ, neg_ℤ, *ℤ_comm}

-- the first factor's successor and predecessor, in the form that `omega` takes
mul_suc : (n : ℕ) (x : ℤ) → pos (suc n) *ℤ x ≡ pos n *ℤ x +ℤ x
mul_suc n x = suc_ℤ-*ℤ (pos n) x

mul_minus_one : (x : ℤ) → negsuc 0 *ℤ x ≡ pos 0 *ℤ x -ℤ x
mul_minus_one x = pred_ℤ-*ℤ (pos 0) x

mul_pred : (n : ℕ) (x : ℤ) → negsuc (suc n) *ℤ x ≡ negsuc n *ℤ x -ℤ x
mul_pred n x = pred_ℤ-*ℤ (negsuc n) x

-- ---- zero, one and minus one
-- zero times a number
pub mul_zero : (x : ℤ) → pos 0 *ℤ x ≡ pos 0
mul_zero x = zero-*ℤ x

-- a number times one
pub mul_one : (x : ℤ) → x *ℤ pos 1 ≡ x
mul_one x = omega (arith, ints)

-- one times a number
pub one_mul : (x : ℤ) → pos 1 *ℤ x ≡ x
one_mul x = omega (arith, ints, mul_suc 0 x, mul_zero x)

-- minus one times a number
pub minus_one_mul : (x : ℤ) → negsuc 0 *ℤ x ≡ neg_ℤ x
minus_one_mul x = omega (arith, ints, mul_minus_one x, mul_zero x)

-- ---- sums, differences and negations
-- a product with a sum
pub mul_plus : (c x y : ℤ) → c *ℤ (x +ℤ y) ≡ c *ℤ x +ℤ c *ℤ y
mul_plus (pos zero) x y = omega (arith, ints, mul_zero (x +ℤ y), mul_zero x, mul_zero y)
mul_plus (pos (suc n)) x y = omega (arith, ints, mul_suc n (x +ℤ y), mul_suc n x, mul_suc n y, mul_plus (pos n) x y)
mul_plus (negsuc zero) x y =
    omega (arith, ints, mul_minus_one (x +ℤ y), mul_minus_one x, mul_minus_one y, mul_zero (x +ℤ y), mul_zero x, mul_zero y)
mul_plus (negsuc (suc n)) x y = omega (arith, ints, mul_pred n (x +ℤ y), mul_pred n x, mul_pred n y, mul_plus (negsuc n) x y)

-- a sum times a number
pub plus_mul : (x y c : ℤ) → (x +ℤ y) *ℤ c ≡ x *ℤ c +ℤ y *ℤ c
plus_mul x y c = omega (arith, ints, *ℤ_comm (x +ℤ y) c, mul_plus c x y, *ℤ_comm x c, *ℤ_comm y c)

-- a product with a difference
pub mul_minus : (c x y : ℤ) → c *ℤ (x -ℤ y) ≡ c *ℤ x -ℤ c *ℤ y
mul_minus c x y =
    let e : (x -ℤ y) +ℤ y ≡ x = omega (arith, ints) in
    omega (arith, ints, mul_plus c (x -ℤ y) y, ap (λ (z : ℤ). c *ℤ z) e)

-- a difference times a number
pub minus_mul : (x y c : ℤ) → (x -ℤ y) *ℤ c ≡ x *ℤ c -ℤ y *ℤ c
minus_mul x y c = omega (arith, ints, *ℤ_comm (x -ℤ y) c, mul_minus c x y, *ℤ_comm x c, *ℤ_comm y c)

-- a negation times a number
pub neg_mul : (x c : ℤ) → neg_ℤ x *ℤ c ≡ neg_ℤ (x *ℤ c)
neg_mul x c =
    let e : pos 0 -ℤ x ≡ neg_ℤ x = omega (arith, ints) in
    omega (arith, ints, minus_mul (pos 0) x c, ap (λ (z : ℤ). z *ℤ c) e, mul_zero c)

-- a number times a negation
pub mul_neg : (c x : ℤ) → c *ℤ neg_ℤ x ≡ neg_ℤ (c *ℤ x)
mul_neg c x = omega (arith, ints, *ℤ_comm c (neg_ℤ x), neg_mul x c, *ℤ_comm x c)

-- ---- associativity
-- a product of products
pub mul_assoc : (c x y : ℤ) → c *ℤ (x *ℤ y) ≡ (c *ℤ x) *ℤ y
mul_assoc (pos zero) x y = omega (arith, ints, mul_zero (x *ℤ y), ap (λ (z : ℤ). z *ℤ y) (mul_zero x), mul_zero y)
mul_assoc (pos (suc n)) x y =
    omega (arith, ints, mul_suc n (x *ℤ y), ap (λ (z : ℤ). z *ℤ y) (mul_suc n x), plus_mul (pos n *ℤ x) x y, mul_assoc (pos n) x y)
mul_assoc (negsuc zero) x y =
    omega (arith, ints, minus_one_mul (x *ℤ y), ap (λ (z : ℤ). z *ℤ y) (minus_one_mul x), neg_mul x y)
mul_assoc (negsuc (suc n)) x y =
    omega (arith, ints, mul_pred n (x *ℤ y), ap (λ (z : ℤ). z *ℤ y) (mul_pred n x), minus_mul (negsuc n *ℤ x) x y, mul_assoc (negsuc n) x y)

-- two factors change places before a third
pub mul_swap : (c x y : ℤ) → c *ℤ (x *ℤ y) ≡ x *ℤ (c *ℤ y)
mul_swap c x y = omega (arith, ints, mul_assoc c x y, ap (λ (z : ℤ). z *ℤ y) (*ℤ_comm c x), mul_assoc x c y)

-- ---- monotony
mul_up_pos : (n : ℕ) (x y : ℤ) → x ≤ℤ y → (pos n *ℤ x) ≤ℤ (pos n *ℤ y)
mul_up_pos zero x y h = omega (arith, ints, mul_zero x, mul_zero y)
mul_up_pos (suc n) x y h = omega (arith, ints, mul_suc n x, mul_suc n y, mul_up_pos n x y h, h)

-- a factor that is not negative keeps the order
pub mul_up : (c x y : ℤ) → pos 0 ≤ℤ c → x ≤ℤ y → (c *ℤ x) ≤ℤ (c *ℤ y)
mul_up (pos n) x y p h = mul_up_pos n x y h
mul_up (negsuc n) x y p h = absurd (omega (arith, ints, p))

-- a factor that is not positive turns the order
pub mul_down : (c x y : ℤ) → c ≤ℤ pos 0 → x ≤ℤ y → (c *ℤ y) ≤ℤ (c *ℤ x)
mul_down c x y p h =
    let q : pos 0 ≤ℤ neg_ℤ c = omega (arith, ints, p) in
    omega (arith, ints, mul_up (neg_ℤ c) x y q h, neg_mul c x, neg_mul c y)

-- a first factor grows before a number that is not negative
pub mul_up_first : (c d x : ℤ) → pos 0 ≤ℤ x → c ≤ℤ d → (c *ℤ x) ≤ℤ (d *ℤ x)
mul_up_first c d x p h = omega (arith, ints, mul_up x c d p h, *ℤ_comm x c, *ℤ_comm x d)

-- a first factor falls before a number that is not positive
pub mul_down_first : (c d x : ℤ) → x ≤ℤ pos 0 → c ≤ℤ d → (d *ℤ x) ≤ℤ (c *ℤ x)
mul_down_first c d x p h = omega (arith, ints, mul_down x c d p h, *ℤ_comm x c, *ℤ_comm x d)
