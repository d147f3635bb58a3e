-- Sizes (`unsigned_abs`) of sums and products.
use Rattle.std.proofs.Common.{◌≡◌, ℕ, ◌+◌, ◌*◌, ◌≤◌, ℤ, pos, negsuc, ◌+ℤ◌, ◌-ℤ◌, ◌*ℤ◌, ◌≤ℤ◌, arith}
use Rattle.std.specs.Int.RustNames.{unsigned_abs}
use Rattle.std.proofs.lemmas.Int.{ints, unsigned_abs-mul}
use Rattle.std.proofs.lemmas.Nat.{mul-le}
use Rattle.std.proofs.Math.IntN.{neg_ℤ}

-- a sum is no larger than its parts together
pub abs_sum : (x y : ℤ) → unsigned_abs (x +ℤ y) ≤ unsigned_abs x + unsigned_abs y
abs_sum (pos a) (pos b) = omega (arith, ints)
abs_sum (pos a) (negsuc b) = grind (arith, ints)
abs_sum (negsuc a) (pos b) = grind (arith, ints)
abs_sum (negsuc a) (negsuc b) = omega (arith, ints)

-- a negation has the same size
pub abs_neg : (x : ℤ) → unsigned_abs (neg_ℤ x) ≡ unsigned_abs x
abs_neg x = grind (arith, ints)

-- nor is a difference larger
pub abs_difference : (x y : ℤ) → unsigned_abs (x -ℤ y) ≤ unsigned_abs x + unsigned_abs y
abs_difference x y = omega (arith, abs_sum x (neg_ℤ y), abs_neg y)

-- a product is no larger than the product of bounds
pub abs_product : (x y : ℤ) (m n : ℕ) → unsigned_abs x ≤ m → unsigned_abs y ≤ n → unsigned_abs (x *ℤ y) ≤ m * n
abs_product x y m n p q = omega (arith, unsigned_abs-mul x y, mul-le (unsigned_abs x) (unsigned_abs y) m n p q)

-- a number of a range whose ends are small is small
pub abs_between : (low high x : ℤ) (m : ℕ) → low ≤ℤ x → x ≤ℤ high → unsigned_abs low ≤ m → unsigned_abs high ≤ m → unsigned_abs x ≤ m
abs_between low high x m p q h k = grind (arith, ints)

-- ---- a running sum of products, each at most b
-- one product more
pub abs_step : (total c x : ℤ) (i m n b : ℕ) → unsigned_abs total ≤ (1 + i) * b → unsigned_abs c ≤ m → unsigned_abs x ≤ n → m * n ≤ b →
    unsigned_abs (total +ℤ c *ℤ x) ≤ (1 + (i + 1)) * b
abs_step total c x i m n b ht hc hx hb = grind (arith, abs_sum total (c *ℤ x), abs_product c x m n hc hx)

-- the bound of at most n products is a bound of the sum
pub abs_steps_small : (i b n m : ℕ) (z : ℤ) → unsigned_abs z ≤ (1 + i) * b → i ≤ n → (1 + n) * b ≤ m → unsigned_abs z ≤ m
abs_steps_small i b n m z h k e = omega (arith, h, e, mul-le (1 + i) b (1 + n) b (omega arith) (omega arith))
