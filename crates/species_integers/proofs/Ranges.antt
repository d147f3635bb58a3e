-- Bounds of a product over a range: the ends decide, whatever the sign of the factor.
use Rattle.std.proofs.Common.{ℤ, pos, ◌*ℤ◌, ◌≤ℤ◌, arith}
use Rattle.std.proofs.lemmas.Int.{ints, by_lt_z}
use Rattle.species_integers.proofs.Products.{mul_up, mul_down}

-- what is at most the product at both ends is at most the product within
pub line_above : (c low high x m : ℤ) → low ≤ℤ x → x ≤ℤ high → m ≤ℤ (c *ℤ low) → m ≤ℤ (c *ℤ high) → m ≤ℤ (c *ℤ x)
line_above c low high x m p q at_low at_high = by_lt_z c (pos 0)
    (λ h. omega (arith, ints, mul_down c x high (omega (arith, ints, h)) q, at_high))
    (λ h. omega (arith, ints, mul_up c low x h p, at_low))

-- what is at least the product at both ends is at least the product within
pub line_below : (c low high x m : ℤ) → low ≤ℤ x → x ≤ℤ high → (c *ℤ low) ≤ℤ m → (c *ℤ high) ≤ℤ m → (c *ℤ x) ≤ℤ m
line_below c low high x m p q at_low at_high = by_lt_z c (pos 0)
    (λ h. omega (arith, ints, mul_down c low x (omega (arith, ints, h)) p, at_low))
    (λ h. omega (arith, ints, mul_up c x high h q, at_high))
