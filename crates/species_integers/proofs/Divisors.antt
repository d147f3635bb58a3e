-- Natural numbers that divide the size of a whole number.
use Rattle.std.proofs.Common.{◌≡◌, ℕ, suc, ◌+◌, ℤ, pos, negsuc, ◌+ℤ◌, ◌-ℤ◌, ◌*ℤ◌, arith, ◌⊎◌, inl, inr, subst}
use Rattle.std.specs.Int.{◌∣◌}
use Rattle.std.specs.Int.RustNames.{unsigned_abs}
use Rattle.std.proofs.lemmas.Int.{ints, unsigned_abs-mul}
use Rattle.std.proofs.lemmas.Nat.Gcd.{dvd_trans}
use Rattle.std.proofs.Math.IntN.{neg_ℤ, *ℤ_comm}
use Rattle.std.proofs.Math.Nat.{dvd-add, dvd-add_iff_right, dvd-mul_right}
use Rattle.species_integers.proofs.Sizes.{abs_neg}

-- a divisor of two numbers divides how far they are apart
dvd_apart : (d a b n : ℕ) → a ≡ b + n → d ∣ a → d ∣ b → d ∣ n
dvd_apart d a b n e p q = (dvd-add_iff_right d {m = b} {n = n} q).1 (subst (λ (z : ℕ). d ∣ z) e p)

-- the size of a sum of two signs
abs_mixed : (a b : ℕ) → (unsigned_abs (pos a +ℤ negsuc b) + suc b ≡ a) ⊎ (unsigned_abs (pos a +ℤ negsuc b) + a ≡ suc b)
abs_mixed a b = grind (arith, ints)

dvd_mixed : (d a b : ℕ) → d ∣ a → d ∣ suc b → d ∣ unsigned_abs (pos a +ℤ negsuc b)
dvd_mixed d a b p q = elim (abs_mixed a b) [
  | inl e ↦ dvd_apart d a (suc b) _ (omega (arith, e)) p q
  | inr e ↦ dvd_apart d (suc b) a _ (omega (arith, e)) q p
]

-- a divisor of both parts divides the sum
pub dvd_sum : (d : ℕ) (x y : ℤ) → d ∣ unsigned_abs x → d ∣ unsigned_abs y → d ∣ unsigned_abs (x +ℤ y)
dvd_sum d (pos a) (pos b) p q = dvd-add d p q
dvd_sum d (pos a) (negsuc b) p q = dvd_mixed d a b p q
dvd_sum d (negsuc a) (pos b) p q = dvd_mixed d b a q p
dvd_sum d (negsuc a) (negsuc b) p q =
    let e : suc a + suc b ≡ unsigned_abs (negsuc a +ℤ negsuc b) = omega arith in
    subst (λ (z : ℕ). d ∣ z) e (dvd-add d p q)

-- a divisor of a number divides its negation
pub dvd_neg : (d : ℕ) (x : ℤ) → d ∣ unsigned_abs x → d ∣ unsigned_abs (neg_ℤ x)
dvd_neg d x p = rw (abs_neg x) p

-- a divisor of both parts divides the difference
pub dvd_difference : (d : ℕ) (x y : ℤ) → d ∣ unsigned_abs x → d ∣ unsigned_abs y → d ∣ unsigned_abs (x -ℤ y)
dvd_difference d x y p q = dvd_sum d x (neg_ℤ y) p (dvd_neg d y q)

-- a divisor of the first factor divides the product
pub dvd_product : (d : ℕ) (x y : ℤ) → d ∣ unsigned_abs x → d ∣ unsigned_abs (x *ℤ y)
dvd_product d x y p = rw (unsigned_abs-mul x y) (dvd_trans d p (dvd-mul_right (unsigned_abs x) (unsigned_abs y)))

-- a divisor of the second factor divides the product
pub dvd_product_second : (d : ℕ) (x y : ℤ) → d ∣ unsigned_abs y → d ∣ unsigned_abs (x *ℤ y)
dvd_product_second d x y p = rw (*ℤ_comm x y) (dvd_product d y x p)
