-- Divisors of ways between numbers.
use Rattle.std.proofs.Common.{◌≡◌, ◌≢◌, subst, arith, ℕ, ℤ, pos, ◌+ℤ◌, ◌-ℤ◌, ◌⊎◌}
use Rattle.std.specs.Int.{◌∣◌}
use Rattle.std.specs.Int.RustNames.{unsigned_abs}
use Rattle.std.proofs.lemmas.Int.{ints}
use Rattle.std.proofs.lemmas.Nat.Gcd.{dvd_trans, dvd-zero}
use Rattle.species_integers.proofs.Divisors.{dvd_sum, dvd_difference}

pub same_or_not : (x y : ℤ) → (x ≡ y) ⊎ (x ≢ y)
same_or_not x y = grind (arith, ints)

pub dvd_at : (d : ℕ) (x y : ℤ) → x ≡ y → d ∣ unsigned_abs x → d ∣ unsigned_abs y
dvd_at d x y e h = subst (λ (z : ℤ). d ∣ unsigned_abs z) e h

pub dvd_nothing : (d : ℕ) (x y : ℤ) → x ≡ y → d ∣ unsigned_abs (x -ℤ y)
dvd_nothing d x y e = dvd_at d (pos 0) (x -ℤ y) (omega (arith, ints, e)) (dvd-zero d)

-- from one number to the next and on to a third
pub dvd_ways : (d : ℕ) (x y z : ℤ) → d ∣ unsigned_abs (x -ℤ y) → d ∣ unsigned_abs (y -ℤ z) → d ∣ unsigned_abs (x -ℤ z)
dvd_ways d x y z p q = dvd_at d ((x -ℤ y) +ℤ (y -ℤ z)) (x -ℤ z) (omega (arith, ints)) (dvd_sum d (x -ℤ y) (y -ℤ z) p q)

pub dvd_turned : (d : ℕ) (x y : ℤ) → d ∣ unsigned_abs (x -ℤ y) → d ∣ unsigned_abs (y -ℤ x)
dvd_turned d x y p = dvd_at d (pos 0 -ℤ (x -ℤ y)) (y -ℤ x) (omega (arith, ints)) (dvd_difference d (pos 0) (x -ℤ y) (dvd-zero d) p)

pub dvd_through : (d e n : ℕ) → d ∣ e → e ∣ n → d ∣ n
dvd_through d e n p q = dvd_trans d p q
