-- Divisors of the difference of two totals.
use Rattle.std.proofs.Common.{◌≡◌, ℕ, zero, suc, ◌<◌, ℤ, pos, ◌+ℤ◌, ◌-ℤ◌, ◌*ℤ◌, arith, refl, subst, ap, Bool, true, false, IsTrue}
use Rattle.std.specs.Int.{◌∣◌}
use Rattle.std.specs.Int.RustNames.{unsigned_abs}
use Rattle.std.proofs.lemmas.Int.{ints}
use Rattle.std.proofs.lemmas.Nat.Gcd.{dvd-zero}
use Rattle.species_integers.proofs.Products.{mul_plus, minus_mul, mul_assoc}
use Rattle.species_integers.proofs.Divisors.{dvd_sum, dvd_difference, dvd_product}
use Rattle.species_linear.proofs.Parts.{total_of}
use Rattle.species_gcd.specs.Divisor.{DividesLevel}

-- a divisor of how far two numbers are apart divides both or none
pub dvd_from_apart : (d : ℕ) (x y : ℤ) → d ∣ unsigned_abs (x -ℤ y) → d ∣ unsigned_abs y → d ∣ unsigned_abs x
dvd_from_apart d x y apart h =
    let e : (x -ℤ y) +ℤ y ≡ x = omega (arith, ints) in
    subst (λ (z : ℤ). d ∣ unsigned_abs z) e (dvd_sum d (x -ℤ y) y apart h)

pub dvd_apart_turned : (d : ℕ) (x y : ℤ) → d ∣ unsigned_abs (x -ℤ y) → d ∣ unsigned_abs (y -ℤ x)
dvd_apart_turned d x y apart =
    let e : pos 0 -ℤ (x -ℤ y) ≡ y -ℤ x = omega (arith, ints) in
    subst (λ (z : ℤ). d ∣ unsigned_abs z) e (dvd_difference d (pos 0) (x -ℤ y) (dvd-zero d) apart)

-- the part of one level at a pair of iterators
abbrev pub part_of : (a b : ℤ) → ℤ × ℤ → ℤ
part_of a b z = (a *ℤ z.0) -ℤ (b *ℤ z.1)

-- whole units further, the part differs by multiples of the coefficients
part_moved : (a b u v m n x y : ℤ) → part_of a b (x +ℤ u *ℤ m, y +ℤ v *ℤ n) -ℤ part_of a b (x, y) ≡ ((a *ℤ u) *ℤ m) -ℤ ((b *ℤ v) *ℤ n)
part_moved a b u v m n x y = omega (arith, ints, mul_plus a x (u *ℤ m), mul_plus b y (v *ℤ n), mul_assoc a u m, mul_assoc b v n)

part_moved_together : (a b u m x y : ℤ) → part_of a b (x +ℤ u *ℤ m, y +ℤ u *ℤ m) -ℤ part_of a b (x, y) ≡ ((a -ℤ b) *ℤ u) *ℤ m
part_moved_together a b u m x y =
    omega (arith, ints, part_moved a b u u m m x y, minus_mul (a *ℤ u) (b *ℤ u) m, ap (λ (z : ℤ). z *ℤ m) (minus_mul a b u))

pub dvd_part : (shared : Bool) (d : ℕ) (a b u v m n x y : ℤ) → DividesLevel shared d a b u v → (IsTrue shared → u ≡ v) → (IsTrue shared → m ≡ n) →
    d ∣ unsigned_abs (part_of a b (x +ℤ u *ℤ m, y +ℤ v *ℤ n) -ℤ part_of a b (x, y))
dvd_part true d a b u v m n x y h same_unit same =
    rw (← same_unit refl, ← same refl, part_moved_together a b u m x y) (dvd_product d ((a -ℤ b) *ℤ u) m h)
dvd_part false d a b u v m n x y h same_unit same =
    rw (part_moved a b u v m n x y) (dvd_difference d ((a *ℤ u) *ℤ m) ((b *ℤ v) *ℤ n) (dvd_product d (a *ℤ u) m h.0) (dvd_product d (b *ℤ v) n h.1))

-- what divides the difference of each part divides that of the totals
pub dvd_totals : {X : Type 0} (d : ℕ) (c : ℤ) (part : ℕ → X → ℤ) (x y : ℕ → X) (n : ℕ) → ((k : ℕ) → k < n → d ∣ unsigned_abs (part k (x k) -ℤ part k (y k))) →
    d ∣ unsigned_abs (total_of c part x n -ℤ total_of c part y n)
dvd_totals d c part x y zero each =
    let e : pos 0 ≡ c -ℤ c = omega (arith, ints) in
    subst (λ (z : ℤ). d ∣ unsigned_abs z) e (dvd-zero d)
dvd_totals d c part x y (suc n) each =
    let e : (total_of c part x n -ℤ total_of c part y n) +ℤ (part n (x n) -ℤ part n (y n)) ≡ total_of c part x (suc n) -ℤ total_of c part y (suc n) = omega (arith, ints) in
    subst (λ (z : ℤ). d ∣ unsigned_abs z) e
    (dvd_sum d (total_of c part x n -ℤ total_of c part y n) (part n (x n) -ℤ part n (y n)) (dvd_totals d c part x y n (λ k h. each k (omega (arith, h)))) (each n (omega arith)))

-- what divides a number divides an equal one
pub dvd_same : (d m n : ℕ) → m ≡ n → d ∣ m → d ∣ n
dvd_same d m n e h = subst (λ (z : ℕ). d ∣ z) e h
