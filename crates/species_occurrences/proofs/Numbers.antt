-- Numbers of the kind `int`.
use Rattle.std.proofs.Common.{◌≡◌, refl, ap, ◌∙◌, arith, ℕ, suc, ◌-◌, ◌%◌, ◌<◌, ◌≤◌, Bool, true, false, if◌then◌else◌, ℤ, pos, negsuc, ◌-ℤ◌}
use Rattle.std.specs.Prelude.{nat_lt}
use Rattle.std.proofs.lemmas.Bool.Decides.{nat_tests}
use Rattle.std.proofs.lemmas.Int.{ints}
use Rattle.std.proofs.Math.Nat.{mod-eq_of_lt}
use Rattle.species_ast.specs.declared.tree.Kind.TheVariants as kind
use Rattle.species_ast.specs.Operators.{fits, signed_from, reduced}
use Rattle.species_ast.specs.Scope.Forms.{is_within}
use Rattle.species_occurrences.specs.Iterators.{IsInt}

pub fits_int : (n : ℤ) → fits 32 n ≡ true → IsInt n
fits_int (pos n) h = let below : n < 2147483648 = grind (arith, nat_tests) in (omega (arith, ints), omega (arith, ints, below))
fits_int (negsuc n) h = let below : n < 2147483648 = grind (arith, nat_tests) in (omega (arith, ints, below), omega (arith, ints))

signed_low : (bits : ℕ) → bits < 2147483648 → signed_from 32 bits ≡ pos bits
signed_low bits h = go (nat_lt bits 2147483648) refl
  where
    go : (t : Bool) → nat_lt bits 2147483648 ≡ t → (if t then pos bits else pos bits -ℤ pos 4294967296) ≡ pos bits
    go true is = refl
    go false is = absurd (grind (arith, nat_tests))

signed_high : (bits : ℕ) → 2147483648 ≤ bits → signed_from 32 bits ≡ pos bits -ℤ pos 4294967296
signed_high bits h = go (nat_lt bits 2147483648) refl
  where
    go : (t : Bool) → nat_lt bits 2147483648 ≡ t → (if t then pos bits else pos bits -ℤ pos 4294967296) ≡ pos bits -ℤ pos 4294967296
    go true is = absurd (grind (arith, nat_tests))
    go false is = refl

pub reduced_int : (n : ℤ) → IsInt n → reduced kind.Int n ≡ n
reduced_int (pos n) h =
    let below : n < 2147483648 = omega (arith, ints, h.1) in
    let same : n % 4294967296 ≡ n = mod-eq_of_lt (omega (arith, below)) in
    ap (signed_from 32) same ∙ signed_low n below
reduced_int (negsuc n) h =
    let below : n < 2147483648 = omega (arith, ints, h.0) in
    let same : n % 4294967296 ≡ n = mod-eq_of_lt (omega (arith, below)) in
    ap (λ k. signed_from 32 (4294967295 - k)) same ∙ signed_high (4294967295 - n) (omega (arith, below)) ∙ omega (arith, ints, below)

pub within_int : (n : ℤ) → is_within n ≡ true → IsInt n
within_int (pos n) h = let below : n ≤ 2147483647 = grind (arith, nat_tests) in (omega (arith, ints), omega (arith, ints, below))
within_int (negsuc n) h = let below : suc n ≤ 2147483647 = grind (arith, nat_tests) in (omega (arith, ints, below), omega (arith, ints))
