-- Lemmas on the numbers that digits write.
use Rattle.std.proofs.Common.{◌≡◌, ◌∙◌, ap, drop, get_or, length, drop-cons, sym, refl, ℕ, zero, suc, ◌+◌, ◌*◌, ◌<◌, ◌≤◌, Bool, true, false, List, [], ◌∷◌, Some, None, arith}
use Rattle.std.proofs.lemmas.Bool.{leb-true}
use Rattle.std.proofs.lemmas.Bool.Decides.{nat_tests}
use Rattle.std.specs.Prelude.{nat_le, nat_lt, ◌^◌, if◌then◌else◌, pos}
use Rattle.std.specs.Char.{digit_value}
use Rattle.std.specs.Str.Parse.{digits_value, digits_value_after}
use Rattle.species_ast.specs.Operators.{in_kind}
use Rattle.species_ast.specs.Text.Numbers.{literal_in}
use Rattle.species_ast.specs.declared.tree.Value.{Value}
use Rattle.species_ast.specs.declared.tree.Kind.{Kind}
use Rattle.species_ast.specs.declared.tree.Kind.TheVariants as kind

-- more digits make a number no smaller
value_grows : (radix n : ℕ) (digits : List ℕ) → 1 ≤ radix → n ≤ digits_value_after radix n digits
value_grows radix n [] some = omega arith
value_grows (suc k) n (d ∷ digits) some =
    let more = value_grows (suc k) (n * suc k + digit_value d) digits some in
    grind (arith, more)
value_grows zero n (d ∷ digits) some = let x : ⊥ = omega (arith, some) in absurd x

pub too_large : (radix n : ℕ) (digits all : List ℕ) → 1 ≤ radix → digits_value radix all ≡ digits_value_after radix n digits → 18446744073709551615 < n
    → (if nat_le (digits_value radix all) 18446744073709551615 then Some (digits_value radix all) else None) ≡ None
too_large radix n digits all some e large = go (nat_le (digits_value radix all) 18446744073709551615) refl
  where
    go : (b : Bool) → nat_le (digits_value radix all) 18446744073709551615 ≡ b → (if b then Some (digits_value radix all) else None) ≡ None
    go false is = refl
    go true is = let x : ⊥ = omega (arith, large, e, value_grows radix n digits some, leb-true _ _ is) in absurd x

nothing_if : (t : Bool) (v : Value) → t ≡ false → (if t then Some v else None) ≡ None
nothing_if true v h = cc
nothing_if false v h = refl

below_none : (n m : ℕ) → m ≤ 18446744073709551616 → nat_le n 18446744073709551615 ≡ false → nat_lt n m ≡ false
below_none n m small above = grind (arith, nat_tests)

-- no kind has a number that is too large for 64 bits
pub none_above : (k : Kind) (n : ℕ) → nat_le n 18446744073709551615 ≡ false → literal_in k n ≡ None
none_above kind.Int n above = nothing_if (nat_lt n (2 ^ 31)) (in_kind kind.Int (pos n)) (below_none n (2 ^ 31) (omega arith) above)
none_above kind.Unsigned n above = nothing_if (nat_lt n (2 ^ 32)) (in_kind kind.Unsigned (pos n)) (below_none n (2 ^ 32) (omega arith) above)
none_above kind.Long n above = nothing_if (nat_lt n (2 ^ 63)) (in_kind kind.Long (pos n)) (below_none n (2 ^ 63) (omega arith) above)
none_above kind.UnsignedLong n above = nothing_if (nat_lt n (2 ^ 64)) (in_kind kind.UnsignedLong (pos n)) (below_none n (2 ^ 64) (omega arith) above)

pub next_digit : (radix n i v : ℕ) (all : List ℕ) → i < length all → v ≡ digit_value (get_or all i 0)
    → digits_value_after radix n (drop i all) ≡ digits_value_after radix (n * radix + v) (drop (suc i) all)
next_digit radix n i v all lt is =
    ap (digits_value_after radix n) (drop-cons all i 0 lt) ∙ ap (λ d. digits_value_after radix (n * radix + d) (drop (suc i) all)) (sym is)
