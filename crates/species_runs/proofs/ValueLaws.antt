-- Laws of values: what is converted to a kind is a value of it, and sums are values.
use Rattle.std.proofs.Common.{◌≡◌, refl, ap, ◌∙◌, subst, arith, ℕ, ◌^◌, ◌<◌, ℤ, pos, negsuc, ◌-ℤ◌, Bool, true, false, if◌then◌else◌}
use Rattle.std.specs.Prelude.{◌-◌, nat_lt}
use Rattle.std.specs.Ordering.{int_eq}
use Rattle.std.proofs.Math.Nat.{mod-lt, mod-eq_of_lt}
use Rattle.std.proofs.lemmas.Int.{ints}
use Rattle.species_ast.specs.declared.tree.Kind.{Kind}
use Rattle.species_ast.specs.declared.tree.Kind.TheVariants as kind
use Rattle.species_ast.specs.declared.tree.Value.{Value}
use Rattle.species_ast.specs.Operators.{residue, signed_from, reduced, is_number_of, in_kind, kind_of, number_of, converted}
use Rattle.species_ast.specs.Accesses.{sums}
use Rattle.species_runs.specs.Values.{IsOf, KeepsValues}

-- ---- reduced numbers

pub residue_below : (n : ℤ) (m : ℕ) → 0 < m → residue n m < m
residue_below (pos n) m h = mod-lt n h
residue_below (negsuc n) m h = omega arith

residue_back : (z : ℤ) (b m : ℕ) → b < m → z ≡ pos b -ℤ pos m → residue z m ≡ b
residue_back (pos n) b m below e = absurd (omega (arith, ints, e))
residue_back (negsuc n) b m below e =
    let less : n < m = omega (arith, ints, e) in
    omega (arith, ints, e, mod-eq_of_lt {n = n} {m = m} less)

-- the bits of the number that bits stand for are these bits
bits_back : (w b : ℕ) → b < 2 ^ w → residue (signed_from w b) (2 ^ w) ≡ b
bits_back w b below = go (nat_lt b (2 ^ (w - 1)))
  where
    go : (t : Bool) → residue (if t then pos b else pos b -ℤ pos (2 ^ w)) (2 ^ w) ≡ b
    go true = mod-eq_of_lt below
    go false = residue_back (pos b -ℤ pos (2 ^ w)) b (2 ^ w) below refl

pub reduced_again : (k : Kind) (n : ℤ) → reduced k (reduced k n) ≡ reduced k n
reduced_again kind.Int n = ap (signed_from 32) (bits_back 32 (residue n (2 ^ 32)) (residue_below n (2 ^ 32) (omega arith)))
reduced_again kind.Unsigned n = ap pos (mod-eq_of_lt (residue_below n (2 ^ 32) (omega arith)))
reduced_again kind.Long n = ap (signed_from 64) (bits_back 64 (residue n (2 ^ 64)) (residue_below n (2 ^ 64) (omega arith)))
reduced_again kind.UnsignedLong n = ap pos (mod-eq_of_lt (residue_below n (2 ^ 64) (omega arith)))

pub same_number : (n : ℤ) → int_eq n n ≡ true
same_number n = grind arith

pub reduced_is_number : (k : Kind) (n : ℤ) → is_number_of k (reduced k n) ≡ true
reduced_is_number k n = ap (λ z. int_eq z (reduced k n)) (reduced_again k n) ∙ same_number (reduced k n)

-- ---- values

-- the law: the value of a kind with a reduced number is one of the kind
pub value_in : (k : Kind) (n : ℤ) → IsOf k (in_kind k (reduced k n))
value_in kind.Int n = (refl, reduced_is_number kind.Int n)
value_in kind.Unsigned n = (refl, reduced_is_number kind.Unsigned n)
value_in kind.Long n = (refl, reduced_is_number kind.Long n)
value_in kind.UnsignedLong n = (refl, reduced_is_number kind.UnsignedLong n)

pub converted_is : (k : Kind) (v : Value) → IsOf k (converted k v)
converted_is k v = value_in k (number_of v)

pub sums_keep_values : KeepsValues sums
sums_keep_values a k c v of_c of_v = subst (λ j. IsOf j (sums a c v)) of_c.0 (value_in (kind_of c) _)
