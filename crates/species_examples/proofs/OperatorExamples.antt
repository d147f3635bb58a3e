-- Worked examples of the operators, by computation.
use Rattle.std.proofs.Common.{◌≡◌, refl, ℕ, ◌^◌, ◌-◌, pos, neg_ℤ, Ok, Err, List, [], ◌∷◌, map}
use Rattle.species_ast.specs.declared.tree.Kind.{Kind}
use Rattle.species_ast.specs.declared.tree.Kind.TheVariants as kind
use Rattle.species_ast.specs.declared.tree.Value.{Value}
use Rattle.species_ast.specs.declared.tree.Value.TheVariants.{Int, Unsigned, Long, UnsignedLong}
use Rattle.species_ast.specs.declared.tree.Binary.{Binary}
use Rattle.species_ast.specs.declared.tree.Unary.{Unary}
use Rattle.species_ast.specs.declared.tree.Unary.TheVariants.{Neg, Not, LogNot}
use Rattle.species_ast.specs.declared.tree.Binary.TheVariants.{Mul, Div, Rem, Add, Sub, Shl, Shr, Lt, Le, Gt, Ge, Eq, Ne, BitAnd, BitXor, BitOr}
use Rattle.species_ast.specs.declared.trap.Undefined.TheVariants.{Overflow, DivZero, BadShift}
use Rattle.species_ast.specs.Operators.{Answer, binary_of, unary_of, converted}

-- the value -n of kind Int
abbrev minus : ℕ → Value
minus n = Int (neg_ℤ (pos n))

abbrev int : ℕ → Value
int n = Int (pos n)

abbrev unsigned : ℕ → Value
unsigned n = Unsigned n

abbrev least : Value
least = minus (2 ^ 31)

abbrev greatest : Value
greatest = int (2 ^ 31 - 1)

-- what a list of operators applied to two values gives
abbrev answers : List (Binary × Value × Value) → List Answer
answers cases = map (λ c. binary_of c.0 c.1 c.2) cases

-- ---- operators

-- `/` goes toward 0, and `%` has the sign of the left side
toward_zero : answers (
    (Div, minus 7, int 2) ∷ (Rem, minus 7, int 2) ∷
    (Div, int 7, minus 2) ∷ (Rem, int 7, minus 2) ∷
    (Div, minus 7, minus 2) ∷ (Rem, minus 7, minus 2) ∷ [])
    ≡ Ok (minus 3) ∷ Ok (minus 1) ∷ Ok (minus 3) ∷ Ok (int 1) ∷ Ok (int 3) ∷ Ok (minus 1) ∷ []
toward_zero = refl

-- by 0, and the one quotient that is past Int
no_quotient : answers (
    (Div, int 1, int 0) ∷ (Rem, int 1, int 0) ∷ (Div, unsigned 1, int 0) ∷ (Rem, unsigned 1, unsigned 0) ∷
    (Div, least, minus 1) ∷ (Rem, least, minus 1) ∷ (Div, least, int 1) ∷ (Rem, least, int 1) ∷ [])
    ≡ Err DivZero ∷ Err DivZero ∷ Err DivZero ∷ Err DivZero ∷
    Err Overflow ∷ Err Overflow ∷ Ok least ∷ Ok (int 0) ∷ []
no_quotient = refl

-- -7 as an unsigned number is 4294967289
mixed_quotient : answers ((Div, minus 7, unsigned 2) ∷ (Rem, minus 7, unsigned 2) ∷ (Div, unsigned 7, minus 2) ∷ [])
    ≡ Ok (unsigned 2147483644) ∷ Ok (unsigned 1) ∷ Ok (unsigned 0) ∷ []
mixed_quotient = refl

-- sums, differences and products of Int are exact
exact : answers (
    (Add, greatest, int 1) ∷ (Add, greatest, int 0) ∷ (Sub, least, int 1) ∷ (Sub, minus 1, greatest) ∷
    (Mul, int 65536, int 32768) ∷ (Mul, int 65536, minus 32768) ∷ (Mul, least, minus 1) ∷ [])
    ≡ Err Overflow ∷ Ok greatest ∷ Err Overflow ∷ Ok least ∷ Err Overflow ∷ Ok least ∷ Err Overflow ∷ []
exact = refl

-- those of Unsigned are modulo 2 ^ 32
modulo : answers (
    (Add, unsigned 4294967295, unsigned 1) ∷ (Add, unsigned 4294967295, int 2) ∷ (Sub, unsigned 0, unsigned 1) ∷
    (Sub, int 3, unsigned 5) ∷ (Mul, unsigned 65536, unsigned 65536) ∷ (Mul, unsigned 4294967295, unsigned 4294967295) ∷
    (Mul, minus 1, unsigned 3) ∷ [])
    ≡ Ok (unsigned 0) ∷ Ok (unsigned 1) ∷ Ok (unsigned 4294967295) ∷ Ok (unsigned 4294967294) ∷ Ok (unsigned 0) ∷
    Ok (unsigned 1) ∷ Ok (unsigned 4294967293) ∷ []
modulo = refl

-- a right shift goes toward minus infinity; a left shift is exact
shifts : answers (
    (Shr, minus 1, int 1) ∷ (Shr, minus 7, int 1) ∷ (Shr, int 7, int 1) ∷ (Shr, least, int 31) ∷ (Shr, unsigned 4294967295, int 31) ∷
    (Shl, int 1, int 30) ∷ (Shl, int 1, int 31) ∷ (Shl, int 1, int 32) ∷ (Shl, int 0, int 31) ∷ (Shl, unsigned 3, int 31) ∷ [])
    ≡ Ok (minus 1) ∷ Ok (minus 4) ∷ Ok (int 3) ∷ Ok (minus 1) ∷ Ok (unsigned 1) ∷
    Ok (int 1073741824) ∷ Err Overflow ∷ Err BadShift ∷ Ok (int 0) ∷ Ok (unsigned 2147483648) ∷ []
shifts = refl

-- a shift is of its left side's kind, and the right side counts by its number; a bad count is found first
shift_sides : answers (
    (Shl, int 1, unsigned 4) ∷ (Shl, unsigned 1, minus 1) ∷ (Shr, minus 8, unsigned 1) ∷ (Shr, unsigned 8, unsigned 32) ∷
    (Shl, minus 1, int 0) ∷ (Shl, minus 1, int 40) ∷ (Shr, minus 1, minus 1) ∷ [])
    ≡ Ok (int 16) ∷ Err BadShift ∷ Ok (minus 4) ∷ Err BadShift ∷ Err BadShift ∷ Err BadShift ∷ Err BadShift ∷ []
shift_sides = refl

-- mixed kinds are compared as unsigned numbers, and a comparison gives an Int
comparisons : answers (
    (Lt, minus 1, int 1) ∷ (Lt, minus 1, unsigned 1) ∷ (Gt, minus 1, unsigned 1) ∷ (Le, int 2, int 2) ∷ (Ge, unsigned 0, minus 1) ∷
    (Eq, minus 1, unsigned 4294967295) ∷ (Ne, minus 1, unsigned 4294967295) ∷ (Eq, minus 1, int 1) ∷ [])
    ≡ Ok (int 1) ∷ Ok (int 0) ∷ Ok (int 1) ∷ Ok (int 1) ∷ Ok (int 0) ∷ Ok (int 1) ∷ Ok (int 0) ∷ Ok (int 0) ∷ []
comparisons = refl

-- bits of two's complement
bits : answers (
    (BitAnd, minus 1, int 12) ∷ (BitOr, minus 8, int 3) ∷ (BitXor, minus 1, int 5) ∷ (BitAnd, minus 1, unsigned 12) ∷
    (BitOr, least, unsigned 1) ∷ (BitXor, int 6, int 3) ∷ [])
    ≡ Ok (int 12) ∷ Ok (minus 5) ∷ Ok (minus 6) ∷ Ok (unsigned 12) ∷ Ok (unsigned 2147483649) ∷ Ok (int 5) ∷ []
bits = refl

unary : map (λ (c : Unary × Value). unary_of c.0 c.1) (
    (Neg, int 5) ∷ (Neg, least) ∷ (Neg, unsigned 1) ∷ (Neg, unsigned 0) ∷ (Not, int 0) ∷ (Not, minus 6) ∷ (Not, unsigned 1) ∷
    (LogNot, int 0) ∷ (LogNot, minus 4) ∷ (LogNot, unsigned 0) ∷ [])
    ≡ Ok (minus 5) ∷ Err Overflow ∷ Ok (unsigned 4294967295) ∷ Ok (unsigned 0) ∷ Ok (minus 1) ∷ Ok (int 5) ∷ Ok (unsigned 4294967294) ∷
    Ok (int 1) ∷ Ok (int 0) ∷ Ok (int 1) ∷ []
unary = refl

conversions : map (λ (c : Kind × Value). converted c.0 c.1) (
    (kind.Unsigned, minus 1) ∷ (kind.Unsigned, int 7) ∷ (kind.Int, unsigned 4294967295) ∷ (kind.Int, unsigned 2147483648) ∷
    (kind.Int, unsigned 2147483647) ∷ (kind.Unsigned, least) ∷ (kind.Int, minus 9) ∷ [])
    ≡ unsigned 4294967295 ∷ unsigned 7 ∷ minus 1 ∷ least ∷ greatest ∷ unsigned 2147483648 ∷ minus 9 ∷ []
conversions = refl

-- counts of 31 and 32, of either kind; the values at the ends of the kinds
counts : answers (
    (Shl, unsigned 1, int 31) ∷ (Shl, unsigned 1, int 32) ∷ (Shl, unsigned 4294967295, unsigned 31) ∷ (Shl, unsigned 1, unsigned 4294967295) ∷
    (Shl, int 1, unsigned 31) ∷ (Shl, int 0, int 32) ∷ (Shl, int 1073741823, int 1) ∷ (Shl, int 1073741824, int 1) ∷
    (Shr, greatest, int 30) ∷ (Shr, greatest, int 31) ∷ (Shr, greatest, int 32) ∷ (Shr, minus 1, int 31) ∷ (Shr, minus 1, int 32) ∷
    (Shr, least, int 30) ∷ (Shr, unsigned 2147483648, int 31) ∷ (Shr, unsigned 8, minus 1) ∷ [])
    ≡ Ok (unsigned 2147483648) ∷ Err BadShift ∷ Ok (unsigned 2147483648) ∷ Err BadShift ∷
    Err Overflow ∷ Err BadShift ∷ Ok (int 2147483646) ∷ Err Overflow ∷
    Ok (int 1) ∷ Ok (int 0) ∷ Err BadShift ∷ Ok (minus 1) ∷ Err BadShift ∷
    Ok (minus 2) ∷ Ok (unsigned 1) ∷ Err BadShift ∷ []
counts = refl

-- quotients and rests at the ends of Int: -2147483648 is -1 times 2147483647, less 1
quotients_at_ends : answers (
    (Div, minus 1, int 2) ∷ (Rem, minus 1, int 2) ∷ (Div, minus 6, int 3) ∷ (Rem, minus 6, int 3) ∷
    (Div, least, greatest) ∷ (Rem, least, greatest) ∷ (Div, greatest, least) ∷ (Rem, greatest, least) ∷
    (Div, least, least) ∷ (Rem, least, least) ∷ (Div, int 0, minus 5) ∷ (Rem, minus 5, int 0) ∷ [])
    ≡ Ok (int 0) ∷ Ok (minus 1) ∷ Ok (minus 2) ∷ Ok (int 0) ∷
    Ok (minus 1) ∷ Ok (minus 1) ∷ Ok (int 0) ∷ Ok greatest ∷
    Ok (int 1) ∷ Ok (int 0) ∷ Ok (int 0) ∷ Err DivZero ∷ []
quotients_at_ends = refl

-- the least Int by -1 has no quotient, but as an unsigned number it has one, by -1 as 4294967295
least_by_minus_one : answers (
    (Div, least, minus 1) ∷ (Rem, least, minus 1) ∷ (Div, least, unsigned 4294967295) ∷ (Rem, least, unsigned 4294967295) ∷
    (Div, unsigned 2147483648, minus 1) ∷ (Div, unsigned 4294967295, minus 1) ∷ (Rem, unsigned 4294967295, int 10) ∷ [])
    ≡ Err Overflow ∷ Err Overflow ∷ Ok (unsigned 0) ∷ Ok (unsigned 2147483648) ∷
    Ok (unsigned 0) ∷ Ok (unsigned 1) ∷ Ok (unsigned 5) ∷ []
least_by_minus_one = refl

-- more of Int at its ends: 46341 * 46341 is 2147488281
exact_at_ends : answers (
    (Add, least, minus 1) ∷ (Add, least, greatest) ∷ (Sub, int 0, least) ∷ (Sub, minus 1, least) ∷ (Sub, greatest, minus 1) ∷
    (Mul, int 46340, int 46340) ∷ (Mul, int 46341, int 46341) ∷ (Mul, minus 46341, int 46341) ∷ (Mul, minus 1, greatest) ∷ [])
    ≡ Err Overflow ∷ Ok (minus 1) ∷ Err Overflow ∷ Ok greatest ∷ Err Overflow ∷
    Ok (int 2147395600) ∷ Err Overflow ∷ Err Overflow ∷ Ok (minus 2147483647) ∷ []
exact_at_ends = refl

-- more of Unsigned past its end: 65537 * 65537 is 4294967296 and 131073
wraps : answers (
    (Add, unsigned 2147483648, unsigned 2147483648) ∷ (Add, unsigned 4294967295, unsigned 4294967295) ∷ (Add, minus 1, unsigned 1) ∷
    (Add, least, unsigned 0) ∷ (Sub, unsigned 0, unsigned 4294967295) ∷ (Sub, unsigned 3, int 5) ∷ (Sub, unsigned 2, minus 1) ∷
    (Mul, unsigned 2147483648, int 3) ∷ (Mul, unsigned 65537, unsigned 65537) ∷ (Mul, unsigned 65537, unsigned 65535) ∷ [])
    ≡ Ok (unsigned 0) ∷ Ok (unsigned 4294967294) ∷ Ok (unsigned 0) ∷
    Ok (unsigned 2147483648) ∷ Ok (unsigned 1) ∷ Ok (unsigned 4294967294) ∷ Ok (unsigned 3) ∷
    Ok (unsigned 2147483648) ∷ Ok (unsigned 131073) ∷ Ok (unsigned 4294967295) ∷ []
wraps = refl

-- a negative Int is above all small unsigned numbers; the numbers of Int keep their order among themselves
mixed_comparisons : answers (
    (Gt, minus 1, unsigned 0) ∷ (Lt, minus 2, unsigned 4294967295) ∷ (Ge, least, unsigned 2147483648) ∷ (Gt, least, unsigned 2147483648) ∷
    (Lt, greatest, unsigned 2147483648) ∷ (Le, unsigned 0, minus 1) ∷ (Eq, unsigned 2147483648, least) ∷ (Ne, unsigned 1, minus 1) ∷
    (Lt, least, greatest) ∷ (Ge, minus 1, int 0) ∷ (Le, minus 2, minus 1) ∷ (Gt, unsigned 4294967295, unsigned 4294967294) ∷ [])
    ≡ Ok (int 1) ∷ Ok (int 1) ∷ Ok (int 1) ∷ Ok (int 0) ∷
    Ok (int 1) ∷ Ok (int 1) ∷ Ok (int 1) ∷ Ok (int 1) ∷
    Ok (int 1) ∷ Ok (int 0) ∷ Ok (int 1) ∷ Ok (int 1) ∷ []
mixed_comparisons = refl

-- bits of the numbers at the ends of the kinds
bits_at_ends : answers (
    (BitAnd, least, greatest) ∷ (BitOr, least, greatest) ∷ (BitXor, minus 1, minus 1) ∷ (BitXor, least, minus 1) ∷
    (BitAnd, least, unsigned 4294967295) ∷ (BitXor, unsigned 4294967295, unsigned 2147483648) ∷ [])
    ≡ Ok (int 0) ∷ Ok (minus 1) ∷ Ok (int 0) ∷ Ok greatest ∷ Ok (unsigned 2147483648) ∷ Ok (unsigned 2147483647) ∷ []
bits_at_ends = refl

-- `-`, `~` and `!` at the ends of the kinds; `!` gives an Int for both
unary_at_ends : map (λ (c : Unary × Value). unary_of c.0 c.1) (
    (Neg, greatest) ∷ (Neg, unsigned 2147483648) ∷ (Neg, unsigned 4294967295) ∷
    (Not, least) ∷ (Not, greatest) ∷ (Not, minus 1) ∷ (Not, unsigned 0) ∷ (Not, unsigned 4294967295) ∷ (Not, unsigned 2147483648) ∷
    (LogNot, least) ∷ (LogNot, int 1) ∷ (LogNot, unsigned 4294967295) ∷ [])
    ≡ Ok (minus 2147483647) ∷ Ok (unsigned 2147483648) ∷ Ok (unsigned 1) ∷
    Ok greatest ∷ Ok least ∷ Ok (int 0) ∷ Ok (unsigned 4294967295) ∷ Ok (unsigned 0) ∷ Ok (unsigned 2147483647) ∷
    Ok (int 0) ∷ Ok (int 0) ∷ Ok (int 0) ∷ []
unary_at_ends = refl

-- negative numbers to Unsigned, and unsigned numbers past Int to Int
conversions_at_ends : map (λ (c : Kind × Value). converted c.0 c.1) (
    (kind.Unsigned, minus 2) ∷ (kind.Unsigned, minus 2147483647) ∷ (kind.Unsigned, greatest) ∷
    (kind.Int, unsigned 4294967294) ∷ (kind.Int, unsigned 2147483649) ∷ (kind.Int, unsigned 0) ∷
    (kind.Unsigned, unsigned 4294967295) ∷ (kind.Int, least) ∷ [])
    ≡ unsigned 4294967294 ∷ unsigned 2147483649 ∷ unsigned 2147483647 ∷ minus 2 ∷ minus 2147483647 ∷ int 0 ∷
    unsigned 4294967295 ∷ least ∷ []
conversions_at_ends = refl

-- ---- 64 bits

-- the value -n of kind Long
abbrev minus_long : ℕ → Value
minus_long n = Long (neg_ℤ (pos n))

abbrev long : ℕ → Value
long n = Long (pos n)

abbrev unsigned_long : ℕ → Value
unsigned_long n = UnsignedLong n

-- arithmetic at the ends of the kinds of 64 bits
long_arithmetic : answers (
    (Add, long 9223372036854775807, int 1) ∷ (Sub, minus_long 9223372036854775808, long 1) ∷ (Mul, long 3037000500, long 3037000500) ∷
    (Mul, int 2147483647, long 2147483647) ∷ (Div, minus_long 9223372036854775808, int 1) ∷ (Div, minus_long 9223372036854775808, minus 1) ∷
    (Rem, minus_long 9223372036854775808, minus_long 1) ∷ (Add, unsigned_long 18446744073709551615, int 2) ∷ (Sub, int 3, unsigned_long 5) ∷
    (Mul, unsigned_long 18446744073709551615, unsigned_long 18446744073709551615) ∷ (Div, unsigned_long 18446744073709551615, minus 1) ∷ [])
    ≡ Err Overflow ∷ Err Overflow ∷ Err Overflow ∷
    Ok (long 4611686014132420609) ∷ Ok (minus_long 9223372036854775808) ∷ Err Overflow ∷
    Err Overflow ∷ Ok (unsigned_long 1) ∷ Ok (unsigned_long 18446744073709551614) ∷
    Ok (unsigned_long 1) ∷ Ok (unsigned_long 1) ∷ []
long_arithmetic = refl

-- the count is below the width of the left side alone
long_shifts : answers (
    (Shl, long 1, int 62) ∷ (Shl, long 1, int 63) ∷ (Shl, long 1, int 64) ∷ (Shl, unsigned_long 3, int 63) ∷ (Shl, unsigned_long 1, long 64) ∷
    (Shl, int 1, long 32) ∷ (Shr, minus_long 9223372036854775808, int 63) ∷ (Shr, unsigned_long 18446744073709551615, unsigned 63) ∷
    (Shr, minus_long 1, int 64) ∷ (Shl, minus_long 1, int 1) ∷ [])
    ≡ Ok (long 4611686018427387904) ∷ Err Overflow ∷ Err BadShift ∷ Ok (unsigned_long 9223372036854775808) ∷ Err BadShift ∷
    Err BadShift ∷ Ok (minus_long 1) ∷ Ok (unsigned_long 1) ∷
    Err BadShift ∷ Err BadShift ∷ []
long_shifts = refl

-- all numbers of Unsigned are numbers of Long, so that only UnsignedLong takes negative numbers modulo 2 ^ 64
mixed_widths : answers (
    (Lt, minus 1, unsigned 1) ∷ (Lt, minus_long 1, unsigned 1) ∷ (Lt, minus_long 1, unsigned_long 1) ∷ (Add, unsigned 4294967295, long 1) ∷
    (Add, unsigned 4294967295, int 1) ∷ (BitAnd, minus 1, unsigned_long 18446744073709551615) ∷ (BitXor, minus_long 1, int 5) ∷
    (BitOr, unsigned 4294967295, minus_long 9223372036854775808) ∷ (Eq, unsigned 4294967295, minus_long 1) ∷ [])
    ≡ Ok (int 0) ∷ Ok (int 1) ∷ Ok (int 0) ∷ Ok (long 4294967296) ∷
    Ok (unsigned 0) ∷ Ok (unsigned_long 18446744073709551615) ∷ Ok (minus_long 6) ∷
    Ok (minus_long 9223372032559808513) ∷ Ok (int 0) ∷ []
mixed_widths = refl

long_conversions : map (λ (c : Kind × Value). converted c.0 c.1) (
    (kind.UnsignedLong, minus 1) ∷ (kind.Long, unsigned_long 9223372036854775808) ∷ (kind.Long, unsigned 4294967295) ∷
    (kind.Int, long 2147483648) ∷ (kind.Unsigned, minus_long 9223372036854775807) ∷ (kind.Int, unsigned_long 18446744069414584321) ∷ [])
    ≡ unsigned_long 18446744073709551615 ∷ minus_long 9223372036854775808 ∷ long 4294967295 ∷
    least ∷ unsigned 1 ∷ int 1 ∷ []
long_conversions = refl
