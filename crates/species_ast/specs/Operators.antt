-- The values of C's integer kinds and C's operators on them, over unbounded whole numbers (C17 6.2.5, 6.3.1, 6.5).
-- Only the definitions up to `in_kind` name the kinds: one more kind is one more line in each of them.
use Rattle.std.specs.Prelude.{ℕ, ◌-◌, ◌^◌, ◌%◌, Bool, true, false, not, nat_lt, if◌then◌else◌, ℤ, pos, negsuc, ◌+ℤ◌, ◌-ℤ◌, ◌*ℤ◌, neg_ℤ, unsigned_abs, int_lt, int_le, int_div, bit_and, bit_or, bit_xor, Result, Ok, Err, IsTrue}
use Rattle.std.specs.Ordering.{int_eq}
use Rattle.std.specs.Int.{int_shr}
use Rattle.species_ast.specs.declared.tree.Kind.{Kind}
use Rattle.species_ast.specs.declared.tree.Kind.TheVariants as kind
use Rattle.species_ast.specs.declared.tree.Value.{Value}
use Rattle.species_ast.specs.declared.tree.Value.TheVariants.{Int, Unsigned, Long, UnsignedLong}
use Rattle.species_ast.specs.declared.tree.Unary.{Unary}
use Rattle.species_ast.specs.declared.tree.Unary.TheVariants.{Neg, Not, LogNot}
use Rattle.species_ast.specs.declared.tree.Binary.{Binary}
use Rattle.species_ast.specs.declared.tree.Binary.TheVariants.{Mul, Div, Rem, Add, Sub, Shl, Shr, Lt, Le, Gt, Ge, Eq, Ne, BitAnd, BitXor, BitOr}
use Rattle.species_ast.specs.declared.trap.Undefined.{Undefined}
use Rattle.species_ast.specs.declared.trap.Undefined.TheVariants.{Overflow, DivZero, BadShift}

-- ---- the kinds

-- the width of a kind: how many bits its values have
abbrev pub bits_of : Kind → ℕ
bits_of kind.Int = 32
bits_of kind.Unsigned = 32
bits_of kind.Long = 64
bits_of kind.UnsignedLong = 64

-- whether a kind has numbers below 0
abbrev pub is_signed : Kind → Bool
is_signed kind.Int = true
is_signed kind.Unsigned = false
is_signed kind.Long = true
is_signed kind.UnsignedLong = false

-- the place of a kind in the order Int, Unsigned, Long, UnsignedLong
abbrev pub order_of : Kind → ℕ
order_of kind.Int = 0
order_of kind.Unsigned = 1
order_of kind.Long = 2
order_of kind.UnsignedLong = 3

abbrev pub kind_of : Value → Kind
kind_of (Int n) = kind.Int
kind_of (Unsigned n) = kind.Unsigned
kind_of (Long n) = kind.Long
kind_of (UnsignedLong n) = kind.UnsignedLong

-- the number that a value stands for
abbrev pub number_of : Value → ℤ
number_of (Int n) = n
number_of (Unsigned n) = pos n
number_of (Long n) = n
number_of (UnsignedLong n) = pos n

-- the value of a kind with this number, which is a number of the kind
abbrev pub in_kind : Kind → ℤ → Value
in_kind kind.Int n = Int n
in_kind kind.Unsigned n = Unsigned (unsigned_abs n)
in_kind kind.Long n = Long n
in_kind kind.UnsignedLong n = UnsignedLong (unsigned_abs n)

-- the kind to which the two sides of an operator are converted: the later of theirs in the order (C17 6.3.1.8)
abbrev pub joint : Kind → Kind → Kind
joint a b = if nat_lt (order_of a) (order_of b) then b else a

-- ---- the numbers of a width

-- n lies from -(2 ^ (w - 1)) to 2 ^ (w - 1) - 1
abbrev pub fits : ℕ → ℤ → Bool
fits w (pos n) = nat_lt n (2 ^ (w - 1))
fits w (negsuc n) = nat_lt n (2 ^ (w - 1))

-- the number from 0 to m - 1 that differs from n by a multiple of m
abbrev pub residue : ℤ → ℕ → ℕ
residue (pos n) m = n % m
residue (negsuc n) m = m - 1 - n % m

-- the number that w bits stand for in two's complement
abbrev pub signed_from : ℕ → ℕ → ℤ
signed_from w bits = if nat_lt bits (2 ^ (w - 1)) then pos bits else pos bits -ℤ pos (2 ^ w)

-- the bits of a number in a kind's width, in two's complement
abbrev pub bits_in : Kind → ℤ → ℕ
bits_in k n = residue n (2 ^ bits_of k)

-- the number of the kind that is equal to n modulo 2 ^ w, where w is the kind's width (C17 6.3.1.3)
abbrev pub reduced : Kind → ℤ → ℤ
reduced k n = if is_signed k then signed_from (bits_of k) (bits_in k n) else pos (bits_in k n)

-- whether n is a number of the kind
abbrev pub is_number_of : Kind → ℤ → Bool
is_number_of k n = int_eq (reduced k n) n

-- a value is one whose number its kind has
abbrev pub IsValue : Value → Type 0
IsValue v = IsTrue (is_number_of (kind_of v) (number_of v))

-- a value converted to a kind
abbrev pub converted : Kind → Value → Value
converted k v = in_kind k (reduced k (number_of v))

-- ---- what operators give

abbrev pub Answer : Type 0
Answer = Result Value Undefined

abbrev pub and_then : Answer → (Value → Answer) → Answer
and_then (Ok v) f = f v
and_then (Err why) f = Err why

-- the exact result n in a kind: in a signed kind n itself or Overflow (C17 6.5p5), else n modulo 2 ^ w (C17 6.2.5p9)
abbrev pub exact_in : Kind → ℤ → Answer
exact_in k n =
    if is_signed k then (if fits (bits_of k) n then Ok (in_kind k n) else Err Overflow) else Ok (in_kind k (reduced k n))

-- the value of a kind that has these bits
abbrev pub from_bits : Kind → ℕ → Value
from_bits k bits = in_kind k (reduced k (pos bits))

-- Int 1 or 0, as a test gives it
abbrev pub truth : Bool → Value
truth true = Int (pos 1)
truth false = Int (pos 0)

-- whether a value is not 0, as `if` and `&&` take it
abbrev pub is_true : Value → Bool
is_true v = not (int_eq (number_of v) (pos 0))

-- `a / b`, which goes toward 0 (C17 6.5.5)
abbrev pub quotient : Kind → ℤ → ℤ → Answer
quotient k a b = if int_eq b (pos 0) then Err DivZero else exact_in k (int_div a b)

-- `a % b`, which is `a - (a / b) * b`, and has no value where `a / b` has none
abbrev pub remainder : Kind → ℤ → ℤ → Answer
remainder k a b = and_then (quotient k a b) (λ q. Ok (in_kind k (a -ℤ number_of q *ℤ b)))

-- whether n is a count by which w bits are shifted: 0 to w - 1 (C17 6.5.7)
abbrev pub is_count : ℕ → ℤ → Bool
is_count w (pos n) = nat_lt n w
is_count w (negsuc n) = false

-- `a << n`, where n is a count or not
abbrev pub left_by : Bool → Kind → ℤ → ℕ → Answer
left_by true k a n = if int_lt a (pos 0) then Err BadShift else exact_in k (a *ℤ pos (2 ^ n))
left_by false k a n = Err BadShift

-- `a >> n`, which is a / 2 ^ n rounded toward minus infinity, where n is a count or not
abbrev pub right_by : Bool → Kind → ℤ → ℕ → Answer
right_by true k a n = Ok (in_kind k (int_shr a n))
right_by false k a n = Err BadShift

-- ---- the operators

-- the table of the binary operators in the kind where they work, on two numbers of it; of a shift, b is any number
abbrev pub binary_in : Kind → Binary → ℤ → ℤ → Answer
binary_in k Mul a b = exact_in k (a *ℤ b)
binary_in k Div a b = quotient k a b
binary_in k Rem a b = remainder k a b
binary_in k Add a b = exact_in k (a +ℤ b)
binary_in k Sub a b = exact_in k (a -ℤ b)
binary_in k Shl a b = left_by (is_count (bits_of k) b) k a (unsigned_abs b)
binary_in k Shr a b = right_by (is_count (bits_of k) b) k a (unsigned_abs b)
binary_in k Lt a b = Ok (truth (int_lt a b))
binary_in k Le a b = Ok (truth (int_le a b))
binary_in k Gt a b = Ok (truth (int_lt b a))
binary_in k Ge a b = Ok (truth (int_le b a))
binary_in k Eq a b = Ok (truth (int_eq a b))
binary_in k Ne a b = Ok (truth (not (int_eq a b)))
binary_in k BitAnd a b = Ok (from_bits k (bit_and (bits_in k a) (bits_in k b)))
binary_in k BitXor a b = Ok (from_bits k (bit_xor (bits_in k a) (bits_in k b)))
binary_in k BitOr a b = Ok (from_bits k (bit_or (bits_in k a) (bits_in k b)))

abbrev pub is_shift : Binary → Bool
is_shift Shl = true
is_shift Shr = true
is_shift op = false

abbrev pub is_comparison : Binary → Bool
is_comparison Lt = true
is_comparison Le = true
is_comparison Gt = true
is_comparison Ge = true
is_comparison Eq = true
is_comparison Ne = true
is_comparison op = false

-- a shift works in the kind of its left side and takes the number of its right side; for another operator both sides are
-- converted to their joint kind
abbrev pub binary_of : Binary → Value → Value → Answer
binary_of op a b =
    let k = joint (kind_of a) (kind_of b) in
    if is_shift op then binary_in (kind_of a) op (number_of a) (number_of b) else binary_in k op (reduced k (number_of a)) (reduced k (number_of b))

abbrev pub unary_of : Unary → Value → Answer
unary_of Neg v = exact_in (kind_of v) (neg_ℤ (number_of v))
unary_of Not v = Ok (from_bits (kind_of v) (2 ^ bits_of (kind_of v) - 1 - bits_in (kind_of v) (number_of v)))
unary_of LogNot v = Ok (truth (not (is_true v)))

-- the kind of an operator's value, from the kinds of its sides
abbrev pub binary_kind : Binary → Kind → Kind → Kind
binary_kind op a b = if is_comparison op then kind.Int else (if is_shift op then a else joint a b)

abbrev pub unary_kind : Unary → Kind → Kind
unary_kind LogNot k = kind.Int
unary_kind op k = k
