-- Number runs (C17 6.4.8) and the literals among them (C17 6.4.4.1).
use Rattle.std.specs.Prelude.{ℕ, suc, ◌-◌, ◌^◌, Bool, not, ◌||◌, ◌&&◌, ◌==◌, nat_lt, nat_eq, bytes_eq, if◌then◌else◌, List, [], ◌∷◌, length, take, drop, codes, pos, Option, Some, None, option_and_then}
use Rattle.std.specs.List.{list_any}
use Rattle.std.specs.Str.Parse.{digits_value}
use Rattle.species_ast.specs.Text.Characters.{is_digit, is_hex_digit, is_word, begins, run_of}
use Rattle.species_ast.specs.Operators.{bits_of, is_signed, in_kind}
use Rattle.species_ast.specs.declared.tree.Kind.{Kind}
use Rattle.species_ast.specs.declared.tree.Kind.TheVariants as kind
use Rattle.species_ast.specs.declared.tree.Value.{Value}

-- ---- runs: a digit, then letters, digits, `_` and `.`, and a sign directly after an exponent's letter

abbrev pub is_exponent : ℕ → Bool
is_exponent b = b == 101 || b == 69 || b == 112 || b == 80

abbrev pub is_sign : ℕ → Bool
is_sign b = b == 43 || b == 45

-- whether a run that has come to `last` goes on with `next`
abbrev pub goes_on : ℕ → ℕ → Bool
goes_on last next = is_word next || next == 46 || (is_sign next && is_exponent last)

-- how many bytes the run goes on for behind its byte `last`
abbrev pub run_more : ℕ → List ℕ → ℕ
run_more last [] = 0
run_more last (b ∷ bytes) = if goes_on last b then suc (run_more b bytes) else 0

-- ---- literals

-- what a literal may end in: `u` and `ll` in either order, each in letters of one case
abbrev pub unsigned_suffixes : List (List ℕ)
unsigned_suffixes = codes "u" ∷ codes "U" ∷ []

abbrev pub long_suffixes : List (List ℕ)
long_suffixes = codes "ll" ∷ codes "LL" ∷ []

abbrev pub unsigned_long_suffixes : List (List ℕ)
unsigned_long_suffixes = codes "ull" ∷ codes "uLL" ∷ codes "Ull" ∷ codes "ULL" ∷ codes "llu" ∷ codes "llU" ∷ codes "LLu" ∷ codes "LLU" ∷ []

abbrev pub is_one_of : List (List ℕ) → List ℕ → Bool
is_one_of words word = list_any (bytes_eq word) words

-- the kind that a literal asks for by what stands behind its digits
abbrev pub asked_kind : List ℕ → Option Kind
asked_kind suffix =
    if nat_eq (length suffix) 0 then Some kind.Int
    else if is_one_of unsigned_suffixes suffix then Some kind.Unsigned
    else if is_one_of long_suffixes suffix then Some kind.Long
    else if is_one_of unsigned_long_suffixes suffix then Some kind.UnsignedLong
    else None

-- how many of the numbers from 0 up a kind has
abbrev pub numbers_from_0 : Kind → ℕ
numbers_from_0 k = if is_signed k then 2 ^ (bits_of k - 1) else 2 ^ bits_of k

-- a literal of this number, if its kind has it
abbrev pub literal_in : Kind → ℕ → Option Value
literal_in k n = if nat_lt n (numbers_from_0 k) then Some (in_kind k (pos n)) else None

-- the unsigned kind of the same width
abbrev pub unsigned_of : Kind → Kind
unsigned_of kind.Int = kind.Unsigned
unsigned_of kind.Long = kind.UnsignedLong
unsigned_of k = k

abbrev pub or_else : {X : Type 0} → Option X → Option X → Option X
or_else (Some x) other = Some x
or_else None other = other

-- a hexadecimal literal that is too large for the kind that it asks for is unsigned
abbrev pub hex_literal : Kind → ℕ → Option Value
hex_literal k n = or_else (literal_in k n) (literal_in (unsigned_of k) n)

abbrev pub is_hex : List ℕ → Bool
is_hex run = begins (codes "0x") run || begins (codes "0X") run

-- one digit or more, of which the first is not 0, unless it is the only one: there are no octal literals
abbrev pub is_decimal : List ℕ → Bool
is_decimal digits = nat_lt 0 (length digits) && (not (begins (codes "0") digits) || length digits == 1)

abbrev pub decimal_value : List ℕ → List ℕ → Option Value
decimal_value digits suffix =
    if is_decimal digits then option_and_then (λ k. literal_in k (digits_value 10 digits)) (asked_kind suffix) else None

abbrev pub hex_value : List ℕ → List ℕ → Option Value
hex_value digits suffix =
    if nat_lt 0 (length digits) then option_and_then (λ k. hex_literal k (digits_value 16 digits)) (asked_kind suffix) else None

-- the digits at the front and what stands behind them
abbrev pub with_digits : (ℕ → Bool) → (List ℕ → List ℕ → Option Value) → List ℕ → Option Value
with_digits is_in value bytes = value (take (run_of is_in bytes) bytes) (drop (run_of is_in bytes) bytes)

-- the value of a number run that is a literal
unfoldable pub literal_of : List ℕ → Option Value
literal_of run =
    if is_hex run then with_digits is_hex_digit hex_value (drop 2 run)
    else with_digits is_digit decimal_value run
