-- The elements of data: numbers of a kind, as words.
use Rattle.std.specs.Prelude.{ℕ, zero, suc, ◌+◌, ◌==◌, if◌then◌else◌, List, [], ◌∷◌, ℤ, pos, negsuc, Option, Some, None, option_map}
use Rattle.std.specs.Fmt.{signed_decimal}
use Rattle.species_decimal.specs.Number.{number_of as written_as}
use Rattle.species_ast.specs.declared.tree.Kind.{Kind}
use Rattle.species_ast.specs.declared.tree.Kind.TheVariants as kind
use Rattle.species_ast.specs.declared.tree.Value.{Value}
use Rattle.species_ast.specs.Operators.{number_of, in_kind}

-- a value as it is written: its number, without a suffix
abbrev pub value_text : Value → List ℕ
value_text v = signed_decimal (number_of v)

-- the number whose size stands behind a `-`; there is none of size 0
abbrev pub below_zero : Option ℕ → Option ℤ
below_zero None = None
below_zero (Some zero) = None
below_zero (Some (suc n)) = Some (negsuc n)

-- the number of at most `most`, and at least `-most - 1`, that is written as this word
abbrev pub signed_of : ℕ → List ℕ → Option ℤ
signed_of most [] = None
signed_of most (b ∷ digits) =
    if b == 45 then below_zero (written_as (most + 1) digits) else option_map pos (written_as most (b ∷ digits))

-- the number of a kind that is written as this word
abbrev pub integer_of : Kind → List ℕ → Option ℤ
integer_of kind.Int word = signed_of 2147483647 word
integer_of kind.Unsigned word = option_map pos (written_as 4294967295 word)
integer_of kind.Long word = signed_of 9223372036854775807 word
integer_of kind.UnsignedLong word = option_map pos (written_as 18446744073709551615 word)

abbrev pub element_of : Kind → List ℕ → Option Value
element_of k word = option_map (in_kind k) (integer_of k word)
