-- Small texts and their tokens, worked out by hand and checked by computation.
use Rattle.std.proofs.Common.{◌≡◌, refl, ℕ, List, [], ◌∷◌, map}
use Rattle.std.specs.Prelude.{codes, Option, Some, None, pos}
use Rattle.species_ast.specs.Token.{Token}
use Rattle.species_ast.specs.declared.tree.Value.TheVariants as value
use Rattle.species_ast.specs.declared.tree.Schedule.{Schedule}
use Rattle.species_ast.specs.declared.tree.Schedule.TheVariants as schedule
use Rattle.species_ast.specs.declared.token.TokenKind.TheVariants as kind
use Rattle.species_ast.specs.declared.token.LexRefusal.{LexRefusal}
use Rattle.species_ast.specs.declared.token.LexRefusal.TheVariants as refusal
use Rattle.species_ast.specs.Text.Words.{punctuators}
use Rattle.species_ast.specs.Text.Numbers.{literal_of}
use Rattle.species_ast.specs.Text.Pragmas.{openmp_of}
use Rattle.species_ast.specs.Text.Directives.{form_of}
use Rattle.species_ast.specs.Text.Pieces.{piece_of}
use Rattle.species_ast.specs.Text.Stream.{TokenStream, stream_of, grammar_tokens}
use Rattle.species_ast.specs.Text.Load.{no_load, first_above}

abbrev name : ℕ → List ℕ → Token
name place text = record { place = place; text = text; kind = kind.Name }

abbrev key : ℕ → List ℕ → Token
key place text = record { place = place; text = text; kind = kind.Keyword }

abbrev mark : ℕ → List ℕ → Token
mark place text = record { place = place; text = text; kind = kind.Punct }

abbrev int : ℕ → List ℕ → ℕ → Token
int place text n = record { place = place; text = text; kind = kind.Number (value.Int (pos n)) }

abbrev unsigned : ℕ → List ℕ → ℕ → Token
unsigned place text n = record { place = place; text = text; kind = kind.Number (value.Unsigned n) }

abbrev all : List Token → TokenStream
all ts = record { tokens = ts; refusal = None }

abbrev up_to : List Token → LexRefusal → TokenStream
up_to ts r = record { tokens = ts; refusal = Some r }

abbrev define : ℕ → List ℕ → ℕ → Token
define place text n = record { place = place; text = text; kind = kind.Define (value.Int (pos n)) }

abbrev include : ℕ → List ℕ → Token
include place text = record { place = place; text = text; kind = kind.Include }

abbrev species : ℕ → List ℕ → Token
species place text = record { place = place; text = text; kind = kind.Species }

abbrev parallel : ℕ → List ℕ → ℕ → Schedule → Token
parallel place text depth s = record { place = place; text = text; kind = kind.Parallel depth s }

abbrev atomic : ℕ → List ℕ → Token
atomic place text = record { place = place; text = text; kind = kind.Atomic }

-- ---- numbers

-- the literals at the ends of each row, and those that are none
decimal_literals : map literal_of (
    codes "2147483647" ∷ codes "2147483648" ∷ codes "4294967295u" ∷ codes "4294967296U" ∷
    codes "2147483648ll" ∷ codes "9223372036854775807LL" ∷ codes "9223372036854775808ll" ∷
    codes "9223372036854775808ull" ∷ codes "18446744073709551615LLu" ∷ codes "18446744073709551616ULL" ∷ [])
    ≡ Some (value.Int (pos 2147483647)) ∷ None ∷ Some (value.Unsigned 4294967295) ∷ None ∷
    Some (value.Long (pos 2147483648)) ∷ Some (value.Long (pos 9223372036854775807)) ∷ None ∷
    Some (value.UnsignedLong 9223372036854775808) ∷ Some (value.UnsignedLong 18446744073709551615) ∷ None ∷ []
unfolding literal_of
decimal_literals = refl

hexadecimal_literals : map literal_of (
    codes "0x7FFFFFFF" ∷ codes "0x80000000" ∷ codes "0xFFFFFFFF" ∷ codes "0x100000000" ∷ codes "0X1u" ∷ codes "0x80000000ll" ∷
    codes "0x7fffffffffffffffLL" ∷ codes "0x8000000000000000ll" ∷ codes "0xFFFFFFFFFFFFFFFFll" ∷ codes "0x10000000000000000ll" ∷
    codes "0xffffffffffffffffllU" ∷ codes "0x10000000000000000Ull" ∷ [])
    ≡ Some (value.Int (pos 2147483647)) ∷ Some (value.Unsigned 2147483648) ∷ Some (value.Unsigned 4294967295) ∷ None ∷ Some (value.Unsigned 1) ∷ Some (value.Long (pos 2147483648)) ∷
    Some (value.Long (pos 9223372036854775807)) ∷ Some (value.UnsignedLong 9223372036854775808) ∷ Some (value.UnsignedLong 18446744073709551615) ∷ None ∷
    Some (value.UnsignedLong 18446744073709551615) ∷ None ∷ []
unfolding literal_of
hexadecimal_literals = refl

no_suffixes : map literal_of (
    codes "1lL" ∷ codes "1Ll" ∷ codes "1l" ∷ codes "1L" ∷ codes "1lll" ∷ codes "1uu" ∷ codes "1lul" ∷ codes "1ulLL" ∷ codes "1u0" ∷ codes "0xll" ∷ codes "01ll" ∷ [])
    ≡ None ∷ None ∷ None ∷ None ∷ None ∷ None ∷ None ∷ None ∷ None ∷ None ∷ None ∷ []
unfolding literal_of
no_suffixes = refl

exponent_run : stream_of (codes "0xE+1") ≡ up_to [] (refusal.BadNumber 0)
unfolding piece_of literal_of form_of openmp_of punctuators
exponent_run = refl

exponent_apart : stream_of (codes "0xE + 1") ≡ all (int 0 (codes "0xE") 14 ∷ mark 4 (codes "+") ∷ int 6 (codes "1") 1 ∷ [])
unfolding piece_of literal_of form_of openmp_of punctuators
exponent_apart = refl

exponent_decimal : stream_of (codes "1e+5") ≡ up_to [] (refusal.BadNumber 0)
unfolding piece_of literal_of form_of openmp_of punctuators
exponent_decimal = refl

exponent_binary : stream_of (codes "x=0xp-1") ≡ up_to (name 0 (codes "x") ∷ mark 1 (codes "=") ∷ []) (refusal.BadNumber 2)
unfolding piece_of literal_of form_of openmp_of punctuators
exponent_binary = refl

suffix_then_minus : stream_of (codes "5u-1") ≡ all (unsigned 0 (codes "5u") 5 ∷ mark 2 (codes "-") ∷ int 3 (codes "1") 1 ∷ [])
unfolding piece_of literal_of form_of openmp_of punctuators
suffix_then_minus = refl

zero : stream_of (codes "0") ≡ all (int 0 (codes "0") 0 ∷ [])
unfolding piece_of literal_of form_of openmp_of punctuators
zero = refl

octal : stream_of (codes "017") ≡ up_to [] (refusal.BadNumber 0)
unfolding piece_of literal_of form_of openmp_of punctuators
octal = refl

two_zeros : stream_of (codes "00") ≡ up_to [] (refusal.BadNumber 0)
unfolding piece_of literal_of form_of openmp_of punctuators
two_zeros = refl

zero_unsigned : stream_of (codes "0u") ≡ all (unsigned 0 (codes "0u") 0 ∷ [])
unfolding piece_of literal_of form_of openmp_of punctuators
zero_unsigned = refl

largest_int : stream_of (codes "2147483647") ≡ all (int 0 (codes "2147483647") 2147483647 ∷ [])
unfolding piece_of literal_of form_of openmp_of punctuators
largest_int = refl

above_int : stream_of (codes "2147483648") ≡ up_to [] (refusal.BadNumber 0)
unfolding piece_of literal_of form_of openmp_of punctuators
above_int = refl

largest_unsigned : stream_of (codes "4294967295u") ≡ all (unsigned 0 (codes "4294967295u") 4294967295 ∷ [])
unfolding piece_of literal_of form_of openmp_of punctuators
largest_unsigned = refl

above_unsigned : stream_of (codes "4294967296U") ≡ up_to [] (refusal.BadNumber 0)
unfolding piece_of literal_of form_of openmp_of punctuators
above_unsigned = refl

largest_hex_int : stream_of (codes "0x7FFFFFFF") ≡ all (int 0 (codes "0x7FFFFFFF") 2147483647 ∷ [])
unfolding piece_of literal_of form_of openmp_of punctuators
largest_hex_int = refl

hex_unsigned : stream_of (codes "0x80000000") ≡ all (unsigned 0 (codes "0x80000000") 2147483648 ∷ [])
unfolding piece_of literal_of form_of openmp_of punctuators
hex_unsigned = refl

largest_hex : stream_of (codes "0XFFFFFFFF") ≡ all (unsigned 0 (codes "0XFFFFFFFF") 4294967295 ∷ [])
unfolding piece_of literal_of form_of openmp_of punctuators
largest_hex = refl

above_hex : stream_of (codes "0x100000000") ≡ up_to [] (refusal.BadNumber 0)
unfolding piece_of literal_of form_of openmp_of punctuators
above_hex = refl

hex_suffix : stream_of (codes "0xffU") ≡ all (unsigned 0 (codes "0xffU") 255 ∷ [])
unfolding piece_of literal_of form_of openmp_of punctuators
hex_suffix = refl

hex_leading_zeros : stream_of (codes "0x000000000000000001") ≡ all (int 0 (codes "0x000000000000000001") 1 ∷ [])
unfolding piece_of literal_of form_of openmp_of punctuators
hex_leading_zeros = refl

hex_without_digits : stream_of (codes "0x") ≡ up_to [] (refusal.BadNumber 0)
unfolding piece_of literal_of form_of openmp_of punctuators
hex_without_digits = refl

hex_suffix_alone : stream_of (codes "0xu") ≡ up_to [] (refusal.BadNumber 0)
unfolding piece_of literal_of form_of openmp_of punctuators
hex_suffix_alone = refl

two_suffixes : stream_of (codes "1uu") ≡ up_to [] (refusal.BadNumber 0)
unfolding piece_of literal_of form_of openmp_of punctuators
two_suffixes = refl

long_suffix : stream_of (codes "12L") ≡ up_to [] (refusal.BadNumber 0)
unfolding piece_of literal_of form_of openmp_of punctuators
long_suffix = refl

fraction : stream_of (codes "1.5") ≡ up_to [] (refusal.BadNumber 0)
unfolding piece_of literal_of form_of openmp_of punctuators
fraction = refl

fraction_in_body : stream_of (codes "int A[4]; void k(void) { A[0] = 1.5; }") ≡ up_to (key 0 (codes "int") ∷ name 4 (codes "A") ∷ mark 5 (codes "[") ∷ int 6 (codes "4") 4 ∷ mark 7 (codes "]") ∷ mark 8 (codes ";") ∷ key 10 (codes "void") ∷ name 15 (codes "k") ∷ mark 16 (codes "(") ∷ key 17 (codes "void") ∷ mark 21 (codes ")") ∷ mark 23 (codes "{") ∷ name 25 (codes "A") ∷ mark 26 (codes "[") ∷ int 27 (codes "0") 0 ∷ mark 28 (codes "]") ∷ mark 30 (codes "=") ∷ []) (refusal.BadNumber 32)
unfolding piece_of literal_of form_of openmp_of punctuators
fraction_in_body = refl

-- ---- punctuators and words

shift_assign : stream_of (codes "a <<= b") ≡ all (name 0 (codes "a") ∷ mark 2 (codes "<<=") ∷ name 6 (codes "b") ∷ [])
unfolding piece_of literal_of form_of openmp_of punctuators
shift_assign = refl

less_apart : stream_of (codes "a < < = b") ≡ all (name 0 (codes "a") ∷ mark 2 (codes "<") ∷ mark 4 (codes "<") ∷ mark 6 (codes "=") ∷ name 8 (codes "b") ∷ [])
unfolding piece_of literal_of form_of openmp_of punctuators
less_apart = refl

shift_less_equal : stream_of (codes "a<<<=b") ≡ all (name 0 (codes "a") ∷ mark 1 (codes "<<") ∷ mark 3 (codes "<=") ∷ name 5 (codes "b") ∷ [])
unfolding piece_of literal_of form_of openmp_of punctuators
shift_less_equal = refl

three_plus : stream_of (codes "a+++b") ≡ all (name 0 (codes "a") ∷ mark 1 (codes "++") ∷ mark 3 (codes "+") ∷ name 4 (codes "b") ∷ [])
unfolding piece_of literal_of form_of openmp_of punctuators
three_plus = refl

three_minus : stream_of (codes "a---b") ≡ all (name 0 (codes "a") ∷ mark 1 (codes "--") ∷ mark 3 (codes "-") ∷ name 4 (codes "b") ∷ [])
unfolding piece_of literal_of form_of openmp_of punctuators
three_minus = refl

arrow : stream_of (codes "a->b") ≡ all (name 0 (codes "a") ∷ mark 1 (codes "-") ∷ mark 2 (codes ">") ∷ name 3 (codes "b") ∷ [])
unfolding piece_of literal_of form_of openmp_of punctuators
arrow = refl

pipes : stream_of (codes "a|||=b") ≡ all (name 0 (codes "a") ∷ mark 1 (codes "||") ∷ mark 3 (codes "|=") ∷ name 5 (codes "b") ∷ [])
unfolding piece_of literal_of form_of openmp_of punctuators
pipes = refl

not_equal : stream_of (codes "a!==b") ≡ all (name 0 (codes "a") ∷ mark 1 (codes "!=") ∷ mark 3 (codes "=") ∷ name 4 (codes "b") ∷ [])
unfolding piece_of literal_of form_of openmp_of punctuators
not_equal = refl

all_others : stream_of (codes "()[]{};,?:~^%=&") ≡ all (mark 0 (codes "(") ∷ mark 1 (codes ")") ∷ mark 2 (codes "[") ∷ mark 3 (codes "]") ∷ mark 4 (codes "{") ∷ mark 5 (codes "}") ∷ mark 6 (codes ";") ∷ mark 7 (codes ",") ∷ mark 8 (codes "?") ∷ mark 9 (codes ":") ∷ mark 10 (codes "~") ∷ mark 11 (codes "^") ∷ mark 12 (codes "%=") ∷ mark 14 (codes "&") ∷ [])
unfolding piece_of literal_of form_of openmp_of punctuators
all_others = refl

no_dot : stream_of (codes "a.b") ≡ up_to (name 0 (codes "a") ∷ []) (refusal.BadByte 1)
unfolding piece_of literal_of form_of openmp_of punctuators
no_dot = refl

no_quote : stream_of (codes "a \"b\"") ≡ up_to (name 0 (codes "a") ∷ []) (refusal.BadByte 2)
unfolding piece_of literal_of form_of openmp_of punctuators
no_quote = refl

no_at : stream_of (codes "@") ≡ up_to [] (refusal.BadByte 0)
unfolding piece_of literal_of form_of openmp_of punctuators
no_at = refl

keywords_and_names : stream_of (codes "int intx Int _Bool _bool _Static_assert static_assert") ≡ all (key 0 (codes "int") ∷ name 4 (codes "intx") ∷ name 9 (codes "Int") ∷ key 13 (codes "_Bool") ∷ name 19 (codes "_bool") ∷ key 25 (codes "_Static_assert") ∷ name 40 (codes "static_assert") ∷ [])
unfolding piece_of literal_of form_of openmp_of punctuators
keywords_and_names = refl

digits_in_names : stream_of (codes "_a1 a_9") ≡ all (name 0 (codes "_a1") ∷ name 4 (codes "a_9") ∷ [])
unfolding piece_of literal_of form_of openmp_of punctuators
digits_in_names = refl

empty : stream_of [] ≡ all []
empty = refl

blanks : stream_of (codes " \t\r\n\n") ≡ all []
unfolding piece_of literal_of form_of openmp_of punctuators
blanks = refl

-- ---- comments

open_comment : stream_of (codes "/* x") ≡ up_to [] (refusal.OpenComment 0)
unfolding piece_of literal_of form_of openmp_of punctuators
open_comment = refl

open_comment_behind : stream_of (codes "int A[4]; /* x") ≡ up_to (key 0 (codes "int") ∷ name 4 (codes "A") ∷ mark 5 (codes "[") ∷ int 6 (codes "4") 4 ∷ mark 7 (codes "]") ∷ mark 8 (codes ";") ∷ []) (refusal.OpenComment 10)
unfolding piece_of literal_of form_of openmp_of punctuators
open_comment_behind = refl

open_short : stream_of (codes "/*/") ≡ up_to [] (refusal.OpenComment 0)
unfolding piece_of literal_of form_of openmp_of punctuators
open_short = refl

closed_short : stream_of (codes "/**/") ≡ all []
unfolding piece_of literal_of form_of openmp_of punctuators
closed_short = refl

parts_names : stream_of (codes "a/* x */b") ≡ all (name 0 (codes "a") ∷ name 8 (codes "b") ∷ [])
unfolding piece_of literal_of form_of openmp_of punctuators
parts_names = refl

first_end : stream_of (codes "/* a /* b */ c") ≡ all (name 13 (codes "c") ∷ [])
unfolding piece_of literal_of form_of openmp_of punctuators
first_end = refl

line_comment : stream_of (codes "a//b\nc") ≡ all (name 0 (codes "a") ∷ name 5 (codes "c") ∷ [])
unfolding piece_of literal_of form_of openmp_of punctuators
line_comment = refl

line_comment_last : stream_of (codes "a // b") ≡ all (name 0 (codes "a") ∷ [])
unfolding piece_of literal_of form_of openmp_of punctuators
line_comment_last = refl

slashes_apart : stream_of (codes "a / /b") ≡ all (name 0 (codes "a") ∷ mark 2 (codes "/") ∷ mark 4 (codes "/") ∷ name 5 (codes "b") ∷ [])
unfolding piece_of literal_of form_of openmp_of punctuators
slashes_apart = refl

splice : stream_of (codes "a\\\nb") ≡ up_to (name 0 (codes "a") ∷ []) (refusal.BadByte 1)
unfolding piece_of literal_of form_of openmp_of punctuators
splice = refl

backslash : stream_of (codes "a \\ b") ≡ up_to (name 0 (codes "a") ∷ []) (refusal.BadByte 2)
unfolding piece_of literal_of form_of openmp_of punctuators
backslash = refl

splice_in_comment : stream_of (codes "/* \\\n */a") ≡ all (name 8 (codes "a") ∷ [])
unfolding piece_of literal_of form_of openmp_of punctuators
splice_in_comment = refl

splice_in_line_comment : stream_of (codes "// x \\\na") ≡ up_to [] (refusal.BadByte 5)
unfolding piece_of literal_of form_of openmp_of punctuators
splice_in_line_comment = refl

return_splice_in_line_comment : stream_of (codes "// x \\\r\na") ≡ up_to [] (refusal.BadByte 5)
unfolding piece_of literal_of form_of openmp_of punctuators
return_splice_in_line_comment = refl

backslash_in_line_comment : stream_of (codes "// \\ x\na") ≡ all (name 7 (codes "a") ∷ [])
unfolding piece_of literal_of form_of openmp_of punctuators
backslash_in_line_comment = refl

backslash_then_blank : stream_of (codes "// x \\ \na") ≡ all (name 8 (codes "a") ∷ [])
unfolding piece_of literal_of form_of openmp_of punctuators
backslash_then_blank = refl

backslash_last : stream_of (codes "// x\\") ≡ all []
unfolding piece_of literal_of form_of openmp_of punctuators
backslash_last = refl

backslash_return_last : stream_of (codes "// x\\\r") ≡ all []
unfolding piece_of literal_of form_of openmp_of punctuators
backslash_return_last = refl

-- ---- definitions

define_before_and_after : stream_of (codes "N\n#define N 8\nint A[N];") ≡ all (name 0 (codes "N") ∷ define 2 (codes "N") 8 ∷ key 14 (codes "int") ∷ name 18 (codes "A") ∷ mark 19 (codes "[") ∷ int 20 (codes "N") 8 ∷ mark 21 (codes "]") ∷ mark 22 (codes ";") ∷ [])
unfolding piece_of literal_of form_of openmp_of punctuators
define_before_and_after = refl

define_is_whole_word : stream_of (codes "#define N 1\nN1 N") ≡ all (define 0 (codes "N") 1 ∷ name 12 (codes "N1") ∷ int 15 (codes "N") 1 ∷ [])
unfolding piece_of literal_of form_of openmp_of punctuators
define_is_whole_word = refl

define_comments : stream_of (codes "# /* a */ define/**/N /* b */ 0x10 // c") ≡ all (define 0 (codes "N") 16 ∷ [])
unfolding piece_of literal_of form_of openmp_of punctuators
define_comments = refl

define_octal : stream_of (codes "#define N 017") ≡ up_to [] (refusal.BadNumber 10)
unfolding piece_of literal_of form_of openmp_of punctuators
define_octal = refl

define_exponent : stream_of (codes "#define N 0xE+1") ≡ up_to [] (refusal.BadNumber 10)
unfolding piece_of literal_of form_of openmp_of punctuators
define_exponent = refl

define_twice : stream_of (codes "#define N 1\n#define N 2") ≡ up_to (define 0 (codes "N") 1 ∷ []) (refusal.BadByte 12)
unfolding piece_of literal_of form_of openmp_of punctuators
define_twice = refl

define_twice_bad : stream_of (codes "#define N 1\n#define N 017") ≡ up_to (define 0 (codes "N") 1 ∷ []) (refusal.BadByte 12)
unfolding piece_of literal_of form_of openmp_of punctuators
define_twice_bad = refl

define_keyword : stream_of (codes "#define int 1") ≡ up_to [] (refusal.BadByte 0)
unfolding piece_of literal_of form_of openmp_of punctuators
define_keyword = refl

define_keyword_bad : stream_of (codes "#define int 017") ≡ up_to [] (refusal.BadByte 0)
unfolding piece_of literal_of form_of openmp_of punctuators
define_keyword_bad = refl

define_name : stream_of (codes "#define M 1\n#define N M") ≡ up_to (define 0 (codes "M") 1 ∷ []) (refusal.BadByte 12)
unfolding piece_of literal_of form_of openmp_of punctuators
define_name = refl

define_more : stream_of (codes "#define N 1 2") ≡ up_to [] (refusal.BadByte 0)
unfolding piece_of literal_of form_of openmp_of punctuators
define_more = refl

define_more_bad : stream_of (codes "#define N 017 2") ≡ up_to [] (refusal.BadByte 0)
unfolding piece_of literal_of form_of openmp_of punctuators
define_more_bad = refl

define_alone : stream_of (codes "#define N") ≡ up_to [] (refusal.BadByte 0)
unfolding piece_of literal_of form_of openmp_of punctuators
define_alone = refl

define_macro : stream_of (codes "#define N(x) 1") ≡ up_to [] (refusal.BadByte 0)
unfolding piece_of literal_of form_of openmp_of punctuators
define_macro = refl

define_sign : stream_of (codes "#define N -1") ≡ up_to [] (refusal.BadByte 0)
unfolding piece_of literal_of form_of openmp_of punctuators
define_sign = refl

define_open : stream_of (codes "#define N /* x") ≡ up_to [] (refusal.OpenComment 10)
unfolding piece_of literal_of form_of openmp_of punctuators
define_open = refl

define_bad_open : stream_of (codes "#define N 017 /* x") ≡ up_to [] (refusal.OpenComment 14)
unfolding piece_of literal_of form_of openmp_of punctuators
define_bad_open = refl

define_splice : stream_of (codes "#define N 1 \\\n") ≡ up_to [] (refusal.BadByte 0)
unfolding piece_of literal_of form_of openmp_of punctuators
define_splice = refl

define_comment_splice : stream_of (codes "#define N 1 // \\\n") ≡ up_to [] (refusal.BadByte 15)
unfolding piece_of literal_of form_of openmp_of punctuators
define_comment_splice = refl

define_bad_comment_splice : stream_of (codes "#define N 017 // \\\n") ≡ up_to [] (refusal.BadNumber 10)
unfolding piece_of literal_of form_of openmp_of punctuators
define_bad_comment_splice = refl

define_not_in_pragma : stream_of (codes "#define N 1\n#pragma species N") ≡ all (define 0 (codes "N") 1 ∷ species 12 (codes "N") ∷ [])
unfolding piece_of literal_of form_of openmp_of punctuators
define_not_in_pragma = refl

-- ---- other directives

hash_alone : stream_of (codes "#\na") ≡ all (name 2 (codes "a") ∷ [])
unfolding piece_of literal_of form_of openmp_of punctuators
hash_alone = refl

hash_comment : stream_of (codes " # // x") ≡ all []
unfolding piece_of literal_of form_of openmp_of punctuators
hash_comment = refl

hash_splice : stream_of (codes "# // \\\n") ≡ up_to [] (refusal.BadByte 5)
unfolding piece_of literal_of form_of openmp_of punctuators
hash_splice = refl

hash_backslash : stream_of (codes "# \\") ≡ up_to [] (refusal.BadByte 0)
unfolding piece_of literal_of form_of openmp_of punctuators
hash_backslash = refl

hash_in_line : stream_of (codes "a #define N 1") ≡ up_to (name 0 (codes "a") ∷ []) (refusal.BadByte 2)
unfolding piece_of literal_of form_of openmp_of punctuators
hash_in_line = refl

hash_behind_comment : stream_of (codes "/* a */ #define N 1") ≡ all (define 8 (codes "N") 1 ∷ [])
unfolding piece_of literal_of form_of openmp_of punctuators
hash_behind_comment = refl

hash_behind_comment_of_lines : stream_of (codes "x /* a\n b */ #define N 1") ≡ all (name 0 (codes "x") ∷ define 13 (codes "N") 1 ∷ [])
unfolding piece_of literal_of form_of openmp_of punctuators
hash_behind_comment_of_lines = refl

hash_behind_token_and_comment : stream_of (codes "x /* a */ #define N 1") ≡ up_to (name 0 (codes "x") ∷ []) (refusal.BadByte 10)
unfolding piece_of literal_of form_of openmp_of punctuators
hash_behind_token_and_comment = refl

other_directive : stream_of (codes "#error x") ≡ up_to [] (refusal.BadByte 0)
unfolding piece_of literal_of form_of openmp_of punctuators
other_directive = refl

other_directive_open : stream_of (codes "#error /* x") ≡ up_to [] (refusal.OpenComment 7)
unfolding piece_of literal_of form_of openmp_of punctuators
other_directive_open = refl

other_directive_splice : stream_of (codes "#error x \\\ny") ≡ up_to [] (refusal.BadByte 0)
unfolding piece_of literal_of form_of openmp_of punctuators
other_directive_splice = refl

other_directive_comment_splice : stream_of (codes "#if 1 // \\\ny") ≡ up_to [] (refusal.BadByte 0)
unfolding piece_of literal_of form_of openmp_of punctuators
other_directive_comment_splice = refl

include_angle : stream_of (codes "#include <stdint.h>") ≡ all (include 0 (codes "<stdint.h>") ∷ [])
unfolding piece_of literal_of form_of openmp_of punctuators
include_angle = refl

include_quoted : stream_of (codes "#include \"a//b\" // c") ≡ all (include 0 (codes "\"a//b\"") ∷ [])
unfolding piece_of literal_of form_of openmp_of punctuators
include_quoted = refl

include_backslash : stream_of (codes "#include <a\\b>") ≡ all (include 0 (codes "<a\\b>") ∷ [])
unfolding piece_of literal_of form_of openmp_of punctuators
include_backslash = refl

include_empty : stream_of (codes "#include<>") ≡ all (include 0 (codes "<>") ∷ [])
unfolding piece_of literal_of form_of openmp_of punctuators
include_empty = refl

include_comments : stream_of (codes "# /* a */ include /* b */ <c> /* d */ ") ≡ all (include 0 (codes "<c>") ∷ [])
unfolding piece_of literal_of form_of openmp_of punctuators
include_comments = refl

include_more : stream_of (codes "#include <a> x") ≡ up_to [] (refusal.BadByte 0)
unfolding piece_of literal_of form_of openmp_of punctuators
include_more = refl

include_second_end : stream_of (codes "#include <a>b>") ≡ up_to [] (refusal.BadByte 0)
unfolding piece_of literal_of form_of openmp_of punctuators
include_second_end = refl

include_open : stream_of (codes "#include <a> /* x") ≡ up_to [] (refusal.BadByte 0)
unfolding piece_of literal_of form_of openmp_of punctuators
include_open = refl

include_open_before : stream_of (codes "#include /* <a>") ≡ up_to [] (refusal.BadByte 0)
unfolding piece_of literal_of form_of openmp_of punctuators
include_open_before = refl

include_open_word : stream_of (codes "# /* include <a>") ≡ up_to [] (refusal.OpenComment 2)
unfolding piece_of literal_of form_of openmp_of punctuators
include_open_word = refl

include_unclosed : stream_of (codes "#include <a\n>") ≡ up_to [] (refusal.BadByte 0)
unfolding piece_of literal_of form_of openmp_of punctuators
include_unclosed = refl

include_word : stream_of (codes "#include a") ≡ up_to [] (refusal.BadByte 0)
unfolding piece_of literal_of form_of openmp_of punctuators
include_word = refl

include_comment_splice : stream_of (codes "#include <a> // x \\\n") ≡ up_to [] (refusal.BadByte 18)
unfolding piece_of literal_of form_of openmp_of punctuators
include_comment_splice = refl

included : stream_of (codes "#includes <a>") ≡ up_to [] (refusal.BadByte 0)
unfolding piece_of literal_of form_of openmp_of punctuators
included = refl

-- ---- pragmas

pragma_alone : stream_of (codes "#pragma") ≡ all []
unfolding piece_of literal_of form_of openmp_of punctuators
pragma_alone = refl

pragma_scop : stream_of (codes "#pragma scop\na") ≡ all (name 13 (codes "a") ∷ [])
unfolding piece_of literal_of form_of openmp_of punctuators
pragma_scop = refl

parallel_plain : stream_of (codes "#pragma omp parallel for") ≡ all (parallel 0 (codes "#pragma omp parallel for") 1 schedule.Static ∷ [])
unfolding piece_of literal_of form_of openmp_of punctuators
parallel_plain = refl

parallel_full : stream_of (codes "#pragma omp parallel for collapse(2) schedule(static, 64)") ≡ all (parallel 0 (codes "#pragma omp parallel for collapse(2) schedule(static, 64)") 2 (schedule.StaticBy 64) ∷ [])
unfolding piece_of literal_of form_of openmp_of punctuators
parallel_full = refl

parallel_joined : stream_of (codes "#pragma omp parallel for collapse(2)schedule(static)") ≡ all (parallel 0 (codes "#pragma omp parallel for collapse(2)schedule(static)") 2 schedule.Static ∷ [])
unfolding piece_of literal_of form_of openmp_of punctuators
parallel_joined = refl

parallel_spread : stream_of (codes "#pragma omp parallel for  collapse ( 0x8 )/**/schedule\t(dynamic /* x */ ,4)// y") ≡ all (parallel 0 (codes "#pragma omp parallel for  collapse ( 0x8 )/**/schedule\t(dynamic /* x */ ,4)// y") 8 (schedule.DynamicBy 4) ∷ [])
unfolding piece_of literal_of form_of openmp_of punctuators
parallel_spread = refl

parallel_guided : stream_of (codes "#pragma omp parallel for schedule(guided)") ≡ all (parallel 0 (codes "#pragma omp parallel for schedule(guided)") 1 schedule.Guided ∷ [])
unfolding piece_of literal_of form_of openmp_of punctuators
parallel_guided = refl

parallel_skipped_one : stream_of (codes "#pragma omp parallel for collapse(1)") ≡ all []
unfolding piece_of literal_of form_of openmp_of punctuators
parallel_skipped_one = refl

parallel_skipped_nine : stream_of (codes "#pragma omp parallel for collapse(9)") ≡ all []
unfolding piece_of literal_of form_of openmp_of punctuators
parallel_skipped_nine = refl

parallel_skipped_unsigned : stream_of (codes "#pragma omp parallel for collapse(2u)") ≡ all []
unfolding piece_of literal_of form_of openmp_of punctuators
parallel_skipped_unsigned = refl

parallel_skipped_no_chunk : stream_of (codes "#pragma omp parallel for schedule(dynamic)") ≡ all []
unfolding piece_of literal_of form_of openmp_of punctuators
parallel_skipped_no_chunk = refl

parallel_skipped_zero_chunk : stream_of (codes "#pragma omp parallel for schedule(static, 0)") ≡ all []
unfolding piece_of literal_of form_of openmp_of punctuators
parallel_skipped_zero_chunk = refl

parallel_skipped_guided_chunk : stream_of (codes "#pragma omp parallel for schedule(guided, 2)") ≡ all []
unfolding piece_of literal_of form_of openmp_of punctuators
parallel_skipped_guided_chunk = refl

parallel_skipped_order : stream_of (codes "#pragma omp parallel for schedule(static) collapse(2)") ≡ all []
unfolding piece_of literal_of form_of openmp_of punctuators
parallel_skipped_order = refl

parallel_skipped_comma : stream_of (codes "#pragma omp parallel for collapse(2), schedule(static)") ≡ all []
unfolding piece_of literal_of form_of openmp_of punctuators
parallel_skipped_comma = refl

parallel_skipped_clause : stream_of (codes "#pragma omp parallel for nowait") ≡ all []
unfolding piece_of literal_of form_of openmp_of punctuators
parallel_skipped_clause = refl

parallel_skipped_suffix : stream_of (codes "#pragma omp parallel forx") ≡ all []
unfolding piece_of literal_of form_of openmp_of punctuators
parallel_skipped_suffix = refl

parallel_skipped_twice : stream_of (codes "#pragma omp parallel for collapse(2) collapse(2)") ≡ all []
unfolding piece_of literal_of form_of openmp_of punctuators
parallel_skipped_twice = refl

parallelfor : stream_of (codes "#pragma omp parallelfor") ≡ all []
unfolding piece_of literal_of form_of openmp_of punctuators
parallelfor = refl

parallel_alone : stream_of (codes "#pragma omp parallel") ≡ all []
unfolding piece_of literal_of form_of openmp_of punctuators
parallel_alone = refl

pragma_omp_comments : stream_of (codes "#pragma/**/omp/**/parallel/**/for") ≡ all (parallel 0 (codes "#pragma/**/omp/**/parallel/**/for") 1 schedule.Static ∷ [])
unfolding piece_of literal_of form_of openmp_of punctuators
pragma_omp_comments = refl

atomic_update : stream_of (codes "#pragma omp atomic update") ≡ all (atomic 0 (codes "#pragma omp atomic update") ∷ [])
unfolding piece_of literal_of form_of openmp_of punctuators
atomic_update = refl

atomic_alone : stream_of (codes "#pragma omp atomic") ≡ all []
unfolding piece_of literal_of form_of openmp_of punctuators
atomic_alone = refl

atomic_more : stream_of (codes "#pragma omp atomic update x") ≡ all []
unfolding piece_of literal_of form_of openmp_of punctuators
atomic_more = refl

parallel_splice : stream_of (codes "#pragma omp parallel for \\\n") ≡ up_to [] (refusal.BadByte 25)
unfolding piece_of literal_of form_of openmp_of punctuators
parallel_splice = refl

parallel_comment_splice : stream_of (codes "#pragma omp parallel for // \\\n") ≡ up_to [] (refusal.BadByte 28)
unfolding piece_of literal_of form_of openmp_of punctuators
parallel_comment_splice = refl

skipped_backslash : stream_of (codes "#pragma x \\ y") ≡ up_to [] (refusal.BadByte 10)
unfolding piece_of literal_of form_of openmp_of punctuators
skipped_backslash = refl

skipped_comment_backslash : stream_of (codes "#pragma x /* \\ */") ≡ all []
unfolding piece_of literal_of form_of openmp_of punctuators
skipped_comment_backslash = refl

skipped_open : stream_of (codes "#pragma x \\ /* y") ≡ up_to [] (refusal.OpenComment 12)
unfolding piece_of literal_of form_of openmp_of punctuators
skipped_open = refl

species_line : stream_of (codes "#pragma species A[0:3]|element at (i) exact -> B") ≡ all (species 0 (codes "A[0:3]|element at (i) exact -> B") ∷ [])
unfolding piece_of literal_of form_of openmp_of punctuators
species_line = refl

species_comments : stream_of (codes "#pragma species /* u */ a /* v */ b /* w */ // x") ≡ all (species 0 (codes "a /* v */ b") ∷ [])
unfolding piece_of literal_of form_of openmp_of punctuators
species_comments = refl

species_close : stream_of (codes "#pragma species|A") ≡ all (species 0 (codes "|A") ∷ [])
unfolding piece_of literal_of form_of openmp_of punctuators
species_close = refl

species_word : stream_of (codes "#pragma speciesA") ≡ all []
unfolding piece_of literal_of form_of openmp_of punctuators
species_word = refl

species_alone : stream_of (codes "#pragma species") ≡ all []
unfolding piece_of literal_of form_of openmp_of punctuators
species_alone = refl

species_comment_alone : stream_of (codes "#pragma species /* x */") ≡ all []
unfolding piece_of literal_of form_of openmp_of punctuators
species_comment_alone = refl

endkernel : stream_of (codes "#pragma species endkernel") ≡ all []
unfolding piece_of literal_of form_of openmp_of punctuators
endkernel = refl

endkernel_more : stream_of (codes "#pragma species endkernel x") ≡ all []
unfolding piece_of literal_of form_of openmp_of punctuators
endkernel_more = refl

endkernel_array : stream_of (codes "#pragma species endkernel[") ≡ all (species 0 (codes "endkernel[") ∷ [])
unfolding piece_of literal_of form_of openmp_of punctuators
endkernel_array = refl

endkernel_array_apart : stream_of (codes "#pragma species endkernel /* x */ [0]") ≡ all (species 0 (codes "endkernel /* x */ [0]") ∷ [])
unfolding piece_of literal_of form_of openmp_of punctuators
endkernel_array_apart = refl

endkernels : stream_of (codes "#pragma species endkernels") ≡ all (species 0 (codes "endkernels") ∷ [])
unfolding piece_of literal_of form_of openmp_of punctuators
endkernels = refl

species_backslash : stream_of (codes "#pragma species A \\ B") ≡ up_to [] (refusal.BadByte 18)
unfolding piece_of literal_of form_of openmp_of punctuators
species_backslash = refl

species_comment_backslash : stream_of (codes "#pragma species A /* \\ */ B") ≡ all (species 0 (codes "A /* \\ */ B") ∷ [])
unfolding piece_of literal_of form_of openmp_of punctuators
species_comment_backslash = refl

-- ---- together

users_file : stream_of (codes "#include <stdint.h>\n/* blur */\n#define N 6\nstatic int a[N];\n#pragma scop\n  N\n") ≡ all (include 0 (codes "<stdint.h>") ∷ define 31 (codes "N") 6 ∷ key 43 (codes "static") ∷ key 50 (codes "int") ∷ name 54 (codes "a") ∷ mark 55 (codes "[") ∷ int 56 (codes "N") 6 ∷ mark 57 (codes "]") ∷ mark 58 (codes ";") ∷ int 75 (codes "N") 6 ∷ [])
unfolding piece_of literal_of form_of openmp_of punctuators
users_file = refl

-- ---- the load, with small limits

-- the first token with which the load of a text is above a limit
abbrev above : ℕ → List ℕ → Option ℕ
above most text = first_above most no_load (grammar_tokens (stream_of text).tokens)

load_of_words : above 2 (codes "x y z") ≡ Some 4
unfolding piece_of literal_of form_of openmp_of punctuators
load_of_words = refl

load_of_statements : above 3 (codes "x y ; z w ;") ≡ None
unfolding piece_of literal_of form_of openmp_of punctuators
load_of_statements = refl

load_in_brackets : above 4 (codes "f ( ; ; ) y") ≡ Some 8
unfolding piece_of literal_of form_of openmp_of punctuators
load_in_brackets = refl

load_in_block : above 2 (codes "{ x ; y ; }") ≡ Some 4
unfolding piece_of literal_of form_of openmp_of punctuators
load_in_block = refl

load_behind_block : above 3 (codes "{ x ; y ; } z w x") ≡ None
unfolding piece_of literal_of form_of openmp_of punctuators
load_behind_block = refl

load_before_else : above 3 (codes "x ; else y ;") ≡ Some 9
unfolding piece_of literal_of form_of openmp_of punctuators
load_before_else = refl

load_stray_bracket : above 3 (codes ") x ; y z") ≡ None
unfolding piece_of literal_of form_of openmp_of punctuators
load_stray_bracket = refl

load_block_in_brackets : above 3 (codes "( { x } ; y") ≡ Some 6
unfolding piece_of literal_of form_of openmp_of punctuators
load_block_in_brackets = refl

load_stray_brace : above 2 (codes "} } x y") ≡ None
unfolding piece_of literal_of form_of openmp_of punctuators
load_stray_brace = refl

load_brace_before_else : above 2 (codes "} else x") ≡ Some 7
unfolding piece_of literal_of form_of openmp_of punctuators
load_brace_before_else = refl

load_nested : above 3 (codes "{ { x ; } y }") ≡ Some 6
unfolding piece_of literal_of form_of openmp_of punctuators
load_nested = refl

load_definitions : above 1 (codes "#define N 1\n#define M 1\nx") ≡ None
unfolding piece_of literal_of form_of openmp_of punctuators
load_definitions = refl

load_semicolon_in_brackets : above 2 (codes "( } ; x y") ≡ Some 8
unfolding piece_of literal_of form_of openmp_of punctuators
load_semicolon_in_brackets = refl
