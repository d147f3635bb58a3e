-- Operators as they are written: how each is spelled (C17 6.4.6), and how tightly it binds (C17 6.5).
use Rattle.std.specs.Prelude.{ℕ, List, [], ◌∷◌, Option, Some, None, if◌then◌else◌, codes, bytes_eq}
use Rattle.species_ast.specs.declared.tree.Binary.{Binary}
use Rattle.species_ast.specs.declared.tree.Binary.TheVariants as binary
use Rattle.species_ast.specs.declared.tree.Unary.{Unary}
use Rattle.species_ast.specs.declared.tree.Unary.TheVariants as unary
use Rattle.species_ast.specs.declared.tree.Test.{Test}
use Rattle.species_ast.specs.declared.tree.Test.TheVariants as test
use Rattle.species_ast.specs.declared.raw.RawUnary.{RawUnary}
use Rattle.species_ast.specs.declared.raw.RawUnary.TheVariants as raw_unary
use Rattle.species_ast.specs.declared.raw.RawOp.{RawOp}
use Rattle.species_ast.specs.declared.raw.RawOp.TheVariants as op

-- ---- levels of expressions, of which each has those with higher numbers among its operands

-- C17 6.5.15, where expressions begin
abbrev pub conditional_level : ℕ
conditional_level = 0

-- C17 6.5.14
abbrev pub or_level : ℕ
or_level = 1

-- C17 6.5.13
abbrev pub and_level : ℕ
and_level = 2

-- C17 6.5.5
abbrev pub multiplicative_level : ℕ
multiplicative_level = 10

-- C17 6.5.3 and 6.5.4
abbrev pub cast_level : ℕ
cast_level = 11

-- C17 6.5.1 and 6.5.2
abbrev pub primary_level : ℕ
primary_level = 12

-- C17 6.5.5 to 6.5.12
abbrev pub binary_level : Binary → ℕ
binary_level binary.Mul = multiplicative_level
binary_level binary.Div = multiplicative_level
binary_level binary.Rem = multiplicative_level
binary_level binary.Add = 9
binary_level binary.Sub = 9
binary_level binary.Shl = 8
binary_level binary.Shr = 8
binary_level binary.Lt = 7
binary_level binary.Le = 7
binary_level binary.Gt = 7
binary_level binary.Ge = 7
binary_level binary.Eq = 6
binary_level binary.Ne = 6
binary_level binary.BitAnd = 5
binary_level binary.BitXor = 4
binary_level binary.BitOr = 3

-- ---- spellings

abbrev pub binary_sign : Binary → List ℕ
binary_sign binary.Mul = codes "*"
binary_sign binary.Div = codes "/"
binary_sign binary.Rem = codes "%"
binary_sign binary.Add = codes "+"
binary_sign binary.Sub = codes "-"
binary_sign binary.Shl = codes "<<"
binary_sign binary.Shr = codes ">>"
binary_sign binary.Lt = codes "<"
binary_sign binary.Le = codes "<="
binary_sign binary.Gt = codes ">"
binary_sign binary.Ge = codes ">="
binary_sign binary.Eq = codes "=="
binary_sign binary.Ne = codes "!="
binary_sign binary.BitAnd = codes "&"
binary_sign binary.BitXor = codes "^"
binary_sign binary.BitOr = codes "|"

abbrev pub and_sign : List ℕ
and_sign = codes "&&"

abbrev pub or_sign : List ℕ
or_sign = codes "||"

abbrev pub unary_sign : Unary → List ℕ
unary_sign unary.Neg = codes "-"
unary_sign unary.Not = codes "~"
unary_sign unary.LogNot = codes "!"

-- the same, and `+`
abbrev pub raw_unary_sign : RawUnary → List ℕ
raw_unary_sign raw_unary.Neg = unary_sign unary.Neg
raw_unary_sign raw_unary.Plus = codes "+"
raw_unary_sign raw_unary.Not = unary_sign unary.Not
raw_unary_sign raw_unary.LogNot = unary_sign unary.LogNot

-- the comparisons in the header of a loop
abbrev pub test_sign : Test → List ℕ
test_sign test.Lt = binary_sign binary.Lt
test_sign test.Le = binary_sign binary.Le
test_sign test.Gt = binary_sign binary.Gt
test_sign test.Ge = binary_sign binary.Ge

-- assignments (C17 6.5.16)
abbrev pub assignment_sign : RawOp → List ℕ
assignment_sign op.Plain = codes "="
assignment_sign op.Add = codes "+="
assignment_sign op.Sub = codes "-="
assignment_sign op.Mul = codes "*="
assignment_sign op.Div = codes "/="
assignment_sign op.Rem = codes "%="
assignment_sign op.BitAnd = codes "&="
assignment_sign op.BitXor = codes "^="
assignment_sign op.BitOr = codes "|="
assignment_sign op.Shl = codes "<<="
assignment_sign op.Shr = codes ">>="

-- ---- from a spelling back to what it spells

-- the first of these that is spelled so
abbrev pub find_sign : {O : Type 0} → (O → List ℕ) → List O → List ℕ → Option O
find_sign sign [] text = None
find_sign sign (o ∷ os) text = if bytes_eq text (sign o) then Some o else find_sign sign os text

-- all of them, in any order
abbrev pub all_binary : List Binary
all_binary =
    binary.Mul ∷ binary.Div ∷ binary.Rem ∷ binary.Add ∷ binary.Sub ∷ binary.Shl ∷ binary.Shr ∷ binary.Lt ∷ binary.Le ∷ binary.Gt ∷ binary.Ge ∷ binary.Eq ∷ binary.Ne ∷ binary.BitAnd ∷ binary.BitXor ∷ binary.BitOr ∷ []

abbrev pub all_raw_unary : List RawUnary
all_raw_unary = raw_unary.Neg ∷ raw_unary.Plus ∷ raw_unary.Not ∷ raw_unary.LogNot ∷ []

abbrev pub all_tests : List Test
all_tests = test.Lt ∷ test.Le ∷ test.Gt ∷ test.Ge ∷ []

abbrev pub all_assignments : List RawOp
all_assignments = op.Plain ∷ op.Add ∷ op.Sub ∷ op.Mul ∷ op.Div ∷ op.Rem ∷ op.BitAnd ∷ op.BitXor ∷ op.BitOr ∷ op.Shl ∷ op.Shr ∷ []
