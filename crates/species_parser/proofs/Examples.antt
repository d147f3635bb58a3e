-- Small programs and the units that they derive. Places are those of the text that stands above each.
use Rattle.std.proofs.Common.{ℕ, List, [], ◌∷◌, Some, None, true, false, refl}
use Rattle.std.specs.Prelude.{codes, pos}
use Prim.Native.String.{String}
use Rattle.species_ast.specs.Token.{Token}
use Rattle.species_ast.specs.Spelling.{Spelling}
use Rattle.species_ast.specs.Grammar.Words.{punctuator, keyword, name, number, include, species, parallel, atomic}
use Rattle.species_ast.specs.Grammar.Expressions.{expression, target}
use Rattle.species_ast.specs.Grammar.Declarations.{statement}
use Rattle.species_ast.specs.Grammar.Statements.{loop}
use Rattle.species_ast.specs.Grammar.Units.{Derives}
use Rattle.species_ast.specs.declared.tree.Kind.TheVariants as kind
use Rattle.species_ast.specs.declared.tree.Value.TheVariants as value
use Rattle.species_ast.specs.declared.tree.Binary.{Binary}
use Rattle.species_ast.specs.declared.tree.Binary.TheVariants as binary
use Rattle.species_ast.specs.declared.tree.Test.TheVariants as test
use Rattle.species_ast.specs.declared.tree.Schedule.TheVariants as schedule
use Rattle.species_ast.specs.declared.raw.RawUnary.{RawUnary}
use Rattle.species_ast.specs.declared.raw.RawUnary.TheVariants as unary
use Rattle.species_ast.specs.declared.raw.RawOp.TheVariants as op
use Rattle.species_ast.specs.declared.raw.RawChange.TheVariants as change
use Rattle.species_ast.specs.declared.raw.RawStep.TheVariants as step
use Rattle.species_ast.specs.declared.raw.RawItem.TheVariants as item
use Rattle.species_ast.specs.declared.raw.RawUnit.{RawUnit}
use Rattle.species_ast.specs.declared.raw.RawStmt.{RawStmt}
use Rattle.species_ast.specs.declared.raw.RawExpr.{RawExpr}
use Rattle.species_ast.specs.declared.raw.RawTarget.{RawTarget}
use Rattle.species_ast.specs.declared.raw.RawTarget as targets
use Rattle.species_ast.specs.declared.raw.RawTerm.TheVariants as term
use Rattle.species_ast.specs.declared.raw.RawWhat.TheVariants as what
use Rattle.species_parser.specs.Reading.{long_words, unsigned_tail, type_reader}
use Rattle.species_parser.proofs.Whole.{read_derives}

abbrev at : ℕ → String → Spelling
at p s = record { text = codes s; place = p }

abbrev digits : ℕ → String → ℕ → Token
digits p s v = number (at p s) (value.Int (pos v))

-- ---- short words for trees

abbrev lit : ℕ → ℕ → RawExpr
lit p v = expression p (term.Number (value.Int (pos v)))

abbrev var : ℕ → String → RawExpr
var p s = expression p (term.Target (target (at p s) []))

abbrev bin : ℕ → Binary → RawExpr → RawExpr → RawExpr
bin p o x y = expression p (term.Binary o x y)

abbrev un : ℕ → RawUnary → RawExpr → RawExpr
un p o x = expression p (term.Unary o x)

-- a name that is set
abbrev tgt : ℕ → String → RawTarget
tgt p s = target (at p s) []

-- `x = e;`
abbrev set : ℕ → String → RawExpr → RawStmt
set p s e = statement p (what.Change (change.Set (tgt p s) op.Plain e))

abbrev function : Spelling → List RawStmt → RawUnit
function f body = record { items = []; function = f; body = body }

-- int A[4], B[2][3]; static unsigned h[5]; static void f(void) { }
abbrev two_arrays_tokens : List Token
two_arrays_tokens =
    keyword 0 "int" ∷ name (at 4 "A") ∷ punctuator 5 "[" ∷ digits 6 "4" 4 ∷ punctuator 7 "]" ∷ punctuator 8 "," ∷ name (at 10 "B") ∷ punctuator 11 "[" ∷ digits 12 "2" 2 ∷
    punctuator 13 "]" ∷ punctuator 14 "[" ∷ digits 15 "3" 3 ∷ punctuator 16 "]" ∷ punctuator 17 ";" ∷ keyword 19 "static" ∷ keyword 26 "unsigned" ∷ name (at 35 "h") ∷
    punctuator 36 "[" ∷ digits 37 "5" 5 ∷ punctuator 38 "]" ∷ punctuator 39 ";" ∷ keyword 41 "static" ∷ keyword 48 "void" ∷ name (at 53 "f") ∷ punctuator 54 "(" ∷ keyword 55 "void" ∷
    punctuator 59 ")" ∷ punctuator 61 "{" ∷ punctuator 63 "}" ∷ []

abbrev two_arrays_tree : RawUnit
two_arrays_tree =
    record {
      items =
          item.Global kind.Int (record { name = at 4 "A"; sizes = lit 6 4 ∷ [] } ∷ record { name = at 10 "B"; sizes = lit 12 2 ∷ lit 15 3 ∷ [] } ∷ [])
          ∷ item.Global kind.Unsigned (record { name = at 35 "h"; sizes = lit 37 5 ∷ [] } ∷ []) ∷ [];
      function = at 53 "f";
      body = [];
    }

pub two_arrays : Derives two_arrays_tokens two_arrays_tree
unfolding targets.out-RawTarget denote.Hole.Carrier.out targets.roll-RawTarget denote.Hole.Carrier.roll type_reader unsigned_tail long_words
two_arrays = read_derives 30 two_arrays_tokens two_arrays_tree refl

-- #include <stdint.h> ⏎ void f() { ; }
abbrev an_include_tokens : List Token
an_include_tokens =
    include (at 0 "<stdint.h>") ∷ keyword 20 "void" ∷ name (at 25 "f") ∷ punctuator 26 "(" ∷ punctuator 27 ")" ∷ punctuator 29 "{" ∷ punctuator 31 ";" ∷ punctuator 33 "}" ∷ []

abbrev an_include_tree : RawUnit
an_include_tree =
    record { items = item.Include (at 0 "<stdint.h>") ∷ []; function = at 25 "f"; body = statement 31 what.Empty ∷ [] }

pub an_include : Derives an_include_tokens an_include_tree
unfolding targets.out-RawTarget denote.Hole.Carrier.out targets.roll-RawTarget denote.Hole.Carrier.roll type_reader unsigned_tail long_words
an_include = read_derives 9 an_include_tokens an_include_tree refl

-- void f() { if (a) if (b) x = 1; else x = 2; }
abbrev nearest_if_tokens : List Token
nearest_if_tokens =
    keyword 0 "void" ∷ name (at 5 "f") ∷ punctuator 6 "(" ∷ punctuator 7 ")" ∷ punctuator 9 "{" ∷ keyword 11 "if" ∷ punctuator 14 "(" ∷ name (at 15 "a") ∷ punctuator 16 ")" ∷
    keyword 18 "if" ∷ punctuator 21 "(" ∷ name (at 22 "b") ∷ punctuator 23 ")" ∷ name (at 25 "x") ∷ punctuator 27 "=" ∷ digits 29 "1" 1 ∷ punctuator 30 ";" ∷ keyword 32 "else" ∷
    name (at 37 "x") ∷ punctuator 39 "=" ∷ digits 41 "2" 2 ∷ punctuator 42 ";" ∷ punctuator 44 "}" ∷ []

abbrev nearest_if_tree : RawUnit
nearest_if_tree =
    function (at 5 "f") (statement 11 (what.If (var 15 "a") (statement 18 (what.If (var 22 "b") (set 25 "x" (lit 29 1)) (Some (set 37 "x" (lit 41 2))))) None) ∷ [])

pub nearest_if : Derives nearest_if_tokens nearest_if_tree
unfolding targets.out-RawTarget denote.Hole.Carrier.out targets.roll-RawTarget denote.Hole.Carrier.roll type_reader unsigned_tail long_words
nearest_if = read_derives 24 nearest_if_tokens nearest_if_tree refl

-- void f() { if (a) { if (b) ; } else x = 2; }
abbrev else_after_block_tokens : List Token
else_after_block_tokens =
    keyword 0 "void" ∷ name (at 5 "f") ∷ punctuator 6 "(" ∷ punctuator 7 ")" ∷ punctuator 9 "{" ∷ keyword 11 "if" ∷ punctuator 14 "(" ∷ name (at 15 "a") ∷ punctuator 16 ")" ∷
    punctuator 18 "{" ∷ keyword 20 "if" ∷ punctuator 23 "(" ∷ name (at 24 "b") ∷ punctuator 25 ")" ∷ punctuator 27 ";" ∷ punctuator 29 "}" ∷ keyword 31 "else" ∷ name (at 36 "x") ∷
    punctuator 38 "=" ∷ digits 40 "2" 2 ∷ punctuator 41 ";" ∷ punctuator 43 "}" ∷ []

abbrev else_after_block_tree : RawUnit
else_after_block_tree =
    function (at 5 "f") (statement 11 (what.If (var 15 "a") (statement 18 (what.Block (statement 20 (what.If (var 24 "b") (statement 27 what.Empty) None) ∷ []))) (Some (set 36 "x" (lit 40 2)))) ∷ [])

pub else_after_block : Derives else_after_block_tokens else_after_block_tree
unfolding targets.out-RawTarget denote.Hole.Carrier.out targets.roll-RawTarget denote.Hole.Carrier.roll type_reader unsigned_tail long_words
else_after_block = read_derives 23 else_after_block_tokens else_after_block_tree refl

-- void f() { x = - -1; }
abbrev minus_minus_tokens : List Token
minus_minus_tokens =
    keyword 0 "void" ∷ name (at 5 "f") ∷ punctuator 6 "(" ∷ punctuator 7 ")" ∷ punctuator 9 "{" ∷ name (at 11 "x") ∷ punctuator 13 "=" ∷ punctuator 15 "-" ∷ punctuator 17 "-" ∷
    digits 18 "1" 1 ∷ punctuator 19 ";" ∷ punctuator 21 "}" ∷ []

abbrev minus_minus_tree : RawUnit
minus_minus_tree =
    function (at 5 "f") (set 11 "x" (un 15 unary.Neg (un 17 unary.Neg (lit 18 1))) ∷ [])

pub minus_minus : Derives minus_minus_tokens minus_minus_tree
unfolding targets.out-RawTarget denote.Hole.Carrier.out targets.roll-RawTarget denote.Hole.Carrier.roll type_reader unsigned_tail long_words
minus_minus = read_derives 13 minus_minus_tokens minus_minus_tree refl

-- void f() { x = a - b - c; }
abbrev from_the_left_tokens : List Token
from_the_left_tokens =
    keyword 0 "void" ∷ name (at 5 "f") ∷ punctuator 6 "(" ∷ punctuator 7 ")" ∷ punctuator 9 "{" ∷ name (at 11 "x") ∷ punctuator 13 "=" ∷ name (at 15 "a") ∷ punctuator 17 "-" ∷
    name (at 19 "b") ∷ punctuator 21 "-" ∷ name (at 23 "c") ∷ punctuator 24 ";" ∷ punctuator 26 "}" ∷ []

abbrev from_the_left_tree : RawUnit
from_the_left_tree =
    function (at 5 "f") (set 11 "x" (bin 15 binary.Sub (bin 15 binary.Sub (var 15 "a") (var 19 "b")) (var 23 "c")) ∷ [])

pub from_the_left : Derives from_the_left_tokens from_the_left_tree
unfolding targets.out-RawTarget denote.Hole.Carrier.out targets.roll-RawTarget denote.Hole.Carrier.roll type_reader unsigned_tail long_words
from_the_left = read_derives 15 from_the_left_tokens from_the_left_tree refl

-- void f() { x = a ? b : c ? d : e; }
abbrev choices_tokens : List Token
choices_tokens =
    keyword 0 "void" ∷ name (at 5 "f") ∷ punctuator 6 "(" ∷ punctuator 7 ")" ∷ punctuator 9 "{" ∷ name (at 11 "x") ∷ punctuator 13 "=" ∷ name (at 15 "a") ∷ punctuator 17 "?" ∷
    name (at 19 "b") ∷ punctuator 21 ":" ∷ name (at 23 "c") ∷ punctuator 25 "?" ∷ name (at 27 "d") ∷ punctuator 29 ":" ∷ name (at 31 "e") ∷ punctuator 32 ";" ∷ punctuator 34 "}" ∷ []

abbrev choices_tree : RawUnit
choices_tree =
    function (at 5 "f") (set 11 "x" (expression 15 (term.Cond (var 15 "a") (var 19 "b") (expression 23 (term.Cond (var 23 "c") (var 27 "d") (var 31 "e"))))) ∷ [])

pub choices : Derives choices_tokens choices_tree
unfolding targets.out-RawTarget denote.Hole.Carrier.out targets.roll-RawTarget denote.Hole.Carrier.roll type_reader unsigned_tail long_words
choices = read_derives 19 choices_tokens choices_tree refl

-- void f() { x = a + b * c < d && !e || 1; }
abbrev by_level_tokens : List Token
by_level_tokens =
    keyword 0 "void" ∷ name (at 5 "f") ∷ punctuator 6 "(" ∷ punctuator 7 ")" ∷ punctuator 9 "{" ∷ name (at 11 "x") ∷ punctuator 13 "=" ∷ name (at 15 "a") ∷ punctuator 17 "+" ∷
    name (at 19 "b") ∷ punctuator 21 "*" ∷ name (at 23 "c") ∷ punctuator 25 "<" ∷ name (at 27 "d") ∷ punctuator 29 "&&" ∷ punctuator 32 "!" ∷ name (at 33 "e") ∷ punctuator 35 "||" ∷
    digits 38 "1" 1 ∷ punctuator 39 ";" ∷ punctuator 41 "}" ∷ []

abbrev by_level_tree : RawUnit
by_level_tree =
    function (at 5 "f")
    (set 11 "x" (expression 15 (term.Or (expression 15 (term.And (bin 15 binary.Lt (bin 15 binary.Add (var 15 "a") (bin 19 binary.Mul (var 19 "b") (var 23 "c"))) (var 27 "d")) (un 32 unary.LogNot (var 33 "e")))) (lit 38 1))) ∷ [])

pub by_level : Derives by_level_tokens by_level_tree
unfolding targets.out-RawTarget denote.Hole.Carrier.out targets.roll-RawTarget denote.Hole.Carrier.roll type_reader unsigned_tail long_words
by_level = read_derives 22 by_level_tokens by_level_tree refl

-- void f() { x = (unsigned int) -a >> (b); }
abbrev casts_tokens : List Token
casts_tokens =
    keyword 0 "void" ∷ name (at 5 "f") ∷ punctuator 6 "(" ∷ punctuator 7 ")" ∷ punctuator 9 "{" ∷ name (at 11 "x") ∷ punctuator 13 "=" ∷ punctuator 15 "(" ∷ keyword 16 "unsigned" ∷
    keyword 25 "int" ∷ punctuator 28 ")" ∷ punctuator 30 "-" ∷ name (at 31 "a") ∷ punctuator 33 ">>" ∷ punctuator 36 "(" ∷ name (at 37 "b") ∷ punctuator 38 ")" ∷ punctuator 39 ";" ∷
    punctuator 41 "}" ∷ []

abbrev casts_tree : RawUnit
casts_tree =
    function (at 5 "f") (set 11 "x" (bin 15 binary.Shr (expression 15 (term.Cast kind.Unsigned (un 30 unary.Neg (var 31 "a")))) (expression 36 (term.Paren (var 37 "b")))) ∷ [])

pub casts : Derives casts_tokens casts_tree
unfolding targets.out-RawTarget denote.Hole.Carrier.out targets.roll-RawTarget denote.Hole.Carrier.roll type_reader unsigned_tail long_words
casts = read_derives 20 casts_tokens casts_tree refl

-- void f() { int x = 1, y; unsigned int z; }
abbrev declarations_tokens : List Token
declarations_tokens =
    keyword 0 "void" ∷ name (at 5 "f") ∷ punctuator 6 "(" ∷ punctuator 7 ")" ∷ punctuator 9 "{" ∷ keyword 11 "int" ∷ name (at 15 "x") ∷ punctuator 17 "=" ∷ digits 19 "1" 1 ∷
    punctuator 20 "," ∷ name (at 22 "y") ∷ punctuator 23 ";" ∷ keyword 25 "unsigned" ∷ keyword 34 "int" ∷ name (at 38 "z") ∷ punctuator 39 ";" ∷ punctuator 41 "}" ∷ []

abbrev declarations_tree : RawUnit
declarations_tree =
    function (at 5 "f")
    (statement 11 (what.Declare kind.Int (record { name = at 15 "x"; init = Some (lit 19 1) } ∷ record { name = at 22 "y"; init = None } ∷ []))
    ∷ statement 25 (what.Declare kind.Unsigned (record { name = at 38 "z"; init = None } ∷ [])) ∷ [])

pub declarations : Derives declarations_tokens declarations_tree
unfolding targets.out-RawTarget denote.Hole.Carrier.out targets.roll-RawTarget denote.Hole.Carrier.roll type_reader unsigned_tail long_words
declarations = read_derives 18 declarations_tokens declarations_tree refl

-- void f() { A[i][0]++; --x; y--; ++z; x <<= 2; }
abbrev changes_tokens : List Token
changes_tokens =
    keyword 0 "void" ∷ name (at 5 "f") ∷ punctuator 6 "(" ∷ punctuator 7 ")" ∷ punctuator 9 "{" ∷ name (at 11 "A") ∷ punctuator 12 "[" ∷ name (at 13 "i") ∷ punctuator 14 "]" ∷
    punctuator 15 "[" ∷ digits 16 "0" 0 ∷ punctuator 17 "]" ∷ punctuator 18 "++" ∷ punctuator 20 ";" ∷ punctuator 22 "--" ∷ name (at 24 "x") ∷ punctuator 25 ";" ∷ name (at 27 "y") ∷
    punctuator 28 "--" ∷ punctuator 30 ";" ∷ punctuator 32 "++" ∷ name (at 34 "z") ∷ punctuator 35 ";" ∷ name (at 37 "x") ∷ punctuator 39 "<<=" ∷ digits 43 "2" 2 ∷ punctuator 44 ";" ∷
    punctuator 46 "}" ∷ []

abbrev changes_tree : RawUnit
changes_tree =
    function (at 5 "f")
    (statement 11 (what.Change (change.Up (target (at 11 "A") (var 13 "i" ∷ lit 16 0 ∷ [])))) ∷ statement 22 (what.Change (change.DownBefore (tgt 24 "x")))
    ∷ statement 27 (what.Change (change.Down (tgt 27 "y"))) ∷ statement 32 (what.Change (change.UpBefore (tgt 34 "z"))) ∷ statement 37 (what.Change (change.Set (tgt 37 "x") op.Shl (lit 43 2))) ∷ [])

pub changes : Derives changes_tokens changes_tree
unfolding targets.out-RawTarget denote.Hole.Carrier.out targets.roll-RawTarget denote.Hole.Carrier.roll type_reader unsigned_tail long_words
changes = read_derives 29 changes_tokens changes_tree refl

-- void f() { ⏎ #pragma species t ⏎ #pragma omp parallel for ⏎ for (i = 0; j < n; i = k + 2 * m) ; }
abbrev lines_before_a_loop_tokens : List Token
lines_before_a_loop_tokens =
    keyword 0 "void" ∷ name (at 5 "f") ∷ punctuator 6 "(" ∷ punctuator 7 ")" ∷ punctuator 9 "{" ∷ species (at 11 "t") ∷ parallel (at 29 "") 1 schedule.Static ∷ keyword 54 "for" ∷
    punctuator 58 "(" ∷ name (at 59 "i") ∷ punctuator 61 "=" ∷ digits 63 "0" 0 ∷ punctuator 64 ";" ∷ name (at 66 "j") ∷ punctuator 68 "<" ∷ name (at 70 "n") ∷ punctuator 71 ";" ∷
    name (at 73 "i") ∷ punctuator 75 "=" ∷ name (at 77 "k") ∷ punctuator 79 "+" ∷ digits 81 "2" 2 ∷ punctuator 83 "*" ∷ name (at 85 "m") ∷ punctuator 86 ")" ∷ punctuator 88 ";" ∷
    punctuator 90 "}" ∷ []

abbrev lines_before_a_loop_tree : RawUnit
lines_before_a_loop_tree =
    function (at 5 "f")
    (statement 54 (what.Loop (loop (Some (at 11 "t")) (Some (1, schedule.Static))
    (record { typed = false; iter = at 59 "i"; start = lit 63 0; tested = at 66 "j"; test = test.Lt; limit = var 70 "n"; step = step.SetAdd (at 73 "i") (at 77 "k") (bin 81 binary.Mul (lit 81 2) (var 85 "m")) })
    (statement 88 what.Empty))) ∷ [])

pub lines_before_a_loop : Derives lines_before_a_loop_tokens lines_before_a_loop_tree
unfolding targets.out-RawTarget denote.Hole.Carrier.out targets.roll-RawTarget denote.Hole.Carrier.roll type_reader unsigned_tail long_words
lines_before_a_loop = read_derives 28 lines_before_a_loop_tokens lines_before_a_loop_tree refl

-- void f() { for (int i = n; i >= 0; --i) x = i; }
abbrev a_typed_loop_tokens : List Token
a_typed_loop_tokens =
    keyword 0 "void" ∷ name (at 5 "f") ∷ punctuator 6 "(" ∷ punctuator 7 ")" ∷ punctuator 9 "{" ∷ keyword 11 "for" ∷ punctuator 15 "(" ∷ keyword 16 "int" ∷ name (at 20 "i") ∷
    punctuator 22 "=" ∷ name (at 24 "n") ∷ punctuator 25 ";" ∷ name (at 27 "i") ∷ punctuator 29 ">=" ∷ digits 32 "0" 0 ∷ punctuator 33 ";" ∷ punctuator 35 "--" ∷ name (at 37 "i") ∷
    punctuator 38 ")" ∷ name (at 40 "x") ∷ punctuator 42 "=" ∷ name (at 44 "i") ∷ punctuator 45 ";" ∷ punctuator 47 "}" ∷ []

abbrev a_typed_loop_tree : RawUnit
a_typed_loop_tree =
    function (at 5 "f")
    (statement 11 (what.Loop (loop None None
    (record { typed = true; iter = at 20 "i"; start = var 24 "n"; tested = at 27 "i"; test = test.Ge; limit = lit 32 0; step = step.DownBefore (at 37 "i") })
    (set 40 "x" (var 44 "i")))) ∷ [])

pub a_typed_loop : Derives a_typed_loop_tokens a_typed_loop_tree
unfolding targets.out-RawTarget denote.Hole.Carrier.out targets.roll-RawTarget denote.Hole.Carrier.roll type_reader unsigned_tail long_words
a_typed_loop = read_derives 25 a_typed_loop_tokens a_typed_loop_tree refl

-- void f() { ⏎ #pragma omp atomic update ⏎ h[x] += 1; }
abbrev an_atomic_line_tokens : List Token
an_atomic_line_tokens =
    keyword 0 "void" ∷ name (at 5 "f") ∷ punctuator 6 "(" ∷ punctuator 7 ")" ∷ punctuator 9 "{" ∷ atomic (at 11 "") ∷ name (at 37 "h") ∷ punctuator 38 "[" ∷ name (at 39 "x") ∷
    punctuator 40 "]" ∷ punctuator 42 "+=" ∷ digits 45 "1" 1 ∷ punctuator 46 ";" ∷ punctuator 48 "}" ∷ []

abbrev an_atomic_line_tree : RawUnit
an_atomic_line_tree =
    function (at 5 "f") (statement 37 (what.Atomic (target (at 37 "h") (var 39 "x" ∷ [])) (lit 45 1)) ∷ [])

pub an_atomic_line : Derives an_atomic_line_tokens an_atomic_line_tree
unfolding targets.out-RawTarget denote.Hole.Carrier.out targets.roll-RawTarget denote.Hole.Carrier.roll type_reader unsigned_tail long_words
an_atomic_line = read_derives 15 an_atomic_line_tokens an_atomic_line_tree refl
