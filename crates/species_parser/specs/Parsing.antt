-- The readers of the grammar without a bound on depth: what the parser's functions answer.
use Rattle.std.specs.Prelude.{Bool, ℕ, suc, ◌-◌, List, ◌++◌, is_some, Option, Some, None}
use Rattle.species_grammar.specs.Reader.{Answer, Reader, ◌>>=◌, is_of, one, word, nothing, both, mapped, choose, skip, maybe, maybe_word, cons_of, bound, ends, deep, repeated, closed, level_tail}
use Rattle.species_ast.specs.Signs.{multiplicative_level}
use Rattle.species_ast.specs.Token.{Token}
use Rattle.species_ast.specs.Spelling.{Spelling}
use Rattle.species_ast.specs.Grammar.Statements.{Header, target_place}
use Rattle.species_ast.specs.declared.tree.Test.{Test}
use Rattle.species_ast.specs.declared.raw.RawExpr.{RawExpr}
use Rattle.species_ast.specs.declared.raw.RawTerm.{RawTerm}
use Rattle.species_ast.specs.declared.raw.RawTarget.{RawTarget}
use Rattle.species_ast.specs.declared.raw.RawArray.{RawArray}
use Rattle.species_ast.specs.declared.raw.RawLocal.{RawLocal}
use Rattle.species_ast.specs.declared.raw.RawItem.{RawItem}
use Rattle.species_ast.specs.declared.raw.RawItem.TheVariants as items_of
use Rattle.species_ast.specs.declared.raw.RawChange.{RawChange}
use Rattle.species_ast.specs.declared.raw.RawChange.TheVariants as changes
use Rattle.species_ast.specs.declared.raw.RawStep.{RawStep}
use Rattle.species_ast.specs.declared.raw.RawStep.TheVariants as steps
use Rattle.species_ast.specs.declared.raw.RawStmt.{RawStmt}
use Rattle.species_ast.specs.declared.raw.RawUnit.{RawUnit}
use Rattle.species_parser.specs.Headers.{Tested}
use Rattle.species_parser.specs.Words.{the_punctuator, the_keyword, unary_operators, assignment_operators, operators_at, names, numbers, includes, is_the_punctuator, is_the_keyword}
use Rattle.species_parser.specs.Reading.{number_of, element_of, unary_of, opened_of, operation_of, choice_of, subscript_reader, opened_reader, levels_reader, operand_at, expression_at, target_reader, array_of, global_of, type_reader, declaration_of, up_first, down_first, optional, local_of, assignment_reader, atomic_reader, header_test_reader, loop_reader, condition_reader, if_of, item_reader, block_reader, node_reader, statement_at, function_reader, unit_reader, unit_at}

-- ---- expressions

-- an expression
unfoldable pub expression : Reader Token RawExpr
expression = deep expression_at

-- the operands of binary operators
unfoldable pub operand : Reader Token RawExpr
operand = deep operand_at

-- operators of a level and all higher ones
unfoldable pub binary : ℕ → Reader Token RawExpr
binary level = deep (λ m. levels_reader m (11 - level) (operand_at m))

-- the operators of one level that follow an operand
abbrev pub binary_tail : ℕ → RawExpr → Reader Token RawExpr
binary_tail level = level_tail operation_of (λ t. is_some (operators_at level t)) (one (operators_at level)) (binary (suc level))

-- a subscript with its brackets
unfoldable pub subscript : Reader Token RawExpr
subscript = subscript_reader expression

-- subscripts, as many as stand there
abbrev pub subscripts : Reader Token (List RawExpr)
subscripts = repeated (is_the_punctuator "[") subscript

-- what stands after a bracket
unfoldable pub opened : Reader Token RawTerm
opened = opened_reader operand expression

-- a name with its subscripts
unfoldable pub target : Reader Token RawTarget
target = target_reader subscripts

-- what an operand is read as: equal to `operand`
unfoldable pub operand_form : Reader Token RawExpr
operand_form =
    choose (is_of numbers) (mapped number_of (word numbers))
    (choose (is_of unary_operators) (mapped unary_of (both (word unary_operators) operand))
    (choose (is_the_punctuator "(") (mapped opened_of (both (word (the_punctuator "(")) opened)) (mapped element_of (both (word names) subscripts))))

-- what may stand after the condition of a conditional expression
unfoldable pub choices : Reader Token (Option (RawExpr × RawExpr))
choices = maybe (the_punctuator "?") (both expression (skip (the_punctuator ":") expression))

-- what an expression is read as: equal to `expression`
unfoldable pub expression_form : Reader Token RawExpr
expression_form = mapped choice_of (both (binary 1) choices)

-- ---- declarations

-- an array with its sizes, of which there is at least one
unfoldable pub array : Reader Token RawArray
array = mapped array_of (both (word names) (mapped cons_of (both subscript subscripts)))

-- an array after a comma
unfoldable pub next_array : Reader Token RawArray
next_array = skip (the_punctuator ",") array

-- arrays after commas
abbrev pub more_arrays : Reader Token (List RawArray)
more_arrays = repeated (is_the_punctuator ",") next_array

-- the arrays of a declaration
unfoldable pub arrays : Reader Token (List RawArray)
arrays = mapped cons_of (both array more_arrays)

-- a declaration of arrays, behind its `static`
unfoldable pub global : Reader Token RawItem
global = mapped global_of (both type_reader (ends arrays (the_punctuator ";")))

-- an initialiser, if one stands there
unfoldable pub initialiser : Reader Token (Option RawExpr)
initialiser = maybe (the_punctuator "=") expression

-- a local with its initialiser
unfoldable pub local : Reader Token RawLocal
local = mapped local_of (both (word names) initialiser)

-- a local after a comma
unfoldable pub next_local : Reader Token RawLocal
next_local = skip (the_punctuator ",") local

-- locals after commas
abbrev pub more_locals : Reader Token (List RawLocal)
more_locals = repeated (is_the_punctuator ",") next_local

-- the locals of a declaration
unfoldable pub locals : Reader Token (List RawLocal)
locals = mapped cons_of (both local more_locals)

-- a declaration in a block
unfoldable pub declaration : Reader Token RawStmt
declaration = mapped declaration_of (both type_reader (ends locals (the_punctuator ";")))

-- ---- changes

-- what stands behind a target
unfoldable pub change_behind : RawTarget → Reader Token RawChange
change_behind t =
    choose (is_the_punctuator "++") (mapped (λ p. changes.Up t) (word (the_punctuator "++")))
    (choose (is_the_punctuator "--") (mapped (λ p. changes.Down t) (word (the_punctuator "--"))) (mapped (λ p. changes.Set t p.0.1 p.1) (both (word assignment_operators) expression)))

-- a change at the place of its target
abbrev pub placed_at : RawTarget → RawChange → ℕ × RawChange
placed_at t c = (target_place t, c)

-- a change and its place
unfoldable pub change : Reader Token (ℕ × RawChange)
change =
    choose (is_the_punctuator "++") (mapped up_first (both (word (the_punctuator "++")) target))
    (choose (is_the_punctuator "--") (mapped down_first (both (word (the_punctuator "--")) target)) (bound target (λ t. mapped (placed_at t) (change_behind t))))

-- a change as a statement
unfoldable pub assignment : Reader Token RawStmt
assignment = assignment_reader change

-- an atomic addition with its pragma
unfoldable pub atomic : Reader Token RawStmt
atomic = atomic_reader target expression

-- ---- the header of a loop

-- operands joined by `*`, `/` and `%`
abbrev pub product : Reader Token RawExpr
product = binary multiplicative_level

-- what stands behind `i = j`
unfoldable pub sum_behind : Spelling → Spelling → Reader Token RawStep
sum_behind i j = choose (is_the_punctuator "+") (mapped (λ x. steps.SetAdd i j x) (skip (the_punctuator "+") product)) (mapped (λ x. steps.SetSub i j x) (skip (the_punctuator "-") product))

-- what stands behind `i`
unfoldable pub step_behind : Spelling → Reader Token RawStep
step_behind i =
    choose (is_the_punctuator "++") (mapped (λ p. steps.Up i) (word (the_punctuator "++")))
    (choose (is_the_punctuator "--") (mapped (λ p. steps.Down i) (word (the_punctuator "--")))
    (choose (is_the_punctuator "+=") (mapped (λ x. steps.AddBy i x) (skip (the_punctuator "+=") expression))
    (choose (is_the_punctuator "-=") (mapped (λ x. steps.SubBy i x) (skip (the_punctuator "-=") expression)) (skip (the_punctuator "=") (bound (word names) (sum_behind i))))))

-- one of the eight forms of a step
unfoldable pub step : Reader Token RawStep
step =
    choose (is_the_punctuator "++") (mapped steps.UpBefore (skip (the_punctuator "++") (word names)))
    (choose (is_the_punctuator "--") (mapped steps.DownBefore (skip (the_punctuator "--") (word names))) (bound (word names) step_behind))

-- what follows the start of a header, part by part
abbrev pub tested_of : Spelling × ((ℕ × Test) × (RawExpr × RawStep)) → Tested
tested_of p = record { tested = p.0; test = p.1.0.1; limit = p.1.1.0; step = p.1.1.1 }

-- `; i < e; i++)`
unfoldable pub header_test : Reader Token Tested
header_test = mapped tested_of (header_test_reader expression step)

-- the parts of a header
abbrev pub header_from : Bool × (Spelling × (RawExpr × Tested)) → Header
header_from p = record { typed = p.0; iter = p.1.0; start = p.1.1.0; tested = p.1.1.1.tested; test = p.1.1.1.test; limit = p.1.1.1.limit; step = p.1.1.1.step }

-- a header with its parentheses
unfoldable pub header : Reader Token Header
header = skip (the_punctuator "(") (mapped header_from (both (optional (the_keyword "int")) (both (word names) (skip (the_punctuator "=") (both expression header_test)))))

-- ---- statements

-- a statement
unfoldable pub statement : Reader Token RawStmt
statement = deep statement_at

-- an expression in parentheses
unfoldable pub condition : Reader Token RawExpr
condition = condition_reader expression

-- a loop with its pragmas
unfoldable pub loop_statement : Reader Token RawStmt
loop_statement = loop_reader header statement

-- what stands behind the body of an `if`
unfoldable pub otherwise : Reader Token (Option RawStmt)
otherwise = maybe (the_keyword "else") statement

-- an `if` with its `else`
unfoldable pub if_statement : Reader Token RawStmt
if_statement = mapped if_of (both (word (the_keyword "if")) (both (both condition statement) otherwise))

-- one of the things in a block
unfoldable pub item : Reader Token RawStmt
item = item_reader declaration statement

-- what stands in a block, up to its end
abbrev pub items : Reader Token (List RawStmt)
items = closed (the_punctuator "}") item

-- a block with its braces
unfoldable pub block : Reader Token RawStmt
block = block_reader items

-- what a statement is read as: equal to `statement`
unfoldable pub statement_form : Reader Token RawStmt
statement_form = node_reader block if_statement loop_statement atomic assignment

-- ---- units

-- a function, as a unit that has no items
unfoldable pub function : Reader Token RawUnit
function = function_reader items

-- a unit
unfoldable pub unit : Reader Token RawUnit
unit = deep unit_at

-- what a unit is read as: equal to `unit`
unfoldable pub unit_form : Reader Token RawUnit
unit_form = unit_reader function global unit

-- ---- a unit item by item

-- An item before the function, or none where the function is next, behind any `static`.
unfoldable pub next_item : Reader Token (Option RawItem)
next_item =
    choose (is_of includes) (mapped (λ n. Some (items_of.Include n)) (word includes))
    (mapped (λ p. p.1) (both (maybe_word (the_keyword "static")) (choose (is_the_keyword "void") (nothing None) (mapped Some global))))

-- the function, behind these items
abbrev pub unit_with : List RawItem → Spelling × (Option ℕ × List RawStmt) → RawUnit
unit_with xs p = record { items = xs; function = p.0; body = p.1.1 }

-- a function, as a unit that has these items
unfoldable pub function_behind : List RawItem → Reader Token RawUnit
function_behind xs =
    skip (the_keyword "void") (mapped (unit_with xs) (both (word names) (skip (the_punctuator "(") (both (maybe_word (the_keyword "void")) (skip (the_punctuator ")") (skip (the_punctuator "{") items))))))

-- the unit with these items before its own
abbrev pub with_items : List RawItem → RawUnit → RawUnit
with_items xs u = record u { items = xs ++ u.items }

-- what is read of a unit, with these items before its own
abbrev pub after_items : List RawItem → Answer Token RawUnit → Answer Token RawUnit
after_items xs a = a >>= (λ u rest. Answer.read (with_items xs u) rest)
