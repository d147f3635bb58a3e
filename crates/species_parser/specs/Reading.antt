-- The readers of the grammar. The number bounds how deep things nest and how many of one kind follow each other.
use Rattle.std.specs.Prelude.{ℕ, zero, suc, ◌-◌, List, [], Bool, is_some, Option, Some, None}
use Rattle.species_grammar.specs.Reader.{Reader, Word, is_of, one, word, both, mapped, choose, skip, ends, maybe, maybe_word, cons_of, too_shallow, many, until, level}
use Rattle.species_ast.specs.Token.{Token}
use Rattle.species_ast.specs.Spelling.{Spelling}
use Rattle.species_ast.specs.Grammar.Expressions.{Operation, operation, expression, place_of, target}
use Rattle.species_ast.specs.Grammar.Declarations.{statement}
use Rattle.species_ast.specs.Grammar.Statements.{target_place, Header, loop}
use Rattle.species_ast.specs.Grammar.Units.{after}
use Rattle.species_ast.specs.declared.tree.Kind.{Kind}
use Rattle.species_ast.specs.declared.tree.Kind.TheVariants as kind
use Rattle.species_ast.specs.declared.tree.Value.{Value}
use Rattle.species_ast.specs.declared.tree.Schedule.{Schedule}
use Rattle.species_ast.specs.declared.tree.Test.{Test}
use Rattle.species_ast.specs.declared.raw.RawUnary.{RawUnary}
use Rattle.species_ast.specs.declared.raw.RawOp.{RawOp}
use Rattle.species_ast.specs.declared.raw.RawExpr.{RawExpr}
use Rattle.species_ast.specs.declared.raw.RawTerm.{RawTerm}
use Rattle.species_ast.specs.declared.raw.RawTerm.TheVariants as term
use Rattle.species_ast.specs.declared.raw.RawTarget.{RawTarget}
use Rattle.species_ast.specs.declared.raw.RawArray.{RawArray}
use Rattle.species_ast.specs.declared.raw.RawLocal.{RawLocal}
use Rattle.species_ast.specs.declared.raw.RawItem.{RawItem}
use Rattle.species_ast.specs.declared.raw.RawItem.TheVariants as item
use Rattle.species_ast.specs.declared.raw.RawChange.{RawChange}
use Rattle.species_ast.specs.declared.raw.RawChange.TheVariants as change
use Rattle.species_ast.specs.declared.raw.RawStep.{RawStep}
use Rattle.species_ast.specs.declared.raw.RawStep.TheVariants as step
use Rattle.species_ast.specs.declared.raw.RawStmt.{RawStmt}
use Rattle.species_ast.specs.declared.raw.RawWhat.TheVariants as what
use Rattle.species_ast.specs.declared.raw.RawUnit.{RawUnit}
use Rattle.species_parser.specs.Words.{the_punctuator, the_keyword, unary_operators, operators_at, assignment_operators, tests, names, numbers, includes, species_lines, parallel_lines, atomic_lines, is_the_punctuator, is_the_keyword, is_type, is_loop}

-- ---- types

-- what the words of a type make
abbrev pub of_kind : Kind → ℕ → ℕ × Kind
of_kind k p = (p, k)

abbrev pub first_place : ℕ × (ℕ × Option ℕ) → ℕ
first_place p = p.0

abbrev pub unsigned_of : Option ℕ → Kind
unsigned_of p = kind.Unsigned

abbrev pub unsigned_long_of : ℕ → Kind
unsigned_long_of p = kind.UnsignedLong

-- `long long`, with the place of the first word; `int` may stand behind it
unfoldable pub long_words : Reader Token ℕ
long_words = mapped first_place (both (word (the_keyword "long")) (both (word (the_keyword "long")) (maybe_word (the_keyword "int"))))

-- what stands behind `unsigned`
unfoldable pub unsigned_tail : Reader Token Kind
unsigned_tail = choose (is_the_keyword "long") (mapped unsigned_long_of long_words) (mapped unsigned_of (maybe_word (the_keyword "int")))

-- a type, with the place of its first word
unfoldable pub type_reader : Reader Token (ℕ × Kind)
type_reader = choose (is_the_keyword "int") (mapped (of_kind kind.Int) (word (the_keyword "int")))
    (choose (is_the_keyword "unsigned") (both (word (the_keyword "unsigned")) unsigned_tail) (mapped (of_kind kind.Long) long_words))

-- ---- expressions

-- what the parts of an expression make
abbrev pub number_of : Spelling × Value → RawExpr
number_of p = expression p.0.place (term.Number p.1)

abbrev pub element_of : Spelling × List RawExpr → RawExpr
element_of p = expression p.0.place (term.Target (target p.0 p.1))

abbrev pub unary_of : (ℕ × RawUnary) × RawExpr → RawExpr
unary_of p = expression p.0.0 (term.Unary p.0.1 p.1)

abbrev pub cast_of : (ℕ × Kind) × RawExpr → RawTerm
cast_of p = term.Cast p.0.1 p.1

abbrev pub opened_of : ℕ × RawTerm → RawExpr
opened_of p = expression p.0 p.1

abbrev pub operation_of : RawExpr → ℕ × Operation → RawExpr → RawExpr
operation_of x o y = expression (place_of x) (operation o.1 x y)

abbrev pub choice_of : RawExpr × Option (RawExpr × RawExpr) → RawExpr
choice_of (c, None) = c
choice_of (c, Some p) = expression (place_of c) (term.Cond c p.0 p.1)

-- `[e]`
abbrev pub subscript_reader : Reader Token RawExpr → Reader Token RawExpr
subscript_reader e = skip (the_punctuator "[") (ends e (the_punctuator "]"))

-- `[e]`, as often as it stands there
abbrev pub subscripts_reader : ℕ → Reader Token RawExpr → Reader Token (List RawExpr)
subscripts_reader m e = many m (is_the_punctuator "[") (subscript_reader e)

-- after a bracket: a cast, or an expression in brackets
abbrev pub opened_reader : Reader Token RawExpr → Reader Token RawExpr → Reader Token RawTerm
opened_reader u e = choose is_type (mapped cast_of (both (ends type_reader (the_punctuator ")")) u)) (mapped term.Paren (ends e (the_punctuator ")")))

-- operands of binary operators, where u reads one and e an expression
abbrev pub operand_reader : ℕ → Reader Token RawExpr → Reader Token RawExpr → Reader Token RawExpr
operand_reader m u e =
    choose (is_of numbers) (mapped number_of (word numbers))
    (choose (is_of unary_operators) (mapped unary_of (both (word unary_operators) u))
    (choose (is_the_punctuator "(") (mapped opened_of (both (word (the_punctuator "(")) (opened_reader u e)))
    (mapped element_of (both (word names) (subscripts_reader m e)))))

-- one level of binary operators, where r reads the operands
abbrev pub level_reader : ℕ → ℕ → Reader Token RawExpr → Reader Token RawExpr
level_reader m n r = level operation_of m (λ t. is_some (operators_at n t)) (one (operators_at n)) r

-- operands joined by `*`, `/` and `%`
abbrev pub product_of : ℕ → Reader Token RawExpr → Reader Token RawExpr
product_of m u = level_reader m 10 u

-- all of them
abbrev pub binary_reader : ℕ → Reader Token RawExpr → Reader Token RawExpr
binary_reader m u =
    level_reader m 1 (level_reader m 2 (level_reader m 3 (level_reader m 4 (level_reader m 5 (level_reader m 6 (level_reader m 7 (level_reader m 8 (level_reader m 9 (product_of m u)))))))))

-- The same, level by level: with k levels below the operands, of which the lowest is 11 - k.
abbrev pub levels_reader : ℕ → ℕ → Reader Token RawExpr → Reader Token RawExpr
levels_reader m zero u = u
levels_reader m (suc k) u = level_reader m (10 - k) (levels_reader m k u)

-- an expression: a condition, and what it chooses between, if a `?` follows
abbrev pub choice_reader : ℕ → Reader Token RawExpr → Reader Token RawExpr → Reader Token RawExpr
choice_reader m u e = mapped choice_of (both (binary_reader m u) (maybe (the_punctuator "?") (both e (skip (the_punctuator ":") e))))

-- operands and expressions
abbrev pub expression_readers : ℕ → Reader Token RawExpr × Reader Token RawExpr
expression_readers zero = (too_shallow, too_shallow)
expression_readers (suc n) =
    (operand_reader n (expression_readers n).0 (expression_readers n).1, choice_reader (suc n) (operand_reader n (expression_readers n).0 (expression_readers n).1) (expression_readers n).1)

-- an operand, at this depth
abbrev pub operand_at : ℕ → Reader Token RawExpr
operand_at n = (expression_readers n).0

-- an expression, at this depth
abbrev pub expression_at : ℕ → Reader Token RawExpr
expression_at n = (expression_readers n).1

-- operands joined by `*`, `/` and `%`, at this depth
abbrev pub product_at : ℕ → Reader Token RawExpr
product_at n = product_of n (operand_at n)

-- subscripts, at this depth
abbrev pub subscripts_at : ℕ → Reader Token (List RawExpr)
subscripts_at n = subscripts_reader n (expression_at n)

-- a name and its subscripts make a target
abbrev pub target_of : Spelling × List RawExpr → RawTarget
target_of p = target p.0 p.1

-- a name and its subscripts, which s reads
abbrev pub target_reader : Reader Token (List RawExpr) → Reader Token RawTarget
target_reader s = mapped target_of (both (word names) s)

abbrev pub target_at : ℕ → Reader Token RawTarget
target_at n = target_reader (subscripts_at n)

-- ---- declarations

-- a name and its sizes make an array
abbrev pub array_of : Spelling × List RawExpr → RawArray
array_of p = record { name = p.0; sizes = p.1 }

-- a name and at least one size, where e reads what stands in brackets and s more of them
abbrev pub array_reader : Reader Token RawExpr → Reader Token (List RawExpr) → Reader Token RawArray
array_reader e s = mapped array_of (both (word names) (mapped cons_of (both (subscript_reader e) s)))

abbrev pub array_at : ℕ → Reader Token RawArray
array_at n = array_reader (expression_at n) (subscripts_at n)

-- `, A[x]`, as often as it stands there
abbrev pub more_arrays_at : ℕ → Reader Token (List RawArray)
more_arrays_at n = many n (is_the_punctuator ",") (skip (the_punctuator ",") (array_at n))

-- a type and its arrays make an item
abbrev pub global_of : (ℕ × Kind) × List RawArray → RawItem
global_of p = item.Global p.0.1 p.1

-- of a first array and more
abbrev pub global_reader : Reader Token RawArray → Reader Token (List RawArray) → Reader Token RawItem
global_reader a more = mapped global_of (both type_reader (ends (mapped cons_of (both a more)) (the_punctuator ";")))

abbrev pub global_at : ℕ → Reader Token RawItem
global_at n = global_reader (array_at n) (more_arrays_at n)

-- a name and its initialiser make a local
abbrev pub local_of : Spelling × Option RawExpr → RawLocal
local_of p = record { name = p.0; init = p.1 }

-- a name and its initialiser, which e reads
abbrev pub local_reader : Reader Token RawExpr → Reader Token RawLocal
local_reader e = mapped local_of (both (word names) (maybe (the_punctuator "=") e))

abbrev pub local_at : ℕ → Reader Token RawLocal
local_at n = local_reader (expression_at n)

-- `, x = e`, as often as it stands there
abbrev pub more_locals_at : ℕ → Reader Token (List RawLocal)
more_locals_at n = many n (is_the_punctuator ",") (skip (the_punctuator ",") (local_at n))

-- a type and its locals make a statement
abbrev pub declaration_of : (ℕ × Kind) × List RawLocal → RawStmt
declaration_of p = statement p.0.0 (what.Declare p.0.1 p.1)

-- of a first local and more
abbrev pub declaration_reader : Reader Token RawLocal → Reader Token (List RawLocal) → Reader Token RawStmt
declaration_reader l more = mapped declaration_of (both type_reader (ends (mapped cons_of (both l more)) (the_punctuator ";")))

abbrev pub declaration_at : ℕ → Reader Token RawStmt
declaration_at n = declaration_reader (local_at n) (more_locals_at n)

-- ---- changes

-- what a punctuator and a value behind a target make of it
abbrev pub up_after : ℕ → RawTarget → RawChange
up_after p t = change.Up t

abbrev pub down_after : ℕ → RawTarget → RawChange
down_after p t = change.Down t

abbrev pub set_to : (ℕ × RawOp) × RawExpr → RawTarget → RawChange
set_to p t = change.Set t p.0.1 p.1

-- what stands after the target
abbrev pub change_tail_reader : Reader Token RawExpr → Reader Token (RawTarget → RawChange)
change_tail_reader e =
    choose (is_the_punctuator "++") (mapped up_after (word (the_punctuator "++")))
    (choose (is_the_punctuator "--") (mapped down_after (word (the_punctuator "--"))) (mapped set_to (both (word assignment_operators) e)))

abbrev pub change_tail_at : ℕ → Reader Token (RawTarget → RawChange)
change_tail_at n = change_tail_reader (expression_at n)

-- what the parts of a change make
abbrev pub up_first : ℕ × RawTarget → ℕ × RawChange
up_first p = (p.0, change.UpBefore p.1)

abbrev pub down_first : ℕ × RawTarget → ℕ × RawChange
down_first p = (p.0, change.DownBefore p.1)

abbrev pub target_first : RawTarget × (RawTarget → RawChange) → ℕ × RawChange
target_first p = (target_place p.0, p.1 p.0)

-- a change and its place
-- a change, where t reads its target and e its value
abbrev pub change_reader : Reader Token RawTarget → Reader Token RawExpr → Reader Token (ℕ × RawChange)
change_reader t e =
    choose (is_the_punctuator "++") (mapped up_first (both (word (the_punctuator "++")) t))
    (choose (is_the_punctuator "--") (mapped down_first (both (word (the_punctuator "--")) t)) (mapped target_first (both t (change_tail_reader e))))

abbrev pub change_at : ℕ → Reader Token (ℕ × RawChange)
change_at n = change_reader (target_at n) (expression_at n)

-- a change makes a statement
abbrev pub assignment_of : ℕ × RawChange → RawStmt
assignment_of p = statement p.0 (what.Change p.1)

-- a change, which c reads, and its semicolon
abbrev pub assignment_reader : Reader Token (ℕ × RawChange) → Reader Token RawStmt
assignment_reader c = mapped assignment_of (ends c (the_punctuator ";"))

abbrev pub assignment_at : ℕ → Reader Token RawStmt
assignment_at n = assignment_reader (change_at n)

-- a target and a value make an atomic addition
abbrev pub atomic_of : RawTarget × RawExpr → RawStmt
atomic_of p = statement (target_place p.0) (what.Atomic p.0 p.1)

-- an atomic addition with its pragma
abbrev pub atomic_reader : Reader Token RawTarget → Reader Token RawExpr → Reader Token RawStmt
atomic_reader t e = skip atomic_lines (mapped atomic_of (both t (skip (the_punctuator "+=") (ends e (the_punctuator ";")))))

abbrev pub atomic_at : ℕ → Reader Token RawStmt
atomic_at n = atomic_reader (target_at n) (expression_at n)

-- ---- the header of a loop

-- what the value behind `i = j` makes of both names
abbrev pub add_after : RawExpr → Spelling → Spelling → RawStep
add_after x i j = step.SetAdd i j x

abbrev pub sub_after : RawExpr → Spelling → Spelling → RawStep
sub_after x i j = step.SetSub i j x

-- what stands after `i = j`
abbrev pub sum_reader : Reader Token RawExpr → Reader Token (Spelling → Spelling → RawStep)
sum_reader product = choose (is_the_punctuator "+") (mapped add_after (skip (the_punctuator "+") product)) (mapped sub_after (skip (the_punctuator "-") product))

abbrev pub sum_at : ℕ → Reader Token (Spelling → Spelling → RawStep)
sum_at n = sum_reader (product_at n)

-- what stands behind `i` makes of it
abbrev pub step_up : ℕ → Spelling → RawStep
step_up p i = step.Up i

abbrev pub step_down : ℕ → Spelling → RawStep
step_down p i = step.Down i

abbrev pub step_add : RawExpr → Spelling → RawStep
step_add x i = step.AddBy i x

abbrev pub step_sub : RawExpr → Spelling → RawStep
step_sub x i = step.SubBy i x

abbrev pub step_set : Spelling × (Spelling → Spelling → RawStep) → Spelling → RawStep
step_set p i = p.1 i p.0

-- what stands after `i`
abbrev pub step_tail_reader : Reader Token RawExpr → Reader Token RawExpr → Reader Token (Spelling → RawStep)
step_tail_reader product e =
    choose (is_the_punctuator "++") (mapped step_up (word (the_punctuator "++")))
    (choose (is_the_punctuator "--") (mapped step_down (word (the_punctuator "--")))
    (choose (is_the_punctuator "+=") (mapped step_add (skip (the_punctuator "+=") e))
    (choose (is_the_punctuator "-=") (mapped step_sub (skip (the_punctuator "-=") e)) (skip (the_punctuator "=") (mapped step_set (both (word names) (sum_reader product)))))))

abbrev pub step_tail_at : ℕ → Reader Token (Spelling → RawStep)
step_tail_at n = step_tail_reader (product_at n) (expression_at n)

-- a name and what stands behind it make a step
abbrev pub step_of : Spelling × (Spelling → RawStep) → RawStep
step_of p = p.1 p.0

-- a step, where the tail is what stands behind `i`
abbrev pub step_reader : Reader Token (Spelling → RawStep) → Reader Token RawStep
step_reader tail =
    choose (is_the_punctuator "++") (mapped step.UpBefore (skip (the_punctuator "++") (word names)))
    (choose (is_the_punctuator "--") (mapped step.DownBefore (skip (the_punctuator "--") (word names))) (mapped step_of (both (word names) tail)))

abbrev pub step_at : ℕ → Reader Token RawStep
step_at n = step_reader (step_tail_at n)

-- the parts of a header make it
abbrev pub header_of : Bool × (Spelling × (RawExpr × (Spelling × ((ℕ × Test) × (RawExpr × RawStep))))) → Header
header_of p = record { typed = p.0; iter = p.1.0; start = p.1.1.0; tested = p.1.1.1.0; test = p.1.1.1.1.0.1; limit = p.1.1.1.1.1.0; step = p.1.1.1.1.1.1 }

-- a keyword that may stand there, and whether it does
abbrev pub optional : Word Token ℕ → Reader Token Bool
optional w = mapped is_some (maybe_word w)

-- `; i++)`
-- the last part of a header
abbrev pub header_step_reader : Reader Token RawStep → Reader Token RawStep
header_step_reader s = skip (the_punctuator ";") (ends s (the_punctuator ")"))

abbrev pub header_step_at : ℕ → Reader Token RawStep
header_step_at n = header_step_reader (step_at n)

-- `; i < e; i++)`
-- the parts of a header from the first semicolon on
abbrev pub header_test_reader : Reader Token RawExpr → Reader Token RawStep → Reader Token (Spelling × ((ℕ × Test) × (RawExpr × RawStep)))
header_test_reader e s = skip (the_punctuator ";") (both (word names) (both (word tests) (both e (header_step_reader s))))

abbrev pub header_test_at : ℕ → Reader Token (Spelling × ((ℕ × Test) × (RawExpr × RawStep)))
header_test_at n = header_test_reader (expression_at n) (step_at n)

-- a header with its parentheses
abbrev pub header_reader : Reader Token RawExpr → Reader Token (Spelling × ((ℕ × Test) × (RawExpr × RawStep))) → Reader Token Header
header_reader e test = skip (the_punctuator "(") (mapped header_of (both (optional (the_keyword "int")) (both (word names) (skip (the_punctuator "=") (both e test)))))

abbrev pub header_at : ℕ → Reader Token Header
header_at n = header_reader (expression_at n) (header_test_at n)

-- ---- statements

-- the depth and the schedule of a parallel line
abbrev pub parallel_of : Option (Spelling × (ℕ × Schedule)) → Option (ℕ × Schedule)
parallel_of None = None
parallel_of (Some p) = Some p.1

-- a parallel line, if one stands there
abbrev pub parallel_reader : Reader Token (Option (ℕ × Schedule))
parallel_reader = mapped parallel_of (maybe_word parallel_lines)

-- the parts of a loop make it
abbrev pub loop_of : Option Spelling × (Option (ℕ × Schedule) × (ℕ × (Header × RawStmt))) → RawStmt
loop_of p = statement p.1.1.0 (what.Loop (loop p.0 p.1.0 p.1.1.1.0 p.1.1.1.1))

-- a loop with its pragmas, where h reads its header
abbrev pub loop_reader : Reader Token Header → Reader Token RawStmt → Reader Token RawStmt
loop_reader h body = mapped loop_of (both (maybe_word species_lines) (both parallel_reader (both (word (the_keyword "for")) (both h body))))

abbrev pub loop_at : ℕ → Reader Token RawStmt → Reader Token RawStmt
loop_at n body = loop_reader (header_at n) body

-- an expression in parentheses
abbrev pub condition_reader : Reader Token RawExpr → Reader Token RawExpr
condition_reader e = skip (the_punctuator "(") (ends e (the_punctuator ")"))

abbrev pub condition_at : ℕ → Reader Token RawExpr
condition_at n = condition_reader (expression_at n)

-- the parts of an `if` make it
abbrev pub if_of : ℕ × ((RawExpr × RawStmt) × Option RawStmt) → RawStmt
if_of p = statement p.0 (what.If p.1.0.0 p.1.0.1 p.1.1)

-- an `else` belongs to the nearest `if`
abbrev pub if_reader : Reader Token RawExpr → Reader Token RawStmt → Reader Token RawStmt
if_reader condition body = mapped if_of (both (word (the_keyword "if")) (both (both condition body) (maybe (the_keyword "else") body)))

abbrev pub if_at : ℕ → Reader Token RawStmt → Reader Token RawStmt
if_at n body = if_reader (condition_at n) body

-- one of the things in a block
abbrev pub item_reader : Reader Token RawStmt → Reader Token RawStmt → Reader Token RawStmt
item_reader declaration body = choose is_type declaration body

-- what stands in a block, up to its end
abbrev pub items_at : ℕ → Reader Token RawStmt → Reader Token (List RawStmt)
items_at n body = until n (the_punctuator "}") (item_reader (declaration_at n) body)

-- the things in a block make it
abbrev pub block_of : ℕ × List RawStmt → RawStmt
block_of p = statement p.0 (what.Block p.1)

-- a block with its braces
abbrev pub block_reader : Reader Token (List RawStmt) → Reader Token RawStmt
block_reader items = mapped block_of (both (word (the_punctuator "{")) items)

abbrev pub block_at : ℕ → Reader Token RawStmt → Reader Token RawStmt
block_at n body = block_reader (items_at n body)

-- the statement `;`
abbrev pub empty_of : ℕ → RawStmt
empty_of p = statement p what.Empty

-- a statement, where these read those that have parts
abbrev pub node_reader : Reader Token RawStmt → Reader Token RawStmt → Reader Token RawStmt → Reader Token RawStmt → Reader Token RawStmt → Reader Token RawStmt
node_reader block if_statement loop atomic assignment =
    choose (is_the_punctuator ";") (mapped empty_of (word (the_punctuator ";")))
    (choose (is_the_punctuator "{") block (choose (is_the_keyword "if") if_statement (choose is_loop loop (choose (is_of atomic_lines) atomic assignment))))

abbrev pub node_at : ℕ → Reader Token RawStmt → Reader Token RawStmt
node_at n body = node_reader (block_at n body) (if_at n body) (loop_at n body) (atomic_at n) (assignment_at n)

-- a statement, at this depth
abbrev pub statement_at : ℕ → Reader Token RawStmt
statement_at zero = too_shallow
statement_at (suc n) = node_at n (statement_at n)

-- ---- units

-- what stands in the block of a function
abbrev pub body_at : ℕ → Reader Token (List RawStmt)
body_at n = items_at n (statement_at n)

-- the parts of a function make a unit that has no items
abbrev pub function_of : Spelling × (Option ℕ × List RawStmt) → RawUnit
function_of p = record { items = []; function = p.0; body = p.1.1 }

-- a function, where the body is what stands in its block
abbrev pub function_reader : Reader Token (List RawStmt) → Reader Token RawUnit
function_reader body = skip (the_keyword "void") (mapped function_of (both (word names) (skip (the_punctuator "(") (both (maybe_word (the_keyword "void")) (skip (the_punctuator ")") (skip (the_punctuator "{") body))))))

abbrev pub function_at : ℕ → Reader Token RawUnit
function_at n = function_reader (body_at n)

-- an item and the unit behind it make a unit
abbrev pub after_of : RawItem × RawUnit → RawUnit
after_of p = after p.0 p.1

abbrev pub include_of : Spelling × RawUnit → RawUnit
include_of p = after (item.Include p.0) p.1

-- the function, or an item and what follows it
abbrev pub external_reader : Reader Token RawUnit → Reader Token RawItem → Reader Token RawUnit → Reader Token RawUnit
external_reader function global rest = choose (is_the_keyword "void") function (mapped after_of (both global rest))

abbrev pub external_at : ℕ → Reader Token RawUnit → Reader Token RawUnit
external_at n rest = external_reader (function_at n) (global_at n) rest

-- what stands behind `static`
abbrev pub unstatic : Option ℕ × RawUnit → RawUnit
unstatic p = p.1

-- a unit, where these read its function, its globals and what follows one of them
abbrev pub unit_reader : Reader Token RawUnit → Reader Token RawItem → Reader Token RawUnit → Reader Token RawUnit
unit_reader function global rest =
    choose (is_of includes) (mapped include_of (both (word includes) rest)) (mapped unstatic (both (maybe_word (the_keyword "static")) (external_reader function global rest)))

-- a unit, at this depth
abbrev pub unit_at : ℕ → Reader Token RawUnit
unit_at zero = too_shallow
unit_at (suc n) = unit_reader (function_at n) (global_at n) (unit_at n)
