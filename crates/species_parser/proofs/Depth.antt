-- More depth changes no answer of the readers of the grammar.
use Rattle.std.proofs.Common.{ℕ, zero, suc, ◌-◌, refl, inl}
use Rattle.species_grammar.specs.Reader.{Reader, one}
use Rattle.species_grammar.specs.Lawful.{Under}
use Rattle.species_grammar.proofs.Depth.{mapped_under, both_under, skip_under, many_under, until_under, level_under}
use Rattle.species_ast.specs.Token.{Token}
use Rattle.species_ast.specs.declared.raw.RawExpr.{RawExpr}
use Rattle.species_ast.specs.declared.raw.RawStmt.{RawStmt}
use Rattle.species_parser.specs.Words.{the_punctuator, operators_at, is_the_punctuator}
use Rattle.species_parser.specs.Reading.{operation_of, choice_of, subscripts_reader, operand_reader, levels_reader, choice_reader, operand_at, expression_at, product_at, subscripts_at, target_at, array_at, global_at, local_at, declaration_at, change_at, atomic_at, step_at, header_at, items_at, statement_at, function_at, unit_at}
use Rattle.species_parser.proofs.Parts.{subscript_reader_under, opened_reader_under, operand_of_parts_under, choices_under, target_reader_under, array_reader_under, global_reader_under, local_reader_under, declaration_reader_under, change_reader_under, assignment_reader_under, atomic_reader_under, step_tail_reader_under, step_reader_under, header_test_reader_under, header_reader_under, loop_reader_under, condition_reader_under, if_reader_under, item_reader_under, block_reader_under, node_reader_under, function_reader_under, unit_reader_under}

-- ---- expressions

subscripts_reader_under : (n : ℕ) (e e' : Reader Token RawExpr) → Under e e' → Under (subscripts_reader n e) (subscripts_reader (suc n) e')
subscripts_reader_under n e e' h = many_under n (is_the_punctuator "[") _ _ (subscript_reader_under e e' h)

operand_under : (n : ℕ) (u u' e e' : Reader Token RawExpr) → Under u u' → Under e e' → Under (operand_reader n u e) (operand_reader (suc n) u' e')
operand_under n u u' e e' h k = operand_of_parts_under u u' _ _ _ _ h (opened_reader_under u u' e e' h k) (subscripts_reader_under n e e' k)

pub levels_under : (m k : ℕ) (u u' : Reader Token RawExpr) → Under u u' → Under (levels_reader m k u) (levels_reader (suc m) k u')
levels_under m zero u u' h = h
levels_under m (suc k) u u' h = level_under operation_of m _ (one (operators_at (10 - k))) _ _ (levels_under m k u u' h)

choice_under : (m : ℕ) (u u' e e' : Reader Token RawExpr) → Under u u' → Under e e' → Under (choice_reader m u e) (choice_reader (suc m) u' e')
choice_under m u u' e e' h k = mapped_under choice_of _ _ (both_under _ _ _ _ (levels_under m 10 u u' h) (choices_under e e' k))

pub expressions_under : (n : ℕ) → Under (operand_at n) (operand_at (suc n)) × Under (expression_at n) (expression_at (suc n))
expressions_under zero = (λ ts. inl refl, λ ts. inl refl)
expressions_under (suc n) =
    let h = expressions_under n in
    let u = operand_under n _ _ _ _ h.0 h.1 in
    (u, choice_under (suc n) _ _ _ _ u h.1)

pub expression_under : (n : ℕ) → Under (expression_at n) (expression_at (suc n))
expression_under n = (expressions_under n).1

product_under : (n : ℕ) → Under (product_at n) (product_at (suc n))
product_under n = levels_under n 1 _ _ (expressions_under n).0

subscripts_under : (n : ℕ) → Under (subscripts_at n) (subscripts_at (suc n))
subscripts_under n = subscripts_reader_under n _ _ (expression_under n)

target_under : (n : ℕ) → Under (target_at n) (target_at (suc n))
target_under n = target_reader_under _ _ (subscripts_under n)

-- ---- declarations

array_under : (n : ℕ) → Under (array_at n) (array_at (suc n))
array_under n = array_reader_under _ _ _ _ (expression_under n) (subscripts_under n)

global_under : (n : ℕ) → Under (global_at n) (global_at (suc n))
global_under n = global_reader_under _ _ _ _ (array_under n) (many_under n (is_the_punctuator ",") _ _ (skip_under (the_punctuator ",") _ _ (array_under n)))

local_under : (n : ℕ) → Under (local_at n) (local_at (suc n))
local_under n = local_reader_under _ _ (expression_under n)

declaration_under : (n : ℕ) → Under (declaration_at n) (declaration_at (suc n))
declaration_under n = declaration_reader_under _ _ _ _ (local_under n) (many_under n (is_the_punctuator ",") _ _ (skip_under (the_punctuator ",") _ _ (local_under n)))

-- ---- statements

change_under : (n : ℕ) → Under (change_at n) (change_at (suc n))
change_under n = change_reader_under _ _ _ _ (target_under n) (expression_under n)

atomic_under : (n : ℕ) → Under (atomic_at n) (atomic_at (suc n))
atomic_under n = atomic_reader_under _ _ _ _ (target_under n) (expression_under n)

step_under : (n : ℕ) → Under (step_at n) (step_at (suc n))
step_under n = step_reader_under _ _ (step_tail_reader_under _ _ _ _ (product_under n) (expression_under n))

header_under : (n : ℕ) → Under (header_at n) (header_at (suc n))
header_under n = header_reader_under _ _ _ _ (expression_under n) (header_test_reader_under _ _ _ _ (expression_under n) (step_under n))

items_under : (n : ℕ) (r r' : Reader Token RawStmt) → Under r r' → Under (items_at n r) (items_at (suc n) r')
items_under n r r' h = until_under n (the_punctuator "}") _ _ (item_reader_under _ _ r r' (declaration_under n) h)

pub statement_under : (n : ℕ) → Under (statement_at n) (statement_at (suc n))
statement_under zero = λ ts. inl refl
statement_under (suc n) =
    let h = statement_under n in
    node_reader_under _ _ _ _ _ _ _ _ _ _ (block_reader_under _ _ (items_under n _ _ h)) (if_reader_under _ _ _ _ (condition_reader_under _ _ (expression_under n)) h) (loop_reader_under _ _ _ _ (header_under n) h) (atomic_under n)
    (assignment_reader_under _ _ (change_under n))

-- ---- units

function_under : (n : ℕ) → Under (function_at n) (function_at (suc n))
function_under n = function_reader_under _ _ (items_under n _ _ (statement_under n))

pub unit_under : (n : ℕ) → Under (unit_at n) (unit_at (suc n))
unit_under zero = λ ts. inl refl
unit_under (suc n) = unit_reader_under _ _ _ _ _ _ (function_under n) (global_under n) (unit_under n)
