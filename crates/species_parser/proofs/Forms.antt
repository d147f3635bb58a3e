-- The equations of the readers that no depth bounds, and that what they read takes tokens.
use Rattle.std.proofs.Common.{ℕ, zero, suc, ◌-◌, refl, inl, ◌≡◌, ◌∙◌, sym, ap, subst, ◌+◌, ◌≤◌, List, length, arith}
use Rattle.std.specs.Prelude.{Bool, is_some}
use Rattle.species_grammar.specs.Reader.{Reader, one, word, both, bound, mapped, skip, Answer, ◌>>=◌}
use Rattle.species_grammar.specs.Lawful.{Under, Enough, Takes, Advances}
use Rattle.species_grammar.specs.Whole.{whole}
use Rattle.species_grammar.proofs.Depth.{both_under, mapped_under, skip_under, one_takes, one_enough, fewer_takes, skip_takes, choose_takes, choose_enough, level_takes, level_enough}
use Rattle.species_grammar.proofs.Free.{deep_under, free_advances, advances_both, advances_one, many_repeated, until_closed, free_same, level_free}
use Rattle.species_grammar.proofs.Same.{Same, under_same_as, same_mapped, same_choose, same_skip, mapped_mapped, mapped_choose_as, within, both_mapped, both_mapped_as, mapped_skip_as, skip_mapped_as, bound_both}
use Rattle.species_ast.specs.Token.{Token}
use Rattle.species_ast.specs.Spelling.{Spelling}
use Rattle.species_ast.specs.declared.raw.RawTarget.{RawTarget}
use Rattle.species_ast.specs.declared.raw.RawChange.{RawChange}
use Rattle.species_ast.specs.declared.raw.RawStep.{RawStep}
use Rattle.species_ast.specs.declared.raw.RawExpr.{RawExpr}
use Rattle.species_parser.specs.Words.{the_punctuator, the_keyword, assignment_operators, operators_at, names, is_the_punctuator, is_type}
use Rattle.species_parser.specs.Reading.{operation_of, choice_of, subscript_reader, opened_reader, levels_reader, operand_at, expression_at, subscripts_at, target_at, array_at, global_at, local_at, declaration_at, change_at, atomic_at, step_at, up_after, down_after, set_to, change_tail_reader, target_first, change_reader, add_after, sub_after, sum_reader, step_up, step_down, step_add, step_sub, step_set, step_tail_reader, step_of, step_reader, header_of, optional, header_test_reader, header_reader, header_at, condition_at, item_reader, block_at, if_at, loop_at, assignment_at, statement_at, body_at, function_at, unit_at, level_reader}
use Rattle.species_parser.specs.Parsing.{expression, operand, binary, subscript, subscripts, opened, target, operand_form, choices, expression_form, array, next_array, more_arrays, arrays, initialiser, locals, global, local, next_local, more_locals, declaration, change_behind, placed_at, change, assignment, atomic, product, sum_behind, step_behind, step, tested_of, header_test, header_from, header, statement, condition, loop_statement, otherwise, if_statement, item, items, block, statement_form, function, unit, unit_form, binary_tail}
use Rattle.species_parser.proofs.Operands.{operand_lawful}
use Rattle.species_parser.proofs.Parts.{subscript_reader_under, opened_reader_under, operand_of_parts_under, choices_under, target_reader_under, array_reader_under, global_reader_under, local_reader_under, declaration_reader_under, change_reader_under, assignment_reader_under, atomic_reader_under, step_tail_reader_under, step_reader_under, header_test_reader_under, header_reader_under, loop_reader_under, condition_reader_under, if_reader_under, item_reader_under, block_reader_under, node_reader_under, function_reader_under, unit_reader_under}
use Rattle.species_parser.proofs.Depth.{levels_under, expressions_under, expression_under, statement_under, unit_under}
use Rattle.species_parser.proofs.Enough.{skip_less, less_one, expression_takes, subscript_enough, subscript_takes, expressions_enough, expression_enough, expressions_take, array_enough, array_takes, local_enough, local_takes, declaration_enough, declarations_take, statements_take, statement_enough, unit_enough}

-- ---- expressions

pub expression_free : (n : ℕ) → Under (expression_at n) expression
unfolding expression
expression_free n = deep_under expression_at expression_under expression_enough n

pub operand_enough_at : (n : ℕ) → Enough (operand_at n) n
operand_enough_at n = (expressions_enough n).0

pub operand_free : (n : ℕ) → Under (operand_at n) operand
unfolding operand
operand_free n = deep_under operand_at (λ n. (expressions_under n).0) operand_enough_at n

pub operands_take : (n : ℕ) → Takes (operand_at n) 1
operands_take n = expression_takes n 11 (operand_at n) (operand_lawful n)

-- with k levels below the operands
abbrev pub levels_at : ℕ → ℕ → Reader Token RawExpr
levels_at k n = levels_reader n k (operand_at n)

levels_step : (k n : ℕ) → Under (levels_at k n) (levels_at k (suc n))
levels_step k n = levels_under n k (operand_at n) (operand_at (suc n)) (expressions_under n).0

levels_take : (k n : ℕ) → Takes (levels_at k n) 1
levels_take zero n = operands_take n
levels_take (suc k) n = level_takes operation_of n _ (one (operators_at (10 - k))) (levels_at k n) (fewer_takes (one (operators_at (10 - k))) 1 (one_takes (operators_at (10 - k)))) (levels_take k n)

pub levels_enough : (k n : ℕ) → Enough (levels_at k n) n
levels_enough zero n = operand_enough_at n
levels_enough (suc k) n = level_enough operation_of n _ (one (operators_at (10 - k))) (levels_at k n) (one_takes (operators_at (10 - k))) (one_enough (operators_at (10 - k)) n) (levels_take k n) (levels_enough k n)

pub binary_free : (level n : ℕ) → Under (levels_at (11 - level) n) (binary level)
unfolding binary
binary_free level n = deep_under (levels_at (11 - level)) (levels_step (11 - level)) (levels_enough (11 - level)) n

pub binary_advances : (level : ℕ) → Advances (binary level)
binary_advances level = free_advances (levels_at (11 - level)) (binary level) (binary_free level) (levels_enough (11 - level)) (levels_take (11 - level))

-- an operator and its right operand
pub pair_advances : (level : ℕ) → Advances (both (one (operators_at level)) (binary (suc level)))
pair_advances level =
    let b = binary_advances (suc level) in
    advances_both (one (operators_at level)) (binary (suc level)) (advances_one (operators_at level)) b.never (fewer_takes (binary (suc level)) 1 b.takes)

pub subscript_free : (n : ℕ) → Under (subscript_reader (expression_at n)) subscript
unfolding subscript
subscript_free n = subscript_reader_under (expression_at n) expression (expression_free n)

pub subscript_advances : Advances subscript
subscript_advances =
    free_advances (λ n. subscript_reader (expression_at n)) subscript subscript_free (λ n. subscript_enough n (expression_at n) (fewer_takes (expression_at n) 1 (expressions_take n)) (expression_enough n))
    (λ n. subscript_takes (expression_at n) (expressions_take n))

pub subscripts_free : (n : ℕ) → Under (subscripts_at n) subscripts
subscripts_free n = many_repeated (is_the_punctuator "[") _ subscript (subscript_free n) subscript_advances n

opened_free : (n : ℕ) → Under (opened_reader (operand_at n) (expression_at n)) opened
unfolding opened
opened_free n = opened_reader_under _ _ _ _ (operand_free n) (expression_free n)

pub operand_form_free : (n : ℕ) → Under (operand_at n) operand_form
unfolding operand_form
operand_form_free zero = λ ts. inl refl
operand_form_free (suc n) = operand_of_parts_under _ operand _ opened _ subscripts (operand_free n) (opened_free n) (subscripts_free n)

pub expression_form_free : (n : ℕ) → Under (expression_at n) expression_form
unfolding expression_form choices
expression_form_free zero = λ ts. inl refl
expression_form_free (suc n) = mapped_under choice_of _ _ (both_under _ (binary 1) _ _ (binary_free 1 (suc n)) (choices_under _ expression (expression_free n)))

target_free : (n : ℕ) → Under (target_at n) target
unfolding target
target_free n = target_reader_under _ subscripts (subscripts_free n)

-- ---- declarations

array_free : (n : ℕ) → Under (array_at n) array
unfolding array subscript
array_free n = array_reader_under _ expression _ subscripts (expression_free n) (subscripts_free n)

next_array_free : (n : ℕ) → Under (skip (the_punctuator ",") (array_at n)) next_array
unfolding next_array
next_array_free n = skip_under (the_punctuator ",") _ array (array_free n)

pub next_array_advances : Advances next_array
next_array_advances =
    free_advances (λ n. skip (the_punctuator ",") (array_at n)) next_array next_array_free (λ n. skip_less (the_punctuator ",") (array_at n) n (less_one (array_at n) n (array_enough n)))
    (λ n. skip_takes (the_punctuator ",") (array_at n) 0 (array_takes n))

global_free : (n : ℕ) → Under (global_at n) global
unfolding global arrays
global_free n = global_reader_under _ array _ more_arrays (array_free n) (many_repeated (is_the_punctuator ",") _ next_array (next_array_free n) next_array_advances n)

local_free : (n : ℕ) → Under (local_at n) local
unfolding local initialiser
local_free n = local_reader_under _ expression (expression_free n)

next_local_free : (n : ℕ) → Under (skip (the_punctuator ",") (local_at n)) next_local
unfolding next_local
next_local_free n = skip_under (the_punctuator ",") _ local (local_free n)

pub next_local_advances : Advances next_local
next_local_advances =
    free_advances (λ n. skip (the_punctuator ",") (local_at n)) next_local next_local_free (λ n. skip_less (the_punctuator ",") (local_at n) n (less_one (local_at n) n (local_enough n)))
    (λ n. skip_takes (the_punctuator ",") (local_at n) 0 (local_takes n))

declaration_free : (n : ℕ) → Under (declaration_at n) declaration
unfolding declaration locals
declaration_free n = declaration_reader_under _ local _ more_locals (local_free n) (many_repeated (is_the_punctuator ",") _ next_local (next_local_free n) next_local_advances n)

-- ---- statements

-- a change of a target, where what stands behind the target is read knowing it
abbrev of_target : RawTarget → (RawTarget → RawChange) → RawChange
of_target t f = f t

change_behind_same : (t : RawTarget) → Same (mapped (of_target t) (change_tail_reader expression)) (change_behind t)
unfolding change_behind
change_behind_same t =
    mapped_choose_as (of_target t) (is_the_punctuator "++") _ _ _ _ (mapped_mapped (of_target t) up_after (word (the_punctuator "++")))
    (mapped_choose_as (of_target t) (is_the_punctuator "--") _ _ _ _ (mapped_mapped (of_target t) down_after (word (the_punctuator "--"))) (mapped_mapped (of_target t) set_to (both (word assignment_operators) expression)))

placed_same : (t : RawTarget) → Same (mapped (λ y. target_first (t, y)) (change_tail_reader expression)) (mapped (placed_at t) (change_behind t))
placed_same t ts = sym (mapped_mapped (placed_at t) (of_target t) (change_tail_reader expression) ts) ∙ same_mapped (placed_at t) _ _ (change_behind_same t) ts

change_same : Same (change_reader target expression) change
unfolding change
change_same = same_choose (is_the_punctuator "++") _ _ _ _ (λ ts. refl) (same_choose (is_the_punctuator "--") _ _ _ _ (λ ts. refl) (bound_both target_first target (change_tail_reader expression) _ placed_same))

change_free : (n : ℕ) → Under (change_at n) change
change_free n = under_same_as (change_at n) (change_reader target expression) change (change_reader_under _ target _ expression (target_free n) (expression_free n)) change_same

assignment_free : (n : ℕ) → Under (assignment_at n) assignment
unfolding assignment
assignment_free n = assignment_reader_under _ change (change_free n)

atomic_free : (n : ℕ) → Under (atomic_at n) atomic
unfolding atomic
atomic_free n = atomic_reader_under _ target _ expression (target_free n) (expression_free n)

-- a step, where what stands behind a name is read knowing it
abbrev of_name : Spelling → (Spelling → RawStep) → RawStep
of_name i f = f i

abbrev of_names : Spelling → Spelling → (Spelling → Spelling → RawStep) → RawStep
of_names i j f = f i j

sum_behind_same : (i j : Spelling) → Same (mapped (of_names i j) (sum_reader product)) (sum_behind i j)
unfolding sum_behind
sum_behind_same i j =
    mapped_choose_as (of_names i j) (is_the_punctuator "+") _ _ _ _ (mapped_mapped (of_names i j) add_after (skip (the_punctuator "+") product)) (mapped_mapped (of_names i j) sub_after (skip (the_punctuator "-") product))

step_set_same : (i : Spelling) → Same (mapped (of_name i) (mapped step_set (both (word names) (sum_reader product)))) (bound (word names) (sum_behind i))
step_set_same i ts =
    mapped_mapped (of_name i) step_set (both (word names) (sum_reader product)) ts ∙ bound_both (λ p. step_set p i) (word names) (sum_reader product) (sum_behind i) (sum_behind_same i) ts

step_behind_same : (i : Spelling) → Same (mapped (of_name i) (step_tail_reader product expression)) (step_behind i)
unfolding step_behind
step_behind_same i =
    mapped_choose_as (of_name i) (is_the_punctuator "++") _ _ _ _ (mapped_mapped (of_name i) step_up (word (the_punctuator "++")))
    (mapped_choose_as (of_name i) (is_the_punctuator "--") _ _ _ _ (mapped_mapped (of_name i) step_down (word (the_punctuator "--")))
    (mapped_choose_as (of_name i) (is_the_punctuator "+=") _ _ _ _ (mapped_mapped (of_name i) step_add (skip (the_punctuator "+=") expression))
    (mapped_choose_as (of_name i) (is_the_punctuator "-=") _ _ _ _ (mapped_mapped (of_name i) step_sub (skip (the_punctuator "-=") expression)) (mapped_skip_as (of_name i) (the_punctuator "=") _ _ (step_set_same i)))))

step_same : Same (step_reader (step_tail_reader product expression)) step
unfolding step
step_same = same_choose (is_the_punctuator "++") _ _ _ _ (λ ts. refl) (same_choose (is_the_punctuator "--") _ _ _ _ (λ ts. refl) (bound_both step_of (word names) (step_tail_reader product expression) step_behind step_behind_same))

step_free : (n : ℕ) → Under (step_at n) step
step_free n =
    under_same_as (step_at n) (step_reader (step_tail_reader product expression)) step (step_reader_under _ (step_tail_reader product expression) (step_tail_reader_under _ product _ expression (binary_free 10 n) (expression_free n))) step_same

-- what stands between the brackets of a header, of which r reads what follows the first `;`
abbrev header_parts : {A : Type 0} → Reader Token A → Reader Token (Bool × (Spelling × (RawExpr × A)))
header_parts r = both (optional (the_keyword "int")) (both (word names) (skip (the_punctuator "=") (both expression r)))

header_parts_same : {A B : Type 0} (f : A → B) (r : Reader Token A) → Same (header_parts (mapped f r)) (mapped (within (within (within f))) (header_parts r))
header_parts_same f r =
    both_mapped_as (within (within f)) (optional (the_keyword "int")) _ _ (both_mapped_as (within f) (word names) _ _ (skip_mapped_as (within f) (the_punctuator "=") _ _ (both_mapped f expression r)))

header_of_same : Same (mapped header_of (header_parts (header_test_reader expression step))) (mapped header_from (header_parts header_test))
unfolding header_test
header_of_same ts =
    sym (mapped_mapped header_from (within (within (within tested_of))) (header_parts (header_test_reader expression step)) ts)
    ∙ sym (same_mapped header_from _ _ (header_parts_same tested_of (header_test_reader expression step)) ts)

header_same : Same (header_reader expression (header_test_reader expression step)) header
unfolding header
header_same = same_skip (the_punctuator "(") _ _ header_of_same

header_free : (n : ℕ) → Under (header_at n) header
header_free n =
    under_same_as (header_at n) (header_reader expression (header_test_reader expression step)) header
    (header_reader_under _ expression _ (header_test_reader expression step) (expression_free n) (header_test_reader_under _ expression _ step (expression_free n) (step_free n))) header_same

condition_free : (n : ℕ) → Under (condition_at n) condition
unfolding condition
condition_free n = condition_reader_under _ expression (expression_free n)

pub statement_free : (n : ℕ) → Under (statement_at n) statement
unfolding statement
statement_free n = deep_under statement_at statement_under statement_enough n

item_free : (n : ℕ) → Under (item_reader (declaration_at n) (statement_at n)) item
unfolding item
item_free n = item_reader_under _ declaration _ statement (declaration_free n) (statement_free n)

pub item_advances : Advances item
item_advances =
    free_advances (λ n. item_reader (declaration_at n) (statement_at n)) item item_free (λ n. choose_enough is_type (declaration_at n) (statement_at n) n (declaration_enough n) (statement_enough n))
    (λ n. choose_takes is_type (declaration_at n) (statement_at n) 1 (declarations_take n) (statements_take n))

items_free : (n : ℕ) → Under (body_at n) items
items_free n = until_closed (the_punctuator "}") _ item (item_free n) item_advances n

block_free : (n : ℕ) → Under (block_at n (statement_at n)) block
unfolding block
block_free n = block_reader_under _ items (items_free n)

if_free : (n : ℕ) → Under (if_at n (statement_at n)) if_statement
unfolding if_statement otherwise
if_free n = if_reader_under _ condition _ statement (condition_free n) (statement_free n)

loop_free : (n : ℕ) → Under (loop_at n (statement_at n)) loop_statement
unfolding loop_statement
loop_free n = loop_reader_under _ header _ statement (header_free n) (statement_free n)

pub statement_form_free : (n : ℕ) → Under (statement_at n) statement_form
unfolding statement_form
statement_form_free zero = λ ts. inl refl
statement_form_free (suc n) = node_reader_under _ block _ if_statement _ loop_statement _ atomic _ assignment (block_free n) (if_free n) (loop_free n) (atomic_free n) (assignment_free n)

-- ---- units

function_free : (n : ℕ) → Under (function_at n) function
unfolding function
function_free n = function_reader_under _ items (items_free n)

pub unit_free : (n : ℕ) → Under (unit_at n) unit
unfolding unit
unit_free n = deep_under unit_at unit_under unit_enough n

pub unit_form_free : (n : ℕ) → Under (unit_at n) unit_form
unfolding unit_form
unit_form_free zero = λ ts. inl refl
unit_form_free (suc n) = unit_reader_under _ function _ global _ unit (function_free n) (global_free n) (unit_free n)

-- ---- the equations

pub operand_is : (ts : List Token) → operand ts ≡ operand_form ts
unfolding operand
operand_is ts = free_same operand_at operand_form operand_form_free operand_enough_at (suc (length ts)) ts (omega arith)

pub expression_is : (ts : List Token) → expression ts ≡ expression_form ts
unfolding expression
expression_is ts = free_same expression_at expression_form expression_form_free expression_enough (suc (length ts)) ts (omega arith)

pub statement_is : (ts : List Token) → statement ts ≡ statement_form ts
unfolding statement
statement_is ts = free_same statement_at statement_form statement_form_free statement_enough (suc (length ts)) ts (omega arith)

pub unit_is : (ts : List Token) → unit ts ≡ unit_form ts
unfolding unit
unit_is ts = free_same unit_at unit_form unit_form_free unit_enough (suc (length ts)) ts (omega arith)

pub unit_whole : (ts : List Token) → whole unit ts ≡ whole (unit_at (suc (length ts))) ts
unfolding unit
unit_whole ts = refl

-- ---- levels

pub binary_top : (ts : List Token) → binary 11 ts ≡ operand ts
unfolding binary operand
binary_top ts = refl

level_below : (level n : ℕ) → 1 ≤ level → level ≤ 10 → Under (levels_at (11 - level) n) (λ ts. binary (suc level) ts >>= binary_tail level)
level_below level n lo hi =
    subst (λ k. Under (levels_at k n) (λ ts. binary (suc level) ts >>= binary_tail level)) (sym above)
    (subst (λ l. Under (level_reader n l (levels_at (11 - suc level) n)) (λ ts. binary (suc level) ts >>= binary_tail level)) (sym it)
    (level_free operation_of (λ t. is_some (operators_at level t)) (one (operators_at level)) (levels_at (11 - suc level) n) (binary (suc level)) (binary_free (suc level) n) (pair_advances level) n))
  where
    above : 11 - level ≡ suc (11 - suc level)
    above = omega (arith, lo, hi)

    it : 10 - (11 - suc level) ≡ level
    it = omega (arith, lo, hi)

pub binary_down : (level : ℕ) → 1 ≤ level → level ≤ 10 → (ts : List Token) → binary level ts ≡ (binary (suc level) ts >>= binary_tail level)
unfolding binary
binary_down level lo hi ts =
    free_same (levels_at (11 - level)) (λ ts. binary (suc level) ts >>= binary_tail level) (λ n. level_below level n lo hi) (levels_enough (11 - level)) (suc (length ts)) ts (omega arith)

-- what stops the operand stops the lower levels
pub binary_stuck : (level current : ℕ) → 1 ≤ level → level ≤ current → current ≤ 11 → (ts us : List Token) → binary current ts ≡ Answer.stuck us → binary level ts ≡ Answer.stuck us
binary_stuck level current lo le hi ts us h = go (current - level) (omega (arith, le, hi)) (ap (λ n. binary n ts) meets ∙ h)
  where
    meets : (current - level) + level ≡ current
    meets = omega (arith, le)

    go : (j : ℕ) → j + level ≤ 11 → binary (j + level) ts ≡ Answer.stuck us → binary level ts ≡ Answer.stuck us
    go zero b e = let i : level ≡ 0 + level = omega arith in ap (λ n. binary n ts) i ∙ e
    go (suc j) b e =
        let i : suc (j + level) ≡ suc j + level = omega arith in
        let f = ap (λ n. binary n ts) i ∙ e in
        go j (omega (arith, b)) (binary_down (j + level) (omega (arith, lo)) (omega (arith, b)) ts ∙ ap (λ a. a >>= binary_tail (j + level)) f)
