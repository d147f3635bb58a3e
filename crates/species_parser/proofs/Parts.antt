-- More depth in the parts of a reader changes no answer of the reader.
use Rattle.std.proofs.Common.{ℕ, List}
use Rattle.species_grammar.specs.Reader.{Reader, is_of, word, both, mapped, choose, skip, ends, maybe, maybe_word, cons_of}
use Rattle.species_grammar.specs.Lawful.{Under}
use Rattle.species_grammar.proofs.Depth.{under_same, both_under, mapped_under, choose_under, skip_under, ends_under, maybe_under}
use Rattle.species_ast.specs.Token.{Token}
use Rattle.species_ast.specs.Spelling.{Spelling}
use Rattle.species_ast.specs.Grammar.Statements.{Header}
use Rattle.species_ast.specs.declared.tree.Test.{Test}
use Rattle.species_ast.specs.declared.raw.RawExpr.{RawExpr}
use Rattle.species_ast.specs.declared.raw.RawTerm.{RawTerm}
use Rattle.species_ast.specs.declared.raw.RawTerm.TheVariants as term
use Rattle.species_ast.specs.declared.raw.RawTarget.{RawTarget}
use Rattle.species_ast.specs.declared.raw.RawArray.{RawArray}
use Rattle.species_ast.specs.declared.raw.RawLocal.{RawLocal}
use Rattle.species_ast.specs.declared.raw.RawItem.{RawItem}
use Rattle.species_ast.specs.declared.raw.RawChange.{RawChange}
use Rattle.species_ast.specs.declared.raw.RawStep.{RawStep}
use Rattle.species_ast.specs.declared.raw.RawStep.TheVariants as step
use Rattle.species_ast.specs.declared.raw.RawStmt.{RawStmt}
use Rattle.species_ast.specs.declared.raw.RawUnit.{RawUnit}
use Rattle.species_parser.specs.Words.{the_punctuator, the_keyword, unary_operators, assignment_operators, tests, names, numbers, includes, species_lines, atomic_lines, is_the_punctuator, is_the_keyword, is_type, is_loop}
use Rattle.species_parser.specs.Reading.{type_reader, number_of, element_of, unary_of, cast_of, opened_of, subscript_reader, opened_reader, target_of, target_reader, array_of, array_reader, global_of, global_reader, local_of, local_reader, declaration_of, declaration_reader, up_after, down_after, set_to, change_tail_reader, up_first, down_first, target_first, change_reader, assignment_of, assignment_reader, atomic_of, atomic_reader, add_after, sub_after, sum_reader, step_up, step_down, step_add, step_sub, step_set, step_tail_reader, step_of, step_reader, header_of, optional, header_test_reader, header_reader, parallel_reader, loop_of, loop_reader, condition_reader, if_of, if_reader, item_reader, block_of, block_reader, empty_of, node_reader, function_of, function_reader, after_of, include_of, unstatic, unit_reader}

-- both, where the first is the same
pub then_under : {A B : Type 0} (r : Reader Token A) (q q' : Reader Token B) → Under q q' → Under (both r q) (both r q')
then_under r q q' h = both_under r r q q' (under_same r) h

-- a first thing and more of them
pub list_under : {A : Type 0} (r r' : Reader Token A) (more more' : Reader Token (List A)) → Under r r' → Under more more' → Under (mapped cons_of (both r more)) (mapped cons_of (both r' more'))
list_under r r' more more' h k = mapped_under cons_of _ _ (both_under r r' more more' h k)

-- ---- expressions

pub subscript_reader_under : (e e' : Reader Token RawExpr) → Under e e' → Under (subscript_reader e) (subscript_reader e')
subscript_reader_under e e' h = skip_under (the_punctuator "[") _ _ (ends_under e e' (the_punctuator "]") h)

pub opened_reader_under : (u u' e e' : Reader Token RawExpr) → Under u u' → Under e e' → Under (opened_reader u e) (opened_reader u' e')
opened_reader_under u u' e e' h k = choose_under is_type _ _ _ _ (mapped_under cast_of _ _ (then_under (ends type_reader (the_punctuator ")")) u u' h)) (mapped_under term.Paren _ _ (ends_under e e' (the_punctuator ")") k))

-- an operand, where these read an operand, what stands after a bracket and subscripts
abbrev pub operand_of_parts : Reader Token RawExpr → Reader Token RawTerm → Reader Token (List RawExpr) → Reader Token RawExpr
operand_of_parts u o s =
    choose (is_of numbers) (mapped number_of (word numbers))
    (choose (is_of unary_operators) (mapped unary_of (both (word unary_operators) u))
    (choose (is_the_punctuator "(") (mapped opened_of (both (word (the_punctuator "(")) o)) (mapped element_of (both (word names) s))))

pub operand_of_parts_under : (u u' : Reader Token RawExpr) (o o' : Reader Token RawTerm) (s s' : Reader Token (List RawExpr)) → Under u u' → Under o o' → Under s s' → Under (operand_of_parts u o s) (operand_of_parts u' o' s')
operand_of_parts_under u u' o o' s s' h k l =
    choose_under (is_of numbers) _ _ _ _ (under_same (mapped number_of (word numbers)))
    (choose_under (is_of unary_operators) _ _ _ _ (mapped_under unary_of _ _ (then_under (word unary_operators) u u' h))
    (choose_under (is_the_punctuator "(") _ _ _ _ (mapped_under opened_of _ _ (then_under (word (the_punctuator "(")) o o' k)) (mapped_under element_of _ _ (then_under (word names) s s' l))))

pub choices_under : (e e' : Reader Token RawExpr) → Under e e' → Under (maybe (the_punctuator "?") (both e (skip (the_punctuator ":") e))) (maybe (the_punctuator "?") (both e' (skip (the_punctuator ":") e')))
choices_under e e' h = maybe_under (the_punctuator "?") _ _ (both_under _ _ _ _ h (skip_under (the_punctuator ":") e e' h))

pub target_reader_under : (s s' : Reader Token (List RawExpr)) → Under s s' → Under (target_reader s) (target_reader s')
target_reader_under s s' h = mapped_under target_of _ _ (then_under (word names) s s' h)

-- ---- declarations

pub array_reader_under : (e e' : Reader Token RawExpr) (s s' : Reader Token (List RawExpr)) → Under e e' → Under s s' → Under (array_reader e s) (array_reader e' s')
array_reader_under e e' s s' h k = mapped_under array_of _ _ (then_under (word names) _ _ (list_under _ _ s s' (subscript_reader_under e e' h) k))

pub global_reader_under : (a a' : Reader Token RawArray) (more more' : Reader Token (List RawArray)) → Under a a' → Under more more' → Under (global_reader a more) (global_reader a' more')
global_reader_under a a' more more' h k = mapped_under global_of _ _ (then_under type_reader _ _ (ends_under _ _ (the_punctuator ";") (list_under a a' more more' h k)))

pub local_reader_under : (e e' : Reader Token RawExpr) → Under e e' → Under (local_reader e) (local_reader e')
local_reader_under e e' h = mapped_under local_of _ _ (then_under (word names) _ _ (maybe_under (the_punctuator "=") e e' h))

pub declaration_reader_under : (l l' : Reader Token RawLocal) (more more' : Reader Token (List RawLocal)) → Under l l' → Under more more' → Under (declaration_reader l more) (declaration_reader l' more')
declaration_reader_under l l' more more' h k = mapped_under declaration_of _ _ (then_under type_reader _ _ (ends_under _ _ (the_punctuator ";") (list_under l l' more more' h k)))

-- ---- changes

pub change_tail_reader_under : (e e' : Reader Token RawExpr) → Under e e' → Under (change_tail_reader e) (change_tail_reader e')
change_tail_reader_under e e' h =
    choose_under (is_the_punctuator "++") _ _ _ _ (under_same (mapped up_after (word (the_punctuator "++"))))
    (choose_under (is_the_punctuator "--") _ _ _ _ (under_same (mapped down_after (word (the_punctuator "--")))) (mapped_under set_to _ _ (then_under (word assignment_operators) e e' h)))

pub change_reader_under : (t t' : Reader Token RawTarget) (e e' : Reader Token RawExpr) → Under t t' → Under e e' → Under (change_reader t e) (change_reader t' e')
change_reader_under t t' e e' h k =
    choose_under (is_the_punctuator "++") _ _ _ _ (mapped_under up_first _ _ (then_under (word (the_punctuator "++")) t t' h))
    (choose_under (is_the_punctuator "--") _ _ _ _ (mapped_under down_first _ _ (then_under (word (the_punctuator "--")) t t' h)) (mapped_under target_first _ _ (both_under t t' _ _ h (change_tail_reader_under e e' k))))

pub assignment_reader_under : (c c' : Reader Token (ℕ × RawChange)) → Under c c' → Under (assignment_reader c) (assignment_reader c')
assignment_reader_under c c' h = mapped_under assignment_of _ _ (ends_under c c' (the_punctuator ";") h)

pub atomic_reader_under : (t t' : Reader Token RawTarget) (e e' : Reader Token RawExpr) → Under t t' → Under e e' → Under (atomic_reader t e) (atomic_reader t' e')
atomic_reader_under t t' e e' h k = skip_under atomic_lines _ _ (mapped_under atomic_of _ _ (both_under t t' _ _ h (skip_under (the_punctuator "+=") _ _ (ends_under e e' (the_punctuator ";") k))))

-- ---- the header of a loop

pub sum_reader_under : (p p' : Reader Token RawExpr) → Under p p' → Under (sum_reader p) (sum_reader p')
sum_reader_under p p' h = choose_under (is_the_punctuator "+") _ _ _ _ (mapped_under add_after _ _ (skip_under (the_punctuator "+") p p' h)) (mapped_under sub_after _ _ (skip_under (the_punctuator "-") p p' h))

pub step_tail_reader_under : (p p' e e' : Reader Token RawExpr) → Under p p' → Under e e' → Under (step_tail_reader p e) (step_tail_reader p' e')
step_tail_reader_under p p' e e' h k =
    choose_under (is_the_punctuator "++") _ _ _ _ (under_same (mapped step_up (word (the_punctuator "++"))))
    (choose_under (is_the_punctuator "--") _ _ _ _ (under_same (mapped step_down (word (the_punctuator "--"))))
    (choose_under (is_the_punctuator "+=") _ _ _ _ (mapped_under step_add _ _ (skip_under (the_punctuator "+=") e e' k))
    (choose_under (is_the_punctuator "-=") _ _ _ _ (mapped_under step_sub _ _ (skip_under (the_punctuator "-=") e e' k)) (skip_under (the_punctuator "=") _ _ (mapped_under step_set _ _ (then_under (word names) _ _ (sum_reader_under p p' h)))))))

pub step_reader_under : (t t' : Reader Token (Spelling → RawStep)) → Under t t' → Under (step_reader t) (step_reader t')
step_reader_under t t' h =
    choose_under (is_the_punctuator "++") _ _ _ _ (under_same (mapped step.UpBefore (skip (the_punctuator "++") (word names))))
    (choose_under (is_the_punctuator "--") _ _ _ _ (under_same (mapped step.DownBefore (skip (the_punctuator "--") (word names)))) (mapped_under step_of _ _ (then_under (word names) t t' h)))

pub header_test_reader_under : (e e' : Reader Token RawExpr) (s s' : Reader Token RawStep) → Under e e' → Under s s' → Under (header_test_reader e s) (header_test_reader e' s')
header_test_reader_under e e' s s' h k =
    skip_under (the_punctuator ";") _ _ (then_under (word names) _ _ (then_under (word tests) _ _ (both_under e e' _ _ h (skip_under (the_punctuator ";") _ _ (ends_under s s' (the_punctuator ")") k)))))

pub header_reader_under : (e e' : Reader Token RawExpr) (t t' : Reader Token (Spelling × ((ℕ × Test) × (RawExpr × RawStep)))) → Under e e' → Under t t' → Under (header_reader e t) (header_reader e' t')
header_reader_under e e' t t' h k =
    skip_under (the_punctuator "(") _ _ (mapped_under header_of _ _ (then_under (optional (the_keyword "int")) _ _ (then_under (word names) _ _ (skip_under (the_punctuator "=") _ _ (both_under e e' t t' h k)))))

-- ---- statements

pub loop_reader_under : (h h' : Reader Token Header) (b b' : Reader Token RawStmt) → Under h h' → Under b b' → Under (loop_reader h b) (loop_reader h' b')
loop_reader_under h h' b b' k l = mapped_under loop_of _ _ (then_under (maybe_word species_lines) _ _ (then_under parallel_reader _ _ (then_under (word (the_keyword "for")) _ _ (both_under h h' b b' k l))))

pub condition_reader_under : (e e' : Reader Token RawExpr) → Under e e' → Under (condition_reader e) (condition_reader e')
condition_reader_under e e' h = skip_under (the_punctuator "(") _ _ (ends_under e e' (the_punctuator ")") h)

pub if_reader_under : (c c' : Reader Token RawExpr) (b b' : Reader Token RawStmt) → Under c c' → Under b b' → Under (if_reader c b) (if_reader c' b')
if_reader_under c c' b b' h k = mapped_under if_of _ _ (then_under (word (the_keyword "if")) _ _ (both_under _ _ _ _ (both_under c c' b b' h k) (maybe_under (the_keyword "else") b b' k)))

pub item_reader_under : (d d' b b' : Reader Token RawStmt) → Under d d' → Under b b' → Under (item_reader d b) (item_reader d' b')
item_reader_under d d' b b' h k = choose_under is_type d d' b b' h k

pub block_reader_under : (i i' : Reader Token (List RawStmt)) → Under i i' → Under (block_reader i) (block_reader i')
block_reader_under i i' h = mapped_under block_of _ _ (then_under (word (the_punctuator "{")) i i' h)

pub node_reader_under : (b b' i i' l l' a a' s s' : Reader Token RawStmt) → Under b b' → Under i i' → Under l l' → Under a a' → Under s s' → Under (node_reader b i l a s) (node_reader b' i' l' a' s')
node_reader_under b b' i i' l l' a a' s s' hb hi hl ha hs =
    choose_under (is_the_punctuator ";") _ _ _ _ (under_same (mapped empty_of (word (the_punctuator ";"))))
    (choose_under (is_the_punctuator "{") b b' _ _ hb (choose_under (is_the_keyword "if") i i' _ _ hi (choose_under is_loop l l' _ _ hl (choose_under (is_of atomic_lines) a a' s s' ha hs))))

-- ---- units

pub function_reader_under : (b b' : Reader Token (List RawStmt)) → Under b b' → Under (function_reader b) (function_reader b')
function_reader_under b b' h =
    skip_under (the_keyword "void") _ _ (mapped_under function_of _ _ (then_under (word names) _ _ (skip_under (the_punctuator "(") _ _
    (then_under (maybe_word (the_keyword "void")) _ _ (skip_under (the_punctuator ")") _ _ (skip_under (the_punctuator "{") b b' h))))))

pub unit_reader_under : (f f' : Reader Token RawUnit) (g g' : Reader Token RawItem) (r r' : Reader Token RawUnit) → Under f f' → Under g g' → Under r r' → Under (unit_reader f g r) (unit_reader f' g' r')
unit_reader_under f f' g g' r r' hf hg hr =
    choose_under (is_of includes) _ _ _ _ (mapped_under include_of _ _ (then_under (word includes) r r' hr))
    (mapped_under unstatic _ _ (then_under (maybe_word (the_keyword "static")) _ _ (choose_under (is_the_keyword "void") f f' _ _ hf (mapped_under after_of _ _ (both_under g g' r r' hg hr)))))
