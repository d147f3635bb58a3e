-- A depth above the number of tokens is enough.
use Rattle.std.proofs.Common.{ℕ, zero, suc, ◌+◌, ◌≤◌, List, ◌∷◌, ◌++◌, length, arith, length-append}
use Rattle.std.specs.Prelude.{is_some}
use Rattle.species_grammar.specs.Reader.{Reader, Word, is_of, one, word, both, mapped, choose, skip, ends, maybe, maybe_word, cons_of}
use Rattle.species_grammar.specs.Lawful.{plain, Enough, Takes}
use Rattle.species_grammar.proofs.Depth.{fewer_enough, both_enough, mapped_enough, choose_enough, one_enough, skip_enough, ends_enough, maybe_enough, maybe_word_enough, many_enough, until_enough, level_enough, one_takes, both_takes, mapped_takes, choose_takes, skip_takes, fewer_takes, takes_of, takes_none, maybe_word_takes}
use Rattle.species_ast.specs.Token.{Token}
use Rattle.species_ast.specs.Grammar.Words.{sign, punctuator}
use Rattle.species_ast.specs.Grammar.Expressions.{Expression, Target, operation_sign}
use Rattle.species_ast.specs.declared.raw.RawExpr.{RawExpr}
use Rattle.species_ast.specs.declared.raw.RawTerm.TheVariants as term
use Rattle.species_ast.specs.declared.raw.RawTarget.{RawTarget}
use Rattle.species_ast.specs.declared.raw.RawStep.TheVariants as step
use Rattle.species_parser.specs.Words.{the_punctuator, the_keyword, unary_operators, operators_at, assignment_operators, tests, names, numbers, includes, species_lines, parallel_lines, atomic_lines, is_the_punctuator, is_the_keyword, is_type, is_loop}
use Rattle.species_parser.specs.Reading.{of_kind, first_place, unsigned_of, unsigned_long_of, long_words, unsigned_tail, type_reader, number_of, element_of, unary_of, cast_of, opened_of, operation_of, choice_of, subscript_reader, subscripts_reader, opened_reader, operand_reader, level_reader, binary_reader, choice_reader, operand_at, expression_at, product_at, subscripts_at, target_of, target_at, array_of, array_at, more_arrays_at, global_of, global_at, local_of, local_at, more_locals_at, declaration_of, declaration_at, up_after, down_after, set_to, change_tail_at, up_first, down_first, target_first, change_at, assignment_of, atomic_of, atomic_at, add_after, sub_after, sum_at, step_up, step_down, step_add, step_sub, step_set, step_tail_at, step_of, step_at, header_of, optional, header_step_at, header_test_at, header_at, parallel_of, parallel_reader, loop_of, condition_at, if_of, items_at, block_of, empty_of, statement_at, body_at, function_of, function_at, after_of, include_of, external_at, unstatic, unit_at}
use Rattle.species_parser.proofs.ExpressionLaws.{ExprBefore, ExprLaw, level_law}
use Rattle.species_parser.proofs.Operands.{operand_law, expression_laws, expression_lawful, operand_lawful, target_lawful, subscripts_lawful}
use Rattle.species_parser.proofs.DeclarationLaws.{declaration_lawful, global_lawful, arrays_lawful, local_lawful, locals_lawful}
use Rattle.species_parser.proofs.HeaderLaws.{change_lawful, step_lawful, header_lawful}
use Rattle.species_parser.proofs.StatementLaws.{statement_lawful, statement_long, declaration_long}
use Rattle.species_parser.proofs.UnitLaws.{global_long}

-- both, where the first takes nothing or one token
after_none : {A B : Type 0} (r : Reader Token A) (q : Reader Token B) (k n : ℕ) → Takes r k → Enough r n → Enough q n → Enough (both r q) n
after_none r q k n t h e = let l : n ≤ 0 + n = omega arith in both_enough r q 0 n n (fewer_takes r k t) h e l

after_one : {A B : Type 0} (r : Reader Token A) (q : Reader Token B) (n : ℕ) → Takes r 1 → Enough r (suc n) → Enough q n → Enough (both r q) (suc n)
after_one r q n t h e = let l : suc n ≤ 1 + n = omega arith in both_enough r q 1 (suc n) n t h e l

after_word : {A B : Type 0} (w : Word Token A) (q : Reader Token B) (n : ℕ) → Enough q n → Enough (both (word w) q) (suc n)
after_word w q n e = after_one (word w) q n (one_takes w.says) (one_enough w.says (suc n)) e

pub less_one : {A : Type 0} (r : Reader Token A) (n : ℕ) → Enough r (suc n) → Enough r n
less_one r n h = let l : n ≤ suc n = omega arith in fewer_enough r (suc n) n l h

pub skip_less : {A B : Type 0} (w : Word Token A) (r : Reader Token B) (n : ℕ) → Enough r n → Enough (skip w r) n
skip_less w r n h = less_one (skip w r) n (skip_enough w r n h)

word_less : {A B : Type 0} (w : Word Token A) (q : Reader Token B) (n : ℕ) → Enough q n → Enough (both (word w) q) n
word_less w q n e = less_one (both (word w) q) n (after_word w q n e)

-- ---- expressions

long_takes : Takes long_words 1
unfolding long_words
long_takes =
    mapped_takes first_place _ 1 (both_takes (word (the_keyword "long")) (both (word (the_keyword "long")) (maybe_word (the_keyword "int"))) 1 0 (one_takes (the_keyword "long").says)
    (both_takes (word (the_keyword "long")) (maybe_word (the_keyword "int")) 0 0 (fewer_takes (word (the_keyword "long")) 1 (one_takes (the_keyword "long").says)) (maybe_word_takes (the_keyword "int"))))

long_enough : (n : ℕ) → Enough long_words n
unfolding long_words
long_enough n =
    mapped_enough first_place _ n (word_less (the_keyword "long") _ n (word_less (the_keyword "long") _ n (maybe_word_enough (the_keyword "int") n)))

tail_takes : Takes unsigned_tail 0
unfolding unsigned_tail
tail_takes =
    choose_takes (is_the_keyword "long") _ _ 0 (mapped_takes unsigned_long_of _ 0 (fewer_takes long_words 1 long_takes)) (mapped_takes unsigned_of _ 0 (maybe_word_takes (the_keyword "int")))

tail_enough : (n : ℕ) → Enough unsigned_tail n
unfolding unsigned_tail
tail_enough n =
    choose_enough (is_the_keyword "long") _ _ n (mapped_enough unsigned_long_of _ n (long_enough n)) (mapped_enough unsigned_of _ n (maybe_word_enough (the_keyword "int") n))

type_takes : Takes type_reader 1
unfolding type_reader
type_takes =
    choose_takes (is_the_keyword "int") _ _ 1 (mapped_takes (of_kind _) _ 1 (one_takes (the_keyword "int").says))
    (choose_takes (is_the_keyword "unsigned") _ _ 1 (both_takes (word (the_keyword "unsigned")) unsigned_tail 1 0 (one_takes (the_keyword "unsigned").says) tail_takes) (mapped_takes (of_kind _) _ 1 long_takes))

type_enough : (n : ℕ) → Enough type_reader n
unfolding type_reader
type_enough n =
    choose_enough (is_the_keyword "int") _ _ n (mapped_enough (of_kind _) _ n (one_enough (the_keyword "int").says n))
    (choose_enough (is_the_keyword "unsigned") _ _ n (word_less (the_keyword "unsigned") _ n (tail_enough n)) (mapped_enough (of_kind _) _ n (long_enough n)))

expression_long : (n : ℕ) (x : RawExpr) (ts : List Token) → Expression n x ts → 1 ≤ length ts
expression_long n x ts (Expression.conditional p q c y z cs ys zs d e f) = let l = length-append cs (punctuator p "?" ∷ (ys ++ (punctuator q ":" ∷ zs))) in omega (arith, l)
expression_long n x ts (Expression.binary_operation p o y z ys zs d e) = let l = length-append ys (sign p (operation_sign o) ∷ zs) in omega (arith, l)
expression_long n x ts (Expression.unary_operation p o y ys d) = omega arith
expression_long n x ts (Expression.cast p q r k y ks ys kd d) = omega arith
expression_long n x ts (Expression.constant m v) = omega arith
expression_long n x ts (Expression.element m subs us d) = omega arith
expression_long n x ts (Expression.paren p q y ys d) = omega arith
expression_long n x ts (Expression.higher m y ys d) = expression_long (suc m) y ys d

pub expression_takes : (m n : ℕ) (r : Reader Token RawExpr) → ExprLaw m n r → Takes r 1
expression_takes m n r l = takes_of r (plain (Expression n)) (ExprBefore m n) (Expression n) 1 l (expression_long n)

-- at each depth: lawful, and enough for this many tokens
abbrev Good : ℕ → ℕ → Reader Token RawExpr → Type 0
Good m n r = ExprLaw m n r × Enough r m

level_good : (m n : ℕ) → 1 ≤ n → n ≤ 10 → (r : Reader Token RawExpr) → Good m (suc n) r → Good m n (level_reader m n r)
level_good m n lo hi r h = (
  level_law m n lo hi r h.0,
  level_enough operation_of m (λ t. is_some (operators_at n t)) (one (operators_at n)) r (one_takes (operators_at n)) (one_enough (operators_at n) m) (expression_takes m (suc n) r h.0) h.1,
)

binary_good : (m : ℕ) (u : Reader Token RawExpr) → Good m 11 u → Good m 1 (binary_reader m u)
binary_good m u h =
    step 1 (omega arith) (omega arith) _ (step 2 (omega arith) (omega arith) _ (step 3 (omega arith) (omega arith) _ (step 4 (omega arith) (omega arith) _ (step 5 (omega arith) (omega arith) _
    (step 6 (omega arith) (omega arith) _ (step 7 (omega arith) (omega arith) _ (step 8 (omega arith) (omega arith) _ (step 9 (omega arith) (omega arith) _ (step 10 (omega arith) (omega arith) u h)))))))))
  where
    step : (n : ℕ) → 1 ≤ n → n ≤ 10 → (r : Reader Token RawExpr) → Good m (suc n) r → Good m n (level_reader m n r)
    step = level_good m

pub subscript_enough : (n : ℕ) (e : Reader Token RawExpr) → Takes e 0 → Enough e n → Enough (subscript_reader e) n
subscript_enough n e t h = skip_less (the_punctuator "[") (ends e (the_punctuator "]")) n (ends_enough e (the_punctuator "]") n t h)

pub subscript_takes : (e : Reader Token RawExpr) → Takes e 1 → Takes (subscript_reader e) 1
subscript_takes e t = less (skip_takes (the_punctuator "[") (ends e (the_punctuator "]")) 0 (fewer_takes _ 1 (mapped_takes (λ p. p.0) _ 1 (both_takes e (word (the_punctuator "]")) 1 0 t (fewer_takes (word (the_punctuator "]")) 1 (one_takes (the_punctuator "]").says))))))
  where
    less : Takes (subscript_reader e) (1 + 0) → Takes (subscript_reader e) 1
    less h ts x rest d = h ts x rest d

subscripts_enough : (n : ℕ) (e : Reader Token RawExpr) → Takes e 1 → Enough e n → Enough (subscripts_reader n e) n
subscripts_enough n e t h = many_enough n (is_the_punctuator "[") (subscript_reader e) (subscript_takes e t) (subscript_enough n e (fewer_takes e 1 t) h)

operand_enough : (n : ℕ) (u e : Reader Token RawExpr) → Takes e 1 → Enough u n → Enough e n → Enough (operand_reader n u e) (suc n)
operand_enough n u e t h k =
    choose_enough (is_of numbers) _ _ (suc n) (mapped_enough number_of _ (suc n) (one_enough numbers.says (suc n)))
    (choose_enough (is_of unary_operators) _ _ (suc n) (mapped_enough unary_of _ (suc n) (after_word unary_operators u n h))
    (choose_enough (is_the_punctuator "(") _ _ (suc n)
    (mapped_enough opened_of _ (suc n) (after_word (the_punctuator "(") (opened_reader u e) n
    (choose_enough is_type _ _ n
    (mapped_enough cast_of _ n (after_none (ends type_reader (the_punctuator ")")) u 0 n ends_take (ends_enough type_reader (the_punctuator ")") n (fewer_takes type_reader 1 type_takes) (type_enough n)) h))
    (mapped_enough term.Paren _ n (ends_enough e (the_punctuator ")") n (fewer_takes e 1 t) k)))))
    (mapped_enough element_of _ (suc n) (after_word names (subscripts_reader n e) n (subscripts_enough n e t k)))))
  where
    ends_take : Takes (ends type_reader (the_punctuator ")")) 0
    ends_take = mapped_takes (λ p. p.0) _ 0 (both_takes type_reader (word (the_punctuator ")")) 0 0 (fewer_takes type_reader 1 type_takes) (fewer_takes (word (the_punctuator ")")) 1 (one_takes (the_punctuator ")").says)))

choice_enough : (n : ℕ) (u e : Reader Token RawExpr) → Good (suc n) 11 u → Takes e 1 → Enough e n → Enough (choice_reader (suc n) u e) (suc n)
choice_enough n u e h t k =
    let b = binary_good (suc n) u h in
    mapped_enough choice_of _ (suc n) (after_none (binary_reader (suc n) u) (maybe (the_punctuator "?") (both e (skip (the_punctuator ":") e))) 1 (suc n) (expression_takes (suc n) 1 (binary_reader (suc n) u) b.0) b.1
    (maybe_enough (the_punctuator "?") (both e (skip (the_punctuator ":") e)) n (after_none e (skip (the_punctuator ":") e) 1 n t k (skip_less (the_punctuator ":") e n k))))

pub expressions_enough : (n : ℕ) → Enough (operand_at n) n × Enough (expression_at n) n
expressions_enough zero = (λ ts lt d. omega (arith, lt), λ ts lt d. omega (arith, lt))
expressions_enough (suc n) =
    let h = expressions_enough n in
    let l = expression_laws n in
    let t = expression_takes n 0 (expression_at n) l.1 in
    let u = operand_enough n (operand_at n) (expression_at n) t h.0 h.1 in
    (u, choice_enough n (operand_reader n (operand_at n) (expression_at n)) (expression_at n) (operand_law n (operand_at n) (expression_at n) l.0 l.1, u) t h.1)

pub expression_enough : (n : ℕ) → Enough (expression_at n) n
expression_enough n = (expressions_enough n).1

pub expressions_take : (n : ℕ) → Takes (expression_at n) 1
expressions_take n = expression_takes n 0 (expression_at n) (expression_lawful n)

product_enough : (n : ℕ) → Enough (product_at n) n
product_enough n = (level_good n 10 (omega arith) (omega arith) (operand_at n) (operand_lawful n, (expressions_enough n).0)).1

subs_enough : (n : ℕ) → Enough (subscripts_at n) n
subs_enough n = subscripts_enough n (expression_at n) (expressions_take n) (expression_enough n)

target_enough : (n : ℕ) → Enough (target_at n) (suc n)
target_enough n = mapped_enough target_of _ (suc n) (after_word names (subscripts_at n) n (subs_enough n))

target_long : (t : RawTarget) (ts : List Token) → Target t ts → 1 ≤ length ts
target_long t ts (Target.element m subs us s) = omega arith

target_takes : (n : ℕ) → Takes (target_at n) 1
target_takes n = takes_of (target_at n) _ _ Target 1 (target_lawful n) target_long

ends_less : {A : Type 0} (r : Reader Token A) (w : Word Token ℕ) (k : ℕ) → Takes r k → Takes (ends r w) k
ends_less r w k t = fewer (mapped_takes (λ p. p.0) _ (k + 1) (both_takes r (word w) k 1 t (one_takes w.says)))
  where
    fewer : Takes (ends r w) (k + 1) → Takes (ends r w) k
    fewer h ts x rest d = omega (arith, h ts x rest d)

-- ---- declarations

pub array_enough : (n : ℕ) → Enough (array_at n) (suc n)
array_enough n =
    let e = subscript_enough n (expression_at n) (fewer_takes _ 1 (expressions_take n)) (expression_enough n) in
    mapped_enough array_of _ (suc n) (after_word names _ n (mapped_enough cons_of _ n (after_none (subscript_reader (expression_at n)) (subscripts_at n) 1 n (subscript_takes (expression_at n) (expressions_take n)) e (subs_enough n))))

pub local_enough : (n : ℕ) → Enough (local_at n) (suc n)
local_enough n = mapped_enough local_of _ (suc n) (after_word names _ n (less_one _ n (maybe_enough (the_punctuator "=") (expression_at n) n (expression_enough n))))

pub array_takes : (n : ℕ) → Takes (array_at n) 0
array_takes n = mapped_takes array_of _ 0 (fewer_takes _ 1 (both_takes (word names) _ 1 0 (one_takes names.says) (mapped_takes cons_of _ 0 (both_takes (subscript_reader (expression_at n)) (subscripts_at n) 0 0 (fewer_takes _ 1 (subscript_takes (expression_at n) (expressions_take n))) (subs_take n)))))
  where
    subs_take : (n : ℕ) → Takes (subscripts_at n) 0
    subs_take n = takes_none (subscripts_at n) _ _ _ (subscripts_lawful n)

pub local_takes : (n : ℕ) → Takes (local_at n) 0
local_takes n = takes_none (local_at n) _ _ _ (local_lawful n)

pub global_enough : (n : ℕ) → Enough (global_at n) (suc n)
global_enough n =
    let one_array = less_one _ n (array_enough n) in
    let comma = skip_less (the_punctuator ",") (array_at n) n one_array in
    mapped_enough global_of _ (suc n) (after_one type_reader _ n type_takes (type_enough (suc n))
    (ends_enough _ (the_punctuator ";") n (list_takes n) (mapped_enough cons_of _ n (after_none (array_at n) (more_arrays_at n) 0 n (array_takes n) one_array
    (many_enough n (is_the_punctuator ",") _ (skip_takes (the_punctuator ",") (array_at n) 0 (array_takes n)) comma)))))
  where
    list_takes : (n : ℕ) → Takes (mapped cons_of (both (array_at n) (more_arrays_at n))) 0
    list_takes n = mapped_takes cons_of _ 0 (both_takes (array_at n) (more_arrays_at n) 0 0 (array_takes n) (takes_none (more_arrays_at n) _ _ _ (arrays_lawful n)))

pub declaration_enough : (n : ℕ) → Enough (declaration_at n) n
declaration_enough n =
    let one_local = less_one _ n (local_enough n) in
    let comma = skip_less (the_punctuator ",") (local_at n) n one_local in
    mapped_enough declaration_of _ n (after_none type_reader _ 1 n type_takes (type_enough n)
    (ends_enough _ (the_punctuator ";") n (list_takes n) (mapped_enough cons_of _ n (after_none (local_at n) (more_locals_at n) 0 n (local_takes n) one_local
    (many_enough n (is_the_punctuator ",") _ (skip_takes (the_punctuator ",") (local_at n) 0 (local_takes n)) comma)))))
  where
    list_takes : (n : ℕ) → Takes (mapped cons_of (both (local_at n) (more_locals_at n))) 0
    list_takes n = mapped_takes cons_of _ 0 (both_takes (local_at n) (more_locals_at n) 0 0 (local_takes n) (takes_none (more_locals_at n) _ _ _ (locals_lawful n)))

-- ---- changes

change_tail_enough : (n : ℕ) → Enough (change_tail_at n) n
change_tail_enough n =
    choose_enough (is_the_punctuator "++") _ _ n (mapped_enough up_after _ n (one_enough (the_punctuator "++").says n))
    (choose_enough (is_the_punctuator "--") _ _ n (mapped_enough down_after _ n (one_enough (the_punctuator "--").says n)) (mapped_enough set_to _ n (word_less assignment_operators (expression_at n) n (expression_enough n))))

change_enough : (n : ℕ) → Enough (change_at n) (suc n)
change_enough n =
    let t = less_one _ n (target_enough n) in
    choose_enough (is_the_punctuator "++") _ _ (suc n) (mapped_enough up_first _ (suc n) (after_word (the_punctuator "++") (target_at n) n t))
    (choose_enough (is_the_punctuator "--") _ _ (suc n) (mapped_enough down_first _ (suc n) (after_word (the_punctuator "--") (target_at n) n t))
    (mapped_enough target_first _ (suc n) (after_one (target_at n) (change_tail_at n) n (target_takes n) (target_enough n) (change_tail_enough n))))

atomic_enough : (n : ℕ) → Enough (atomic_at n) (suc n)
atomic_enough n =
    skip_enough atomic_lines _ n (mapped_enough atomic_of _ n (after_none (target_at n) _ 1 n (target_takes n) (less_one _ n (target_enough n))
    (skip_less (the_punctuator "+=") (ends (expression_at n) (the_punctuator ";")) n (ends_enough (expression_at n) (the_punctuator ";") n (fewer_takes _ 1 (expressions_take n)) (expression_enough n)))))

-- ---- headers

sum_enough : (n : ℕ) → Enough (sum_at n) n
sum_enough n =
    choose_enough (is_the_punctuator "+") _ _ n (mapped_enough add_after _ n (skip_less (the_punctuator "+") (product_at n) n (product_enough n))) (mapped_enough sub_after _ n (skip_less (the_punctuator "-") (product_at n) n (product_enough n)))

step_enough : (n : ℕ) → Enough (step_at n) n
step_enough n =
    choose_enough (is_the_punctuator "++") _ _ n (mapped_enough step.UpBefore _ n (skip_less (the_punctuator "++") (word names) n (one_enough names.says n)))
    (choose_enough (is_the_punctuator "--") _ _ n (mapped_enough step.DownBefore _ n (skip_less (the_punctuator "--") (word names) n (one_enough names.says n)))
    (mapped_enough step_of _ n (word_less names (step_tail_at n) n
    (choose_enough (is_the_punctuator "++") _ _ n (mapped_enough step_up _ n (one_enough (the_punctuator "++").says n))
    (choose_enough (is_the_punctuator "--") _ _ n (mapped_enough step_down _ n (one_enough (the_punctuator "--").says n))
    (choose_enough (is_the_punctuator "+=") _ _ n (mapped_enough step_add _ n (skip_less (the_punctuator "+=") (expression_at n) n (expression_enough n)))
    (choose_enough (is_the_punctuator "-=") _ _ n (mapped_enough step_sub _ n (skip_less (the_punctuator "-=") (expression_at n) n (expression_enough n)))
    (skip_less (the_punctuator "=") _ n (mapped_enough step_set _ n (word_less names (sum_at n) n (sum_enough n)))))))))))

step_takes : (n : ℕ) → Takes (step_at n) 0
step_takes n = takes_none (step_at n) _ _ _ (step_lawful n)

header_enough : (n : ℕ) → Enough (header_at n) n
header_enough n =
    let e = expression_enough n in
    let t = expressions_take n in
    let last = skip_less (the_punctuator ";") (ends (step_at n) (the_punctuator ")")) n (ends_enough (step_at n) (the_punctuator ")") n (step_takes n) (step_enough n)) in
    let test = skip_less (the_punctuator ";") _ n (word_less names _ n (word_less tests _ n (after_none (expression_at n) (header_step_at n) 1 n t e last))) in
    skip_less (the_punctuator "(") _ n (mapped_enough header_of _ n (after_none (optional (the_keyword "int")) _ 0 n (mapped_takes is_some _ 0 (maybe_word_takes (the_keyword "int"))) (mapped_enough is_some _ n (maybe_word_enough (the_keyword "int") n))
    (word_less names _ n (skip_less (the_punctuator "=") _ n (after_none (expression_at n) (header_test_at n) 1 n t e test)))))

header_takes : (n : ℕ) → Takes (header_at n) 0
header_takes n = takes_none (header_at n) _ _ _ (header_lawful n)

-- ---- statements

pub statements_take : (n : ℕ) → Takes (statement_at n) 1
statements_take n = takes_of (statement_at n) _ _ _ 1 (statement_lawful n) (λ x ts d. statement_long d.0 x ts d.1)

pub declarations_take : (n : ℕ) → Takes (declaration_at n) 1
declarations_take n = takes_of (declaration_at n) _ _ _ 1 (declaration_lawful n) declaration_long

pub items_enough : (n : ℕ) → Enough (statement_at n) n → Enough (items_at n (statement_at n)) n
items_enough n h =
    until_enough n (the_punctuator "}") (choose is_type (declaration_at n) (statement_at n)) (choose_takes is_type (declaration_at n) (statement_at n) 1 (declarations_take n) (statements_take n))
    (choose_enough is_type (declaration_at n) (statement_at n) n (declaration_enough n) h)

condition_enough : (n : ℕ) → Enough (condition_at n) n
condition_enough n = skip_less (the_punctuator "(") _ n (ends_enough (expression_at n) (the_punctuator ")") n (fewer_takes _ 1 (expressions_take n)) (expression_enough n))

condition_takes : (n : ℕ) → Takes (condition_at n) 0
condition_takes n = fewer_takes _ 1 (skip_takes (the_punctuator "(") (ends (expression_at n) (the_punctuator ")")) 0 (ends_less (expression_at n) (the_punctuator ")") 0 (fewer_takes _ 1 (expressions_take n))))

pub statement_enough : (n : ℕ) → Enough (statement_at n) n
statement_enough zero = λ ts lt d. omega (arith, lt)
statement_enough (suc n) =
    let h = statement_enough n in
    choose_enough (is_the_punctuator ";") _ _ (suc n) (mapped_enough empty_of _ (suc n) (one_enough (the_punctuator ";").says (suc n)))
    (choose_enough (is_the_punctuator "{") _ _ (suc n) (mapped_enough block_of _ (suc n) (after_word (the_punctuator "{") (items_at n (statement_at n)) n (items_enough n h)))
    (choose_enough (is_the_keyword "if") _ _ (suc n)
    (mapped_enough if_of _ (suc n) (after_word (the_keyword "if") _ n
    (after_none (both (condition_at n) (statement_at n)) (maybe (the_keyword "else") (statement_at n)) 0 n (both_takes (condition_at n) (statement_at n) 0 0 (condition_takes n) (fewer_takes _ 1 (statements_take n)))
    (after_none (condition_at n) (statement_at n) 0 n (condition_takes n) (condition_enough n) h) (less_one _ n (maybe_enough (the_keyword "else") (statement_at n) n h)))))
    (choose_enough is_loop _ _ (suc n)
    (mapped_enough loop_of _ (suc n) (after_none (maybe_word species_lines) _ 0 (suc n) (maybe_word_takes species_lines) (maybe_word_enough species_lines (suc n))
    (after_none parallel_reader _ 0 (suc n) (mapped_takes parallel_of _ 0 (maybe_word_takes parallel_lines)) (mapped_enough parallel_of _ (suc n) (maybe_word_enough parallel_lines (suc n)))
    (after_word (the_keyword "for") _ n (after_none (header_at n) (statement_at n) 0 n (header_takes n) (header_enough n) h)))))
    (choose_enough (is_of atomic_lines) _ _ (suc n) (atomic_enough n)
    (mapped_enough assignment_of _ (suc n) (ends_enough (change_at n) (the_punctuator ";") (suc n) (takes_none (change_at n) _ _ _ (change_lawful n)) (change_enough n)))))))

-- ---- units

pub function_enough : (n : ℕ) → Enough (function_at n) (suc n)
function_enough n =
    skip_enough (the_keyword "void") _ n (mapped_enough function_of _ n (word_less names _ n (skip_less (the_punctuator "(") _ n
    (after_none (maybe_word (the_keyword "void")) _ 0 n (maybe_word_takes (the_keyword "void")) (maybe_word_enough (the_keyword "void") n)
    (skip_less (the_punctuator ")") _ n (skip_less (the_punctuator "{") (body_at n) n (items_enough n (statement_enough n))))))))

pub globals_take : (n : ℕ) → Takes (global_at n) 1
globals_take n = takes_of (global_at n) _ _ _ 1 (global_lawful n) global_long

pub unit_enough : (n : ℕ) → Enough (unit_at n) n
unit_enough zero = λ ts lt d. omega (arith, lt)
unit_enough (suc n) =
    let h = unit_enough n in
    choose_enough (is_of includes) _ _ (suc n) (mapped_enough include_of _ (suc n) (after_word includes (unit_at n) n h))
    (mapped_enough unstatic _ (suc n) (after_none (maybe_word (the_keyword "static")) (external_at n (unit_at n)) 0 (suc n) (maybe_word_takes (the_keyword "static")) (maybe_word_enough (the_keyword "static") (suc n))
    (choose_enough (is_the_keyword "void") _ _ (suc n) (function_enough n) (mapped_enough after_of _ (suc n) (after_one (global_at n) (unit_at n) n (globals_take n) (global_enough n) h)))))

-- ---- each depth that is enough reads the same
