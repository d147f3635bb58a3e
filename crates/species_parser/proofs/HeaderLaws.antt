-- The readers of changes, of steps and of the headers of loops are lawful.
use Rattle.std.proofs.Common.{◌≡◌, ◌∙◌, ap, sym, refl, subst, ℕ, suc, ◌<◌, List, [], ◌∷◌, ◌++◌, length, Option, Some, None, Bool, true, false, arith, length-append, append_assoc, inl, inr}
use Rattle.std.specs.Prelude.{is_some}
use Prim.Native.String.{String}
use Rattle.species_grammar.specs.Reader.{is_of, starts, word, both, mapped, choose, skip, ends, maybe_word}
use Rattle.species_grammar.specs.Lawful.{Spelled, Before, Lawful, plain, word_spelled, both_before, both_spelled, mapped_before, mapped_spelled, choose_before, choose_spelled, skip_before, skip_spelled, ends_before, ends_spelled, maybe_word_before, maybe_word_spelled}
use Rattle.species_grammar.proofs.Laws.{recast_plain, both_lawful, mapped_lawful, word_lawful, choose_lawful, skip_lawful, ends_lawful, maybe_word_lawful}
use Rattle.species_ast.specs.Signs.{assignment_sign, test_sign}
use Rattle.species_ast.specs.Token.{Token}
use Rattle.species_ast.specs.Spelling.{Spelling}
use Rattle.species_ast.specs.Grammar.Words.{sign, punctuator, name, Optional}
use Rattle.species_ast.specs.Grammar.Expressions.{Expression, Target}
use Rattle.species_ast.specs.Grammar.Statements.{target_place, Change, Step, Header, ForHeader, SpeciesLine, ParallelLine}
use Rattle.species_ast.specs.declared.tree.Schedule.{Schedule}
use Rattle.species_ast.specs.declared.tree.Test.{Test}
use Rattle.species_ast.specs.declared.raw.RawExpr.{RawExpr}
use Rattle.species_ast.specs.declared.raw.RawTarget.{RawTarget}
use Rattle.species_ast.specs.declared.raw.RawChange.{RawChange}
use Rattle.species_ast.specs.declared.raw.RawChange.TheVariants as change
use Rattle.species_ast.specs.declared.raw.RawStep.{RawStep}
use Rattle.species_ast.specs.declared.raw.RawStep.TheVariants as step
use Rattle.species_parser.specs.Words.{the_punctuator, the_keyword, assignment_operators, tests, names, species_lines, parallel_lines, is_the_punctuator, goes_on}
use Rattle.species_parser.specs.Reading.{expression_at, product_at, target_at, up_after, down_after, set_to, change_tail_at, up_first, down_first, target_first, change_at, add_after, sub_after, sum_at, step_up, step_down, step_add, step_sub, step_set, step_tail_at, step_of, step_at, header_of, optional, header_step_at, header_test_at, header_at, parallel_of, parallel_reader}
use Rattle.species_parser.proofs.Words.{punctuator_is_word, keyword_is_word, assignment_is_word, test_is_word, name_is_word, species_is_word, parallel_is_word, mark_apart}
use Rattle.species_parser.proofs.ExpressionLaws.{ExprBefore, then_any, then_no_bracket}
use Rattle.species_parser.proofs.Operands.{TargetBefore, target_lawful, expression_lawful, product_lawful}

-- ---- changes

-- what stands after a target
abbrev ChangeTail : Spelled Token (RawTarget → RawChange)
ChangeTail f us = (t : RawTarget) (ts : List Token) → Target t ts → Change (target_place t) (f t) (ts ++ us)

abbrev ChangeTailV : Spelled Token (RawTarget → RawChange)
ChangeTailV = choose_spelled (mapped_spelled up_after (word_spelled (the_punctuator "++")))
    (choose_spelled (mapped_spelled down_after (word_spelled (the_punctuator "--"))) (mapped_spelled set_to (both_spelled (word_spelled assignment_operators) (Expression 0))))

abbrev ChangeTailF : ℕ → Before Token (RawTarget → RawChange)
ChangeTailF n = choose_before (is_the_punctuator "++") (mapped_before up_after (plain (word_spelled (the_punctuator "++"))))
    (choose_before (is_the_punctuator "--") (mapped_before down_after (plain (word_spelled (the_punctuator "--")))) (mapped_before set_to (both_before (plain (word_spelled assignment_operators)) (ExprBefore n 0))))

change_tail_viable : (f : RawTarget → RawChange) (front : List Token) → ChangeTailV f front → ChangeTail f front
change_tail_viable f front (inl (p, y, h)) = λ t ts d. subst (λ g. Change (target_place t) (g t) (ts ++ front)) y (subst (λ z. Change (target_place t) (change.Up t) (ts ++ z)) (sym h) (Change.up p t ts d))
change_tail_viable f front (inr (inl (p, y, h))) = λ t ts d. subst (λ g. Change (target_place t) (g t) (ts ++ front)) y (subst (λ z. Change (target_place t) (change.Down t) (ts ++ z)) (sym h) (Change.down p t ts d))
change_tail_viable f front (inr (inr (p, y, (a, b, i, j, xd)))) = λ t ts d.
    subst (λ g. Change (target_place t) (g t) (ts ++ front)) y
    (subst (λ z. Change (target_place t) (set_to p t) (ts ++ z)) (sym (i ∙ ap (λ z. z ++ b) j)) (Change.set p.0.0 p.0.1 t p.1 ts b d xd))

change_tail_lawful : (n : ℕ) → Lawful (change_tail_at n) (plain ChangeTail) (ChangeTailF n) ChangeTail
change_tail_lawful n =
    recast_plain (change_tail_at n) _ _ (ChangeTailF n) _ ChangeTail
    (choose_lawful (is_the_punctuator "++") (mapped up_after (word (the_punctuator "++"))) (choose (is_the_punctuator "--") (mapped down_after (word (the_punctuator "--"))) (mapped set_to (both (word assignment_operators) (expression_at n)))) _ _ _ _ _ _
    (mapped_lawful up_after (word (the_punctuator "++")) _ _ _ (word_lawful (the_punctuator "++") (punctuator_is_word "++")))
    (choose_lawful (is_the_punctuator "--") (mapped down_after (word (the_punctuator "--"))) (mapped set_to (both (word assignment_operators) (expression_at n))) _ _ _ _ _ _
    (mapped_lawful down_after (word (the_punctuator "--")) _ _ _ (word_lawful (the_punctuator "--") (punctuator_is_word "--")))
    (mapped_lawful set_to (both (word assignment_operators) (expression_at n)) _ _ _ (both_lawful (word assignment_operators) (expression_at n) _ _ _ _ _ _ (word_lawful assignment_operators assignment_is_word) (expression_lawful n)))))
    (λ f front rest h. h)
    change_tail_viable

abbrev pub ChangeSpelled : Spelled Token (ℕ × RawChange)
ChangeSpelled p ts = Change p.0 p.1 ts

abbrev pub ChangeBefore : ℕ → Before Token (ℕ × RawChange)
ChangeBefore n p front rest = Change p.0 p.1 front × (length front < n) × (starts (goes_on 0) rest ≡ false)

abbrev ChangeV : Spelled Token (ℕ × RawChange)
ChangeV = choose_spelled (mapped_spelled up_first (both_spelled (word_spelled (the_punctuator "++")) Target))
    (choose_spelled (mapped_spelled down_first (both_spelled (word_spelled (the_punctuator "--")) Target)) (mapped_spelled target_first (both_spelled Target ChangeTail)))

abbrev ChangeF : ℕ → Before Token (ℕ × RawChange)
ChangeF n = choose_before (is_the_punctuator "++") (mapped_before up_first (both_before (plain (word_spelled (the_punctuator "++"))) (TargetBefore n)))
    (choose_before (is_the_punctuator "--") (mapped_before down_first (both_before (plain (word_spelled (the_punctuator "--"))) (TargetBefore n))) (mapped_before target_first (both_before (TargetBefore n) (ChangeTailF n))))

change_viable : (x : ℕ × RawChange) (front : List Token) → ChangeV x front → ChangeSpelled x front
change_viable x front (inl (p, y, (a, b, i, j, d))) = subst (λ z. ChangeSpelled z front) y (subst (ChangeSpelled (up_first p)) (sym (i ∙ ap (λ z. z ++ b) j)) (Change.up_before p.0 p.1 b d))
change_viable x front (inr (inl (p, y, (a, b, i, j, d)))) = subst (λ z. ChangeSpelled z front) y (subst (ChangeSpelled (down_first p)) (sym (i ∙ ap (λ z. z ++ b) j)) (Change.down_before p.0 p.1 b d))
change_viable x front (inr (inr (p, y, (a, b, i, d, f)))) = subst (λ z. ChangeSpelled z front) y (subst (ChangeSpelled (target_first p)) (sym i) (f p.0 a d))

-- a target begins with a name
pub target_starts : (c : Token → Bool) (b : Bool) → ((m : Spelling) → c (name m) ≡ b) → (t : RawTarget) (ts rest : List Token) → Target t ts → starts c (ts ++ rest) ≡ b
target_starts c b h t ts rest (Target.element m subs us s) = h m

pub after_target : (c : Token → Bool) (b : Bool) → ((m : Spelling) → c (name m) ≡ b) → (t : RawTarget) (ts us rest : List Token) → Target t ts → starts c ((ts ++ us) ++ rest) ≡ b
after_target c b h t ts us rest d = ap (starts c) (append_assoc ts us rest) ∙ target_starts c b h t ts (us ++ rest) d

change_full : (n : ℕ) (p : ℕ) (x : RawChange) (front rest : List Token) → Change p x front → length front < n → starts (goes_on 0) rest ≡ false → starts (is_the_punctuator "[") rest ≡ false → ChangeF n (p, x) front rest
change_full n p x front rest (Change.set q o t e ts xs d xd) lt h k =
    let l0 = length-append ts (sign q (assignment_sign o) ∷ xs) in
    let lx : length xs < n = omega (arith, lt, l0) in
    let l1 : length ts < suc n = omega (arith, lt, l0) in
    let mark = assignment_operators.token (q, o) in
    let own = assignment_is_word.own (q, o) in
    inr (
      after_target (is_the_punctuator "++") false (λ m. refl) t ts _ rest d,
      inr (
        after_target (is_the_punctuator "--") false (λ m. refl) t ts _ rest d,
        (
          (t, set_to ((q, o), e)),
          refl,
          (
            ts,
            sign q (assignment_sign o) ∷ xs,
            refl,
            (d, l1, mark_apart assignment_operators "[" mark (q, o) own (λ r. refl)),
            inr (
              mark_apart assignment_operators "++" mark (q, o) own (λ r. refl),
              inr (
                mark_apart assignment_operators "--" mark (q, o) own (λ r. refl),
                (((q, o), e), refl, (mark ∷ [], xs, refl, refl, (xd, lx, h))),
              ),
            ),
          ),
        ),
      ),
    )
change_full n p x front rest (Change.up q t ts d) lt h k =
    let l0 = length-append ts (punctuator q "++" ∷ []) in
    let l1 : length ts < suc n = omega (arith, lt, l0) in
    inr (
      after_target (is_the_punctuator "++") false (λ m. refl) t ts _ rest d,
      inr (
        after_target (is_the_punctuator "--") false (λ m. refl) t ts _ rest d,
        ((t, up_after q), refl, (ts, punctuator q "++" ∷ [], refl, (d, l1, refl), inl (refl, (q, refl, refl)))),
      ),
    )
change_full n p x front rest (Change.down q t ts d) lt h k =
    let l0 = length-append ts (punctuator q "--" ∷ []) in
    let l1 : length ts < suc n = omega (arith, lt, l0) in
    inr (
      after_target (is_the_punctuator "++") false (λ m. refl) t ts _ rest d,
      inr (
        after_target (is_the_punctuator "--") false (λ m. refl) t ts _ rest d,
        ((t, down_after q), refl, (ts, punctuator q "--" ∷ [], refl, (d, l1, refl), inr (refl, inl (refl, (q, refl, refl))))),
      ),
    )
change_full n p x front rest (Change.up_before q t ts d) lt h k =
    let l1 : length ts < suc n = omega (arith, lt) in
    inl (refl, ((q, t), refl, (punctuator q "++" ∷ [], ts, refl, refl, (d, l1, k))))
change_full n p x front rest (Change.down_before q t ts d) lt h k =
    let l1 : length ts < suc n = omega (arith, lt) in
    inr (refl, inl (refl, ((q, t), refl, (punctuator q "--" ∷ [], ts, refl, refl, (d, l1, k)))))

no_bracket : (rest : List Token) → starts (goes_on 0) rest ≡ false → starts (is_the_punctuator "[") rest ≡ false
no_bracket rest h = then_no_bracket 0 rest h

pub change_lawful : (n : ℕ) → Lawful (change_at n) (plain ChangeSpelled) (ChangeBefore n) ChangeSpelled
change_lawful n =
    recast_plain (change_at n) _ _ (ChangeBefore n) _ ChangeSpelled
    (choose_lawful (is_the_punctuator "++") (mapped up_first (both (word (the_punctuator "++")) (target_at n))) (choose (is_the_punctuator "--") (mapped down_first (both (word (the_punctuator "--")) (target_at n))) (mapped target_first (both (target_at n) (change_tail_at n)))) _ _ _ _ _ _
    (mapped_lawful up_first (both (word (the_punctuator "++")) (target_at n)) _ _ _ (both_lawful (word (the_punctuator "++")) (target_at n) _ _ _ _ _ _ (word_lawful (the_punctuator "++") (punctuator_is_word "++")) (target_lawful n)))
    (choose_lawful (is_the_punctuator "--") (mapped down_first (both (word (the_punctuator "--")) (target_at n))) (mapped target_first (both (target_at n) (change_tail_at n))) _ _ _ _ _ _
    (mapped_lawful down_first (both (word (the_punctuator "--")) (target_at n)) _ _ _ (both_lawful (word (the_punctuator "--")) (target_at n) _ _ _ _ _ _ (word_lawful (the_punctuator "--") (punctuator_is_word "--")) (target_lawful n)))
    (mapped_lawful target_first (both (target_at n) (change_tail_at n)) _ _ _ (both_lawful (target_at n) (change_tail_at n) _ _ _ _ _ _ (target_lawful n) (change_tail_lawful n)))))
    (λ x front rest h. change_full n x.0 x.1 front rest h.0 h.1 h.2 (no_bracket rest h.2))
    change_viable

-- ---- steps

-- what stands after `i = j`
abbrev SumTail : Spelled Token (Spelling → Spelling → RawStep)
SumTail f us = (p : ℕ) (i j : Spelling) → Step (f i j) (name i ∷ punctuator p "=" ∷ name j ∷ us)

abbrev SumF : ℕ → Before Token (Spelling → Spelling → RawStep)
SumF n = choose_before (is_the_punctuator "+") (mapped_before add_after (skip_before (the_punctuator "+") (ExprBefore n 10))) (mapped_before sub_after (skip_before (the_punctuator "-") (ExprBefore n 10)))

sum_viable : (f : Spelling → Spelling → RawStep) (front : List Token)
    → choose_spelled (mapped_spelled add_after (skip_spelled (the_punctuator "+") (Expression 10))) (mapped_spelled sub_after (skip_spelled (the_punctuator "-") (Expression 10))) f front → SumTail f front
sum_viable f front (inl (x, y, (q, b, h, d))) = λ p i j. subst (λ g. Step (g i j) (name i ∷ punctuator p "=" ∷ name j ∷ front)) y (subst (λ z. Step (step.SetAdd i j x) (name i ∷ punctuator p "=" ∷ name j ∷ z)) (sym h) (Step.set_add p q i j x b d))
sum_viable f front (inr (x, y, (q, b, h, d))) = λ p i j. subst (λ g. Step (g i j) (name i ∷ punctuator p "=" ∷ name j ∷ front)) y (subst (λ z. Step (step.SetSub i j x) (name i ∷ punctuator p "=" ∷ name j ∷ z)) (sym h) (Step.set_sub p q i j x b d))

sum_lawful : (n : ℕ) → Lawful (sum_at n) (plain SumTail) (SumF n) SumTail
sum_lawful n =
    recast_plain (sum_at n) _ _ (SumF n) _ SumTail
    (choose_lawful (is_the_punctuator "+") (mapped add_after (skip (the_punctuator "+") (product_at n))) (mapped sub_after (skip (the_punctuator "-") (product_at n))) _ _ _ _ _ _
    (mapped_lawful add_after (skip (the_punctuator "+") (product_at n)) _ _ _ (skip_lawful (the_punctuator "+") (punctuator_is_word "+") (product_at n) _ _ _ (product_lawful n)))
    (mapped_lawful sub_after (skip (the_punctuator "-") (product_at n)) _ _ _ (skip_lawful (the_punctuator "-") (punctuator_is_word "-") (product_at n) _ _ _ (product_lawful n))))
    (λ f front rest h. h)
    sum_viable

-- what stands after `i`
abbrev StepTail : Spelled Token (Spelling → RawStep)
StepTail f us = (i : Spelling) → Step (f i) (name i ∷ us)

abbrev StepTailV : Spelled Token (Spelling → RawStep)
StepTailV = choose_spelled (mapped_spelled step_up (word_spelled (the_punctuator "++")))
    (choose_spelled (mapped_spelled step_down (word_spelled (the_punctuator "--")))
    (choose_spelled (mapped_spelled step_add (skip_spelled (the_punctuator "+=") (Expression 0)))
    (choose_spelled (mapped_spelled step_sub (skip_spelled (the_punctuator "-=") (Expression 0))) (skip_spelled (the_punctuator "=") (mapped_spelled step_set (both_spelled (word_spelled names) SumTail))))))

abbrev StepTailF : ℕ → Before Token (Spelling → RawStep)
StepTailF n = choose_before (is_the_punctuator "++") (mapped_before step_up (plain (word_spelled (the_punctuator "++"))))
    (choose_before (is_the_punctuator "--") (mapped_before step_down (plain (word_spelled (the_punctuator "--"))))
    (choose_before (is_the_punctuator "+=") (mapped_before step_add (skip_before (the_punctuator "+=") (ExprBefore n 0)))
    (choose_before (is_the_punctuator "-=") (mapped_before step_sub (skip_before (the_punctuator "-=") (ExprBefore n 0))) (skip_before (the_punctuator "=") (mapped_before step_set (both_before (plain (word_spelled names)) (SumF n)))))))

step_tail_viable : (f : Spelling → RawStep) (front : List Token) → StepTailV f front → StepTail f front
step_tail_viable f front (inl (p, y, h)) = λ i. subst (λ g. Step (g i) (name i ∷ front)) y (subst (λ z. Step (step.Up i) (name i ∷ z)) (sym h) (Step.up p i))
step_tail_viable f front (inr (inl (p, y, h))) = λ i. subst (λ g. Step (g i) (name i ∷ front)) y (subst (λ z. Step (step.Down i) (name i ∷ z)) (sym h) (Step.down p i))
step_tail_viable f front (inr (inr (inl (x, y, (p, b, h, d))))) = λ i. subst (λ g. Step (g i) (name i ∷ front)) y (subst (λ z. Step (step.AddBy i x) (name i ∷ z)) (sym h) (Step.add_by p i x b d))
step_tail_viable f front (inr (inr (inr (inl (x, y, (p, b, h, d)))))) = λ i. subst (λ g. Step (g i) (name i ∷ front)) y (subst (λ z. Step (step.SubBy i x) (name i ∷ z)) (sym h) (Step.sub_by p i x b d))
step_tail_viable f front (inr (inr (inr (inr (p, b, h, (s, y, (a, c, k, l, m))))))) = λ i.
    subst (λ g. Step (g i) (name i ∷ front)) y (subst (λ z. Step (s.1 i s.0) (name i ∷ z)) (sym (h ∙ ap (λ z. punctuator p "=" ∷ z) (k ∙ ap (λ z. z ++ c) l))) (m p i s.0))

step_tail_lawful : (n : ℕ) → Lawful (step_tail_at n) (plain StepTail) (StepTailF n) StepTail
step_tail_lawful n =
    recast_plain (step_tail_at n) _ _ (StepTailF n) _ StepTail
    (choose_lawful (is_the_punctuator "++") (mapped step_up (word (the_punctuator "++"))) _ _ _ _ _ _ _
    (mapped_lawful step_up (word (the_punctuator "++")) _ _ _ (word_lawful (the_punctuator "++") (punctuator_is_word "++")))
    (choose_lawful (is_the_punctuator "--") (mapped step_down (word (the_punctuator "--"))) _ _ _ _ _ _ _
    (mapped_lawful step_down (word (the_punctuator "--")) _ _ _ (word_lawful (the_punctuator "--") (punctuator_is_word "--")))
    (choose_lawful (is_the_punctuator "+=") (mapped step_add (skip (the_punctuator "+=") (expression_at n))) _ _ _ _ _ _ _
    (mapped_lawful step_add (skip (the_punctuator "+=") (expression_at n)) _ _ _ (skip_lawful (the_punctuator "+=") (punctuator_is_word "+=") (expression_at n) _ _ _ (expression_lawful n)))
    (choose_lawful (is_the_punctuator "-=") (mapped step_sub (skip (the_punctuator "-=") (expression_at n))) _ _ _ _ _ _ _
    (mapped_lawful step_sub (skip (the_punctuator "-=") (expression_at n)) _ _ _ (skip_lawful (the_punctuator "-=") (punctuator_is_word "-=") (expression_at n) _ _ _ (expression_lawful n)))
    (skip_lawful (the_punctuator "=") (punctuator_is_word "=") (mapped step_set (both (word names) (sum_at n))) _ _ _
    (mapped_lawful step_set (both (word names) (sum_at n)) _ _ _ (both_lawful (word names) (sum_at n) _ _ _ _ _ _ (word_lawful names name_is_word) (sum_lawful n))))))))
    (λ f front rest h. h)
    step_tail_viable

abbrev StepBefore : ℕ → Before Token RawStep
StepBefore n s front rest = Step s front × (length front < suc n) × (starts (goes_on 0) rest ≡ false)

abbrev StepV : Spelled Token RawStep
StepV = choose_spelled (mapped_spelled step.UpBefore (skip_spelled (the_punctuator "++") (word_spelled names)))
    (choose_spelled (mapped_spelled step.DownBefore (skip_spelled (the_punctuator "--") (word_spelled names))) (mapped_spelled step_of (both_spelled (word_spelled names) StepTail)))

abbrev StepF : ℕ → Before Token RawStep
StepF n = choose_before (is_the_punctuator "++") (mapped_before step.UpBefore (skip_before (the_punctuator "++") (plain (word_spelled names))))
    (choose_before (is_the_punctuator "--") (mapped_before step.DownBefore (skip_before (the_punctuator "--") (plain (word_spelled names)))) (mapped_before step_of (both_before (plain (word_spelled names)) (StepTailF n))))

step_viable : (x : RawStep) (front : List Token) → StepV x front → Step x front
step_viable x front (inl (m, y, (p, b, i, j))) = subst (λ z. Step z front) y (subst (Step (step.UpBefore m)) (sym (i ∙ ap (λ z. punctuator p "++" ∷ z) j)) (Step.up_before p m))
step_viable x front (inr (inl (m, y, (p, b, i, j)))) = subst (λ z. Step z front) y (subst (Step (step.DownBefore m)) (sym (i ∙ ap (λ z. punctuator p "--" ∷ z) j)) (Step.down_before p m))
step_viable x front (inr (inr (p, y, (a, b, i, j, f)))) = subst (λ z. Step z front) y (subst (Step (step_of p)) (sym (i ∙ ap (λ z. z ++ b) j)) (f p.0))

step_full : (n : ℕ) (x : RawStep) (front rest : List Token) → Step x front → length front < suc n → starts (goes_on 0) rest ≡ false → StepF n x front rest
step_full n x front rest (Step.up_before p i) lt h = inl (refl, (i, refl, (p, name i ∷ [], refl, refl)))
step_full n x front rest (Step.down_before p i) lt h = inr (refl, inl (refl, (i, refl, (p, name i ∷ [], refl, refl))))
step_full n x front rest (Step.up p i) lt h = inr (refl, inr (refl, ((i, step_up p), refl, (name i ∷ [], punctuator p "++" ∷ [], refl, refl, inl (refl, (p, refl, refl))))))
step_full n x front rest (Step.down p i) lt h = inr (refl, inr (refl, ((i, step_down p), refl, (name i ∷ [], punctuator p "--" ∷ [], refl, refl, inr (refl, inl (refl, (p, refl, refl)))))))
step_full n x front rest (Step.add_by p i e es d) lt h =
    let len : length es < n = omega (arith, lt) in
    inr (refl, inr (refl, ((i, step_add e), refl, (name i ∷ [], punctuator p "+=" ∷ es, refl, refl, inr (refl, inr (refl, inl (refl, (e, refl, (p, es, refl, (d, len, h))))))))))
step_full n x front rest (Step.sub_by p i e es d) lt h =
    let len : length es < n = omega (arith, lt) in
    inr (refl, inr (refl, ((i, step_sub e), refl, (name i ∷ [], punctuator p "-=" ∷ es, refl, refl, inr (refl, inr (refl, inr (refl, inl (refl, (e, refl, (p, es, refl, (d, len, h)))))))))))
step_full n x front rest (Step.set_add p q i j e es d) lt h =
    let len : length es < n = omega (arith, lt) in
    inr (
      refl,
      inr (
        refl,
        (
          (i, step_set (j, add_after e)),
          refl,
          (
            name i ∷ [],
            punctuator p "=" ∷ name j ∷ punctuator q "+" ∷ es,
            refl,
            refl,
            inr (refl, inr (refl, inr (refl, inr (refl, (p, name j ∷ punctuator q "+" ∷ es, refl, ((j, add_after e), refl, (name j ∷ [], punctuator q "+" ∷ es, refl, refl, inl (refl, (e, refl, (q, es, refl, (d, len, then_any 10 rest h))))))))))),
          ),
        ),
      ),
    )
step_full n x front rest (Step.set_sub p q i j e es d) lt h =
    let len : length es < n = omega (arith, lt) in
    inr (
      refl,
      inr (
        refl,
        (
          (i, step_set (j, sub_after e)),
          refl,
          (
            name i ∷ [],
            punctuator p "=" ∷ name j ∷ punctuator q "-" ∷ es,
            refl,
            refl,
            inr (refl, inr (refl, inr (refl, inr (refl, (p, name j ∷ punctuator q "-" ∷ es, refl, ((j, sub_after e), refl, (name j ∷ [], punctuator q "-" ∷ es, refl, refl, inr (refl, (e, refl, (q, es, refl, (d, len, then_any 10 rest h))))))))))),
          ),
        ),
      ),
    )

pub step_lawful : (n : ℕ) → Lawful (step_at n) (plain Step) (StepBefore n) Step
step_lawful n =
    recast_plain (step_at n) _ _ (StepBefore n) _ Step
    (choose_lawful (is_the_punctuator "++") (mapped step.UpBefore (skip (the_punctuator "++") (word names))) _ _ _ _ _ _ _
    (mapped_lawful step.UpBefore (skip (the_punctuator "++") (word names)) _ _ _ (skip_lawful (the_punctuator "++") (punctuator_is_word "++") (word names) _ _ _ (word_lawful names name_is_word)))
    (choose_lawful (is_the_punctuator "--") (mapped step.DownBefore (skip (the_punctuator "--") (word names))) _ _ _ _ _ _ _
    (mapped_lawful step.DownBefore (skip (the_punctuator "--") (word names)) _ _ _ (skip_lawful (the_punctuator "--") (punctuator_is_word "--") (word names) _ _ _ (word_lawful names name_is_word)))
    (mapped_lawful step_of (both (word names) (step_tail_at n)) _ _ _ (both_lawful (word names) (step_tail_at n) _ _ _ _ _ _ (word_lawful names name_is_word) (step_tail_lawful n)))))
    (λ x front rest h. step_full n x front rest h.0 h.1 h.2)
    step_viable

-- ---- words that may stand there

pub optional_viable : (s : String) (o : Option ℕ) (front : List Token) → maybe_word_spelled (the_keyword s) o front → Optional s (is_some o) front
optional_viable s None front h = subst (Optional s false) (sym h) Optional.absent
optional_viable s (Some p) front h = subst (Optional s true) (sym h) (Optional.present p)

pub optional_full : (s : String) (b : Bool) (front rest : List Token) → Optional s b front → starts (is_of (the_keyword s)) rest ≡ false → mapped_before is_some (maybe_word_before (the_keyword s)) b front rest
optional_full s b front rest Optional.absent h = (None, refl, (refl, h))
optional_full s b front rest (Optional.present p) h = (Some p, refl, refl)

optional_lawful : (s : String) → Lawful (optional (the_keyword s)) (plain (Optional s)) (mapped_before is_some (maybe_word_before (the_keyword s))) (Optional s)
optional_lawful s =
    recast_plain (optional (the_keyword s)) _ _ _ _ (Optional s)
    (mapped_lawful is_some (maybe_word (the_keyword s)) _ _ _ (maybe_word_lawful (the_keyword s) (keyword_is_word s)))
    (λ b front rest h. h)
    (λ b front (o, y, h). subst (λ z. Optional s z front) y (optional_viable s o front h))

-- ---- headers

abbrev HeaderStepV : Spelled Token RawStep
HeaderStepV = skip_spelled (the_punctuator ";") (ends_spelled Step (the_punctuator ")"))

abbrev HeaderStepF : ℕ → Before Token RawStep
HeaderStepF n = skip_before (the_punctuator ";") (ends_before (StepBefore n) (the_punctuator ")"))

abbrev HeaderTestV : Spelled Token (Spelling × ((ℕ × Test) × (RawExpr × RawStep)))
HeaderTestV = skip_spelled (the_punctuator ";") (both_spelled (word_spelled names) (both_spelled (word_spelled tests) (both_spelled (Expression 0) HeaderStepV)))

abbrev HeaderTestF : ℕ → Before Token (Spelling × ((ℕ × Test) × (RawExpr × RawStep)))
HeaderTestF n = skip_before (the_punctuator ";") (both_before (plain (word_spelled names)) (both_before (plain (word_spelled tests)) (both_before (ExprBefore n 0) (HeaderStepF n))))

abbrev pub HeaderF : ℕ → Before Token Header
HeaderF n = skip_before (the_punctuator "(") (mapped_before header_of (both_before (mapped_before is_some (maybe_word_before (the_keyword "int"))) (both_before (plain (word_spelled names)) (skip_before (the_punctuator "=") (both_before (ExprBefore n 0) (HeaderTestF n))))))

header_viable : (x : Header) (front : List Token)
    → skip_spelled (the_punctuator "(") (mapped_spelled header_of (both_spelled (Optional "int") (both_spelled (word_spelled names) (skip_spelled (the_punctuator "=") (both_spelled (Expression 0) HeaderTestV))))) x front → ForHeader x front
header_viable x front (p, f1, i0, (h, y, (bs, f2, i1, bd, (n1, f3, i2, j2, (q, f4, i3, (xs, f5, i4, xd, (r, f6, i5, (n2, f7, i6, j6, (n3, f8, i7, j7, (ys, f9, i8, yd, (u, f10, i9, (w, ss, i10, sd)))))))))))) =
    subst (λ z. ForHeader z front) y
    (subst (ForHeader (header_of h))
    (sym (i0 ∙ ap (λ z. punctuator p "(" ∷ z) (i1 ∙ ap (λ z. bs ++ z) (i2 ∙ ap (λ z. z ++ f3) j2 ∙ ap (λ z. name h.1.0 ∷ z) (i3 ∙ ap (λ z. punctuator q "=" ∷ z) (i4 ∙ ap (λ z. xs ++ z)
    (i5 ∙ ap (λ z. punctuator r ";" ∷ z) (i6 ∙ ap (λ z. z ++ f7) j6 ∙ ap (λ z. name h.1.1.1.0 ∷ z) (i7 ∙ ap (λ z. z ++ f8) j7 ∙ ap (λ z. sign h.1.1.1.1.0.0 (test_sign h.1.1.1.1.0.1) ∷ z)
    (i8 ∙ ap (λ z. ys ++ z) (i9 ∙ ap (λ z. punctuator u ";" ∷ z) i10)))))))))))
    (ForHeader.header p q r h.1.1.1.1.0.0 u w h.0 h.1.0 h.1.1.1.0 h.1.1.1.1.0.1 h.1.1.0 h.1.1.1.1.1.0 h.1.1.1.1.1.1 bs xs ys ss bd xd yd sd))

header_full : (n : ℕ) (x : Header) (front rest : List Token) → ForHeader x front → length front < n → HeaderF n x front rest
header_full n x front rest (ForHeader.header p q r o u w b i j c y z s bs xs ys ss bd xd yd sd) lt =
    let f10 : List Token = ss ++ punctuator w ")" ∷ [] in
    let f9 : List Token = punctuator u ";" ∷ f10 in
    let f8 : List Token = ys ++ f9 in
    let f5 : List Token = punctuator r ";" ∷ name j ∷ sign o (test_sign c) ∷ f8 in
    let f4 : List Token = xs ++ f5 in
    let f2 : List Token = name i ∷ punctuator q "=" ∷ f4 in
    let l0 = length-append bs f2 in
    let l1 = length-append xs f5 in
    let l2 = length-append ys f9 in
    let l3 = length-append ss (punctuator w ")" ∷ []) in
    let lx : length xs < n = omega (arith, lt, l0, l1) in
    let ly : length ys < n = omega (arith, lt, l0, l1, l2) in
    let ls : length ss < suc n = omega (arith, lt, l0, l1, l2, l3) in (
      p,
      bs ++ f2,
      refl,
      (
        (b, (i, (y, (j, ((o, c), (z, s)))))),
        refl,
        (
          bs,
          f2,
          refl,
          optional_full "int" b bs (f2 ++ rest) bd refl,
          (
            name i ∷ [],
            punctuator q "=" ∷ f4,
            refl,
            refl,
            (
              q,
              f4,
              refl,
              (
                xs,
                f5,
                refl,
                (xd, lx, refl),
                (
                  r,
                  name j ∷ sign o (test_sign c) ∷ f8,
                  refl,
                  (
                    name j ∷ [],
                    sign o (test_sign c) ∷ f8,
                    refl,
                    refl,
                    (sign o (test_sign c) ∷ [], f8, refl, refl, (ys, f9, refl, (yd, ly, refl), (u, f10, refl, (w, ss, refl, (sd, ls, refl))))),
                  ),
                ),
              ),
            ),
          ),
        ),
      ),
    )

pub header_lawful : (n : ℕ) → Lawful (header_at n) (plain ForHeader) (λ x front rest. ForHeader x front × (length front < n)) ForHeader
header_lawful n =
    recast_plain (header_at n) _ _ _ _ ForHeader
    (skip_lawful (the_punctuator "(") (punctuator_is_word "(") _ _ _ _
    (mapped_lawful header_of (both (optional (the_keyword "int")) (both (word names) (skip (the_punctuator "=") (both (expression_at n) (header_test_at n))))) _ _ _
    (both_lawful (optional (the_keyword "int")) (both (word names) (skip (the_punctuator "=") (both (expression_at n) (header_test_at n)))) _ _ _ _ _ _ (optional_lawful "int")
    (both_lawful (word names) (skip (the_punctuator "=") (both (expression_at n) (header_test_at n))) _ _ _ _ _ _ (word_lawful names name_is_word)
    (skip_lawful (the_punctuator "=") (punctuator_is_word "=") (both (expression_at n) (header_test_at n)) _ _ _
    (both_lawful (expression_at n) (header_test_at n) _ _ _ _ _ _ (expression_lawful n) test_part))))))
    (λ x front rest h. header_full n x front rest h.0 h.1)
    header_viable
  where
    step_part : Lawful (header_step_at n) (skip_before (the_punctuator ";") (ends_before (plain Step) (the_punctuator ")"))) (HeaderStepF n) HeaderStepV
    step_part = skip_lawful (the_punctuator ";") (punctuator_is_word ";") (ends (step_at n) (the_punctuator ")")) _ _ _ (ends_lawful (step_at n) (the_punctuator ")") (punctuator_is_word ")") _ _ _ (step_lawful n))

    test_part : Lawful (header_test_at n)
        (skip_before (the_punctuator ";") (both_before (plain (word_spelled names)) (both_before (plain (word_spelled tests)) (both_before (plain (Expression 0)) (skip_before (the_punctuator ";") (ends_before (plain Step) (the_punctuator ")")))))))
        (HeaderTestF n) HeaderTestV
    test_part =
        skip_lawful (the_punctuator ";") (punctuator_is_word ";") (both (word names) (both (word tests) (both (expression_at n) (header_step_at n)))) _ _ _
        (both_lawful (word names) (both (word tests) (both (expression_at n) (header_step_at n))) _ _ _ _ _ _ (word_lawful names name_is_word)
        (both_lawful (word tests) (both (expression_at n) (header_step_at n)) _ _ _ _ _ _ (word_lawful tests test_is_word)
        (both_lawful (expression_at n) (header_step_at n) _ _ _ _ _ _ (expression_lawful n) step_part)))

-- ---- pragmas before a loop

species_viable : (x : Option Spelling) (front : List Token) → maybe_word_spelled species_lines x front → SpeciesLine x front
species_viable None front h = subst (SpeciesLine None) (sym h) SpeciesLine.absent
species_viable (Some m) front h = subst (SpeciesLine (Some m)) (sym h) (SpeciesLine.present m)

pub species_full : (x : Option Spelling) (front rest : List Token) → SpeciesLine x front → starts (is_of species_lines) rest ≡ false → maybe_word_before species_lines x front rest
species_full x front rest SpeciesLine.absent h = (refl, h)
species_full x front rest (SpeciesLine.present m) h = refl

pub species_lawful : Lawful (maybe_word species_lines) (plain SpeciesLine) (maybe_word_before species_lines) SpeciesLine
species_lawful = recast_plain (maybe_word species_lines) _ _ _ _ SpeciesLine (maybe_word_lawful species_lines species_is_word) (λ x front rest h. h) species_viable

parallel_viable : (x : Option (ℕ × Schedule)) (front : List Token) → mapped_spelled parallel_of (maybe_word_spelled parallel_lines) x front → ParallelLine x front
parallel_viable x front (None, y, h) = subst (λ z. ParallelLine z front) y (subst (ParallelLine None) (sym h) ParallelLine.absent)
parallel_viable x front (Some p, y, h) = subst (λ z. ParallelLine z front) y (subst (ParallelLine (Some p.1)) (sym h) (ParallelLine.present p.0 p.1.0 p.1.1))

pub parallel_full : (x : Option (ℕ × Schedule)) (front rest : List Token) → ParallelLine x front → starts (is_of parallel_lines) rest ≡ false → mapped_before parallel_of (maybe_word_before parallel_lines) x front rest
parallel_full x front rest ParallelLine.absent h = (None, refl, (refl, h))
parallel_full x front rest (ParallelLine.present m d s) h = (Some (m, (d, s)), refl, refl)

pub parallel_lawful : Lawful parallel_reader (plain ParallelLine) (mapped_before parallel_of (maybe_word_before parallel_lines)) ParallelLine
parallel_lawful = recast_plain parallel_reader _ _ _ _ ParallelLine (mapped_lawful parallel_of (maybe_word parallel_lines) _ _ _ (maybe_word_lawful parallel_lines parallel_is_word)) (λ x front rest h. h) parallel_viable
