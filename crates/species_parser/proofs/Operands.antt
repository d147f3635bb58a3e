-- Operands, choices and whole expressions: their readers are lawful.
use Rattle.std.proofs.Common.{◌≡◌, ◌∙◌, ap, sym, refl, subst, ℕ, zero, suc, ◌+◌, ◌<◌, ◌≤◌, List, [], ◌∷◌, ◌++◌, length, Some, None, false, arith, length-append, append_assoc, append-nil, inl, inr}
use Rattle.species_grammar.specs.Reader.{Reader, is_of, starts, word, both, mapped, choose, skip, ends, maybe}
use Rattle.species_grammar.specs.Lawful.{Spelled, Before, Lawful, plain, word_spelled, both_before, both_spelled, mapped_before, mapped_spelled, choose_before, choose_spelled, skip_before, skip_spelled, ends_before, ends_spelled, maybe_before, maybe_spelled, Short, many_before, many_spelled}
use Rattle.species_grammar.proofs.Laws.{recast_plain, both_lawful, mapped_lawful, word_lawful, choose_lawful, skip_lawful, ends_lawful, maybe_lawful, many_lawful, shallow_lawful, its_own}
use Rattle.species_ast.specs.Signs.{raw_unary_sign}
use Rattle.species_ast.specs.Token.{Token}
use Rattle.species_ast.specs.Spelling.{Spelling}
use Rattle.species_ast.specs.Grammar.Words.{sign, punctuator, name, number}
use Rattle.species_ast.specs.Grammar.Expressions.{TypeSpecifier, Operation, level_of, operation_sign, expression, place_of, target, Expression, Subscripts, Target}
use Rattle.species_ast.specs.declared.tree.Kind.{Kind}
use Rattle.species_ast.specs.declared.tree.Value.{Value}
use Rattle.species_ast.specs.declared.tree.Binary.TheVariants as binary
use Rattle.species_ast.specs.declared.raw.RawUnary.{RawUnary}
use Rattle.species_ast.specs.declared.raw.RawExpr.{RawExpr}
use Rattle.species_ast.specs.declared.raw.RawTerm.{RawTerm}
use Rattle.species_ast.specs.declared.raw.RawTerm.TheVariants as term
use Rattle.species_ast.specs.declared.raw.RawTarget.{RawTarget}
use Rattle.species_parser.specs.Words.{the_punctuator, unary_operators, names, numbers, is_the_punctuator, is_type, goes_on}
use Rattle.species_parser.specs.Reading.{type_reader, number_of, element_of, unary_of, cast_of, opened_of, choice_of, subscript_reader, subscripts_reader, opened_reader, operand_reader, level_reader, binary_reader, choice_reader, operand_at, expression_at, product_at, subscripts_at, target_of, target_at}
use Rattle.species_parser.proofs.Words.{punctuator_is_word, unary_is_word, name_is_word, number_is_word}
use Rattle.species_parser.proofs.ExpressionLaws.{TypeSpelled, TypeBefore, type_lawful, some_type, ExprBefore, ExprLaw, level_law, then_no_bracket, then_higher, then_no_question}

-- ---- subscripts

abbrev pub SubsBefore : ℕ → Before Token (List RawExpr)
SubsBefore m xs front rest = Subscripts xs front × (length front < m) × (starts (is_the_punctuator "[") rest ≡ false)

abbrev pub SubscriptSpelled : Spelled Token RawExpr
SubscriptSpelled = skip_spelled (the_punctuator "[") (ends_spelled (Expression 0) (the_punctuator "]"))

abbrev pub SubscriptBefore : ℕ → Before Token RawExpr
SubscriptBefore m = skip_before (the_punctuator "[") (ends_before (ExprBefore m 0) (the_punctuator "]"))

pub subs_viable : (xs : List RawExpr) (front : List Token) → many_spelled SubscriptSpelled xs front → Subscripts xs front
subs_viable [] front h = subst (Subscripts []) (sym h) Subscripts.none
subs_viable (x ∷ xs) front (a, b, i, (p, c, j, (q, ts, k, d)), m) =
    subst (Subscripts (x ∷ xs)) (sym (i ∙ ap (λ z. z ++ b) (j ∙ ap (λ z. punctuator p "[" ∷ z) k))) (Subscripts.more p q x xs ts b d (subs_viable xs b m))

subs_short : (us : List Token) (ys : List RawExpr) → Subscripts ys us → length ys ≤ length us
subs_short us ys Subscripts.none = omega arith
subs_short us ys (Subscripts.more p q x ys' ts us' d s) = let ih = subs_short us' ys' s in let l = length-append (ts ++ punctuator q "]" ∷ []) us' in omega (arith, ih, l)

pub subs_full : (m : ℕ) (xs : List RawExpr) (front rest : List Token) → Subscripts xs front → length front < m → starts (is_the_punctuator "[") rest ≡ false → Short m (many_before (is_the_punctuator "[") (SubscriptBefore m)) xs front rest
subs_full m xs front rest Subscripts.none lt h = (lt, (refl, h))
subs_full m xs front rest (Subscripts.more p q x ys ts us d s) lt h =
    let l0 = length-append (ts ++ punctuator q "]" ∷ []) us in
    let l1 = length-append ts (punctuator q "]" ∷ []) in
    let lt' : length us < m = omega (arith, lt, l0) in
    let lx : length ts < m = omega (arith, lt, l0, l1) in
    let more = subs_full m ys us rest s lt' h in
    let few = subs_short us ys s in
    let short : length (x ∷ ys) < m = omega (arith, lt, l0, few) in
    (short, (punctuator p "[" ∷ (ts ++ punctuator q "]" ∷ []), us, refl, (p, ts ++ punctuator q "]" ∷ [], refl, (q, ts, refl, (d, lx, refl))), more.1))

module _ (m : ℕ) (e : Reader Token RawExpr) (l : ExprLaw m 0 e) where
  pub subscript_law : Lawful (subscript_reader e) (skip_before (the_punctuator "[") (ends_before (plain (Expression 0)) (the_punctuator "]"))) (SubscriptBefore m) SubscriptSpelled
  subscript_law = skip_lawful (the_punctuator "[") (punctuator_is_word "[") (ends e (the_punctuator "]")) _ _ _ (ends_lawful e (the_punctuator "]") (punctuator_is_word "]") _ _ _ l)

  pub subs_law : Lawful (subscripts_reader m e) (plain Subscripts) (SubsBefore m) Subscripts
  subs_law =
      recast_plain (subscripts_reader m e) _ _ (SubsBefore m) _ Subscripts
      (many_lawful (subscript_reader e) (is_the_punctuator "[") _ _ _ subscript_law (λ x a rest h. ap (λ z. starts (is_the_punctuator "[") (z ++ rest)) h.2) m)
      (λ xs front rest h. subs_full m xs front rest h.0 h.1 h.2)
      subs_viable

-- ---- what an operand is

data Operand : RawExpr → List Token → Type 0 where
  unary : (p : ℕ) (o : RawUnary) (x : RawExpr) (xs : List Token) → Expression 11 x xs → Operand (expression p (term.Unary o x)) (sign p (raw_unary_sign o) ∷ xs)
  cast : (p q r : ℕ) (k : Kind) (x : RawExpr) (ks xs : List Token) → TypeSpecifier q k ks → Expression 11 x xs → Operand (expression p (term.Cast k x)) (punctuator p "(" ∷ ((ks ++ punctuator r ")" ∷ []) ++ xs))
  constant : (n : Spelling) (v : Value) → Operand (expression n.place (term.Number v)) (number n v ∷ [])
  element : (n : Spelling) (subs : List RawExpr) (ts : List Token) → Subscripts subs ts → Operand (expression n.place (term.Target (target n subs))) (name n ∷ ts)
  paren : (p q : ℕ) (x : RawExpr) (xs : List Token) → Expression 0 x xs → Operand (expression p (term.Paren x)) (punctuator p "(" ∷ (xs ++ punctuator q ")" ∷ []))

level_most : (o : Operation) → level_of o ≤ 10
level_most (Operation.strict binary.Mul) = omega arith
level_most (Operation.strict binary.Div) = omega arith
level_most (Operation.strict binary.Rem) = omega arith
level_most (Operation.strict binary.Add) = omega arith
level_most (Operation.strict binary.Sub) = omega arith
level_most (Operation.strict binary.Shl) = omega arith
level_most (Operation.strict binary.Shr) = omega arith
level_most (Operation.strict binary.Lt) = omega arith
level_most (Operation.strict binary.Le) = omega arith
level_most (Operation.strict binary.Gt) = omega arith
level_most (Operation.strict binary.Ge) = omega arith
level_most (Operation.strict binary.Eq) = omega arith
level_most (Operation.strict binary.Ne) = omega arith
level_most (Operation.strict binary.BitAnd) = omega arith
level_most (Operation.strict binary.BitXor) = omega arith
level_most (Operation.strict binary.BitOr) = omega arith
level_most Operation.logical_and = omega arith
level_most Operation.logical_or = omega arith

level_least : (o : Operation) → 1 ≤ level_of o
level_least (Operation.strict binary.Mul) = omega arith
level_least (Operation.strict binary.Div) = omega arith
level_least (Operation.strict binary.Rem) = omega arith
level_least (Operation.strict binary.Add) = omega arith
level_least (Operation.strict binary.Sub) = omega arith
level_least (Operation.strict binary.Shl) = omega arith
level_least (Operation.strict binary.Shr) = omega arith
level_least (Operation.strict binary.Lt) = omega arith
level_least (Operation.strict binary.Le) = omega arith
level_least (Operation.strict binary.Gt) = omega arith
level_least (Operation.strict binary.Ge) = omega arith
level_least (Operation.strict binary.Eq) = omega arith
level_least (Operation.strict binary.Ne) = omega arith
level_least (Operation.strict binary.BitAnd) = omega arith
level_least (Operation.strict binary.BitXor) = omega arith
level_least (Operation.strict binary.BitOr) = omega arith
level_least Operation.logical_and = omega arith
level_least Operation.logical_or = omega arith

operand_from : (n : ℕ) (x : RawExpr) (ts : List Token) → Expression n x ts → 11 ≤ n → Operand x ts
operand_from n x ts (Expression.conditional p q c y z cs ys zs d e f) lo = let bad : ⊥ = omega (arith, lo) in absurd bad
operand_from n x ts (Expression.binary_operation p o y z ys zs d e) lo = let most = level_most o in let bad : ⊥ = omega (arith, lo, most) in absurd bad
operand_from n x ts (Expression.unary_operation p o y ys d) lo = Operand.unary p o y ys d
operand_from n x ts (Expression.cast p q r k y ks ys kd d) lo = Operand.cast p q r k y ks ys kd d
operand_from n x ts (Expression.constant m v) lo = Operand.constant m v
operand_from n x ts (Expression.element m subs us d) lo = Operand.element m subs us d
operand_from n x ts (Expression.paren p q y ys d) lo = Operand.paren p q y ys d
operand_from n x ts (Expression.higher m y ys d) lo = let lo' : 11 ≤ suc m = omega (arith, lo) in operand_from (suc m) y ys d lo'

-- no type begins where an expression does
no_type : (n : ℕ) (x : RawExpr) (ts rest : List Token) → Expression n x ts → starts is_type (ts ++ rest) ≡ false
no_type n x ts rest (Expression.conditional p q c y z cs ys zs d e f) = ap (starts is_type) (append_assoc cs (punctuator p "?" ∷ (ys ++ (punctuator q ":" ∷ zs))) rest) ∙ no_type 1 c cs ((punctuator p "?" ∷ (ys ++ (punctuator q ":" ∷ zs))) ++ rest) d
no_type n x ts rest (Expression.binary_operation p o y z ys zs d e) = ap (starts is_type) (append_assoc ys (sign p (operation_sign o) ∷ zs) rest) ∙ no_type (level_of o) y ys ((sign p (operation_sign o) ∷ zs) ++ rest) d
no_type n x ts rest (Expression.unary_operation p o y ys d) = refl
no_type n x ts rest (Expression.cast p q r k y ks ys kd d) = refl
no_type n x ts rest (Expression.constant m v) = refl
no_type n x ts rest (Expression.element m subs us d) = refl
no_type n x ts rest (Expression.paren p q y ys d) = refl
no_type n x ts rest (Expression.higher m y ys d) = no_type (suc m) y ys rest d

module _ (n : ℕ) (u e : Reader Token RawExpr) (lu : ExprLaw n 11 u) (le : ExprLaw n 0 e) where
  abbrev OpenedV : Spelled Token RawTerm
  OpenedV = choose_spelled (mapped_spelled cast_of (both_spelled (ends_spelled TypeSpelled (the_punctuator ")")) (Expression 11))) (mapped_spelled term.Paren (ends_spelled (Expression 0) (the_punctuator ")")))

  abbrev OpenedS : Before Token RawTerm
  OpenedS = choose_before is_type (mapped_before cast_of (both_before (ends_before (plain TypeSpelled) (the_punctuator ")")) (plain (Expression 11)))) (mapped_before term.Paren (ends_before (plain (Expression 0)) (the_punctuator ")")))

  abbrev OpenedF : Before Token RawTerm
  OpenedF = choose_before is_type (mapped_before cast_of (both_before (ends_before TypeBefore (the_punctuator ")")) (ExprBefore n 11))) (mapped_before term.Paren (ends_before (ExprBefore n 0) (the_punctuator ")")))

  opened_law : Lawful (opened_reader u e) OpenedS OpenedF OpenedV
  opened_law =
      choose_lawful is_type (mapped cast_of (both (ends type_reader (the_punctuator ")")) u)) (mapped term.Paren (ends e (the_punctuator ")"))) _ _ _ _ _ _
      (mapped_lawful cast_of (both (ends type_reader (the_punctuator ")")) u) _ _ _ (both_lawful (ends type_reader (the_punctuator ")")) u _ _ _ _ _ _ (ends_lawful type_reader (the_punctuator ")") (punctuator_is_word ")") _ _ _ type_lawful) lu))
      (mapped_lawful term.Paren (ends e (the_punctuator ")")) _ _ _ (ends_lawful e (the_punctuator ")") (punctuator_is_word ")") _ _ _ le))

  abbrev OperandV : Spelled Token RawExpr
  OperandV = choose_spelled (mapped_spelled number_of (word_spelled numbers))
      (choose_spelled (mapped_spelled unary_of (both_spelled (word_spelled unary_operators) (Expression 11)))
      (choose_spelled (mapped_spelled opened_of (both_spelled (word_spelled (the_punctuator "(")) OpenedV))
      (mapped_spelled element_of (both_spelled (word_spelled names) Subscripts))))

  abbrev OperandF : Before Token RawExpr
  OperandF = choose_before (is_of numbers) (mapped_before number_of (plain (word_spelled numbers)))
      (choose_before (is_of unary_operators) (mapped_before unary_of (both_before (plain (word_spelled unary_operators)) (ExprBefore n 11)))
      (choose_before (is_the_punctuator "(") (mapped_before opened_of (both_before (plain (word_spelled (the_punctuator "("))) OpenedF))
      (mapped_before element_of (both_before (plain (word_spelled names)) (SubsBefore n)))))

  cast_is : (p q : ℕ) (c : (ℕ × Kind) × RawExpr) (front a b f g ks : List Token) → front ≡ a ++ b → a ≡ punctuator p "(" ∷ [] → b ≡ f ++ g → f ≡ ks ++ punctuator q ")" ∷ [] → TypeSpelled c.0 ks → Expression 11 c.1 g → Expression 11 (expression p (cast_of c)) front
  cast_is p q c front a b f g ks i j k m kd xd =
      subst (Expression 11 (expression p (cast_of c))) (sym (i ∙ ap (λ z. z ++ b) j ∙ ap (λ z. punctuator p "(" ∷ z) (k ∙ ap (λ z. z ++ g) m))) (Expression.cast p c.0.0 q c.0.1 c.1 ks g kd xd)

  paren_is : (p q : ℕ) (x : RawExpr) (front a b ts : List Token) → front ≡ a ++ b → a ≡ punctuator p "(" ∷ [] → b ≡ ts ++ punctuator q ")" ∷ [] → Expression 0 x ts → Expression 11 (expression p (term.Paren x)) front
  paren_is p q x front a b ts i j k d =
      subst (Expression 11 (expression p (term.Paren x))) (sym (i ∙ ap (λ z. z ++ b) j ∙ ap (λ z. punctuator p "(" ∷ z) k)) (Expression.higher 11 _ _ (Expression.paren p q x ts d))

  operand_viable : (x : RawExpr) (front : List Token) → OperandV x front → Expression 11 x front
  operand_viable x front (inl (p, y, h)) = subst (λ z. Expression 11 z front) y (subst (Expression 11 (number_of p)) (sym h) (Expression.higher 11 _ _ (Expression.constant p.0 p.1)))
  operand_viable x front (inr (inl (p, y, (a, b, i, j, d)))) =
      subst (λ z. Expression 11 z front) y (subst (Expression 11 (unary_of p)) (sym (i ∙ ap (λ z. z ++ b) j)) (Expression.unary_operation p.0.0 p.0.1 p.1 b d))
  operand_viable x front (inr (inr (inl (p, y, (a, b, i, j, inl (c, o, (f, g, k, (q, ks, m, kd), xd))))))) =
      subst (λ z. Expression 11 z front) (ap (expression p.0) o ∙ y) (cast_is p.0 q c front a b f g ks i j k m kd xd)
  operand_viable x front (inr (inr (inl (p, y, (a, b, i, j, inr (c, o, (q, ts, k, d))))))) =
      subst (λ z. Expression 11 z front) (ap (expression p.0) o ∙ y) (paren_is p.0 q c front a b ts i j k d)
  operand_viable x front (inr (inr (inr (p, y, (a, b, i, j, d))))) =
      subst (λ z. Expression 11 z front) y (subst (Expression 11 (element_of p)) (sym (i ∙ ap (λ z. z ++ b) j)) (Expression.higher 11 _ _ (Expression.element p.0 p.1 b d)))

  operand_full : (x : RawExpr) (front rest : List Token) → Operand x front → length front < suc n → starts (goes_on 11) rest ≡ false → OperandF x front rest
  operand_full x front rest (Operand.constant m v) lt h = inl (refl, ((m, v), refl, refl))
  operand_full x front rest (Operand.unary p o y ys d) lt h =
      let len : length ys < n = omega (arith, lt) in
      inr (refl, inl (its_own unary_operators unary_is_word (p, o), (((p, o), y), refl, (sign p (raw_unary_sign o) ∷ [], ys, refl, refl, (d, len, h)))))
  operand_full x front rest (Operand.cast p q r k y ks ys kd d) lt h =
      let l0 = length-append (ks ++ punctuator r ")" ∷ []) ys in
      let len : length ys < n = omega (arith, lt, l0) in
      let first = ap (starts is_type) (append_assoc (ks ++ punctuator r ")" ∷ []) ys rest ∙ append_assoc ks (punctuator r ")" ∷ []) (ys ++ rest)) ∙ some_type q k ks (punctuator r ")" ∷ (ys ++ rest)) kd in
      inr (
        refl,
        inr (
          refl,
          inl (
            refl,
            (
              (p, term.Cast k y),
              refl,
              (
                punctuator p "(" ∷ [],
                (ks ++ punctuator r ")" ∷ []) ++ ys,
                refl,
                refl,
                inl (first, (((q, k), y), refl, (ks ++ punctuator r ")" ∷ [], ys, refl, (r, ks, refl, (kd, refl)), (d, len, h)))),
              ),
            ),
          ),
        ),
      )
  operand_full x front rest (Operand.paren p q y ys d) lt h =
      let l0 = length-append ys (punctuator q ")" ∷ []) in
      let len : length ys < n = omega (arith, lt, l0) in
      let first = ap (starts is_type) (append_assoc ys (punctuator q ")" ∷ []) rest) ∙ no_type 0 y ys (punctuator q ")" ∷ rest) d in
      inr (
        refl,
        inr (
          refl,
          inl (
            refl,
            (
              (p, term.Paren y),
              refl,
              (
                punctuator p "(" ∷ [],
                ys ++ punctuator q ")" ∷ [],
                refl,
                refl,
                inr (first, (y, refl, (q, ys, refl, (d, len, refl)))),
              ),
            ),
          ),
        ),
      )
  operand_full x front rest (Operand.element m subs ts s) lt h =
      let len : length ts < n = omega (arith, lt) in
      inr (refl, inr (refl, inr (refl, ((m, subs), refl, (name m ∷ [], ts, refl, refl, (s, len, then_no_bracket 11 rest h))))))

  pub operand_law : ExprLaw (suc n) 11 (operand_reader n u e)
  operand_law =
      recast_plain (operand_reader n u e) _ _ (ExprBefore (suc n) 11) _ (Expression 11)
      (choose_lawful (is_of numbers) (mapped number_of (word numbers)) (choose (is_of unary_operators) (mapped unary_of (both (word unary_operators) u)) (choose (is_the_punctuator "(") (mapped opened_of (both (word (the_punctuator "(")) (opened_reader u e))) (mapped element_of (both (word names) (subscripts_reader n e))))) _ _ _ _ _ _
      (mapped_lawful number_of (word numbers) _ _ _ (word_lawful numbers number_is_word))
      (choose_lawful (is_of unary_operators) (mapped unary_of (both (word unary_operators) u)) (choose (is_the_punctuator "(") (mapped opened_of (both (word (the_punctuator "(")) (opened_reader u e))) (mapped element_of (both (word names) (subscripts_reader n e)))) _ _ _ _ _ _
      (mapped_lawful unary_of (both (word unary_operators) u) _ _ _ (both_lawful (word unary_operators) u _ _ _ _ _ _ (word_lawful unary_operators unary_is_word) lu))
      (choose_lawful (is_the_punctuator "(") (mapped opened_of (both (word (the_punctuator "(")) (opened_reader u e))) (mapped element_of (both (word names) (subscripts_reader n e))) _ _ _ _ _ _
      (mapped_lawful opened_of (both (word (the_punctuator "(")) (opened_reader u e)) _ _ _ (both_lawful (word (the_punctuator "(")) (opened_reader u e) _ _ _ _ _ _ (word_lawful (the_punctuator "(") (punctuator_is_word "(")) opened_law))
      (mapped_lawful element_of (both (word names) (subscripts_reader n e)) _ _ _ (both_lawful (word names) (subscripts_reader n e) _ _ _ _ _ _ (word_lawful names name_is_word) (subs_law n e le))))))
      (λ x front rest h. operand_full x front rest (eleven x front h.0) h.1 h.2)
      operand_viable
    where
      eleven : (x : RawExpr) (front : List Token) → Expression 11 x front → Operand x front
      eleven x front d = let l : 11 ≤ 11 = omega arith in operand_from 11 x front d l

-- ---- choices

pub binary_law : (m : ℕ) (u : Reader Token RawExpr) → ExprLaw m 11 u → ExprLaw m 1 (binary_reader m u)
binary_law m u l =
    step 1 (omega arith) (omega arith) _ (step 2 (omega arith) (omega arith) _ (step 3 (omega arith) (omega arith) _ (step 4 (omega arith) (omega arith) _ (step 5 (omega arith) (omega arith) _
    (step 6 (omega arith) (omega arith) _ (step 7 (omega arith) (omega arith) _ (step 8 (omega arith) (omega arith) _ (step 9 (omega arith) (omega arith) _ (step 10 (omega arith) (omega arith) u l)))))))))
  where
    step : (n : ℕ) → 1 ≤ n → n ≤ 10 → (r : Reader Token RawExpr) → ExprLaw m (suc n) r → ExprLaw m n (level_reader m n r)
    step = level_law m

data Choice : RawExpr → List Token → Type 0 where
  plain_one : (x : RawExpr) (xs : List Token) → Expression 1 x xs → Choice x xs
  choice : (p q : ℕ) (c x y : RawExpr) (cs xs ys : List Token) → Expression 1 c cs → Expression 0 x xs → Expression 0 y ys
      → Choice (expression (place_of c) (term.Cond c x y)) (cs ++ (punctuator p "?" ∷ (xs ++ (punctuator q ":" ∷ ys))))

choice_from : (n : ℕ) (x : RawExpr) (ts : List Token) → Expression n x ts → n ≡ 0 → Choice x ts
choice_from n x ts (Expression.conditional p q c y z cs ys zs d e f) i = Choice.choice p q c y z cs ys zs d e f
choice_from n x ts (Expression.binary_operation p o y z ys zs d e) i = let least = level_least o in let bad : ⊥ = omega (arith, i, least) in absurd bad
choice_from n x ts (Expression.unary_operation p o y ys d) i = let bad : ⊥ = omega (arith, i) in absurd bad
choice_from n x ts (Expression.cast p q r k y ks ys kd d) i = let bad : ⊥ = omega (arith, i) in absurd bad
choice_from n x ts (Expression.constant m v) i = let bad : ⊥ = omega (arith, i) in absurd bad
choice_from n x ts (Expression.element m subs us d) i = let bad : ⊥ = omega (arith, i) in absurd bad
choice_from n x ts (Expression.paren p q y ys d) i = let bad : ⊥ = omega (arith, i) in absurd bad
choice_from n x ts (Expression.higher m y ys d) i = Choice.plain_one y ys (subst (λ l. Expression (suc l) y ys) i d)

module _ (n : ℕ) (u e : Reader Token RawExpr) (lu : ExprLaw (suc n) 11 u) (le : ExprLaw n 0 e) where
  abbrev ArmsV : Spelled Token (RawExpr × RawExpr)
  ArmsV = both_spelled (Expression 0) (skip_spelled (the_punctuator ":") (Expression 0))

  abbrev ArmsF : Before Token (RawExpr × RawExpr)
  ArmsF = both_before (ExprBefore n 0) (skip_before (the_punctuator ":") (ExprBefore n 0))

  choice_viable : (x : RawExpr) (front : List Token) → mapped_spelled choice_of (both_spelled (Expression 1) (maybe_spelled (the_punctuator "?") ArmsV)) x front → Expression 0 x front
  choice_viable x front ((c, None), y, (a, b, i, d, j)) =
      subst (λ z. Expression 0 z front) y (subst (Expression 0 c) (sym (i ∙ ap (λ z. a ++ z) j ∙ append-nil a)) (Expression.higher 0 c a d))
  choice_viable x front ((c, Some s), y, (a, b, i, d, (p, b', j, (xs, r, k, xd, (q, ys, m, yd))))) =
      subst (λ z. Expression 0 z front) y
      (subst (Expression 0 (choice_of (c, Some s))) (sym (i ∙ ap (λ z. a ++ z) (j ∙ ap (λ z. punctuator p "?" ∷ z) (k ∙ ap (λ z. xs ++ z) m)))) (Expression.conditional p q c s.0 s.1 a xs ys d xd yd))

  choice_full : (x : RawExpr) (front rest : List Token) → Choice x front → length front < suc n → starts (goes_on 0) rest ≡ false → mapped_before choice_of (both_before (ExprBefore (suc n) 1) (maybe_before (the_punctuator "?") ArmsF)) x front rest
  choice_full x front rest (Choice.plain_one y ys d) lt h = ((y, None), refl, (front, [], sym (append-nil front), (d, lt, then_higher 0 rest h), (refl, then_no_question rest h)))
  choice_full x front rest (Choice.choice p q c y z cs ys zs d yd zd) lt h =
      let l0 = length-append cs (punctuator p "?" ∷ (ys ++ (punctuator q ":" ∷ zs))) in
      let l1 = length-append ys (punctuator q ":" ∷ zs) in
      let lc : length cs < suc n = omega (arith, lt, l0) in
      let ly : length ys < n = omega (arith, lt, l0, l1) in
      let lz : length zs < n = omega (arith, lt, l0, l1) in
      ((c, Some (y, z)), refl, (cs, punctuator p "?" ∷ (ys ++ (punctuator q ":" ∷ zs)), refl, (d, lc, refl), (p, ys ++ (punctuator q ":" ∷ zs), refl, (ys, punctuator q ":" ∷ zs, refl, (yd, ly, refl), (q, zs, refl, (zd, lz, h))))))

  pub choice_law : ExprLaw (suc n) 0 (choice_reader (suc n) u e)
  choice_law =
      recast_plain (choice_reader (suc n) u e) _ _ (ExprBefore (suc n) 0) _ (Expression 0)
      (mapped_lawful choice_of (both (binary_reader (suc n) u) (maybe (the_punctuator "?") (both e (skip (the_punctuator ":") e)))) _ _ _
      (both_lawful (binary_reader (suc n) u) (maybe (the_punctuator "?") (both e (skip (the_punctuator ":") e))) _ _ _ _ _ _ (binary_law (suc n) u lu)
      (maybe_lawful (the_punctuator "?") (punctuator_is_word "?") (both e (skip (the_punctuator ":") e)) _ _ _ (both_lawful e (skip (the_punctuator ":") e) _ _ _ _ _ _ le (skip_lawful (the_punctuator ":") (punctuator_is_word ":") e _ _ _ le)))))
      (λ x front rest h. choice_full x front rest (choice_from 0 x front h.0 refl) h.1 h.2)
      choice_viable

-- ---- expressions of every depth

abbrev some_name : Spelling
some_name = record { text = []; place = 0 }

some_element : Expression 12 (expression 0 (term.Target (target some_name []))) (name some_name ∷ [])
some_element = Expression.element some_name [] [] Subscripts.none

nothing_shallow : (n : ℕ) (x : RawExpr) (front rest : List Token) → ExprBefore 0 n x front rest → ⊥
nothing_shallow n x front rest h = let l = h.1 in omega (arith, l)

raised : (k n : ℕ) (x : RawExpr) (xs : List Token) → Expression (k + n) x xs → Expression n x xs
raised zero n x xs d = let e : 0 + n ≡ n = omega arith in subst (λ m. Expression m x xs) e d
raised (suc k) n x xs d = let e : suc k + n ≡ suc (k + n) = omega arith in raised k n x xs (Expression.higher (k + n) x xs (subst (λ m. Expression m x xs) e d))

pub expression_laws : (n : ℕ) → ExprLaw n 11 (operand_at n) × ExprLaw n 0 (expression_at n)
expression_laws zero = (
  shallow_lawful (plain (Expression 11)) (ExprBefore 0 11) (Expression 11) _ _ (raised 1 11 _ _ some_element) (λ x front rest h. h) (nothing_shallow 11),
  shallow_lawful (plain (Expression 0)) (ExprBefore 0 0) (Expression 0) _ _ (raised 12 0 _ _ some_element) (λ x front rest h. h) (nothing_shallow 0),
)
expression_laws (suc n) =
    let h = expression_laws n in
    let u = operand_law n (operand_at n) (expression_at n) h.0 h.1 in
    (u, choice_law n (operand_reader n (operand_at n) (expression_at n)) (expression_at n) u h.1)

pub operand_lawful : (n : ℕ) → ExprLaw n 11 (operand_at n)
operand_lawful n = (expression_laws n).0

pub expression_lawful : (n : ℕ) → ExprLaw n 0 (expression_at n)
expression_lawful n = (expression_laws n).1

pub product_lawful : (n : ℕ) → ExprLaw n 10 (product_at n)
product_lawful n = let lo : 1 ≤ 10 = omega arith in let hi : 10 ≤ 10 = omega arith in level_law n 10 lo hi (operand_at n) (operand_lawful n)

pub subscripts_lawful : (n : ℕ) → Lawful (subscripts_at n) (plain Subscripts) (SubsBefore n) Subscripts
subscripts_lawful n = subs_law n (expression_at n) (expression_lawful n)

-- ---- targets

abbrev pub TargetBefore : ℕ → Before Token RawTarget
TargetBefore n t front rest = Target t front × (length front < suc n) × (starts (is_the_punctuator "[") rest ≡ false)

target_full : (n : ℕ) (t : RawTarget) (front rest : List Token) → Target t front → length front < suc n → starts (is_the_punctuator "[") rest ≡ false → mapped_before target_of (both_before (plain (word_spelled names)) (SubsBefore n)) t front rest
target_full n t front rest (Target.element m subs ts s) lt h = let len : length ts < n = omega (arith, lt) in ((m, subs), refl, (name m ∷ [], ts, refl, refl, (s, len, h)))

pub target_lawful : (n : ℕ) → Lawful (target_at n) (plain Target) (TargetBefore n) Target
target_lawful n =
    recast_plain (target_at n) _ _ (TargetBefore n) _ Target
    (mapped_lawful target_of (both (word names) (subscripts_at n)) _ _ _ (both_lawful (word names) (subscripts_at n) _ _ _ _ _ _ (word_lawful names name_is_word) (subscripts_lawful n)))
    (λ t front rest h. target_full n t front rest h.0 h.1 h.2)
    (λ t front (p, y, (a, b, i, j, d)). subst (λ z. Target z front) y (subst (Target (target_of p)) (sym (i ∙ ap (λ z. z ++ b) j)) (Target.element p.0 p.1 b d)))
