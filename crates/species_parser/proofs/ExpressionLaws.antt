-- The readers of expressions are lawful.
use Rattle.std.proofs.Common.{◌≡◌, ◌∙◌, ap, sym, refl, subst, ℕ, zero, suc, ◌<◌, ◌≤◌, List, [], ◌∷◌, ◌++◌, length, Option, Some, None, Bool, true, false, arith, inl, inr}
use Rattle.std.specs.Prelude.{◌&&◌, ◌||◌, is_some, nat_eq, nat_le}
use Rattle.std.proofs.lemmas.Bool.{eqb-true, leb-true, le-leb}
use Rattle.species_grammar.specs.Reader.{Reader, starts, one, word, both, mapped, choose, maybe_word}
use Rattle.species_grammar.specs.Lawful.{Spelled, Before, Lawful, plain, one_spelled, word_spelled, both_before, both_spelled, mapped_before, mapped_spelled, choose_before, choose_spelled, maybe_word_before, maybe_word_spelled, LeftSpelled}
use Rattle.species_grammar.proofs.Laws.{recast_plain, both_lawful, mapped_lawful, one_lawful, word_lawful, choose_lawful, maybe_word_lawful}
use Rattle.species_grammar.proofs.Levels.{level_lawful}
use Rattle.species_ast.specs.Token.{Token}
use Rattle.species_ast.specs.Grammar.Words.{sign, keyword, Optional}
use Rattle.species_ast.specs.Grammar.Expressions.{TypeSpecifier, Operation, level_of, operation_sign, Expression}
use Rattle.species_ast.specs.declared.tree.Kind.{Kind}
use Rattle.species_ast.specs.declared.tree.Kind.TheVariants as kind
use Rattle.species_ast.specs.declared.tree.Binary.TheVariants as binary
use Rattle.species_ast.specs.declared.raw.RawExpr.{RawExpr}
use Rattle.species_parser.specs.Words.{when, the_keyword, binary_operators, of_level, operators_at, is_the_punctuator, is_the_keyword, is_type, of_least_level, goes_on}
use Rattle.species_parser.specs.Reading.{of_kind, first_place, unsigned_of, unsigned_long_of, long_words, unsigned_tail, type_reader, operation_of, level_reader}
use Rattle.species_parser.proofs.Words.{keyword_is_word, operator_is, operator_own, operator_says, never, clash, mark_apart}

or_false : (a b : Bool) → (a || b) ≡ false → (a ≡ false) × (b ≡ false)
or_false true b h = absurd (clash h)
or_false false b h = (refl, h)

-- ---- types

abbrev pub TypeSpelled : Spelled Token (ℕ × Kind)
TypeSpelled p ts = TypeSpecifier p.0 p.1 ts

abbrev pub TypeBefore : Before Token (ℕ × Kind)
TypeBefore p front rest = TypeSpecifier p.0 p.1 front × (starts is_type rest ≡ false)

no_int : (ts : List Token) → starts is_type ts ≡ false → starts (is_the_keyword "int") ts ≡ false
no_int [] h = refl
no_int (t ∷ ts) h = (or_false (is_the_keyword "int" t) _ h).0

no_long : (ts : List Token) → starts is_type ts ≡ false → starts (is_the_keyword "long") ts ≡ false
no_long [] h = refl
no_long (t ∷ ts) h = (or_false (is_the_keyword "unsigned" t) _ (or_false (is_the_keyword "int" t) _ h).1).1

-- the words `int` that may stand at the end of a type
optional_int : Option ℕ → List Token
optional_int None = []
optional_int (Some p) = keyword p "int" ∷ []

int_before : (o : Option ℕ) (rest : List Token) → starts (is_the_keyword "int") rest ≡ false → maybe_word_before (the_keyword "int") o (optional_int o) rest
unfolding optional_int
int_before None rest h = (refl, h)
int_before (Some p) rest h = refl

int_spelled : (o : Option ℕ) (front : List Token) → maybe_word_spelled (the_keyword "int") o front → front ≡ optional_int o
unfolding optional_int
int_spelled None front h = h
int_spelled (Some p) front h = h

LongSpelled : Spelled Token ℕ
LongSpelled p ts = (q : ℕ) × (o : Option ℕ) × (ts ≡ keyword p "long" ∷ keyword q "long" ∷ optional_int o)

LongBefore : Before Token ℕ
LongBefore p front rest = LongSpelled p front × (starts (is_the_keyword "int") rest ≡ false)

long_full : (p : ℕ) (front rest : List Token) → LongBefore p front rest
    → mapped_before first_place (both_before (plain (word_spelled (the_keyword "long"))) (both_before (plain (word_spelled (the_keyword "long"))) (maybe_word_before (the_keyword "int")))) p front rest
unfolding LongSpelled LongBefore
long_full p front rest ((q, o, e), h) =
    ((p, (q, o)), refl, (keyword p "long" ∷ [], keyword q "long" ∷ optional_int o, e, refl, (keyword q "long" ∷ [], optional_int o, refl, refl, int_before o rest h)))

long_viable : (p : ℕ) (front : List Token)
    → mapped_spelled first_place (both_spelled (word_spelled (the_keyword "long")) (both_spelled (word_spelled (the_keyword "long")) (maybe_word_spelled (the_keyword "int")))) p front → LongSpelled p front
unfolding LongSpelled
long_viable p front (x, e, (a, b, i, j, (c, d, k, l, m))) =
    subst (λ z. (q : ℕ) × (o : Option ℕ) × (front ≡ keyword z "long" ∷ keyword q "long" ∷ optional_int o)) e
    (x.1.0, x.1.1, i ∙ ap (λ z. z ++ b) j ∙ ap (λ z. keyword x.0 "long" ∷ z) (k ∙ ap (λ z. z ++ d) l ∙ ap (λ z. keyword x.1.0 "long" ∷ z) (int_spelled x.1.1 d m)))

long_lawful : Lawful long_words (plain LongSpelled) LongBefore LongSpelled
unfolding long_words
long_lawful =
    recast_plain (mapped first_place (both (word (the_keyword "long")) (both (word (the_keyword "long")) (maybe_word (the_keyword "int"))))) _ _ LongBefore _ LongSpelled
    (mapped_lawful first_place (both (word (the_keyword "long")) (both (word (the_keyword "long")) (maybe_word (the_keyword "int")))) _ _ _
    (both_lawful (word (the_keyword "long")) (both (word (the_keyword "long")) (maybe_word (the_keyword "int"))) _ _ _ _ _ _ (word_lawful (the_keyword "long") (keyword_is_word "long"))
    (both_lawful (word (the_keyword "long")) (maybe_word (the_keyword "int")) _ _ _ _ _ _ (word_lawful (the_keyword "long") (keyword_is_word "long")) (maybe_word_lawful (the_keyword "int") (keyword_is_word "int")))))
    long_full
    long_viable

-- what makes a type of `unsigned`
data UnsignedTail : Kind → List Token → Type 0 where
  nothing : UnsignedTail kind.Unsigned []
  int : (p : ℕ) → UnsignedTail kind.Unsigned (keyword p "int" ∷ [])
  long : (p : ℕ) (ts : List Token) → LongSpelled p ts → UnsignedTail kind.UnsignedLong ts

TailBefore : Before Token Kind
TailBefore k front rest = UnsignedTail k front × (starts is_type rest ≡ false)

long_starts : (p : ℕ) (ts rest : List Token) → LongSpelled p ts → starts (is_the_keyword "long") (ts ++ rest) ≡ true
unfolding LongSpelled
long_starts p ts rest (q, o, e) = ap (λ z. starts (is_the_keyword "long") (z ++ rest)) e

tail_full : (k : Kind) (front rest : List Token) → TailBefore k front rest
    → choose_before (is_the_keyword "long") (mapped_before unsigned_long_of LongBefore) (mapped_before unsigned_of (maybe_word_before (the_keyword "int"))) k front rest
unfolding TailBefore LongBefore
tail_full k front rest (UnsignedTail.nothing, h) = inr (no_long rest h, (None, refl, (refl, no_int rest h)))
tail_full k front rest (UnsignedTail.int p, h) = inr (refl, (Some p, refl, refl))
tail_full k front rest (UnsignedTail.long p ts s, h) = inl (long_starts p ts rest s, (p, refl, (s, no_int rest h)))

tail_viable : (k : Kind) (front : List Token) → choose_spelled (mapped_spelled unsigned_long_of LongSpelled) (mapped_spelled unsigned_of (maybe_word_spelled (the_keyword "int"))) k front → UnsignedTail k front
tail_viable k front (inl (p, e, s)) = subst (λ z. UnsignedTail z front) e (UnsignedTail.long p front s)
tail_viable k front (inr (None, e, i)) = subst (λ z. UnsignedTail z front) e (subst (UnsignedTail kind.Unsigned) (sym i) UnsignedTail.nothing)
tail_viable k front (inr (Some p, e, i)) = subst (λ z. UnsignedTail z front) e (subst (UnsignedTail kind.Unsigned) (sym i) (UnsignedTail.int p))

tail_lawful : Lawful unsigned_tail (plain UnsignedTail) TailBefore UnsignedTail
unfolding unsigned_tail
tail_lawful =
    recast_plain (choose (is_the_keyword "long") (mapped unsigned_long_of long_words) (mapped unsigned_of (maybe_word (the_keyword "int")))) _ _ TailBefore _ UnsignedTail
    (choose_lawful (is_the_keyword "long") (mapped unsigned_long_of long_words) (mapped unsigned_of (maybe_word (the_keyword "int"))) _ _ _ _ _ _
    (mapped_lawful unsigned_long_of long_words _ _ _ long_lawful)
    (mapped_lawful unsigned_of (maybe_word (the_keyword "int")) _ _ _ (maybe_word_lawful (the_keyword "int") (keyword_is_word "int"))))
    tail_full
    tail_viable

TypeV : Spelled Token (ℕ × Kind)
TypeV = choose_spelled (mapped_spelled (of_kind kind.Int) (word_spelled (the_keyword "int")))
    (choose_spelled (both_spelled (word_spelled (the_keyword "unsigned")) UnsignedTail) (mapped_spelled (of_kind kind.Long) LongSpelled))

TypeF : Before Token (ℕ × Kind)
TypeF = choose_before (is_the_keyword "int") (mapped_before (of_kind kind.Int) (plain (word_spelled (the_keyword "int"))))
    (choose_before (is_the_keyword "unsigned") (both_before (plain (word_spelled (the_keyword "unsigned"))) TailBefore) (mapped_before (of_kind kind.Long) LongBefore))

unsigned_long_type : (p q : ℕ) (o : Option ℕ) (r : ℕ) → TypeSpecifier p kind.UnsignedLong (keyword p "unsigned" ∷ keyword q "long" ∷ keyword r "long" ∷ optional_int o)
unfolding optional_int
unsigned_long_type p q None r = TypeSpecifier.unsigned_long p q r false [] Optional.absent
unsigned_long_type p q (Some s) r = TypeSpecifier.unsigned_long p q r true (keyword s "int" ∷ []) (Optional.present s)

long_type : (p q : ℕ) (o : Option ℕ) → TypeSpecifier p kind.Long (keyword p "long" ∷ keyword q "long" ∷ optional_int o)
unfolding optional_int
long_type p q None = TypeSpecifier.long p q false [] Optional.absent
long_type p q (Some s) = TypeSpecifier.long p q true (keyword s "int" ∷ []) (Optional.present s)

unsigned_type : (p : ℕ) (k : Kind) (ts : List Token) → UnsignedTail k ts → TypeSpecifier p k (keyword p "unsigned" ∷ ts)
unfolding LongSpelled
unsigned_type p k ts UnsignedTail.nothing = TypeSpecifier.unsigned p
unsigned_type p k ts (UnsignedTail.int q) = TypeSpecifier.unsigned_int p q
unsigned_type p k ts (UnsignedTail.long q us (r, o, e)) = subst (λ z. TypeSpecifier p kind.UnsignedLong (keyword p "unsigned" ∷ z)) (sym e) (unsigned_long_type p q o r)

type_viable : (x : ℕ × Kind) (front : List Token) → TypeV x front → TypeSpelled x front
unfolding TypeV LongSpelled
type_viable x front (inl (p, e, i)) = subst (λ z. TypeSpelled z front) e (subst (TypeSpecifier p kind.Int) (sym i) (TypeSpecifier.int p))
type_viable x front (inr (inl (a, b, i, j, u))) = subst (TypeSpecifier x.0 x.1) (sym (i ∙ ap (λ z. z ++ b) j)) (unsigned_type x.0 x.1 b u)
type_viable x front (inr (inr (p, e, (q, o, i)))) = subst (λ z. TypeSpelled z front) e (subst (TypeSpecifier p kind.Long) (sym i) (long_type p q o))

long_spelled : (p q : ℕ) (i : Bool) (ts : List Token) → Optional "int" i ts → LongSpelled p (keyword p "long" ∷ keyword q "long" ∷ ts)
unfolding LongSpelled optional_int
long_spelled p q i ts Optional.absent = (q, None, refl)
long_spelled p q i ts (Optional.present r) = (q, Some r, refl)

type_full : (p : ℕ) (k : Kind) (front rest : List Token) → TypeSpecifier p k front → starts is_type rest ≡ false → TypeF (p, k) front rest
unfolding TypeF TailBefore LongBefore
type_full p k front rest (TypeSpecifier.int q) h = inl (refl, (q, refl, refl))
type_full p k front rest (TypeSpecifier.unsigned q) h = inr (refl, inl (refl, (keyword q "unsigned" ∷ [], [], refl, refl, (UnsignedTail.nothing, h))))
type_full p k front rest (TypeSpecifier.unsigned_int q r) h = inr (refl, inl (refl, (keyword q "unsigned" ∷ [], keyword r "int" ∷ [], refl, refl, (UnsignedTail.int r, h))))
type_full p k front rest (TypeSpecifier.long q r i ts o) h = inr (refl, inr (refl, (q, refl, (long_spelled q r i ts o, no_int rest h))))
type_full p k front rest (TypeSpecifier.unsigned_long q r s i ts o) h =
    inr (refl, inl (refl, (keyword q "unsigned" ∷ [], keyword r "long" ∷ keyword s "long" ∷ ts, refl, refl, (UnsignedTail.long r (keyword r "long" ∷ keyword s "long" ∷ ts) (long_spelled r s i ts o), h))))

pub type_lawful : Lawful type_reader (plain TypeSpelled) TypeBefore TypeSpelled
unfolding type_reader TypeV TypeF
type_lawful =
    recast_plain type_reader _ TypeF TypeBefore TypeV TypeSpelled
    (choose_lawful (is_the_keyword "int") (mapped (of_kind kind.Int) (word (the_keyword "int"))) (choose (is_the_keyword "unsigned") (both (word (the_keyword "unsigned")) unsigned_tail) (mapped (of_kind kind.Long) long_words)) _ _ _ _ _ _
    (mapped_lawful (of_kind kind.Int) (word (the_keyword "int")) _ _ _ (word_lawful (the_keyword "int") (keyword_is_word "int")))
    (choose_lawful (is_the_keyword "unsigned") (both (word (the_keyword "unsigned")) unsigned_tail) (mapped (of_kind kind.Long) long_words) _ _ _ _ _ _
    (both_lawful (word (the_keyword "unsigned")) unsigned_tail _ _ _ _ _ _ (word_lawful (the_keyword "unsigned") (keyword_is_word "unsigned")) tail_lawful)
    (mapped_lawful (of_kind kind.Long) long_words _ _ _ long_lawful)))
    (λ x front rest h. type_full x.0 x.1 front rest h.0 h.1)
    type_viable

pub some_type : (p : ℕ) (k : Kind) (ks rest : List Token) → TypeSpecifier p k ks → starts is_type (ks ++ rest) ≡ true
some_type p k ks rest (TypeSpecifier.int q) = refl
some_type p k ks rest (TypeSpecifier.unsigned q) = refl
some_type p k ks rest (TypeSpecifier.unsigned_int q r) = refl
some_type p k ks rest (TypeSpecifier.long q r i ts o) = refl
some_type p k ks rest (TypeSpecifier.unsigned_long q r s i ts o) = refl

-- ---- what may follow an expression

abbrev pub ExprBefore : ℕ → ℕ → Before Token RawExpr
ExprBefore m n x front rest = Expression n x front × (length front < m) × (starts (goes_on n) rest ≡ false)

or_both : (a b : Bool) → a ≡ false → b ≡ false → (a || b) ≡ false
or_both a b e f = ap (λ z. z || b) e ∙ f

not_zero : (n : ℕ) → nat_eq (suc n) 0 ≡ false
not_zero n = never (nat_eq (suc n) 0) (λ e. let i = eqb-true (suc n) 0 e in omega (arith, i))

higher_least : (n : ℕ) (o : Option (ℕ × Operation)) → of_least_level n o ≡ false → of_least_level (suc n) o ≡ false
higher_least n None h = refl
higher_least n (Some p) h = never (nat_le (suc n) (level_of p.1)) (λ e. let le = leb-true (suc n) (level_of p.1) e in let l : n ≤ level_of p.1 = omega (arith, le) in clash (sym (le-leb n (level_of p.1) l) ∙ h))

-- where nothing of a level goes on, nothing of a higher one does, and no operator of it stands there
goes_higher : (n : ℕ) (t : Token) → goes_on n t ≡ false → goes_on (suc n) t ≡ false
goes_higher n t h =
    let e = or_false (is_the_punctuator "[" t) _ h in
    let f = or_false (of_least_level n (binary_operators.says t)) _ e.1 in
    or_both (is_the_punctuator "[" t) _ e.0 (or_both (of_least_level (suc n) (binary_operators.says t)) _ (higher_least n (binary_operators.says t) f.0) (ap (λ z. z && is_the_punctuator "?" t) (not_zero n)))

not_of_level : (n : ℕ) (o : Option (ℕ × Operation)) → of_least_level n o ≡ false → is_some (of_level n o) ≡ false
not_of_level n None h = refl
not_of_level n (Some p) h = go (nat_eq (level_of p.1) n) refl
  where
    go : (b : Bool) → nat_eq (level_of p.1) n ≡ b → is_some (when b p) ≡ false
    go true e =
        let i = eqb-true (level_of p.1) n e in
        let l : n ≤ level_of p.1 = omega (arith, i) in
        absurd (clash (sym (le-leb n (level_of p.1) l) ∙ h))
    go false e = refl

no_operator : (n : ℕ) (t : Token) → goes_on n t ≡ false → is_some (operators_at n t) ≡ false
no_operator n t h = not_of_level n (binary_operators.says t) (or_false (of_least_level n (binary_operators.says t)) _ (or_false (is_the_punctuator "[" t) _ h).1).0

pub then_higher : (n : ℕ) (rest : List Token) → starts (goes_on n) rest ≡ false → starts (goes_on (suc n)) rest ≡ false
then_higher n [] h = refl
then_higher n (t ∷ ts) h = goes_higher n t h

pub then_no_operator : (n : ℕ) (rest : List Token) → starts (goes_on n) rest ≡ false → starts (λ t. is_some (operators_at n t)) rest ≡ false
then_no_operator n [] h = refl
then_no_operator n (t ∷ ts) h = no_operator n t h

pub then_no_bracket : (n : ℕ) (rest : List Token) → starts (goes_on n) rest ≡ false → starts (is_the_punctuator "[") rest ≡ false
then_no_bracket n [] h = refl
then_no_bracket n (t ∷ ts) h = (or_false (is_the_punctuator "[" t) _ h).0

pub then_no_question : (rest : List Token) → starts (goes_on 0) rest ≡ false → starts (is_the_punctuator "?") rest ≡ false
then_no_question [] h = refl
then_no_question (t ∷ ts) h = (or_false (of_least_level 0 (binary_operators.says t)) _ (or_false (is_the_punctuator "[" t) _ h).1).1

-- an operator of a level does not go on with an operand of a higher one
pub operator_stops : (n : ℕ) (t : Token) (o : ℕ × Operation) → binary_operators.says t ≡ Some o → level_of o.1 ≡ n → goes_on (suc n) t ≡ false
operator_stops n t o h l =
    or_both (is_the_punctuator "[" t) _ (mark_apart binary_operators "[" t o h (λ q. refl))
    (or_both (of_least_level (suc n) (binary_operators.says t)) _
    (ap (of_least_level (suc n)) h ∙ never (nat_le (suc n) (level_of o.1)) (λ e. let le = leb-true (suc n) (level_of o.1) e in omega (arith, le, l)))
    (ap (λ z. z && is_the_punctuator "?" t) (not_zero n)))

-- ---- levels

pub level_to : (n : ℕ) (x : RawExpr) (ts : List Token) → LeftSpelled operation_of (Expression (suc n)) (one_spelled (operators_at n)) x ts → Expression n x ts
level_to n x ts (LeftSpelled.one y us d) = Expression.higher n y us d
level_to n x ts (LeftSpelled.more y z o us os ws d (t, i, h) e) =
    let k = operator_is n t o h in
    let left : Expression (level_of o.1) y us = subst (λ l. Expression l y us) (sym k.1) (level_to n y us d) in
    let right : Expression (suc (level_of o.1)) z ws = subst (λ l. Expression (suc l) z ws) (sym k.1) e in
    let whole = subst (λ l. Expression l (operation_of y o z) (us ++ (sign o.0 (operation_sign o.1) ∷ ws))) k.1 (Expression.binary_operation o.0 o.1 y z us ws left right) in
    subst (Expression n (operation_of y o z)) (ap (λ q. us ++ q) (ap (λ q. q ∷ ws) (sym k.0) ∙ ap (λ q. q ++ ws) (sym i))) whole

pub level_from : (n : ℕ) (x : RawExpr) (ts : List Token) → Expression n x ts → 1 ≤ n → n ≤ 10 → LeftSpelled operation_of (Expression (suc n)) (one_spelled (operators_at n)) x ts
level_from n x ts (Expression.conditional p q c y z cs ys zs d e f) lo hi = let bad : ⊥ = omega (arith, lo) in absurd bad
level_from n x ts (Expression.binary_operation p o y z ys zs d e) lo hi =
    LeftSpelled.more y z (p, o) ys (sign p (operation_sign o) ∷ []) zs (level_from (level_of o) y ys d lo hi) (sign p (operation_sign o), refl, operator_own p o) e
level_from n x ts (Expression.unary_operation p o y ys d) lo hi = let bad : ⊥ = omega (arith, hi) in absurd bad
level_from n x ts (Expression.cast p q r k y ks ys kd d) lo hi = let bad : ⊥ = omega (arith, hi) in absurd bad
level_from n x ts (Expression.constant m v) lo hi = let bad : ⊥ = omega (arith, hi) in absurd bad
level_from n x ts (Expression.element m subs us d) lo hi = let bad : ⊥ = omega (arith, hi) in absurd bad
level_from n x ts (Expression.paren p q y ys d) lo hi = let bad : ⊥ = omega (arith, hi) in absurd bad
level_from n x ts (Expression.higher m y ys d) lo hi = LeftSpelled.one y ys d

-- any operator of the level
pub some_operator : (n : ℕ) → 1 ≤ n → n ≤ 10 → (t : Token) × (o : ℕ × Operation) × (operators_at n t ≡ Some o)
some_operator zero lo hi = let bad : ⊥ = omega (arith, lo) in absurd bad
some_operator (suc zero) lo hi = let o = Operation.logical_or in (sign 0 (operation_sign o), (0, o), refl)
some_operator (suc (suc zero)) lo hi = let o = Operation.logical_and in (sign 0 (operation_sign o), (0, o), refl)
some_operator (suc (suc (suc zero))) lo hi = let o = Operation.strict binary.BitOr in (sign 0 (operation_sign o), (0, o), refl)
some_operator (suc (suc (suc (suc zero)))) lo hi = let o = Operation.strict binary.BitXor in (sign 0 (operation_sign o), (0, o), refl)
some_operator (suc (suc (suc (suc (suc zero))))) lo hi = let o = Operation.strict binary.BitAnd in (sign 0 (operation_sign o), (0, o), refl)
some_operator (suc (suc (suc (suc (suc (suc zero)))))) lo hi = let o = Operation.strict binary.Eq in (sign 0 (operation_sign o), (0, o), refl)
some_operator (suc (suc (suc (suc (suc (suc (suc zero))))))) lo hi = let o = Operation.strict binary.Lt in (sign 0 (operation_sign o), (0, o), refl)
some_operator (suc (suc (suc (suc (suc (suc (suc (suc zero)))))))) lo hi = let o = Operation.strict binary.Shl in (sign 0 (operation_sign o), (0, o), refl)
some_operator (suc (suc (suc (suc (suc (suc (suc (suc (suc zero))))))))) lo hi = let o = Operation.strict binary.Add in (sign 0 (operation_sign o), (0, o), refl)
some_operator (suc (suc (suc (suc (suc (suc (suc (suc (suc (suc zero)))))))))) lo hi = let o = Operation.strict binary.Mul in (sign 0 (operation_sign o), (0, o), refl)
some_operator (suc (suc (suc (suc (suc (suc (suc (suc (suc (suc (suc n))))))))))) lo hi = let bad : ⊥ = omega (arith, hi) in absurd bad

abbrev pub ExprLaw : ℕ → ℕ → Reader Token RawExpr → Type 0
ExprLaw m n r = Lawful r (plain (Expression n)) (ExprBefore m n) (Expression n)

abbrev OperatorOf : ℕ → Spelled Token (ℕ × Operation)
OperatorOf n = one_spelled (operators_at n)

-- one level, from that of its operands
pub level_law : (m n : ℕ) → 1 ≤ n → n ≤ 10 → (r : Reader Token RawExpr) → ExprLaw m (suc n) r → ExprLaw m n (level_reader m n r)
level_law m n lo hi r l =
    let some = some_operator n lo hi in
    recast_plain (level_reader m n r) _ _ (ExprBefore m n) _ (Expression n)
    (level_lawful operation_of m (λ t. is_some (operators_at n t)) (one (operators_at n)) r (Expression (suc n)) (OperatorOf n) (goes_on (suc n))
    (one_lawful (operators_at n) some.0 some.1 some.2) l
    (λ o a rest (t, i, h). let k = operator_is n t o h in (
      ap (λ z. starts (λ u. is_some (operators_at n u)) (z ++ rest)) i ∙ ap is_some h,
      ap (λ z. starts (goes_on (suc n)) (z ++ rest)) i ∙ operator_stops n t o (operator_says n t o h) k.1,
      (let e = ap length i in omega (arith, e)),
    )))
    (λ x front rest h. (level_from n x front h.0 lo hi, h.1, then_higher n rest h.2, then_no_operator n rest h.2))
    (λ x front d. level_to n x front d)

pub then_any : (n : ℕ) (rest : List Token) → starts (goes_on 0) rest ≡ false → starts (goes_on n) rest ≡ false
then_any zero rest h = h
then_any (suc n) rest h = then_higher n rest (then_any n rest h)
