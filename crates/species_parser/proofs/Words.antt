-- Each class of tokens holds the tokens that it makes, and no others.
use Rattle.std.proofs.Common.{◌≡◌, ◌∙◌, ap, sym, refl, ℕ, List, [], ◌∷◌, Option, Some, None, Bool, true, false}
use Rattle.std.specs.Prelude.{if◌then◌else◌, ◌&&◌, is_some, codes, bytes_eq, nat_eq}
use Rattle.std.proofs.lemmas.Slice.Eq.{bytes_eq-Decides}
use Rattle.std.proofs.lemmas.Bool.{eqb-true, eq-eqb}
use Prim.Native.String.{String}
use Rattle.species_grammar.specs.Reader.{Word}
use Rattle.species_grammar.specs.Lawful.{IsWord}
use Rattle.species_ast.specs.Signs.{all_assignments, all_raw_unary, all_tests, assignment_sign, find_sign, raw_unary_sign, test_sign}
use Rattle.species_ast.specs.Token.{Token}
use Rattle.species_ast.specs.Spelling.{Spelling}
use Rattle.species_ast.specs.Grammar.Words.{sign, punctuator, name, number, include, species, parallel, atomic}
use Rattle.species_ast.specs.Grammar.Expressions.{Operation, operation_sign, level_of}
use Rattle.species_ast.specs.declared.token.TokenKind.{TokenKind}
use Rattle.species_ast.specs.declared.token.TokenKind.TheVariants as token
use Rattle.species_ast.specs.declared.tree.Value.{Value}
use Rattle.species_ast.specs.declared.tree.Value.TheVariants as value
use Rattle.species_ast.specs.declared.tree.Schedule.{Schedule}
use Rattle.species_ast.specs.declared.tree.Schedule.TheVariants as schedule
use Rattle.species_ast.specs.declared.tree.Binary.TheVariants as binary
use Rattle.species_ast.specs.declared.tree.Test.{Test}
use Rattle.species_ast.specs.declared.tree.Test.TheVariants as test
use Rattle.species_ast.specs.declared.raw.RawUnary.{RawUnary}
use Rattle.species_ast.specs.declared.raw.RawUnary.TheVariants as unary
use Rattle.species_ast.specs.declared.raw.RawOp.{RawOp}
use Rattle.species_ast.specs.declared.raw.RawOp.TheVariants as op
use Rattle.species_parser.specs.Words.{is_punctuator, is_keyword, when, spelling_of, the_punctuator, the_keyword, placed, one_of, unary_operators, all_operations, binary_operators, of_level, operators_at, assignment_operators, tests, name_in, names, number_in, numbers, include_in, includes, species_in, species_lines, parallel_in, parallel_lines, atomic_in, atomic_lines, is_the_punctuator}

token_is : (t : Token) (p : ℕ) (s : List ℕ) (k : TokenKind) → t.place ≡ p → t.text ≡ s → t.kind ≡ k → t ≡ record { place = p; text = s; kind = k }
token_is t p s k e f g = ap (λ z. record { place = z; text = t.text; kind = t.kind }) e ∙ ap (λ z. record { place = p; text = z; kind = t.kind }) f ∙ ap (λ z. record { place = p; text = s; kind = z }) g

same_text : (s : List ℕ) → bytes_eq s s ≡ true
same_text s = (bytes_eq-Decides s s).1 refl

-- ---- marks and keywords

punctuator_is : (k : TokenKind) → is_punctuator k ≡ true → k ≡ token.Punct
punctuator_is token.Punct h = refl
punctuator_is _ h = cc

keyword_is : (k : TokenKind) → is_keyword k ≡ true → k ≡ token.Keyword
keyword_is token.Keyword h = refl
keyword_is _ h = cc

when_is : {A : Type 0} (b c : Bool) (x y : A) → when (b && c) x ≡ Some y → (b ≡ true) × (c ≡ true) × (x ≡ y)
when_is true true x y h = (refl, refl, cc)
when_is true false x y h = cc
when_is false c x y h = cc

pub punctuator_is_word : (s : String) → IsWord (the_punctuator s)
punctuator_is_word s = record {
  is = λ t p h.
      let e = when_is (is_punctuator t.kind) (bytes_eq t.text (codes s)) t.place p h in
      token_is t p (codes s) token.Punct e.2 ((bytes_eq-Decides t.text (codes s)).0 e.1) (punctuator_is t.kind e.0);
  own = λ p. ap (λ b. when b p) (same_text (codes s));
  some = 0;
}

pub keyword_is_word : (s : String) → IsWord (the_keyword s)
keyword_is_word s = record {
  is = λ t p h.
      let e = when_is (is_keyword t.kind) (bytes_eq t.text (codes s)) t.place p h in
      token_is t p (codes s) token.Keyword e.2 ((bytes_eq-Decides t.text (codes s)).0 e.1) (keyword_is t.kind e.0);
  own = λ p. ap (λ b. when b p) (same_text (codes s));
  some = 0;
}

-- ---- tables

same_some : {A : Type 0} (x y : A) → Some x ≡ Some y → x ≡ y
same_some x y h = cc

found_is : {O : Type 0} (spell : O → List ℕ) (all : List O) (text : List ℕ) (o : O) → find_sign spell all text ≡ Some o → text ≡ spell o
found_is spell [] text o h = cc
found_is {O} spell (x ∷ xs) text o h = go (found_is spell xs text o) (bytes_eq text (spell x)) refl h
  where
    go : (find_sign spell xs text ≡ Some o → text ≡ spell o) → (b : Bool) → bytes_eq text (spell x) ≡ b → (if b then Some x else find_sign spell xs text) ≡ Some o → text ≡ spell o
    go more true e d = (bytes_eq-Decides text (spell x)).0 e ∙ ap (λ z. spell z) (same_some x o d)
    go more false e d = more d

placed_is : {O : Type 0} (p q : ℕ) (b : Bool) (o : Option O) (x : O) → placed p b o ≡ Some (q, x) → (p ≡ q) × (b ≡ true) × (o ≡ Some x)
placed_is p q true (Some y) x h = let e = same_some (p, y) (q, x) h in (ap (λ z. z.0) e, refl, ap (λ z. Some z.1) e)
placed_is p q true None x h = cc
placed_is p q false o x h = cc

pub table_is_word : {O : Type 0} (spell : O → List ℕ) (all : List O) (some : O) → ((o : O) → find_sign spell all (spell o) ≡ Some o) → IsWord (one_of spell all)
table_is_word spell all some own = record {
  is = λ t p h.
      let e = placed_is t.place p.0 (is_punctuator t.kind) (find_sign spell all t.text) p.1 h in
      token_is t p.0 (spell p.1) token.Punct e.0 (found_is spell all t.text p.1 e.2) (punctuator_is t.kind e.1);
  own = λ p. ap (placed p.0 true) (own p.1);
  some = (0, some);
}

unary_own : (o : RawUnary) → find_sign raw_unary_sign all_raw_unary (raw_unary_sign o) ≡ Some o
unary_own unary.Neg = refl
unary_own unary.Plus = refl
unary_own unary.Not = refl
unary_own unary.LogNot = refl

pub unary_is_word : IsWord unary_operators
unary_is_word = table_is_word raw_unary_sign all_raw_unary unary.Neg unary_own

binary_own : (o : Operation) → find_sign operation_sign all_operations (operation_sign o) ≡ Some o
binary_own (Operation.strict binary.Mul) = refl
binary_own (Operation.strict binary.Div) = refl
binary_own (Operation.strict binary.Rem) = refl
binary_own (Operation.strict binary.Add) = refl
binary_own (Operation.strict binary.Sub) = refl
binary_own (Operation.strict binary.Shl) = refl
binary_own (Operation.strict binary.Shr) = refl
binary_own (Operation.strict binary.Lt) = refl
binary_own (Operation.strict binary.Le) = refl
binary_own (Operation.strict binary.Gt) = refl
binary_own (Operation.strict binary.Ge) = refl
binary_own (Operation.strict binary.Eq) = refl
binary_own (Operation.strict binary.Ne) = refl
binary_own (Operation.strict binary.BitAnd) = refl
binary_own (Operation.strict binary.BitXor) = refl
binary_own (Operation.strict binary.BitOr) = refl
binary_own Operation.logical_and = refl
binary_own Operation.logical_or = refl

pub binary_is_word : IsWord binary_operators
binary_is_word = table_is_word operation_sign all_operations Operation.logical_or binary_own

assignment_own : (o : RawOp) → find_sign assignment_sign all_assignments (assignment_sign o) ≡ Some o
assignment_own op.Plain = refl
assignment_own op.Add = refl
assignment_own op.Sub = refl
assignment_own op.Mul = refl
assignment_own op.Div = refl
assignment_own op.Rem = refl
assignment_own op.BitAnd = refl
assignment_own op.BitXor = refl
assignment_own op.BitOr = refl
assignment_own op.Shl = refl
assignment_own op.Shr = refl

pub assignment_is_word : IsWord assignment_operators
assignment_is_word = table_is_word assignment_sign all_assignments op.Plain assignment_own

test_own : (o : Test) → find_sign test_sign all_tests (test_sign o) ≡ Some o
test_own test.Lt = refl
test_own test.Le = refl
test_own test.Gt = refl
test_own test.Ge = refl

pub test_is_word : IsWord tests
test_is_word = table_is_word test_sign all_tests test.Lt test_own

-- ---- the operators of a level

of_level_is : (n : ℕ) (o : Option (ℕ × Operation)) (p : ℕ × Operation) → of_level n o ≡ Some p → (o ≡ Some p) × (level_of p.1 ≡ n)
of_level_is n None p h = cc
of_level_is n (Some q) p h = go (nat_eq (level_of q.1) n) refl h
  where
    go : (b : Bool) → nat_eq (level_of q.1) n ≡ b → when b q ≡ Some p → (Some q ≡ Some p) × (level_of p.1 ≡ n)
    go true e d = let i : q ≡ p = cc in (d, ap (λ z. level_of z.1) (sym i) ∙ eqb-true (level_of q.1) n e)
    go false e d = cc

-- an operator of a level is a punctuator
pub operator_is : (n : ℕ) (t : Token) (p : ℕ × Operation) → operators_at n t ≡ Some p → (t ≡ sign p.0 (operation_sign p.1)) × (level_of p.1 ≡ n)
operator_is n t p h = let e = of_level_is n (binary_operators.says t) p h in (binary_is_word.is t p e.0, e.1)

pub operator_own : (p : ℕ) (o : Operation) → operators_at (level_of o) (sign p (operation_sign o)) ≡ Some (p, o)
operator_own p o = ap (of_level (level_of o)) (binary_is_word.own (p, o)) ∙ ap (λ b. when b (p, o)) (eq-eqb (level_of o) (level_of o) refl)

pub operator_says : (n : ℕ) (t : Token) (p : ℕ × Operation) → operators_at n t ≡ Some p → binary_operators.says t ≡ Some p
operator_says n t p h = (of_level_is n (binary_operators.says t) p h).0

-- ---- the others

spelled : Spelling
spelled = record { text = []; place = 0 }

name_is : (k : TokenKind) (t : Token) (n : Spelling) → t.kind ≡ k → name_in k t ≡ Some n → t ≡ name n
name_is token.Name t n e h = let i : spelling_of t ≡ n = cc in token_is t n.place n.text token.Name (ap (λ z. z.place) i) (ap (λ z. z.text) i) e
name_is _ t n e h = cc

pub name_is_word : IsWord names
name_is_word = record { is = λ t n h. name_is t.kind t n refl h; own = λ n. refl; some = spelled }

number_is : (k : TokenKind) (t : Token) (p : Spelling × Value) → t.kind ≡ k → number_in k t ≡ Some p → t ≡ number p.0 p.1
number_is (token.Number v) t p e h =
    let i : spelling_of t ≡ p.0 = cc in
    let j : v ≡ p.1 = cc in
    token_is t p.0.place p.0.text (token.Number p.1) (ap (λ z. z.place) i) (ap (λ z. z.text) i) (e ∙ ap token.Number j)
number_is _ t p e h = cc

pub number_is_word : IsWord numbers
number_is_word = record { is = λ t p h. number_is t.kind t p refl h; own = λ p. refl; some = (spelled, value.Unsigned 0) }

include_is : (k : TokenKind) (t : Token) (n : Spelling) → t.kind ≡ k → include_in k t ≡ Some n → t ≡ include n
include_is token.Include t n e h = let i : spelling_of t ≡ n = cc in token_is t n.place n.text token.Include (ap (λ z. z.place) i) (ap (λ z. z.text) i) e
include_is _ t n e h = cc

pub include_is_word : IsWord includes
include_is_word = record { is = λ t n h. include_is t.kind t n refl h; own = λ n. refl; some = spelled }

species_is : (k : TokenKind) (t : Token) (n : Spelling) → t.kind ≡ k → species_in k t ≡ Some n → t ≡ species n
species_is token.Species t n e h = let i : spelling_of t ≡ n = cc in token_is t n.place n.text token.Species (ap (λ z. z.place) i) (ap (λ z. z.text) i) e
species_is _ t n e h = cc

pub species_is_word : IsWord species_lines
species_is_word = record { is = λ t n h. species_is t.kind t n refl h; own = λ n. refl; some = spelled }

parallel_is : (k : TokenKind) (t : Token) (p : Spelling × (ℕ × Schedule)) → t.kind ≡ k → parallel_in k t ≡ Some p → t ≡ parallel p.0 p.1.0 p.1.1
parallel_is (token.Parallel d s) t p e h =
    let q = same_some (spelling_of t, (d, s)) p h in
    let i : spelling_of t ≡ p.0 = ap (λ z. z.0) q in
    let j : d ≡ p.1.0 = ap (λ z. z.1.0) q in
    let m : s ≡ p.1.1 = ap (λ z. z.1.1) q in
    token_is t p.0.place p.0.text (token.Parallel p.1.0 p.1.1) (ap (λ z. z.place) i) (ap (λ z. z.text) i) (e ∙ ap (λ z. token.Parallel z s) j ∙ ap (token.Parallel p.1.0) m)
parallel_is _ t p e h = cc

pub parallel_is_word : IsWord parallel_lines
parallel_is_word = record { is = λ t p h. parallel_is t.kind t p refl h; own = λ p. refl; some = (spelled, (1, schedule.Static)) }

atomic_is : (k : TokenKind) (t : Token) (n : Spelling) → t.kind ≡ k → atomic_in k t ≡ Some n → t ≡ atomic n
atomic_is token.Atomic t n e h = let i : spelling_of t ≡ n = cc in token_is t n.place n.text token.Atomic (ap (λ z. z.place) i) (ap (λ z. z.text) i) e
atomic_is _ t n e h = cc

pub atomic_is_word : IsWord atomic_lines
atomic_is_word = record { is = λ t n h. atomic_is t.kind t n refl h; own = λ n. refl; some = spelled }

-- ---- tests of the next token

pub never : (b : Bool) → (b ≡ true → ⊥) → b ≡ false
never true h = absurd (h refl)
never false h = refl

pub clash : true ≡ false → ⊥
clash h = cc

pub is_some_in : {A : Type 0} (o : Option A) → is_some o ≡ true → (x : A) × (o ≡ Some x)
is_some_in (Some x) h = (x, refl)
is_some_in None h = absurd (clash (sym h))

none_some : {A : Type 0} (x : A) → None ≡ Some x → ⊥
none_some x h = cc

-- a token of a class that the punctuator is not of is not the punctuator
pub mark_apart : {A : Type 0} (w : Word Token A) (s : String) (t : Token) (x : A) → w.says t ≡ Some x → ((q : ℕ) → w.says (punctuator q s) ≡ None) → is_the_punctuator s t ≡ false
mark_apart w s t x h off =
    never (is_the_punctuator s t) (λ e.
    let k = is_some_in ((the_punctuator s).says t) e in
    let i = (punctuator_is_word s).is t k.0 k.1 in
    none_some x (sym (off k.0) ∙ ap w.says (sym i) ∙ h))
