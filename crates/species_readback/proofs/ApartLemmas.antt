-- No token of a printed expression runs into what stands behind it.
use Rattle.std.proofs.Common.{◌≡◌, ◌∙◌, ap, sym, refl, subst, ℕ, ◌+◌, ◌<◌, ◌^◌, Bool, true, false, List, [], ◌∷◌, ◌++◌, map, arith, append-nil, append_assoc, nat_eq, pos, negsuc}
use Rattle.std.proofs.lemmas.Bool.{ne_eqb, and_parts}
use Rattle.std.specs.Prelude.{◌||◌, ◌&&◌, nat_lt, codes, decimal}
use Rattle.std.specs.List.{flat_map}
use Rattle.species_ast.specs.Marks.{all_true}
use Rattle.species_ast.specs.Names.{is_name, is_letter, is_word}
use Rattle.species_ast.specs.declared.tree.Binary.{Binary}
use Rattle.species_ast.specs.declared.tree.Binary.TheVariants as binary
use Rattle.species_ast.specs.declared.tree.Unary.{Unary}
use Rattle.species_ast.specs.declared.tree.Unary.TheVariants as unary
use Rattle.species_ast.specs.declared.tree.Kind.{Kind}
use Rattle.species_ast.specs.declared.tree.Kind.TheVariants as of_kind
use Rattle.species_ast.specs.declared.tree.Value.{Value}
use Rattle.species_ast.specs.declared.tree.Value.TheVariants as value
use Rattle.species_ast.specs.declared.tree.Unit.{Unit}
use Rattle.species_ast.specs.declared.tree.Expr.{Expr, para-roll-Expr}
use Rattle.species_ast.specs.declared.tree.Expr.TheOpen.{Expr-F}
use Rattle.species_ast.specs.declared.tree.Expr.TheVariants as expr
use Rattle.species_ast.specs.declared.token.TokenKind.TheVariants as kind
use Rattle.species_ast.specs.Text.Pieces as byte
use Rattle.species_ast.specs.Text.Words.{punctuators}
use Rattle.species_ast.proofs.Folds.{fold_expr-Literal, fold_expr-Iter, fold_expr-Local, fold_expr-Elem, fold_expr-Unary, fold_expr-Binary, fold_expr-And, fold_expr-Or, fold_expr-Cond, fold_expr-Cast}
use Rattle.species_ast.proofs.Induction.{Each, ExprCases, expr_ind}
use Rattle.species_print.specs.Printed.{Printed, Lexeme, text_of, spaced, punctuator, name}
use Rattle.species_print.specs.Expressions.{Operand, expr_step, expr_printed, array_name, local_name, iter_name, kind_words, is_minus, at_least, behind_unary, bracketed, subscript, literal_printed, level_at, level_of, negation_at, is_negation}
use Rattle.species_readback.proofs.TokenLemmas.{Stands, Apart, head_after, apart_append}
use Rattle.species_readback.proofs.WordLemmas.{Ends, continues, letter_above, digit_within, stands_name, stands_keyword}
use Rattle.species_readback.proofs.NumberLemmas.{small_number, stands_int, stands_literal, unsigned_suffix, long_suffix, unsigned_long_suffix, decimal_first}
use Rattle.species_readback.specs.Spelt.{is_literal, expr_spelt, is_spelt}
use Rattle.species_ast.specs.Signs.{unary_sign, binary_sign, binary_level}
use Rattle.species_readback.proofs.ListLemmas.{or_false}

-- ---- the condition: names are names, and literals are those that a text can spell

-- ---- what is printed of each variant

pub printed_of_operands : (u : Unit) (iters : List (List ℕ)) (es : List Expr) →
    map (λ (a : Operand). a.1) (map (λ e. (e, expr_printed u iters e)) es) ≡ map (expr_printed u iters) es
printed_of_operands u iters [] = refl
printed_of_operands u iters (e ∷ es) = ap (λ ps. expr_printed u iters e ∷ ps) (printed_of_operands u iters es)

pub printed-Literal : (u : Unit) (iters : List (List ℕ)) (v : Value) → expr_printed u iters (expr.Literal v) ≡ literal_printed v
printed-Literal u iters v = ap (expr_printed u iters) (sym (expr.rolls-Literal v)) ∙ para-roll-Expr (List Printed) (expr_step u iters) (Expr-F.Literal v)

pub printed-Iter : (u : Unit) (iters : List (List ℕ)) (n : ℕ) → expr_printed u iters (expr.Iter n) ≡ name (iter_name iters n) ∷ []
printed-Iter u iters n = ap (expr_printed u iters) (sym (expr.rolls-Iter n)) ∙ para-roll-Expr (List Printed) (expr_step u iters) (Expr-F.Iter n)

pub printed-Local : (u : Unit) (iters : List (List ℕ)) (n : ℕ) → expr_printed u iters (expr.Local n) ≡ name (local_name u n) ∷ []
printed-Local u iters n = ap (expr_printed u iters) (sym (expr.rolls-Local n)) ∙ para-roll-Expr (List Printed) (expr_step u iters) (Expr-F.Local n)

pub printed-Elem : (u : Unit) (iters : List (List ℕ)) (n : ℕ) (subs : List Expr) →
    expr_printed u iters (expr.Elem n subs) ≡ name (array_name u n) ∷ flat_map subscript (map (expr_printed u iters) subs)
printed-Elem u iters n subs =
    ap (expr_printed u iters) (sym (expr.rolls-Elem n subs)) ∙ para-roll-Expr (List Printed) (expr_step u iters) (Expr-F.Elem n subs)
    ∙ ap (λ ps. name (array_name u n) ∷ flat_map subscript ps) (printed_of_operands u iters subs)

pub printed-Unary : (u : Unit) (iters : List (List ℕ)) (op : Unary) (a : Expr) →
    expr_printed u iters (expr.Unary op a) ≡ Lexeme (unary_sign op) kind.Punct ∷ behind_unary op (a, expr_printed u iters a)
printed-Unary u iters op a = ap (expr_printed u iters) (sym (expr.rolls-Unary op a)) ∙ para-roll-Expr (List Printed) (expr_step u iters) (Expr-F.Unary op a)

pub printed-Binary : (u : Unit) (iters : List (List ℕ)) (op : Binary) (a b : Expr) →
    expr_printed u iters (expr.Binary op a b) ≡
    at_least (binary_level op) (a, expr_printed u iters a) ++ (spaced (binary_sign op) ++ at_least (binary_level op + 1) (b, expr_printed u iters b))
printed-Binary u iters op a b = ap (expr_printed u iters) (sym (expr.rolls-Binary op a b)) ∙ para-roll-Expr (List Printed) (expr_step u iters) (Expr-F.Binary op a b)

pub printed-And : (u : Unit) (iters : List (List ℕ)) (a b : Expr) →
    expr_printed u iters (expr.And a b) ≡ at_least 2 (a, expr_printed u iters a) ++ (spaced (codes "&&") ++ at_least 3 (b, expr_printed u iters b))
printed-And u iters a b = ap (expr_printed u iters) (sym (expr.rolls-And a b)) ∙ para-roll-Expr (List Printed) (expr_step u iters) (Expr-F.And a b)

pub printed-Or : (u : Unit) (iters : List (List ℕ)) (a b : Expr) →
    expr_printed u iters (expr.Or a b) ≡ at_least 1 (a, expr_printed u iters a) ++ (spaced (codes "||") ++ at_least 2 (b, expr_printed u iters b))
printed-Or u iters a b = ap (expr_printed u iters) (sym (expr.rolls-Or a b)) ∙ para-roll-Expr (List Printed) (expr_step u iters) (Expr-F.Or a b)

pub printed-Cond : (u : Unit) (iters : List (List ℕ)) (c a b : Expr) →
    expr_printed u iters (expr.Cond c a b) ≡
    at_least 1 (c, expr_printed u iters c) ++ (spaced (codes "?") ++ (expr_printed u iters a ++ (spaced (codes ":") ++ expr_printed u iters b)))
printed-Cond u iters c a b = ap (expr_printed u iters) (sym (expr.rolls-Cond c a b)) ∙ para-roll-Expr (List Printed) (expr_step u iters) (Expr-F.Cond c a b)

pub printed-Cast : (u : Unit) (iters : List (List ℕ)) (k : Kind) (a : Expr) →
    expr_printed u iters (expr.Cast k a) ≡ punctuator "(" ∷ (kind_words k ++ punctuator ")" ∷ at_least 11 (a, expr_printed u iters a))
printed-Cast u iters k a = ap (expr_printed u iters) (sym (expr.rolls-Cast k a)) ∙ para-roll-Expr (List Printed) (expr_step u iters) (Expr-F.Cast k a)

-- ---- punctuators

-- with which no other begins
pub stands_open : (h : Bool) (rest : List ℕ) → Stands h (codes "(") kind.Punct rest
unfolding byte.piece_of punctuators
stands_open h rest = refl

pub stands_close : (h : Bool) (rest : List ℕ) → Stands h (codes ")") kind.Punct rest
unfolding byte.piece_of punctuators
stands_close h rest = refl

pub stands_left : (h : Bool) (rest : List ℕ) → Stands h (codes "[") kind.Punct rest
unfolding byte.piece_of punctuators
stands_left h rest = refl

pub stands_right : (h : Bool) (rest : List ℕ) → Stands h (codes "]") kind.Punct rest
unfolding byte.piece_of punctuators
stands_right h rest = refl

-- before a space
pub stands_binary : (h : Bool) (op : Binary) (rest : List ℕ) → Stands h (binary_sign op) kind.Punct (32 ∷ rest)
unfolding byte.piece_of punctuators
stands_binary h binary.Mul rest = refl
stands_binary h _ rest = refl

pub stands_and : (h : Bool) (rest : List ℕ) → Stands h (codes "&&") kind.Punct (32 ∷ rest)
unfolding byte.piece_of punctuators
stands_and h rest = refl

pub stands_or : (h : Bool) (rest : List ℕ) → Stands h (codes "||") kind.Punct (32 ∷ rest)
unfolding byte.piece_of punctuators
stands_or h rest = refl

pub stands_then : (h : Bool) (rest : List ℕ) → Stands h (codes "?") kind.Punct (32 ∷ rest)
unfolding byte.piece_of punctuators
stands_then h rest = refl

pub stands_else : (h : Bool) (rest : List ℕ) → Stands h (codes ":") kind.Punct (32 ∷ rest)
unfolding byte.piece_of punctuators
stands_else h rest = refl

-- behind a unary operator: a byte that would make another operator of it
abbrev pub joins : Unary → ℕ → Bool
joins unary.Neg b = nat_eq 45 b || nat_eq 61 b
joins unary.Not b = false
joins unary.LogNot b = nat_eq 61 b

pub stands_unary : (h : Bool) (op : Unary) (rest : List ℕ) → Ends (joins op) rest → Stands h (unary_sign op) kind.Punct rest
unfolding byte.piece_of punctuators
stands_unary h unary.Neg [] e = refl
stands_unary h unary.Neg (b ∷ bs) e = let k = or_false (nat_eq 45 b) (nat_eq 61 b) e in rw (k.0, k.1) refl
stands_unary h unary.Not rest e = refl
stands_unary h unary.LogNot [] e = refl
stands_unary h unary.LogNot (b ∷ bs) e = rw e refl

-- ---- the first byte of an operand of a unary operator

-- it is no `=`, and a `-` where the expression is a negation alone
abbrev Opens : Bool → List ℕ → Type 0
Opens negates [] = Prim.Unit {0}
Opens negates (b ∷ bs) = (nat_eq 61 b ≡ false) × (negates ≡ false → nat_eq 45 b ≡ false)

opens_above : (b : ℕ) (bs : List ℕ) (negates : Bool) → 47 < b → (61 ≡ b → ⊥) → Opens negates (b ∷ bs)
opens_above b bs negates lt d = (ne_eqb 61 b d, λ _. ne_eqb 45 b (λ e. omega (arith, lt, e)))

opens_name : (w rest : List ℕ) (negates : Bool) → is_name w ≡ true → Opens negates (w ++ rest)
opens_name [] rest negates h = cc
opens_name (b ∷ w) rest negates h = let l = letter_above b (and_parts (is_letter b) _ h).0 in opens_above b (w ++ rest) negates (omega (arith, l)) (λ e. omega (arith, l, e))

opens_decimal : (n : ℕ) (more rest : List ℕ) (negates : Bool) → n < 2 ^ 64 → Opens negates (((decimal n) ++ more) ++ rest)
opens_decimal n more rest negates lt =
    let d = decimal_first n lt in
    let w = digit_within d.0 d.3 in
    subst (λ t. Opens negates ((t ++ more) ++ rest)) (sym d.2) (opens_above d.0 ((d.1 ++ more) ++ rest) negates (omega (arith, w.0)) (λ e. omega (arith, w.1, e)))

opens_suffixed : (n : ℕ) (suffix rest : List ℕ) (negates : Bool) → n < 2 ^ 64 → Opens negates (((decimal n ++ suffix) ++ []) ++ rest)
opens_suffixed n suffix rest negates lt = subst (λ t. Opens negates (t ++ rest)) (sym (append-nil (decimal n ++ suffix))) (opens_decimal n suffix rest negates lt)

opens_literal : (v : Value) (rest : List ℕ) (negates : Bool) → is_literal v ≡ true → Opens negates (text_of (literal_printed v) ++ rest)
opens_literal (value.Int (pos n)) rest negates h = opens_decimal n [] rest negates (small_number of_kind.Int n h)
opens_literal (value.Int (negsuc n)) rest negates h = cc
opens_literal (value.Unsigned n) rest negates h = opens_suffixed n (codes "u") rest negates (small_number of_kind.Unsigned n h)
opens_literal (value.Long (pos n)) rest negates h = opens_suffixed n (codes "ll") rest negates (small_number of_kind.Long n h)
opens_literal (value.Long (negsuc n)) rest negates h = cc
opens_literal (value.UnsignedLong n) rest negates h = opens_suffixed n (codes "ull") rest negates (small_number of_kind.UnsignedLong n h)

-- what is claimed of an expression of level 11 or 12, where nothing stands in brackets
abbrev OpensWell : Unit → List (List ℕ) → Expr → Type 0
OpensWell u iters e = is_spelt u iters e ≡ true → nat_lt (level_of e) 11 ≡ false → (rest : List ℕ) → Opens (is_negation e) (text_of (expr_printed u iters e) ++ rest)

binary_low : (op : Binary) → nat_lt (binary_level op) 11 ≡ true
binary_low binary.Mul = refl
binary_low _ = refl

opened : (u : Unit) (iters : List (List ℕ)) (e : Expr) (ps : List Printed) (rest : List ℕ) → expr_printed u iters e ≡ ps → Opens (is_negation e) (text_of ps ++ rest) → Opens (is_negation e) (text_of (expr_printed u iters e) ++ rest)
opened u iters e ps rest is o = subst (λ qs. Opens (is_negation e) (text_of qs ++ rest)) (sym is) o

opened_name : (u : Unit) (iters : List (List ℕ)) (e : Expr) (w : List ℕ) (ps : List Printed) (rest : List ℕ) → expr_printed u iters e ≡ name w ∷ ps → is_name w ≡ true → Opens (is_negation e) (text_of (expr_printed u iters e) ++ rest)
opened_name u iters e w ps rest is n =
    opened u iters e (name w ∷ ps) rest is (subst (Opens (is_negation e)) (sym (append_assoc w (text_of ps) rest)) (opens_name w (text_of ps ++ rest) (is_negation e) n))

opens_cases : (u : Unit) (iters : List (List ℕ)) → ExprCases (OpensWell u iters)
opens_cases u iters = record {
  literal = λ v w h rest. opened u iters (expr.Literal v) (literal_printed v) rest (printed-Literal u iters v) (opens_literal v rest (is_negation (expr.Literal v)) (sym (fold_expr-Literal (expr_spelt u iters) v) ∙ w));
  iter = λ n w h rest. opened_name u iters (expr.Iter n) (iter_name iters n) [] rest (printed-Iter u iters n) (sym (fold_expr-Iter (expr_spelt u iters) n) ∙ w);
  local = λ n w h rest. opened_name u iters (expr.Local n) (local_name u n) [] rest (printed-Local u iters n) (sym (fold_expr-Local (expr_spelt u iters) n) ∙ w);
  elem = λ n subs _ w h rest.
      opened_name u iters (expr.Elem n subs) (array_name u n) (flat_map subscript (map (expr_printed u iters) subs)) rest (printed-Elem u iters n subs)
      (and_parts (is_name (array_name u n)) (all_true (map (is_spelt u iters) subs)) (sym (fold_expr-Elem (expr_spelt u iters) n subs) ∙ w)).0;
  unary = λ op a _ w h rest.
      let ps = behind_unary op (a, expr_printed u iters a) in
      opened u iters (expr.Unary op a) (Lexeme (unary_sign op) kind.Punct ∷ ps) rest (printed-Unary u iters op a)
      (subst (λ n. Opens n (text_of (Lexeme (unary_sign op) kind.Punct ∷ ps) ++ rest)) (sym (ap negation_at (expr.outs-Unary op a))) (sign op ps rest));
  binary = λ op a b _ _ w h rest. absurd (high (binary_level op) (binary_low op) (sym (ap (λ l. nat_lt (level_at l) 11) (expr.outs-Binary op a b)) ∙ h));
  both = λ a b _ _ w h rest. absurd (high 2 refl (sym (ap (λ l. nat_lt (level_at l) 11) (expr.outs-And a b)) ∙ h));
  either = λ a b _ _ w h rest. absurd (high 1 refl (sym (ap (λ l. nat_lt (level_at l) 11) (expr.outs-Or a b)) ∙ h));
  cond = λ c a b _ _ _ w h rest. absurd (high 0 refl (sym (ap (λ l. nat_lt (level_at l) 11) (expr.outs-Cond c a b)) ∙ h));
  cast = λ k a _ w h rest.
      opened u iters (expr.Cast k a) (punctuator "(" ∷ (kind_words k ++ punctuator ")" ∷ at_least 11 (a, expr_printed u iters a))) rest (printed-Cast u iters k a) (refl, λ _. refl);
}
  where
    high : (l : ℕ) → nat_lt l 11 ≡ true → nat_lt l 11 ≡ false → ⊥
    high l a b = let x : true ≡ false = sym a ∙ b in cc

    sign : (op : Unary) (ps : List Printed) (rest : List ℕ) → Opens (is_minus op) (text_of (Lexeme (unary_sign op) kind.Punct ∷ ps) ++ rest)
    sign unary.Neg ps rest = (refl, λ h. cc)
    sign unary.Not ps rest = (refl, λ h. refl)
    sign unary.LogNot ps rest = (refl, λ h. refl)

ends_opens : (op : Unary) (negates : Bool) (bytes : List ℕ) → Opens negates bytes → (is_minus op && negates) ≡ false → Ends (joins op) bytes
ends_opens op negates [] o h = tt
ends_opens unary.Neg negates (b ∷ bs) o h = rw (o.1 h) o.0
ends_opens unary.Not negates (b ∷ bs) o h = refl
ends_opens unary.LogNot negates (b ∷ bs) o h = o.0

after_unary : (u : Unit) (iters : List (List ℕ)) (op : Unary) (a : Expr) (rest : List ℕ) → is_spelt u iters a ≡ true → (c : Bool) → (nat_lt (level_of a) 11 || (is_minus op && is_negation a)) ≡ c
    → Ends (joins op) (text_of (bracketed c (expr_printed u iters a)) ++ rest)
after_unary u iters unary.Neg a rest w true k = refl
after_unary u iters unary.Not a rest w true k = refl
after_unary u iters unary.LogNot a rest w true k = refl
after_unary u iters op a rest w false k =
    let l = or_false (nat_lt (level_of a) 11) (is_minus op && is_negation a) k in
    ends_opens op (is_negation a) (text_of (expr_printed u iters a) ++ rest) (expr_ind (OpensWell u iters) (opens_cases u iters) a w l.0 rest) l.1

-- ---- all expressions

-- what is claimed of lexemes, wherever they stand
abbrev pub Spaced : List Printed → Type 0
Spaced ps = (h : Bool) (rest : List ℕ) → Ends continues rest → Apart h ps rest

spaced_brackets : (c : Bool) (ps : List Printed) → Spaced ps → Spaced (bracketed c ps)
spaced_brackets false ps k = k
spaced_brackets true ps k = λ h rest e.
    (stands_open h _, refl, apart_append false ps (punctuator ")" ∷ []) rest (k false (41 ∷ rest) refl) (stands_close (head_after false ps) rest, refl, tt))

-- an operator between two operands
spaced_between : (ps qs : List Printed) (sign : List ℕ) → ((h : Bool) (rest : List ℕ) → Stands h sign kind.Punct (32 ∷ rest)) → Spaced ps → Spaced qs → Spaced (ps ++ (spaced sign ++ qs))
spaced_between ps qs sign s k l = λ h rest e.
    apart_append h ps (spaced sign ++ qs) rest (k h _ refl) (refl, (s _ _, refl, (refl, l false rest e)))

pub spaced_subs : (printed : Expr → List Printed) (es : List Expr) → Each (λ e. Spaced (printed e)) es → Spaced (flat_map subscript (map printed es))
spaced_subs printed [] k = λ h rest e. tt
spaced_subs printed (x ∷ es) k = λ h rest e.
    let more = flat_map subscript (map printed es) in
    apart_append h (subscript (printed x)) more rest
    (stands_left h _, refl, apart_append false (printed x) (punctuator "]" ∷ []) _ (k.0 false _ refl) (stands_right (head_after false (printed x)) _, refl, tt))
    (spaced_subs printed es k.1 _ rest e)

pub ends_subs : (printed : Expr → List Printed) (es : List Expr) (rest : List ℕ) → Ends continues rest → Ends continues (text_of (flat_map subscript (map printed es)) ++ rest)
ends_subs printed [] rest e = e
ends_subs printed (x ∷ es) rest e = refl

spaced_literal : (v : Value) → is_literal v ≡ true → Spaced (literal_printed v)
spaced_literal (value.Int (pos n)) w = λ h rest e. (stands_int h n rest w e, refl, tt)
spaced_literal (value.Int (negsuc n)) w = cc
spaced_literal (value.Unsigned n) w = λ h rest e. (stands_literal h (codes "u") of_kind.Unsigned n rest unsigned_suffix w e, refl, tt)
spaced_literal (value.Long (pos n)) w = λ h rest e. (stands_literal h (codes "ll") of_kind.Long n rest long_suffix w e, refl, tt)
spaced_literal (value.Long (negsuc n)) w = cc
spaced_literal (value.UnsignedLong n) w = λ h rest e. (stands_literal h (codes "ull") of_kind.UnsignedLong n rest unsigned_long_suffix w e, refl, tt)

pub spaced_name : (w : List ℕ) (ps : List Printed) → is_name w ≡ true → Spaced ps → ((rest : List ℕ) → Ends continues rest → Ends continues (text_of ps ++ rest)) → Spaced (name w ∷ ps)
spaced_name w ps n k f = λ h rest e. (stands_name h w (text_of ps ++ rest) n (f rest e), refl, k false rest e)

spaced_unary : (u : Unit) (iters : List (List ℕ)) (op : Unary) (a : Expr) → is_spelt u iters a ≡ true → Spaced (expr_printed u iters a)
    → Spaced (Lexeme (unary_sign op) kind.Punct ∷ behind_unary op (a, expr_printed u iters a))
spaced_unary u iters op a w k = λ h rest e.
    let c = nat_lt (level_of a) 11 || (is_minus op && is_negation a) in
    (stands_unary h op _ (after_unary u iters op a rest w c refl), refl, spaced_brackets c (expr_printed u iters a) k false rest e)

-- the words of a kind, before what is no word
pub kind_apart : (h : Bool) (k : Kind) (ps : List Printed) (rest : List ℕ) → Ends is_word (text_of ps ++ rest) → Apart false ps rest → Apart h (kind_words k ++ ps) rest
kind_apart h of_kind.Int ps rest e a = (stands_keyword h (codes "int") (text_of ps ++ rest) refl e, refl, a)
kind_apart h of_kind.Unsigned ps rest e a = (stands_keyword h (codes "unsigned") (text_of ps ++ rest) refl e, refl, a)
kind_apart h of_kind.Long ps rest e a =
    (stands_keyword h (codes "long") (codes " long" ++ (text_of ps ++ rest)) refl refl, refl, (refl, (stands_keyword false (codes "long") (text_of ps ++ rest) refl e, refl, a)))
kind_apart h of_kind.UnsignedLong ps rest e a = (
  stands_keyword h (codes "unsigned") (codes " long long" ++ (text_of ps ++ rest)) refl refl,
  refl,
  (
    refl,
    (stands_keyword false (codes "long") (codes " long" ++ (text_of ps ++ rest)) refl refl, refl, (refl, (stands_keyword false (codes "long") (text_of ps ++ rest) refl e, refl, a))),
  ),
)

spaced_cast : (k : Kind) (ps : List Printed) → Spaced ps → Spaced (punctuator "(" ∷ (kind_words k ++ punctuator ")" ∷ ps))
spaced_cast k ps l = λ h rest e. (stands_open h _, refl, kind_apart false k (punctuator ")" ∷ ps) rest refl (stands_close false _, refl, l false rest e))

-- what is claimed of an expression
abbrev SpacedExpr : Unit → List (List ℕ) → Expr → Type 0
SpacedExpr u iters e = is_spelt u iters e ≡ true → Spaced (expr_printed u iters e)

each_spaced : (u : Unit) (iters : List (List ℕ)) (es : List Expr) → Each (SpacedExpr u iters) es → all_true (map (is_spelt u iters) es) ≡ true → Each (λ e. Spaced (expr_printed u iters e)) es
each_spaced u iters [] h w = tt
each_spaced u iters (e ∷ es) h w = let k = and_parts (is_spelt u iters e) (all_true (map (is_spelt u iters) es)) w in (h.0 k.0, each_spaced u iters es h.1 k.1)

spaced_cases : (u : Unit) (iters : List (List ℕ)) → ExprCases (SpacedExpr u iters)
spaced_cases u iters = record {
  literal = λ v w. subst Spaced (sym (printed-Literal u iters v)) (spaced_literal v (sym (fold_expr-Literal (expr_spelt u iters) v) ∙ w));
  iter = λ n w. subst Spaced (sym (printed-Iter u iters n)) (spaced_name (iter_name iters n) [] (sym (fold_expr-Iter (expr_spelt u iters) n) ∙ w) (λ h rest e. tt) (λ rest e. e));
  local = λ n w. subst Spaced (sym (printed-Local u iters n)) (spaced_name (local_name u n) [] (sym (fold_expr-Local (expr_spelt u iters) n) ∙ w) (λ h rest e. tt) (λ rest e. e));
  elem = λ n subs k w.
      let l = and_parts (is_name (array_name u n)) (all_true (map (is_spelt u iters) subs)) (sym (fold_expr-Elem (expr_spelt u iters) n subs) ∙ w) in
      subst Spaced (sym (printed-Elem u iters n subs)) (spaced_name (array_name u n) _ l.0 (spaced_subs (expr_printed u iters) subs (each_spaced u iters subs k l.1)) (ends_subs (expr_printed u iters) subs));
  unary = λ op a k w. let v = sym (fold_expr-Unary (expr_spelt u iters) op a) ∙ w in subst Spaced (sym (printed-Unary u iters op a)) (spaced_unary u iters op a v (k v));
  binary = λ op a b k l w.
      let v = and_parts (is_spelt u iters a) (is_spelt u iters b) (sym (fold_expr-Binary (expr_spelt u iters) op a b) ∙ w) in
      subst Spaced (sym (printed-Binary u iters op a b)) (spaced_between _ _ (binary_sign op) (λ h rest. stands_binary h op rest) (spaced_brackets _ _ (k v.0)) (spaced_brackets _ _ (l v.1)));
  both = λ a b k l w.
      let v = and_parts (is_spelt u iters a) (is_spelt u iters b) (sym (fold_expr-And (expr_spelt u iters) a b) ∙ w) in
      subst Spaced (sym (printed-And u iters a b)) (spaced_between _ _ (codes "&&") stands_and (spaced_brackets _ _ (k v.0)) (spaced_brackets _ _ (l v.1)));
  either = λ a b k l w.
      let v = and_parts (is_spelt u iters a) (is_spelt u iters b) (sym (fold_expr-Or (expr_spelt u iters) a b) ∙ w) in
      subst Spaced (sym (printed-Or u iters a b)) (spaced_between _ _ (codes "||") stands_or (spaced_brackets _ _ (k v.0)) (spaced_brackets _ _ (l v.1)));
  cond = λ c a b j k l w.
      let v = and_parts (is_spelt u iters c) (is_spelt u iters a && is_spelt u iters b) (sym (fold_expr-Cond (expr_spelt u iters) c a b) ∙ w) in
      let x = and_parts (is_spelt u iters a) (is_spelt u iters b) v.1 in
      subst Spaced (sym (printed-Cond u iters c a b)) (spaced_between _ _ (codes "?") stands_then (spaced_brackets _ _ (j v.0)) (spaced_between _ _ (codes ":") stands_else (k x.0) (l x.1)));
  cast = λ t a k w. subst Spaced (sym (printed-Cast u iters t a)) (spaced_cast t _ (spaced_brackets _ _ (k (sym (fold_expr-Cast (expr_spelt u iters) t a) ∙ w))));
}

-- each expression that can be written
pub spaced_expr : (u : Unit) (iters : List (List ℕ)) (e : Expr) → is_spelt u iters e ≡ true → Spaced (expr_printed u iters e)
spaced_expr u iters = expr_ind (SpacedExpr u iters) (spaced_cases u iters)
