-- The text of each variant of an expression, as it is appended.
use Rattle.std.proofs.Common.{◌<◌, add-one, length, get_or, take, ◌≡◌, ◌∙◌, ap, sym, refl, append_assoc, ℕ, ◌+◌, ℤ, pos, negsuc, List, [], ◌∷◌, ◌++◌, map, codes, true}
use Rattle.std.specs.Fmt.{signed_decimal}
use Rattle.std.specs.List.{flat_map}
use Rattle.std.proofs.lemmas.Grind.{flat_map-append}
use Rattle.std.proofs.lemmas.List.{append-nil}
use Rattle.std.proofs.Math.Seq.{take-suc}
use Rattle.species_ast.specs.Signs.{binary_level, binary_sign, unary_sign}
use Rattle.species_ast.specs.declared.tree.Binary.{Binary}
use Rattle.species_ast.specs.declared.tree.Expr.{Expr, para-roll-Expr}
use Rattle.species_ast.specs.declared.tree.Expr.TheOpen.{Expr-F}
use Rattle.species_ast.specs.declared.tree.Expr.TheVariants as expr
use Rattle.species_ast.specs.declared.tree.Kind.{Kind}
use Rattle.species_ast.specs.declared.tree.Unary.{Unary}
use Rattle.species_ast.specs.declared.tree.Unit.{Unit}
use Rattle.species_ast.specs.declared.tree.Value.{Value}
use Rattle.species_ast.specs.declared.tree.Value.TheVariants as value
use Rattle.species_print.specs.Printed.{Printed, text_of, printed_text, spaced}
use Rattle.species_print.specs.Expressions.{Operand, expr_step, expr_printed, array_name, local_name, iter_name, kind_words, at_least, behind_unary, bracketed, subscript, literal_printed}
use Rattle.species_print.specs.Texts.{subscript_text}

-- ---- lexemes and blanks

pub text_of-append : (a b : List Printed) → text_of (a ++ b) ≡ text_of a ++ text_of b
text_of-append a b = flat_map-append printed_text a b

-- an expression with what is printed of it
abbrev operand : Unit → List (List ℕ) → Expr → Operand
operand u iters e = (e, expr_printed u iters e)

-- the subscripts of an element
subscripts_of_operands : (u : Unit) (iters : List (List ℕ)) (es : List Expr) →
    map (λ a. a.1) (map (operand u iters) es) ≡ map (expr_printed u iters) es
subscripts_of_operands u iters [] = refl
subscripts_of_operands u iters (e ∷ es) = ap (λ ps. expr_printed u iters e ∷ ps) (subscripts_of_operands u iters es)

text-subscript : (u : Unit) (iters : List (List ℕ)) (e : Expr) → text_of (subscript (expr_printed u iters e)) ≡ subscript_text u iters e
text-subscript u iters e = ap (λ t. 91 ∷ t) (text_of-append (expr_printed u iters e) _)

pub text-subscripts : (u : Unit) (iters : List (List ℕ)) (es : List Expr) →
    text_of (flat_map subscript (map (expr_printed u iters) es)) ≡ flat_map (subscript_text u iters) es
text-subscripts u iters [] = refl
text-subscripts u iters (e ∷ es) =
    text_of-append (subscript (expr_printed u iters e)) (flat_map subscript (map (expr_printed u iters) es)) ∙
    ap (λ t. t ++ text_of (flat_map subscript (map (expr_printed u iters) es))) (text-subscript u iters e) ∙
    ap (λ t. subscript_text u iters e ++ t) (text-subscripts u iters es)

-- ---- parts that were appended one by one

pub regroup3 : (o a b c : List ℕ) → ((o ++ a) ++ b) ++ c ≡ o ++ (a ++ (b ++ c))
regroup3 o a b c = append_assoc (o ++ a) b c ∙ append_assoc o a (b ++ c)

pub regroup4 : (o a b c d : List ℕ) → (((o ++ a) ++ b) ++ c) ++ d ≡ o ++ (a ++ (b ++ (c ++ d)))
regroup4 o a b c d = append_assoc ((o ++ a) ++ b) c d ∙ regroup3 o a b (c ++ d)

pub regroup5 : (o a b c d e : List ℕ) → ((((o ++ a) ++ b) ++ c) ++ d) ++ e ≡ o ++ (a ++ (b ++ (c ++ (d ++ e))))
regroup5 o a b c d e = append_assoc (((o ++ a) ++ b) ++ c) d e ∙ regroup4 o a b c (d ++ e)

-- what a loop over a list appends with its next element
pub flat_map-next : {X A : Type 0} (f : X → List A) (xs : List X) (i : ℕ) (x : X) → i < length xs → x ≡ get_or xs i x →
    flat_map f (take (i + 1) xs) ≡ flat_map f (take i xs) ++ f x
flat_map-next f xs i x lt is =
    ap (λ n. flat_map f (take n xs)) (add-one i) ∙
    ap (flat_map f) (take-suc xs i x lt) ∙
    flat_map-append f (take i xs) (get_or xs i x ∷ []) ∙
    ap (λ t. flat_map f (take i xs) ++ t) (append-nil (f (get_or xs i x)) ∙ ap f (sym is))

-- ---- variants

pub text-Literal : (u : Unit) (iters : List (List ℕ)) (v : Value) → text_of (expr_printed u iters (expr.Literal v)) ≡ text_of (literal_printed v)
text-Literal u iters v =
    ap text_of (ap (expr_printed u iters) (sym (expr.rolls-Literal v)) ∙ para-roll-Expr (List Printed) (expr_step u iters) (Expr-F.Literal v))

pub text-Iter : (u : Unit) (iters : List (List ℕ)) (n : ℕ) → text_of (expr_printed u iters (expr.Iter n)) ≡ iter_name iters n
text-Iter u iters n =
    ap text_of (ap (expr_printed u iters) (sym (expr.rolls-Iter n)) ∙ para-roll-Expr (List Printed) (expr_step u iters) (Expr-F.Iter n)) ∙ append-nil _

pub text-Local : (u : Unit) (iters : List (List ℕ)) (n : ℕ) → text_of (expr_printed u iters (expr.Local n)) ≡ local_name u n
text-Local u iters n =
    ap text_of (ap (expr_printed u iters) (sym (expr.rolls-Local n)) ∙ para-roll-Expr (List Printed) (expr_step u iters) (Expr-F.Local n)) ∙ append-nil _

pub text-Elem : (u : Unit) (iters : List (List ℕ)) (n : ℕ) (subs : List Expr) →
    text_of (expr_printed u iters (expr.Elem n subs)) ≡ array_name u n ++ flat_map (subscript_text u iters) subs
text-Elem u iters n subs =
    ap text_of (ap (expr_printed u iters) (sym (expr.rolls-Elem n subs)) ∙ para-roll-Expr (List Printed) (expr_step u iters) (Expr-F.Elem n subs)) ∙
    ap (λ ps. array_name u n ++ text_of (flat_map subscript ps)) (subscripts_of_operands u iters subs) ∙
    ap (λ t. array_name u n ++ t) (text-subscripts u iters subs)

pub text-Unary : (u : Unit) (iters : List (List ℕ)) (op : Unary) (a : Expr) →
    text_of (expr_printed u iters (expr.Unary op a)) ≡ unary_sign op ++ text_of (behind_unary op (a, expr_printed u iters a))
text-Unary u iters op a =
    ap text_of (ap (expr_printed u iters) (sym (expr.rolls-Unary op a)) ∙ para-roll-Expr (List Printed) (expr_step u iters) (Expr-F.Unary op a))

-- an operator between two operands
text-between : (a b : List Printed) (sign : List ℕ) → text_of (a ++ (spaced sign ++ b)) ≡ text_of a ++ (text_of (spaced sign) ++ text_of b)
text-between a b sign = text_of-append a (spaced sign ++ b) ∙ ap (λ t. text_of a ++ t) (text_of-append (spaced sign) b)

pub text-Binary : (u : Unit) (iters : List (List ℕ)) (op : Binary) (a b : Expr) →
    text_of (expr_printed u iters (expr.Binary op a b)) ≡
    text_of (at_least (binary_level op) (a, expr_printed u iters a)) ++
    (text_of (spaced (binary_sign op)) ++ text_of (at_least (binary_level op + 1) (b, expr_printed u iters b)))
text-Binary u iters op a b =
    ap text_of (ap (expr_printed u iters) (sym (expr.rolls-Binary op a b)) ∙ para-roll-Expr (List Printed) (expr_step u iters) (Expr-F.Binary op a b)) ∙
    text-between (at_least (binary_level op) (operand u iters a)) (at_least (binary_level op + 1) (operand u iters b)) (binary_sign op)

pub text-And : (u : Unit) (iters : List (List ℕ)) (a b : Expr) →
    text_of (expr_printed u iters (expr.And a b)) ≡
    text_of (at_least 2 (a, expr_printed u iters a)) ++ (codes " && " ++ text_of (at_least 3 (b, expr_printed u iters b)))
text-And u iters a b =
    ap text_of (ap (expr_printed u iters) (sym (expr.rolls-And a b)) ∙ para-roll-Expr (List Printed) (expr_step u iters) (Expr-F.And a b)) ∙
    text-between (at_least 2 (operand u iters a)) (at_least 3 (operand u iters b)) (codes "&&")

pub text-Or : (u : Unit) (iters : List (List ℕ)) (a b : Expr) →
    text_of (expr_printed u iters (expr.Or a b)) ≡
    text_of (at_least 1 (a, expr_printed u iters a)) ++ (codes " || " ++ text_of (at_least 2 (b, expr_printed u iters b)))
text-Or u iters a b =
    ap text_of (ap (expr_printed u iters) (sym (expr.rolls-Or a b)) ∙ para-roll-Expr (List Printed) (expr_step u iters) (Expr-F.Or a b)) ∙
    text-between (at_least 1 (operand u iters a)) (at_least 2 (operand u iters b)) (codes "||")

pub text-Cond : (u : Unit) (iters : List (List ℕ)) (c a b : Expr) →
    text_of (expr_printed u iters (expr.Cond c a b)) ≡
    text_of (at_least 1 (c, expr_printed u iters c)) ++
    (codes " ? " ++ (text_of (expr_printed u iters a) ++ (codes " : " ++ text_of (expr_printed u iters b))))
text-Cond u iters c a b =
    ap text_of (ap (expr_printed u iters) (sym (expr.rolls-Cond c a b)) ∙ para-roll-Expr (List Printed) (expr_step u iters) (Expr-F.Cond c a b)) ∙
    text-between (at_least 1 (operand u iters c)) (expr_printed u iters a ++ (spaced (codes ":") ++ expr_printed u iters b)) (codes "?") ∙
    ap (λ t. text_of (at_least 1 (operand u iters c)) ++ (codes " ? " ++ t)) (text-between (expr_printed u iters a) (expr_printed u iters b) (codes ":"))

pub text-Cast : (u : Unit) (iters : List (List ℕ)) (k : Kind) (a : Expr) →
    text_of (expr_printed u iters (expr.Cast k a)) ≡
    codes "(" ++ (text_of (kind_words k) ++ (codes ")" ++ text_of (at_least 11 (a, expr_printed u iters a))))
text-Cast u iters k a =
    ap text_of (ap (expr_printed u iters) (sym (expr.rolls-Cast k a)) ∙ para-roll-Expr (List Printed) (expr_step u iters) (Expr-F.Cast k a)) ∙
    ap (λ t. 40 ∷ t) (text_of-append (kind_words k) _)

pub text-bracketed : (ps : List Printed) → text_of (bracketed true ps) ≡ codes "(" ++ (text_of ps ++ codes ")")
text-bracketed ps = ap (λ t. 40 ∷ t) (text_of-append ps _)

pub text-literal : (z : ℤ) → text_of (literal_printed (value.Int z)) ≡ signed_decimal z
text-literal (pos n) = append-nil _
text-literal (negsuc n) = ap (λ t. 45 ∷ t) (append-nil _)

pub text-long_literal : (z : ℤ) → text_of (literal_printed (value.Long z)) ≡ signed_decimal z ++ codes "ll"
text-long_literal (pos n) = append-nil _
text-long_literal (negsuc n) = ap (λ t. 45 ∷ t) (append-nil _)
