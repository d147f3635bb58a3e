-- The form of an expression that names no iterator is constant.
use Rattle.std.proofs.Common.{◌≡◌, refl, ap, sym, ◌∙◌, subst, arith, ℕ, Bool, true, false, ◌&&◌, nat_lt, if◌then◌else◌, List, [], ◌∷◌, ◌++◌, map, ℤ, pos, ◌+ℤ◌, ◌*ℤ◌, Option, Some, None}
use Rattle.std.specs.Prelude.{neg_ℤ}
use Rattle.std.specs.List.{list_all}
use Rattle.std.specs.Ordering.{int_eq}
use Rattle.std.proofs.lemmas.Bool.{and_parts}
use Rattle.std.proofs.lemmas.Bool.Decides.{nat_tests}
use Rattle.std.proofs.lemmas.List.Folds.{list_all-append}
use Rattle.std.proofs.lemmas.Int.{ints}
use Rattle.std.proofs.Math.IntN.{*ℤ_comm}
use Rattle.species_integers.proofs.Products.{mul_zero}
use Rattle.species_ast.specs.declared.tree.Binary.{Binary}
use Rattle.species_ast.specs.declared.tree.Binary.TheVariants as binary
use Rattle.species_ast.specs.declared.tree.Expr.{Expr}
use Rattle.species_ast.specs.declared.tree.Expr.TheOpen.{Expr-F}
use Rattle.species_ast.specs.declared.tree.Expr.TheVariants as expr
use Rattle.species_ast.specs.declared.tree.Unary.{Unary}
use Rattle.species_ast.specs.declared.tree.Unary.TheVariants as unary
use Rattle.species_ast.specs.declared.tree.Value.{Value}
use Rattle.species_ast.specs.declared.tree.Value.TheVariants.{Int, Unsigned, Long, UnsignedLong}
use Rattle.species_ast.specs.Scope.Forms.{Form, constant_form, added_coefficients, sum_form, scaled, negated, is_constant, is_within, limited, product_form, of_both, form_step, form_of, iterators_at, iterators_in}
use Rattle.species_ast.proofs.Folds.{fold_expr-Literal, fold_expr-Iter, fold_expr-Local, fold_expr-Elem, fold_expr-Unary, fold_expr-Binary, fold_expr-And, fold_expr-Or, fold_expr-Cond, fold_expr-Cast}
use Rattle.species_ast.proofs.Induction.{expr_ind}

-- ---- coefficients that are 0

abbrev is_zero : ℤ → Bool
is_zero c = int_eq c (pos 0)

zero_is : (c : ℤ) → is_zero c ≡ true → c ≡ pos 0
zero_is c h = grind (arith, ints, h)

is_zero_at : (c : ℤ) → c ≡ pos 0 → is_zero c ≡ true
is_zero_at c h = ap is_zero h

both_true : (a b : Bool) → a ≡ true → b ≡ true → (a && b) ≡ true
both_true a b h k = ap (λ (t : Bool). t && b) h ∙ k

negated_zero : (cs : List ℤ) → list_all is_zero cs ≡ true → list_all is_zero (map neg_ℤ cs) ≡ true
negated_zero [] h = refl
negated_zero (c ∷ cs) h =
    let parts = and_parts (is_zero c) (list_all is_zero cs) h in
    both_true (is_zero (neg_ℤ c)) (list_all is_zero (map neg_ℤ cs)) (is_zero_at (neg_ℤ c) (ap neg_ℤ (zero_is c parts.0))) (negated_zero cs parts.1)

scaled_zero : (n : ℤ) (cs : List ℤ) → list_all is_zero cs ≡ true → list_all is_zero (map (λ c. n *ℤ c) cs) ≡ true
scaled_zero n [] h = refl
scaled_zero n (c ∷ cs) h =
    let parts = and_parts (is_zero c) (list_all is_zero cs) h in
    let none : n *ℤ c ≡ pos 0 = ap (λ z. n *ℤ z) (zero_is c parts.0) ∙ *ℤ_comm n (pos 0) ∙ mul_zero n in
    both_true (is_zero (n *ℤ c)) (list_all is_zero (map (λ d. n *ℤ d) cs)) (is_zero_at (n *ℤ c) none) (scaled_zero n cs parts.1)

added_zero : (cs ds : List ℤ) → list_all is_zero cs ≡ true → list_all is_zero ds ≡ true → list_all is_zero (added_coefficients cs ds) ≡ true
added_zero [] ds h k = k
added_zero (c ∷ cs) [] h k = h
added_zero (c ∷ cs) (d ∷ ds) h k =
    let first = and_parts (is_zero c) (list_all is_zero cs) h in
    let second = and_parts (is_zero d) (list_all is_zero ds) k in
    let none : c +ℤ d ≡ pos 0 = (λ i. zero_is c first.0 i +ℤ zero_is d second.0 i) in
    both_true (is_zero (c +ℤ d)) (list_all is_zero (added_coefficients cs ds)) (is_zero_at (c +ℤ d) none) (added_zero cs ds first.1 second.1)

-- ---- forms that are constant

-- the form, if there is one, is constant
abbrev pub IsFixedForm : Option Form → Type 0
IsFixedForm (Some f) = is_constant f ≡ true
IsFixedForm None = Unit {0}

limited_fixed : (f : Form) → is_constant f ≡ true → IsFixedForm (limited f)
limited_fixed f h = go (is_within f.constant && list_all is_within f.coefficients)
  where
    go : (t : Bool) → IsFixedForm (if t then Some f else None)
    go true = h
    go false = tt

product_fixed : (f g : Form) → is_constant f ≡ true → is_constant g ≡ true → IsFixedForm (product_form f g)
product_fixed f g h k = go (is_constant f) h
  where
    go : (t : Bool) → t ≡ true → IsFixedForm (if t then limited (scaled f.constant g) else if is_constant g then limited (scaled g.constant f) else None)
    go true e = limited_fixed (scaled f.constant g) (scaled_zero f.constant g.coefficients k)
    go false e = absurd cc

both_fixed : (join : Form → Form → Option Form) → ((f g : Form) → is_constant f ≡ true → is_constant g ≡ true → IsFixedForm (join f g)) → (a b : Option Form) → IsFixedForm a → IsFixedForm b
    → IsFixedForm (of_both join a b)
both_fixed join each None b h k = tt
both_fixed join each (Some f) None h k = tt
both_fixed join each (Some f) (Some g) h k = each f g h k

literal_fixed : (v : Value) → IsFixedForm (form_step (Expr-F.Literal v))
literal_fixed (Int n) = limited_fixed (constant_form n) refl
literal_fixed (Unsigned n) = tt
literal_fixed (Long n) = tt
literal_fixed (UnsignedLong n) = tt

unary_fixed : (op : Unary) (a : Option Form) → IsFixedForm a → IsFixedForm (form_step (Expr-F.Unary op a))
unary_fixed unary.Neg (Some f) h = limited_fixed (negated f) (negated_zero f.coefficients h)
unary_fixed unary.Neg None h = tt
unary_fixed unary.Not a h = tt
unary_fixed unary.LogNot a h = tt

sum_fixed : (f g : Form) → is_constant f ≡ true → is_constant g ≡ true → IsFixedForm (limited (sum_form f g))
sum_fixed f g h k = limited_fixed (sum_form f g) (added_zero f.coefficients g.coefficients h k)

difference_fixed : (f g : Form) → is_constant f ≡ true → is_constant g ≡ true → IsFixedForm (limited (sum_form f (negated g)))
difference_fixed f g h k = sum_fixed f (negated g) h (negated_zero g.coefficients k)

binary_fixed : (op : Binary) (a b : Option Form) → IsFixedForm a → IsFixedForm b → IsFixedForm (form_step (Expr-F.Binary op a b))
binary_fixed binary.Add a b h k = both_fixed (λ f g. limited (sum_form f g)) sum_fixed a b h k
binary_fixed binary.Sub a b h k = both_fixed (λ f g. limited (sum_form f (negated g))) difference_fixed a b h k
binary_fixed binary.Mul a b h k = both_fixed product_form product_fixed a b h k
binary_fixed binary.Div a b h k = tt
binary_fixed binary.Rem a b h k = tt
binary_fixed binary.Shl a b h k = tt
binary_fixed binary.Shr a b h k = tt
binary_fixed binary.Lt a b h k = tt
binary_fixed binary.Le a b h k = tt
binary_fixed binary.Gt a b h k = tt
binary_fixed binary.Ge a b h k = tt
binary_fixed binary.Eq a b h k = tt
binary_fixed binary.Ne a b h k = tt
binary_fixed binary.BitAnd a b h k = tt
binary_fixed binary.BitXor a b h k = tt
binary_fixed binary.BitOr a b h k = tt

-- ---- the law

-- no level is below 0
abbrev pub NamesNone : List ℕ → Type 0
NamesNone is = list_all (λ i. nat_lt i 0) is ≡ true

abbrev HasFixedForm : Expr → Type 0
HasFixedForm x = NamesNone (iterators_in x) → IsFixedForm (form_of x)

names_parts : (is js : List ℕ) → NamesNone (is ++ js) → NamesNone is × NamesNone js
names_parts is js h = and_parts (list_all (λ i. nat_lt i 0) is) (list_all (λ i. nat_lt i 0) js) (sym (list_all-append (λ i. nat_lt i 0) is js) ∙ h)

no_form : (x : Expr) → form_of x ≡ None → HasFixedForm x
no_form x e h = subst IsFixedForm (sym e) tt

no_level : (level : ℕ) → NamesNone (level ∷ []) → nat_lt level 0 ≡ true
no_level level h = (and_parts (nat_lt level 0) true h).0

iterator_fixed : (level : ℕ) → HasFixedForm (expr.Iter level)
iterator_fixed level h = let below : nat_lt level 0 ≡ true = no_level level (subst NamesNone (fold_expr-Iter iterators_at level) h) in absurd (grind (arith, nat_tests, below))

pub form_fixed : (x : Expr) → HasFixedForm x
form_fixed = expr_ind HasFixedForm (record {
  literal = λ v h. subst IsFixedForm (sym (fold_expr-Literal form_step v)) (literal_fixed v);
  iter = iterator_fixed;
  local = λ n. no_form (expr.Local n) (fold_expr-Local form_step n);
  elem = λ a subs h. no_form (expr.Elem a subs) (fold_expr-Elem form_step a subs);
  unary = λ op a h names. subst IsFixedForm (sym (fold_expr-Unary form_step op a)) (unary_fixed op (form_of a) (h (subst NamesNone (fold_expr-Unary iterators_at op a) names)));
  binary = λ op a b h k names.
      let parts = names_parts (iterators_in a) (iterators_in b) (subst NamesNone (fold_expr-Binary iterators_at op a b) names) in
      subst IsFixedForm (sym (fold_expr-Binary form_step op a b)) (binary_fixed op (form_of a) (form_of b) (h parts.0) (k parts.1));
  both = λ a b h k. no_form (expr.And a b) (fold_expr-And form_step a b);
  either = λ a b h k. no_form (expr.Or a b) (fold_expr-Or form_step a b);
  cond = λ c a b l h k. no_form (expr.Cond c a b) (fold_expr-Cond form_step c a b);
  cast = λ k a h. no_form (expr.Cast k a) (fold_expr-Cast form_step k a);
})
