-- In an expression the elements are evaluated in the order of their numbers.
use Rattle.std.proofs.Common.{◌≡◌, ◌∙◌, ap, refl, sym, subst, arith, ℕ, zero, suc, ◌+◌, List, [], ◌∷◌, ◌++◌, map, Option}
use Rattle.species_ast.specs.declared.tree.Expr.{Expr}
use Rattle.species_ast.specs.declared.tree.Expr.TheVariants as expr
use Rattle.species_ast.specs.Scope.Forms.{Form, form_of}
use Rattle.species_ast.specs.Scope.References.{Where, Reference, perhaps, Elements, no_elements, then_elements, on_condition, all_elements, element_with, elements_at, elements_of}
use Rattle.species_ast.proofs.Induction.{Each, expr_ind}
use Rattle.species_ast.proofs.Paras.{firsts, seconds, para_expr-Literal, para_expr-Iter, para_expr-Local, para_expr-Elem, para_expr-Unary, para_expr-Binary, para_expr-And, para_expr-Or, para_expr-Cond, para_expr-Cast}

-- so many numbers from n on
abbrev pub numbers : ℕ → ℕ → List ℕ
numbers n zero = []
numbers n (suc count) = n ∷ numbers (suc n) count

numbers-plus : (n a b : ℕ) → numbers n (a + b) ≡ (numbers n a ++ numbers (n + a) b)
numbers-plus n zero b =
    let none : zero + b ≡ b = omega arith in
    let here : n + zero ≡ n = omega arith in
    ap (numbers n) none ∙ ap (λ k. numbers k b) (sym here)
numbers-plus n (suc a) b =
    let first : suc a + b ≡ suc (a + b) = omega arith in
    let here : suc n + a ≡ n + suc a = omega arith in
    ap (numbers n) first ∙ ap (λ ks. n ∷ ks) (numbers-plus (suc n) a b) ∙ ap (λ k. n ∷ (numbers (suc n) a ++ numbers k b)) here

numbers-last : (n count : ℕ) → numbers n (suc count) ≡ (numbers n count ++ (n + count) ∷ [])
numbers-last n count =
    let one : suc count ≡ count + 1 = omega arith in
    ap (numbers n) one ∙ numbers-plus n count 1

-- the numbers of the references are those of the elements, in their order
abbrev pub AreInOrder : Elements → Type 0
AreInOrder e = (g : Where) (n : ℕ) → map (λ r. r.number) (e.references g n) ≡ numbers n e.count

append-numbers : (xs ys : List Reference) → map (λ r. r.number) (xs ++ ys) ≡ (map (λ r. r.number) xs ++ map (λ r. r.number) ys)
append-numbers [] ys = refl
append-numbers (x ∷ xs) ys = ap (λ ks. x.number ∷ ks) (append-numbers xs ys)

then_in_order : (a b : Elements) → AreInOrder a → AreInOrder b → AreInOrder (then_elements a b)
then_in_order a b h k g n =
    append-numbers (a.references g n) (b.references g (n + a.count)) ∙ (λ i. h g n i ++ k g (n + a.count) i) ∙ sym (numbers-plus n a.count b.count)

on_condition_in_order : (a : Elements) → AreInOrder a → AreInOrder (on_condition a)
on_condition_in_order a h g n = h (perhaps g) n

all_in_order : (es : List Expr) → Each (λ e. AreInOrder (elements_of e)) es → AreInOrder (all_elements (map elements_of es))
all_in_order [] h = λ g n. refl
all_in_order (e ∷ es) h = then_in_order (elements_of e) (all_elements (map elements_of es)) h.0 (all_in_order es h.1)

element_in_order : (a : ℕ) (forms : List (Option Form)) (subs : Elements) → AreInOrder subs → AreInOrder (element_with a forms subs)
element_in_order a forms subs h g n =
    append-numbers (subs.references g n) _ ∙ ap (λ ks. ks ++ (n + subs.count) ∷ []) (h g n) ∙ sym (numbers-last n subs.count)

becomes : (x : Expr) (e : Elements) → elements_of x ≡ e → AreInOrder e → AreInOrder (elements_of x)
becomes x e p h = subst AreInOrder (sym p) h

pub elements_of-Elem : (a : ℕ) (subs : List Expr) → elements_of (expr.Elem a subs) ≡ element_with a (map form_of subs) (all_elements (map elements_of subs))
elements_of-Elem a subs =
    para_expr-Elem elements_at a subs ∙ (λ i. element_with a (firsts form_of elements_of subs i) (all_elements (seconds elements_of subs i)))

pub elements_of-in_order : (x : Expr) → AreInOrder (elements_of x)
elements_of-in_order = expr_ind (λ x. AreInOrder (elements_of x)) (record {
  literal = λ v. becomes _ no_elements (para_expr-Literal elements_at v) (λ g n. refl);
  iter = λ level. becomes _ no_elements (para_expr-Iter elements_at level) (λ g n. refl);
  local = λ x. becomes _ no_elements (para_expr-Local elements_at x) (λ g n. refl);
  elem = λ a subs h. becomes _ _ (elements_of-Elem a subs) (element_in_order a (map form_of subs) (all_elements (map elements_of subs)) (all_in_order subs h));
  unary = λ op a h. becomes _ _ (para_expr-Unary elements_at op a) h;
  binary = λ op a b h k. becomes _ _ (para_expr-Binary elements_at op a b) (then_in_order (elements_of a) (elements_of b) h k);
  both = λ a b h k. becomes _ _ (para_expr-And elements_at a b) (then_in_order (elements_of a) (on_condition (elements_of b)) h (on_condition_in_order (elements_of b) k));
  either = λ a b h k. becomes _ _ (para_expr-Or elements_at a b) (then_in_order (elements_of a) (on_condition (elements_of b)) h (on_condition_in_order (elements_of b) k));
  cond = λ c a b l h k. becomes _ _ (para_expr-Cond elements_at c a b)
      (then_in_order (elements_of c) (then_elements (on_condition (elements_of a)) (on_condition (elements_of b))) l
      (then_in_order (on_condition (elements_of a)) (on_condition (elements_of b)) (on_condition_in_order (elements_of a) h) (on_condition_in_order (elements_of b) k)));
  cast = λ k a h. becomes _ _ (para_expr-Cast elements_at k a) h;
})
