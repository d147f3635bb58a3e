-- An affine expression reads no element.
use Rattle.std.proofs.Common.{◌≡◌, refl, sym, ◌∙◌, subst, ℕ, ◌+◌, [], ◌++◌, Option, Some, None}
use Rattle.std.specs.Prelude.{option_and_then}
use Rattle.species_ast.specs.declared.tree.Unary.{Unary}
use Rattle.species_ast.specs.declared.tree.Unary.TheVariants.{Neg, Not, LogNot}
use Rattle.species_ast.specs.declared.tree.Binary.{Binary}
use Rattle.species_ast.specs.declared.tree.Binary.TheVariants.{Mul, Div, Rem, Add, Sub, Shl, Shr, Lt, Le, Gt, Ge, Eq, Ne, BitAnd, BitXor, BitOr}
use Rattle.species_ast.specs.declared.tree.Expr.{Expr}
use Rattle.species_ast.specs.declared.tree.Expr.TheOpen.{Expr-F}
use Rattle.species_ast.specs.Scope.Forms.{Form, form_of, form_step, of_both}
use Rattle.species_ast.specs.Scope.References.{Where, Elements, no_elements, then_elements, elements_at, elements_of}
use Rattle.species_ast.proofs.Folds.{fold_expr-Literal, fold_expr-Iter, fold_expr-Local, fold_expr-Elem, fold_expr-Unary, fold_expr-Binary, fold_expr-And, fold_expr-Or, fold_expr-Cond, fold_expr-Cast}
use Rattle.species_ast.proofs.Induction.{expr_ind}
use Rattle.species_ast.proofs.Paras.{para_expr-Literal, para_expr-Iter, para_expr-Unary, para_expr-Binary}

abbrev pub IsBare : Option Form → Elements → Type 0
IsBare o r = (f : Form) → o ≡ Some f → (g : Where) (n : ℕ) → r.references g n ≡ []

no_form : (P : Type 0) (f : Form) → None ≡ Some f → P
no_form P f h = absurd (apart h)
  where
    apart : None ≡ Some f → ⊥
    apart h = cc

bare_from : (x : Expr) (o : Option Form) (r : Elements) → form_of x ≡ o → elements_of x ≡ r → IsBare o r → IsBare (form_of x) (elements_of x)
bare_from x o r p q h = subst (λ z. IsBare z (elements_of x)) (sym p) (subst (IsBare o) (sym q) h)

formless : (x : Expr) → form_of x ≡ None → IsBare (form_of x) (elements_of x)
formless x p f h = no_form ((g : Where) (n : ℕ) → (elements_of x).references g n ≡ []) f (sym p ∙ h)

of_part : (join : Form → Option Form) (o : Option Form) (r : Elements) → IsBare o r → IsBare (option_and_then join o) r
of_part join None r h f is = no_form _ f is
of_part join (Some g) r h f is = h g refl

of_two : (join : Form → Form → Option Form) (o p : Option Form) (a b : Elements) → IsBare o a → IsBare p b → IsBare (of_both join o p) (then_elements a b)
of_two join None p a b h k f is = no_form _ f is
of_two join (Some s) None a b h k f is = no_form _ f is
of_two join (Some s) (Some t) a b h k f is = λ g n. (λ i. h s refl g n i ++ k t refl g (n + a.count) i)

unary_bare : (op : Unary) (o : Option Form) (r : Elements) → IsBare o r → IsBare (form_step (Expr-F.Unary op o)) r
unary_bare Neg o r h = of_part _ o r h
unary_bare Not o r h = λ f is. no_form _ f is
unary_bare LogNot o r h = λ f is. no_form _ f is

binary_bare : (op : Binary) (o p : Option Form) (a b : Elements) → IsBare o a → IsBare p b → IsBare (form_step (Expr-F.Binary op o p)) (then_elements a b)
binary_bare Add o p a b h k = of_two _ o p a b h k
binary_bare Sub o p a b h k = of_two _ o p a b h k
binary_bare Mul o p a b h k = of_two _ o p a b h k
binary_bare Div o p a b h k = λ f is. no_form _ f is
binary_bare Rem o p a b h k = λ f is. no_form _ f is
binary_bare Shl o p a b h k = λ f is. no_form _ f is
binary_bare Shr o p a b h k = λ f is. no_form _ f is
binary_bare Lt o p a b h k = λ f is. no_form _ f is
binary_bare Le o p a b h k = λ f is. no_form _ f is
binary_bare Gt o p a b h k = λ f is. no_form _ f is
binary_bare Ge o p a b h k = λ f is. no_form _ f is
binary_bare Eq o p a b h k = λ f is. no_form _ f is
binary_bare Ne o p a b h k = λ f is. no_form _ f is
binary_bare BitAnd o p a b h k = λ f is. no_form _ f is
binary_bare BitXor o p a b h k = λ f is. no_form _ f is
binary_bare BitOr o p a b h k = λ f is. no_form _ f is

-- the law
pub is_bare : (x : Expr) → IsBare (form_of x) (elements_of x)
is_bare = expr_ind (λ x. IsBare (form_of x) (elements_of x)) (record {
  literal = λ v. bare_from _ _ no_elements (fold_expr-Literal form_step v) (para_expr-Literal elements_at v) (λ f is g n. refl);
  iter = λ level. bare_from _ _ no_elements (fold_expr-Iter form_step level) (para_expr-Iter elements_at level) (λ f is g n. refl);
  local = λ x. formless _ (fold_expr-Local form_step x);
  elem = λ a subs h. formless _ (fold_expr-Elem form_step a subs);
  unary = λ op a h. bare_from _ _ _ (fold_expr-Unary form_step op a) (para_expr-Unary elements_at op a) (unary_bare op (form_of a) (elements_of a) h);
  binary = λ op a b h k. bare_from _ _ _ (fold_expr-Binary form_step op a b) (para_expr-Binary elements_at op a b) (binary_bare op (form_of a) (form_of b) (elements_of a) (elements_of b) h k);
  both = λ a b h k. formless _ (fold_expr-And form_step a b);
  either = λ a b h k. formless _ (fold_expr-Or form_step a b);
  cond = λ c a b l h k. formless _ (fold_expr-Cond form_step c a b);
  cast = λ k a h. formless _ (fold_expr-Cast form_step k a);
})
