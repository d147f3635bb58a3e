-- What an expression does, wherever it stands: sites do not matter to it.
use Rattle.std.proofs.Common.{◌≡◌, refl, sym, ◌∙◌, subst, ℕ, ◌+◌, List, [], ◌∷◌, map, Option, Some, None, Bool, true, false, if◌then◌else◌, Ok, Err}
use Rattle.species_ast.specs.declared.tree.Expr.{Expr}
use Rattle.species_ast.specs.declared.tree.Value.{Value}
use Rattle.species_ast.specs.Operators.{Answer, is_true, truth, unary_of, binary_of}
use Rattle.species_ast.specs.Accesses.{Site, Tree, Ret, then_do}
use Rattle.species_ast.specs.Evaluation.{Frame, Context, Spot, sense, site_at, known, answered, tested, values_of, target_of, indices_in, sizes_of, elements_in, local_of}
use Rattle.species_ast.proofs.AccessLaws.{bare, bare-then_do}
use Rattle.species_ast.proofs.Induction.{Each, expr_ind}
use Rattle.species_ast.proofs.RunLaws.{sense-Literal, sense-Iter, sense-Local, sense-Elem, sense-Unary, sense-Binary, sense-And, sense-Or, sense-Cond, sense-Cast}

-- two pieces of program that are equal but for their sites
abbrev pub Alike : {X : Type 0} → Tree X → Tree X → Type 0
Alike t u = bare t ≡ bare u

pub alike_then : {X Y : Type 0} (t u : Tree X) (next after : X → Tree Y) → Alike t u → ((x : X) → Alike (next x) (after x)) → Alike (then_do t next) (then_do u after)
alike_then t u next after same rest = bare-then_do t next ∙ (λ i. then_do (same i) (λ x. rest x i)) ∙ sym (bare-then_do u after)

alike_one : {X : Type 0} (b : Bool) (t u v z : Tree X) → Alike t v → Alike u z → Alike (if b then t else u) (if b then v else z)
alike_one true t u v z p q = p
alike_one false t u v z p q = q

-- what a piece of an expression does at two spots
abbrev pub IsAlikeAt : {X : Type 0} → (Spot → ℕ → Frame → Tree X) → Type 0
IsAlikeAt d = (s t : Spot) (n k : ℕ) (f : Frame) → Alike (d s n f) (d t k f)

alike_known : (s t : Site) (o : Option Value) → Alike (known s o) (known t o)
alike_known s t (Some v) = refl
alike_known s t None = refl

alike_answered : (s t : Site) (a : Answer) → Alike (answered s a) (answered t a)
alike_answered s t (Ok v) = refl
alike_answered s t (Err why) = refl

alike_tested : (s t : Site) (o : Option (List ℕ)) → Alike (tested s o) (tested t o)
alike_tested s t (Some is) = refl
alike_tested s t None = refl

alike_values : (w : Context) (es : List Expr) → Each (λ x. IsAlikeAt (sense w x).does) es → IsAlikeAt (values_of (map (sense w) es))
alike_values w [] h s t n k f = refl
alike_values w (x ∷ es) h s t n k f =
    alike_then ((sense w x).does s n f) ((sense w x).does t k f) _ _ (h.0 s t n k f) (λ v.
    alike_then (values_of (map (sense w) es) s (n + (sense w x).elements) f) (values_of (map (sense w) es) t (k + (sense w x).elements) f) _ _
    (alike_values w es h.1 s t _ _ f) (λ vs. refl))

alike_target : (w : Context) (a : ℕ) (es : List Expr) → Each (λ x. IsAlikeAt (sense w x).does) es → IsAlikeAt (target_of w a (map (sense w) es))
alike_target w a es h s t n k f =
    alike_then (values_of (map (sense w) es) s n f) (values_of (map (sense w) es) t k f) _ _ (alike_values w es h s t n k f) (λ vs.
    alike_tested (site_at s (n + elements_in (map (sense w) es)) f []) (site_at t (k + elements_in (map (sense w) es)) f []) (indices_in (sizes_of w a) vs))

-- the law: what an expression does depends on its spot through the place alone
pub alike_expr : (w : Context) (x : Expr) → IsAlikeAt (sense w x).does
alike_expr w = expr_ind (λ x. IsAlikeAt (sense w x).does) (record {
  literal = λ v. subst (λ e. IsAlikeAt e.does) (sym (sense-Literal w v)) (λ s t n k f. refl);
  iter = λ l. subst (λ e. IsAlikeAt e.does) (sym (sense-Iter w l)) (λ s t n k f. refl);
  local = λ x. subst (λ e. IsAlikeAt e.does) (sym (sense-Local w x)) (λ s t n k f.
      alike_known (site_at s n f []) (site_at t k f []) (local_of f x));
  elem = λ a subs h. subst (λ e. IsAlikeAt e.does) (sym (sense-Elem w a subs)) (λ s t n k f.
      alike_then (target_of w a (map (sense w) subs) s n f) (target_of w a (map (sense w) subs) t k f) _ _ (alike_target w a subs h s t n k f)
      (λ is. refl));
  unary = λ op a p. subst (λ e. IsAlikeAt e.does) (sym (sense-Unary w op a)) (λ s t n k f.
      alike_then ((sense w a).does s n f) ((sense w a).does t k f) _ _ (p s t n k f)
      (λ x. alike_answered (site_at s n f []) (site_at t k f []) (unary_of op x)));
  binary = λ op a b p q. subst (λ e. IsAlikeAt e.does) (sym (sense-Binary w op a b)) (λ s t n k f.
      alike_then ((sense w a).does s n f) ((sense w a).does t k f) _ _ (p s t n k f) (λ x.
      alike_then ((sense w b).does s (n + (sense w a).elements) f) ((sense w b).does t (k + (sense w a).elements) f) _ _ (q s t _ _ f)
      (λ y. alike_answered (site_at s n f []) (site_at t k f []) (binary_of op x y))));
  both = λ a b p q. subst (λ e. IsAlikeAt e.does) (sym (sense-And w a b)) (λ s t n k f.
      alike_then ((sense w a).does s n f) ((sense w a).does t k f) _ _ (p s t n k f) (λ x. alike_one (is_true x) _ _ _ _
      (alike_then ((sense w b).does s (n + (sense w a).elements) f) ((sense w b).does t (k + (sense w a).elements) f) (λ y. Ret (truth (is_true y))) (λ y. Ret (truth (is_true y)))
      (q s t _ _ f) (λ y. refl)) refl));
  either = λ a b p q. subst (λ e. IsAlikeAt e.does) (sym (sense-Or w a b)) (λ s t n k f.
      alike_then ((sense w a).does s n f) ((sense w a).does t k f) _ _ (p s t n k f) (λ x. alike_one (is_true x) _ _ _ _ refl
      (alike_then ((sense w b).does s (n + (sense w a).elements) f) ((sense w b).does t (k + (sense w a).elements) f) (λ y. Ret (truth (is_true y))) (λ y. Ret (truth (is_true y)))
      (q s t _ _ f) (λ y. refl))));
  cond = λ c a b r p q. subst (λ e. IsAlikeAt e.does) (sym (sense-Cond w c a b)) (λ s t n k f.
      alike_then ((sense w c).does s n f) ((sense w c).does t k f) _ _ (r s t n k f) (λ x.
      alike_then (if is_true x then (sense w a).does s (n + (sense w c).elements) f else (sense w b).does s (n + (sense w c).elements + (sense w a).elements) f)
      (if is_true x then (sense w a).does t (k + (sense w c).elements) f else (sense w b).does t (k + (sense w c).elements + (sense w a).elements) f) _ _
      (alike_one (is_true x) ((sense w a).does s (n + (sense w c).elements) f) ((sense w b).does s (n + (sense w c).elements + (sense w a).elements) f)
      ((sense w a).does t (k + (sense w c).elements) f) ((sense w b).does t (k + (sense w c).elements + (sense w a).elements) f) (p s t _ _ f) (q s t _ _ f)) (λ v. refl)));
  cast = λ c a p. subst (λ e. IsAlikeAt e.does) (sym (sense-Cast w c a)) (λ s t n k f.
      alike_then ((sense w a).does s n f) ((sense w a).does t k f) _ _ (p s t n k f) (λ v. refl));
})
