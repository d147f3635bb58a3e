-- An expression only reads.
use Rattle.std.proofs.Common.{refl, sym, subst, ℕ, ◌+◌, List, [], ◌∷◌, map, Option, Some, None, Bool, true, false, if◌then◌else◌, Ok, Err}
use Rattle.species_ast.specs.declared.tree.Expr.{Expr}
use Rattle.species_ast.specs.declared.tree.Value.{Value}
use Rattle.species_ast.specs.Operators.{Answer, is_true, unary_of, binary_of}
use Rattle.species_ast.specs.Accesses.{Site, Tree, then_do}
use Rattle.species_ast.specs.Evaluation.{Frame, Context, Spot, sense, site_at, known, answered, tested, values_of, target_of, indices_in, sizes_of, elements_in, local_of}
use Rattle.species_ast.proofs.Induction.{Each, expr_ind}
use Rattle.species_ast.proofs.RunLaws.{sense-Literal, sense-Iter, sense-Local, sense-Elem, sense-Unary, sense-Binary, sense-And, sense-Or, sense-Cond, sense-Cast}
use Rattle.species_runs.specs.Every.{Anything, IsRead, OnlyReads}
use Rattle.species_runs.proofs.EveryLaws.{every-then_do}

pub reads_then : {X Y : Type 0} (t : Tree X) (next : X → Tree Y) → OnlyReads t → ((x : X) → OnlyReads (next x)) → OnlyReads (then_do t next)
reads_then t next h after = every-then_do IsRead Anything Anything t next h (λ x _. after x)

reads_one : {X : Type 0} (b : Bool) (t u : Tree X) → OnlyReads t → OnlyReads u → OnlyReads (if b then t else u)
reads_one true t u p q = p
reads_one false t u p q = q

reads_known : (s : Site) (o : Option Value) → OnlyReads (known s o)
reads_known s (Some v) = tt
reads_known s None = tt

reads_answered : (s : Site) (a : Answer) → OnlyReads (answered s a)
reads_answered s (Ok v) = tt
reads_answered s (Err why) = tt

reads_tested : (s : Site) (o : Option (List ℕ)) → OnlyReads (tested s o)
reads_tested s (Some is) = tt
reads_tested s None = tt

abbrev pub OnlyReadsAt : {X : Type 0} → (Spot → ℕ → Frame → Tree X) → Type 0
OnlyReadsAt d = (s : Spot) (n : ℕ) (f : Frame) → OnlyReads (d s n f)

reads_values : (w : Context) (es : List Expr) → Each (λ x. OnlyReadsAt (sense w x).does) es → OnlyReadsAt (values_of (map (sense w) es))
reads_values w [] h s n f = tt
reads_values w (x ∷ es) h s n f =
    reads_then ((sense w x).does s n f) _ (h.0 s n f) (λ v.
    reads_then (values_of (map (sense w) es) s (n + (sense w x).elements) f) _ (reads_values w es h.1 s _ f) (λ vs. tt))

reads_target : (w : Context) (a : ℕ) (es : List Expr) → Each (λ x. OnlyReadsAt (sense w x).does) es → OnlyReadsAt (target_of w a (map (sense w) es))
reads_target w a es h s n f =
    reads_then (values_of (map (sense w) es) s n f) _ (reads_values w es h s n f) (λ vs.
    reads_tested (site_at s (n + elements_in (map (sense w) es)) f []) (indices_in (sizes_of w a) vs))

-- the law
pub only_reads : (w : Context) (x : Expr) → OnlyReadsAt (sense w x).does
only_reads w = expr_ind (λ x. OnlyReadsAt (sense w x).does) (record {
  literal = λ v. subst (λ e. OnlyReadsAt e.does) (sym (sense-Literal w v)) (λ s n f. tt);
  iter = λ l. subst (λ e. OnlyReadsAt e.does) (sym (sense-Iter w l)) (λ s n f. tt);
  local = λ x. subst (λ e. OnlyReadsAt e.does) (sym (sense-Local w x)) (λ s n f. reads_known (site_at s n f []) (local_of f x));
  elem = λ a subs h. subst (λ e. OnlyReadsAt e.does) (sym (sense-Elem w a subs)) (λ s n f.
      reads_then (target_of w a (map (sense w) subs) s n f) _ (reads_target w a subs h s n f) (λ is v. (refl, tt)));
  unary = λ op a p. subst (λ e. OnlyReadsAt e.does) (sym (sense-Unary w op a)) (λ s n f.
      reads_then ((sense w a).does s n f) _ (p s n f) (λ x. reads_answered (site_at s n f []) (unary_of op x)));
  binary = λ op a b p q. subst (λ e. OnlyReadsAt e.does) (sym (sense-Binary w op a b)) (λ s n f.
      reads_then ((sense w a).does s n f) _ (p s n f) (λ x.
      reads_then ((sense w b).does s (n + (sense w a).elements) f) _ (q s _ f) (λ y. reads_answered (site_at s n f []) (binary_of op x y))));
  both = λ a b p q. subst (λ e. OnlyReadsAt e.does) (sym (sense-And w a b)) (λ s n f.
      reads_then ((sense w a).does s n f) _ (p s n f) (λ x. reads_one (is_true x) _ _
      (reads_then ((sense w b).does s (n + (sense w a).elements) f) _ (q s _ f) (λ y. tt)) tt));
  either = λ a b p q. subst (λ e. OnlyReadsAt e.does) (sym (sense-Or w a b)) (λ s n f.
      reads_then ((sense w a).does s n f) _ (p s n f) (λ x. reads_one (is_true x) _ _ tt
      (reads_then ((sense w b).does s (n + (sense w a).elements) f) _ (q s _ f) (λ y. tt))));
  cond = λ c a b r p q. subst (λ e. OnlyReadsAt e.does) (sym (sense-Cond w c a b)) (λ s n f.
      reads_then ((sense w c).does s n f) _ (r s n f) (λ x.
      reads_then (if is_true x then (sense w a).does s (n + (sense w c).elements) f else (sense w b).does s (n + (sense w c).elements + (sense w a).elements) f) _
      (reads_one (is_true x) ((sense w a).does s (n + (sense w c).elements) f) ((sense w b).does s (n + (sense w c).elements + (sense w a).elements) f) (p s _ f) (q s _ f))
      (λ v. tt)));
  cast = λ k a p. subst (λ e. OnlyReadsAt e.does) (sym (sense-Cast w k a)) (λ s n f. reads_then ((sense w a).does s n f) _ (p s n f) (λ v. tt));
})
