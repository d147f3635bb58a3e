-- Each access of a piece of program sits inside it, with the iterators in force, and is to the element of its indices; what it
-- gives is a value of the array's kind.
use Rattle.std.proofs.Common.{◌≡◌, refl, sym, ◌∙◌, subst, ℕ, suc, ◌+◌, List, [], ◌∷◌, ◌++◌, map, length, Option, Some, None, Bool, true, false, if◌then◌else◌, ℤ, Ok, Err}
use Rattle.std.proofs.lemmas.List.{append-nil, append_assoc}
use Rattle.species_ast.specs.declared.tree.Binary.TheVariants as binary
use Rattle.species_ast.specs.declared.tree.Expr.{Expr}
use Rattle.species_ast.specs.declared.tree.Kind.TheVariants as kind
use Rattle.species_ast.specs.declared.tree.Loop.{roll-Loop}
use Rattle.species_ast.specs.declared.tree.Stmt.{Stmt}
use Rattle.species_ast.specs.declared.tree.Value.{Value}
use Rattle.species_ast.specs.Operators.{Answer, converted, is_true, number_of, reduced, unary_of, binary_of}
use Rattle.species_ast.specs.Accesses.{Joins, Cells, Forbidden, Site, Tree, Ret, Stop, Add, then_do, Direction, Reads, Writes, Adds, Access, access, accesses}
use Rattle.species_ast.specs.Evaluation.{Frame, Context, Spot, Sense, sense, site_at, known, answered, tested, values_of, target_of, indices_in, sizes_of, element_at, elements_in, array_kind, local_kind, local_of, with_local}
use Rattle.species_ast.specs.Run.{Step, cleared, declared_in, inside, outside, turns, addition, declaring, initial, spot, step, does_list, does_scope, iterator_values}
use Rattle.species_ast.proofs.Induction.{Each, each_all, expr_ind, stmt_ind}
use Rattle.species_ast.proofs.RunLaws.{sense-Literal, sense-Iter, sense-Local, sense-Elem, sense-Unary, sense-Binary, sense-And, sense-Or, sense-Cond, sense-Cast, step-Assign, step-AddTo, step-Declare, step-SetLocal, step-If, step-For, step-Block, loop-roll}
use Rattle.species_runs.specs.Every.{Anything, Every}
use Rattle.species_runs.specs.Indices.{AreIndices}
use Rattle.species_runs.specs.Sites.{IsMadeAt, IsFitting}
use Rattle.species_runs.proofs.EveryLaws.{every-then_do, every_weaker, every_one, every_access}
use Rattle.species_runs.proofs.IndexLaws.{indices_are}
use Rattle.species_runs.proofs.ValueLaws.{converted_is}

-- ---- expressions

-- each access of a part of an expression is made at its spot, and Q holds of what is computed
abbrev pub SitsAt : {X : Type 0} → Context → (X → Type 0) → (Spot → ℕ → Frame → Tree X) → Type 0
SitsAt w Q d = (s : Spot) (n : ℕ) (f : Frame) → Every (IsMadeAt w s.statement f.iters) Q (d s n f)

made_here : (w : Context) (s : Spot) (n : ℕ) (f : Frame) (a : ℕ) (is : List ℕ) (d : Direction) (v : Value) → AreIndices (sizes_of w a) is
    → IsFitting w d (element_at w a is) v → IsMadeAt w s.statement f.iters (access (site_at s n f is) d (element_at w a is) v)
made_here w s n f a is d v h fit = record {
  inside = ([], sym (append-nil s.statement));
  within = ([], sym (append-nil f.iters));
  indices = h;
  element = refl;
  fitting = fit;
}

sits_known : (P : Access → Type 0) (s : Site) (o : Option Value) → Every P Anything (known s o)
sits_known P s (Some v) = tt
sits_known P s None = tt

sits_answered : (P : Access → Type 0) (s : Site) (a : Answer) → Every P Anything (answered s a)
sits_answered P s (Ok v) = tt
sits_answered P s (Err why) = tt

sits_tested : (P : Access → Type 0) (sizes : List ℕ) (s : Site) (vs : List Value) (o : Option (List ℕ)) → indices_in sizes vs ≡ o
    → Every P (AreIndices sizes) (tested s o)
sits_tested P sizes s vs (Some is) same = indices_are sizes vs is same
sits_tested P sizes s vs None same = tt

sits_values : (w : Context) (es : List Expr) → Each (λ x. SitsAt w Anything (sense w x).does) es → SitsAt w Anything (values_of (map (sense w) es))
sits_values w [] h s n f = tt
sits_values w (x ∷ es) h s n f =
    let P = IsMadeAt w s.statement f.iters in
    every-then_do P Anything Anything ((sense w x).does s n f) _ (h.0 s n f) (λ v _.
    every-then_do P Anything Anything (values_of (map (sense w) es) s (n + (sense w x).elements) f) _ (sits_values w es h.1 s (n + (sense w x).elements) f) (λ vs _. tt))

sits_target : (w : Context) (a : ℕ) (es : List Expr) → Each (λ x. SitsAt w Anything (sense w x).does) es → SitsAt w (AreIndices (sizes_of w a)) (target_of w a (map (sense w) es))
sits_target w a es h s n f =
    let P = IsMadeAt w s.statement f.iters in
    every-then_do P Anything (AreIndices (sizes_of w a)) (values_of (map (sense w) es) s n f) _ (sits_values w es h s n f) (λ vs _.
    sits_tested P (sizes_of w a) (site_at s (n + elements_in (map (sense w) es)) f []) vs (indices_in (sizes_of w a) vs) refl)

-- first an expression, and then more at the same spot
sits_part : {Y : Type 0} (w : Context) (x : Sense) (Q : Y → Type 0) (next : Value → Tree Y) (s : Spot) (n : ℕ) (f : Frame) → SitsAt w Anything x.does
    → ((v : Value) → Every (IsMadeAt w s.statement f.iters) Q (next v)) → Every (IsMadeAt w s.statement f.iters) Q (then_do (x.does s n f) next)
sits_part w x Q next s n f h after = every-then_do (IsMadeAt w s.statement f.iters) Anything Q (x.does s n f) next (h s n f) (λ v _. after v)

sits_one : {X : Type 0} (P : Access → Type 0) (Q : X → Type 0) (b : Bool) (t u : Tree X) → Every P Q t → Every P Q u → Every P Q (if b then t else u)
sits_one P Q b t u p q = every_one P Q b t u (λ _. p) (λ _. q)

-- the law, of expressions
pub sits_expr : (w : Context) (x : Expr) → SitsAt w Anything (sense w x).does
sits_expr w = expr_ind (λ x. SitsAt w Anything (sense w x).does) (record {
  literal = λ v. subst (λ e. SitsAt w Anything e.does) (sym (sense-Literal w v)) (λ s n f. tt);
  iter = λ l. subst (λ e. SitsAt w Anything e.does) (sym (sense-Iter w l)) (λ s n f. tt);
  local = λ x. subst (λ e. SitsAt w Anything e.does) (sym (sense-Local w x)) (λ s n f. sits_known (IsMadeAt w s.statement f.iters) (site_at s n f []) (local_of f x));
  elem = λ a subs h. subst (λ e. SitsAt w Anything e.does) (sym (sense-Elem w a subs)) (λ s n f.
      every-then_do (IsMadeAt w s.statement f.iters) (AreIndices (sizes_of w a)) Anything (target_of w a (map (sense w) subs) s n f) _ (sits_target w a subs h s n f)
      (λ is ok v. (made_here w s (n + elements_in (map (sense w) subs)) f a is Reads v ok tt, tt)));
  unary = λ op a p. subst (λ e. SitsAt w Anything e.does) (sym (sense-Unary w op a)) (λ s n f.
      sits_part w (sense w a) Anything _ s n f p (λ x. sits_answered (IsMadeAt w s.statement f.iters) (site_at s n f []) (unary_of op x)));
  binary = λ op a b p q. subst (λ e. SitsAt w Anything e.does) (sym (sense-Binary w op a b)) (λ s n f.
      sits_part w (sense w a) Anything _ s n f p (λ x. sits_part w (sense w b) Anything _ s (n + (sense w a).elements) f q (λ y.
      sits_answered (IsMadeAt w s.statement f.iters) (site_at s n f []) (binary_of op x y))));
  both = λ a b p q. subst (λ e. SitsAt w Anything e.does) (sym (sense-And w a b)) (λ s n f.
      sits_part w (sense w a) Anything _ s n f p (λ x. sits_one (IsMadeAt w s.statement f.iters) Anything (is_true x) _ _
      (sits_part w (sense w b) Anything _ s (n + (sense w a).elements) f q (λ y. tt)) tt));
  either = λ a b p q. subst (λ e. SitsAt w Anything e.does) (sym (sense-Or w a b)) (λ s n f.
      sits_part w (sense w a) Anything _ s n f p (λ x. sits_one (IsMadeAt w s.statement f.iters) Anything (is_true x) _ _ tt
      (sits_part w (sense w b) Anything _ s (n + (sense w a).elements) f q (λ y. tt))));
  cond = λ c a b r p q. subst (λ e. SitsAt w Anything e.does) (sym (sense-Cond w c a b)) (λ s n f.
      sits_part w (sense w c) Anything _ s n f r (λ x. every-then_do (IsMadeAt w s.statement f.iters) Anything Anything
      (if is_true x then (sense w a).does s (n + (sense w c).elements) f else (sense w b).does s (n + (sense w c).elements + (sense w a).elements) f) _
      (sits_one (IsMadeAt w s.statement f.iters) Anything (is_true x) _ _ (p s _ f) (q s _ f)) (λ v _. tt)));
  cast = λ k a p. subst (λ e. SitsAt w Anything e.does) (sym (sense-Cast w k a)) (λ s n f. sits_part w (sense w a) Anything _ s n f p (λ v. tt));
})

-- ---- statements

abbrev pub HasIters : Frame → Frame → Type 0
HasIters f g = g.iters ≡ f.iters

-- each access of a piece of program is made at this position or inside it, and the iterators are left as they were
abbrev pub Sits : Context → List ℕ → (Frame → Tree Frame) → Type 0
Sits w at d = (f : Frame) → Every (IsMadeAt w at f.iters) (HasIters f) (d f)

abbrev pub StepSits : Context → Step → Type 0
StepSits w x = (at : List ℕ) → Sits w at (x.does at)

-- what is made further inside is made inside
outward : (w : Context) (at more : List ℕ) (iters js : List ℤ) (a : Access) → IsMadeAt w (at ++ more) (iters ++ js) a → IsMadeAt w at iters a
outward w at more iters js a p = record {
  inside = (more ++ p.inside.0, p.inside.1 ∙ append_assoc at more p.inside.0);
  within = (js ++ p.within.0, p.within.1 ∙ append_assoc iters js p.within.0);
  indices = p.indices;
  element = p.element;
  fitting = p.fitting;
}

from_statement : (w : Context) (at : List ℕ) (k : ℕ) (f : Frame) (a : Access) → IsMadeAt w (at ++ k ∷ []) f.iters a → IsMadeAt w at f.iters a
from_statement w at k f a p = outward w at (k ∷ []) f.iters [] a (subst (λ it. IsMadeAt w (at ++ k ∷ []) it a) (sym (append-nil f.iters)) p)

from_turn : (w : Context) (at : List ℕ) (f : Frame) (i : ℤ) (a : Access) → IsMadeAt w at (f.iters ++ i ∷ []) a → IsMadeAt w at f.iters a
from_turn w at f i a p = outward w at [] f.iters (i ∷ []) a (subst (λ st. IsMadeAt w st (f.iters ++ i ∷ []) a) (sym (append-nil at)) p)

pub sits_list : (w : Context) (ss : List Stmt) → Each (λ x. StepSits w (step w x)) ss → (at : List ℕ) (k : ℕ) → Sits w at (does_list w ss at k)
sits_list w [] h at k f = refl
sits_list w (x ∷ ss) h at k f =
    every-then_do (IsMadeAt w at f.iters) (HasIters f) (HasIters f) ((step w x).does (at ++ k ∷ []) f) _
    (every_weaker (IsMadeAt w (at ++ k ∷ []) f.iters) (IsMadeAt w at f.iters) (HasIters f) (HasIters f) ((step w x).does (at ++ k ∷ []) f)
    (λ a p. from_statement w at k f a p) (λ g p. p) (h.0 (at ++ k ∷ []) f))
    (λ g same.
    every_weaker (IsMadeAt w at g.iters) (IsMadeAt w at f.iters) (HasIters g) (HasIters f) (does_list w ss at (suc k) g)
    (λ a p. subst (λ it. IsMadeAt w at it a) same p) (λ e p. p ∙ same) (sits_list w ss h.1 at (suc k) g))

cleared_iters : (xs : List ℕ) (f : Frame) → (cleared xs f).iters ≡ f.iters
cleared_iters [] f = refl
cleared_iters (x ∷ xs) f = cleared_iters xs (with_local f x None)

pub sits_scope : (w : Context) (ss : List Stmt) → Each (λ x. StepSits w (step w x)) ss → (at : List ℕ) (k : ℕ) → Sits w at (does_scope w ss at k)
sits_scope w ss h at k f =
    every-then_do (IsMadeAt w at f.iters) (HasIters f) (HasIters f) (does_list w ss at k f) _ (sits_list w ss h at k f)
    (λ g p. cleared_iters (declared_in (map (step w) ss)) g ∙ p)

pub sits_turns : (w : Context) (at : List ℕ) (is : List ℤ) (body : Frame → Tree Frame) → Sits w at body → Sits w at (turns is body)
sits_turns w at [] body h f = refl
sits_turns w at (i ∷ is) body h f =
    every-then_do (IsMadeAt w at f.iters) (HasIters (inside f i)) (HasIters f) (body (inside f i)) _
    (every_weaker (IsMadeAt w at (f.iters ++ i ∷ [])) (IsMadeAt w at f.iters) (HasIters (inside f i)) (HasIters (inside f i)) (body (inside f i))
    (λ a p. from_turn w at f i a p) (λ g p. p) (h (inside f i)))
    (λ g p. sits_turns w at is body h (outside f g))

-- first an expression of a statement, or the subscripts of its target, and then more
first_value : {Y : Type 0} (w : Context) (x : Expr) (at : List ℕ) (place n : ℕ) (f : Frame) (Q : Y → Type 0) (next : Value → Tree Y)
    → ((v : Value) → Every (IsMadeAt w at f.iters) Q (next v)) → Every (IsMadeAt w at f.iters) Q (then_do ((sense w x).does (spot place at) n f) next)
first_value w x at place n f Q next h = sits_part w (sense w x) Q next (spot place at) n f (sits_expr w x) h

first_target : {Y : Type 0} (w : Context) (a : ℕ) (subs : List Expr) (at : List ℕ) (place : ℕ) (f : Frame) (Q : Y → Type 0) (next : List ℕ → Tree Y)
    → ((is : List ℕ) → AreIndices (sizes_of w a) is → Every (IsMadeAt w at f.iters) Q (next is))
    → Every (IsMadeAt w at f.iters) Q (then_do (target_of w a (map (sense w) subs) (spot place at) 0 f) next)
first_target w a subs at place f Q next h =
    every-then_do (IsMadeAt w at f.iters) (AreIndices (sizes_of w a)) Q (target_of w a (map (sense w) subs) (spot place at) 0 f) next
    (sits_target w a subs (each_all (λ x. SitsAt w Anything (sense w x).does) (sits_expr w) subs) (spot place at) 0 f) h

sits_addition : (w : Context) (a : ℕ) (atomic : Bool) (n : ℕ) (value : Expr) (at : List ℕ) (place : ℕ) (is : List ℕ) (f : Frame) → AreIndices (sizes_of w a) is
    → Every (IsMadeAt w at f.iters) (HasIters f) (addition w a atomic n (sense w value) (spot place at) is f)
sits_addition w a false n value at place is f ok = λ old. (
  made_here w (spot place at) n f a is Reads old ok tt,
  first_value w value at place (suc n) f (HasIters f) _ (λ v.
      every-then_do (IsMadeAt w at f.iters) Anything (HasIters f) (answered (site_at (spot place at) n f is) (binary_of binary.Add old v)) _
      (sits_answered (IsMadeAt w at f.iters) (site_at (spot place at) n f is) (binary_of binary.Add old v))
      (λ sum _. (made_here w (spot place at) n f a is Writes (converted (array_kind w a) sum) ok (converted_is (array_kind w a) sum), refl))),
)
sits_addition w a true n value at place is f ok =
    first_value w value at place (suc n) f (HasIters f) _ (λ v.
    sits_one (IsMadeAt w at f.iters) (HasIters f) (w.may_add a (array_kind w a))
    (Add (site_at (spot place at) n f is) (element_at w a is) (converted (array_kind w a) v) (Ret f)) (Stop (site_at (spot place at) n f is) Forbidden)
    (made_here w (spot place at) n f a is Adds (converted (array_kind w a) v) ok (converted_is (array_kind w a) v), refl) tt)

sits_declaring : (w : Context) (x : ℕ) (init : Option Expr) (at : List ℕ) (place : ℕ) (f : Frame)
    → Every (IsMadeAt w at f.iters) (HasIters f) (declaring w x init (spot place at) f)
sits_declaring w x None at place f = refl
sits_declaring w x (Some e) at place f =
    every-then_do (IsMadeAt w at f.iters) Anything (HasIters f) (initial w (local_kind w x) (spot place at) (Some e) (with_local f x None)) _
    (first_value w e at place 0 (with_local f x None) Anything _ (λ v. tt)) (λ v _. refl)

-- the law
pub sits : (w : Context) (x : Stmt) → StepSits w (step w x)
sits w = stmt_ind (λ x. StepSits w (step w x)) (record {
  assign = λ place a subs value. subst (StepSits w) (sym (step-Assign w place a subs value)) (λ at f.
      first_target w a subs at place f (HasIters f) _ (λ is ok. first_value w value at place (suc (elements_in (map (sense w) subs))) f (HasIters f) _ (λ v.
      (made_here w (spot place at) (elements_in (map (sense w) subs)) f a is Writes (converted (array_kind w a) v) ok (converted_is (array_kind w a) v), refl))));
  add_to = λ place a subs value atomic. subst (StepSits w) (sym (step-AddTo w place a subs value atomic)) (λ at f.
      first_target w a subs at place f (HasIters f) _ (λ is ok. sits_addition w a atomic (elements_in (map (sense w) subs)) value at place is f ok));
  declare = λ place x init. subst (StepSits w) (sym (step-Declare w place x init)) (λ at f. sits_declaring w x init at place f);
  set_local = λ place x value. subst (StepSits w) (sym (step-SetLocal w place x value)) (λ at f.
      first_value w value at place 0 f (HasIters f) _ (λ v. sits_one (IsMadeAt w at f.iters) (HasIters f) (w.may_set x)
      (Ret (with_local f x (Some (converted (local_kind w x) v)))) (Stop (site_at (spot place at) (sense w value).elements f []) Forbidden) refl tt));
  choice = λ place test body otherwise p q. subst (StepSits w) (sym (step-If w place test body otherwise)) (λ at f.
      first_value w test at place 0 f (HasIters f) _ (λ v. sits_one (IsMadeAt w at f.iters) (HasIters f) (is_true v)
      (does_scope w body at 0 f) (does_scope w otherwise at (length (map (step w) body)) f) (sits_scope w body p at 0 f) (sits_scope w otherwise q at _ f)));
  loop = λ l p. subst (StepSits w) (sym (step-For w (roll-Loop l))) (λ at f.
      subst (Every (IsMadeAt w at f.iters) (HasIters f)) (sym (loop-roll w l at f))
      (first_value w l.start at l.place 0 f (HasIters f) _ (λ a. first_value w l.limit at l.place (sense w l.start).elements f (HasIters f) _ (λ b.
      sits_turns w at (iterator_values l.test (reduced kind.Int (number_of a)) (reduced kind.Int (number_of b)) l.step) (does_scope w l.body at 0) (sits_scope w l.body p at 0) f))));
  block = λ body p. subst (StepSits w) (sym (step-Block w body)) (λ at f. sits_scope w body p at 0 f);
})

pub each_sits : (w : Context) (ss : List Stmt) → Each (λ x. StepSits w (step w x)) ss
each_sits w ss = each_all (λ x. StepSits w (step w x)) (sits w) ss

-- so it is of each access of a run
pub accesses_sit : (join : Joins) (w : Context) (ss : List Stmt) (at : List ℕ) (k : ℕ) (f : Frame) (m : Cells)
    → Each (IsMadeAt w at f.iters) (accesses join (does_list w ss at k f) m)
accesses_sit join w ss at k f m = every_access join (IsMadeAt w at f.iters) (HasIters f) (does_list w ss at k f) m (sits_list w ss (each_sits w ss) at k f)
