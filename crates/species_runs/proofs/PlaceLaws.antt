-- What a piece of program does depends on where it stands through the places of its statements alone.
use Rattle.std.proofs.Common.{◌≡◌, refl, ap, sym, ◌∙◌, subst, ℕ, suc, ◌+◌, List, [], ◌∷◌, ◌++◌, map, length, Option, Some, None, Bool, true, false, if◌then◌else◌, ℤ, Ok, Err}
use Rattle.species_ast.specs.declared.trap.Trap.TheVariants as trap
use Rattle.species_ast.specs.declared.tree.Binary.TheVariants as binary
use Rattle.species_ast.specs.declared.tree.Expr.{Expr}
use Rattle.species_ast.specs.declared.tree.Kind.TheVariants as kind
use Rattle.species_ast.specs.declared.tree.Loop.{roll-Loop}
use Rattle.species_ast.specs.declared.tree.Stmt.{Stmt}
use Rattle.species_ast.specs.declared.tree.Test.{Test}
use Rattle.species_ast.specs.declared.tree.Value.{Value}
use Rattle.species_ast.specs.Operators.{Answer, converted, is_true, truth, number_of, reduced, unary_of, binary_of}
use Rattle.species_ast.specs.Accesses.{Joins, Cells, cell, Trapped, Forbidden, Site, Tree, Ret, Stop, Read, Write, Add, then_do, run, read_of, write_of, add_of, acts}
use Rattle.species_ast.specs.Evaluation.{Frame, Context, Spot, sense, site_at, known, answered, tested, trap_of, values_of, target_of, indices_in, sizes_of, element_at, elements_in, array_kind, local_kind, local_of, with_local}
use Rattle.species_ast.specs.Run.{Step, inside, outside, turns, looping, assignment, addition, adding, setting, declaring, branching, initial, spot, step, does_list, does_scope, iterator_values, Takes, iteration, iteration_in, actions}
use Rattle.species_ast.proofs.Induction.{Each, each_all, expr_ind, stmt_ind}
use Rattle.species_ast.proofs.RunLaws.{sense-Literal, sense-Iter, sense-Local, sense-Elem, sense-Unary, sense-Binary, sense-And, sense-Or, sense-Cond, sense-Cast, step-Assign, step-AddTo, step-Declare, step-SetLocal, step-If, step-For, step-Block, loop-roll}
use Rattle.species_runs.specs.Places.{only_place, placed, DoSame}

pub placed-then_do : {X Y : Type 0} (t : Tree X) (next : X → Tree Y) → placed (then_do t next) ≡ then_do (placed t) (λ x. placed (next x))
placed-then_do (Ret x) next = refl
placed-then_do (Stop s why) next = refl
placed-then_do (Read s e more) next = ap (Read (only_place s) e) (λ i v. placed-then_do (more v) next i)
placed-then_do (Write s e v more) next = ap (Write (only_place s) e v) (placed-then_do more next)
placed-then_do (Add s e v more) next = ap (Add (only_place s) e v) (placed-then_do more next)

-- ---- what pieces of program that do the same have in common

pub run-placed : {X : Type 0} (join : Joins) (t : Tree X) (m : Cells) → run join (placed t) m ≡ run join t m
run-placed join (Ret x) m = refl
run-placed join (Stop s why) m = refl
run-placed join (Read s e more) m = run-placed join (more (cell m e)) m
run-placed join (Write s e v more) m = run-placed join more _
run-placed join (Add s e v more) m = run-placed join more _

pub acts-placed : {X : Type 0} (t : Tree X) (answers : List Value) → acts (placed t) answers ≡ acts t answers
acts-placed (Ret x) answers = refl
acts-placed (Stop s why) answers = refl
acts-placed (Read s e more) [] = refl
acts-placed (Read s e more) (v ∷ answers) = ap (λ l. read_of e ∷ l) (acts-placed (more v) answers)
acts-placed (Write s e v more) answers = ap (λ l. write_of e v ∷ l) (acts-placed more answers)
acts-placed (Add s e v more) answers = ap (λ l. add_of e v ∷ l) (acts-placed more answers)

pub same_run : {X : Type 0} (join : Joins) (t u : Tree X) (m : Cells) → DoSame t u → run join t m ≡ run join u m
same_run join t u m same = sym (run-placed join t m) ∙ ap (λ x. run join x m) same ∙ run-placed join u m

pub same_acts : {X : Type 0} (t u : Tree X) (answers : List Value) → DoSame t u → acts t answers ≡ acts u answers
same_acts t u answers same = sym (acts-placed t answers) ∙ ap (λ x. acts x answers) same ∙ acts-placed u answers

-- ---- parts

pub same_then : {X Y : Type 0} (t u : Tree X) (next after : X → Tree Y) → DoSame t u → ((x : X) → DoSame (next x) (after x))
    → DoSame (then_do t next) (then_do u after)
same_then t u next after same rest = placed-then_do t next ∙ (λ i. then_do (same i) (λ x. rest x i)) ∙ sym (placed-then_do u after)

same_one : {X : Type 0} (b : Bool) (t u v z : Tree X) → DoSame t v → DoSame u z → DoSame (if b then t else u) (if b then v else z)
same_one true t u v z p q = p
same_one false t u v z p q = q

-- what a piece of an expression does at two spots of one place
abbrev pub IsSameAt : {X : Type 0} → (Spot → ℕ → Frame → Tree X) → Type 0
IsSameAt d = (s t : Spot) (n k : ℕ) (f : Frame) → s.place ≡ t.place → DoSame (d s n f) (d t k f)

at_place : (s t : Spot) → s.place ≡ t.place → (n k : ℕ) (f : Frame) (is js : List ℕ) → only_place (site_at s n f is) ≡ only_place (site_at t k f js)
at_place s t same n k f is js = λ i. record { statement = []; place = same i; number = 0; iters = []; indices = [] }

same_known : (s t : Site) (o : Option Value) → only_place s ≡ only_place t → DoSame (known s o) (known t o)
same_known s t (Some v) same = refl
same_known s t None same = ap (λ z. Stop z (Trapped trap.Unset)) same

same_answered : (s t : Site) (a : Answer) → only_place s ≡ only_place t → DoSame (answered s a) (answered t a)
same_answered s t (Ok v) same = refl
same_answered s t (Err why) same = ap (λ z. Stop z (Trapped (trap_of why))) same

same_tested : (s t : Site) (o : Option (List ℕ)) → only_place s ≡ only_place t → DoSame (tested s o) (tested t o)
same_tested s t (Some is) same = refl
same_tested s t None same = ap (λ z. Stop z (Trapped trap.Index)) same

-- ---- expressions

same_values : (w : Context) (es : List Expr) → Each (λ x. IsSameAt (sense w x).does) es → IsSameAt (values_of (map (sense w) es))
same_values w [] h s t n k f same = refl
same_values w (x ∷ es) h s t n k f same =
    same_then ((sense w x).does s n f) ((sense w x).does t k f) _ _ (h.0 s t n k f same) (λ v.
    same_then (values_of (map (sense w) es) s (n + (sense w x).elements) f) (values_of (map (sense w) es) t (k + (sense w x).elements) f) _ _
    (same_values w es h.1 s t _ _ f same) (λ vs. refl))

same_target : (w : Context) (a : ℕ) (es : List Expr) → Each (λ x. IsSameAt (sense w x).does) es → IsSameAt (target_of w a (map (sense w) es))
same_target w a es h s t n k f same =
    same_then (values_of (map (sense w) es) s n f) (values_of (map (sense w) es) t k f) _ _ (same_values w es h s t n k f same) (λ vs.
    same_tested (site_at s (n + elements_in (map (sense w) es)) f []) (site_at t (k + elements_in (map (sense w) es)) f []) (indices_in (sizes_of w a) vs)
    (at_place s t same (n + elements_in (map (sense w) es)) (k + elements_in (map (sense w) es)) f [] []))

-- the law: what an expression does depends on its spot through the place alone
pub same_expr : (w : Context) (x : Expr) → IsSameAt (sense w x).does
same_expr w = expr_ind (λ x. IsSameAt (sense w x).does) (record {
  literal = λ v. subst (λ e. IsSameAt e.does) (sym (sense-Literal w v)) (λ s t n k f same. refl);
  iter = λ l. subst (λ e. IsSameAt e.does) (sym (sense-Iter w l)) (λ s t n k f same. refl);
  local = λ x. subst (λ e. IsSameAt e.does) (sym (sense-Local w x)) (λ s t n k f same.
      same_known (site_at s n f []) (site_at t k f []) (local_of f x) (at_place s t same n k f [] []));
  elem = λ a subs h. subst (λ e. IsSameAt e.does) (sym (sense-Elem w a subs)) (λ s t n k f same.
      same_then (target_of w a (map (sense w) subs) s n f) (target_of w a (map (sense w) subs) t k f) _ _ (same_target w a subs h s t n k f same)
      (λ is. ap (λ z. Read z (element_at w a is) (λ v. Ret v)) (at_place s t same (n + elements_in (map (sense w) subs)) (k + elements_in (map (sense w) subs)) f is is)));
  unary = λ op a p. subst (λ e. IsSameAt e.does) (sym (sense-Unary w op a)) (λ s t n k f same.
      same_then ((sense w a).does s n f) ((sense w a).does t k f) _ _ (p s t n k f same)
      (λ x. same_answered (site_at s n f []) (site_at t k f []) (unary_of op x) (at_place s t same n k f [] [])));
  binary = λ op a b p q. subst (λ e. IsSameAt e.does) (sym (sense-Binary w op a b)) (λ s t n k f same.
      same_then ((sense w a).does s n f) ((sense w a).does t k f) _ _ (p s t n k f same) (λ x.
      same_then ((sense w b).does s (n + (sense w a).elements) f) ((sense w b).does t (k + (sense w a).elements) f) _ _ (q s t _ _ f same)
      (λ y. same_answered (site_at s n f []) (site_at t k f []) (binary_of op x y) (at_place s t same n k f [] []))));
  both = λ a b p q. subst (λ e. IsSameAt e.does) (sym (sense-And w a b)) (λ s t n k f same.
      same_then ((sense w a).does s n f) ((sense w a).does t k f) _ _ (p s t n k f same) (λ x. same_one (is_true x) _ _ _ _
      (same_then ((sense w b).does s (n + (sense w a).elements) f) ((sense w b).does t (k + (sense w a).elements) f) (λ y. Ret (truth (is_true y))) (λ y. Ret (truth (is_true y)))
      (q s t _ _ f same) (λ y. refl)) refl));
  either = λ a b p q. subst (λ e. IsSameAt e.does) (sym (sense-Or w a b)) (λ s t n k f same.
      same_then ((sense w a).does s n f) ((sense w a).does t k f) _ _ (p s t n k f same) (λ x. same_one (is_true x) _ _ _ _ refl
      (same_then ((sense w b).does s (n + (sense w a).elements) f) ((sense w b).does t (k + (sense w a).elements) f) (λ y. Ret (truth (is_true y))) (λ y. Ret (truth (is_true y)))
      (q s t _ _ f same) (λ y. refl))));
  cond = λ c a b r p q. subst (λ e. IsSameAt e.does) (sym (sense-Cond w c a b)) (λ s t n k f same.
      same_then ((sense w c).does s n f) ((sense w c).does t k f) _ _ (r s t n k f same) (λ x.
      same_then (if is_true x then (sense w a).does s (n + (sense w c).elements) f else (sense w b).does s (n + (sense w c).elements + (sense w a).elements) f)
      (if is_true x then (sense w a).does t (k + (sense w c).elements) f else (sense w b).does t (k + (sense w c).elements + (sense w a).elements) f) _ _
      (same_one (is_true x) ((sense w a).does s (n + (sense w c).elements) f) ((sense w b).does s (n + (sense w c).elements + (sense w a).elements) f)
      ((sense w a).does t (k + (sense w c).elements) f) ((sense w b).does t (k + (sense w c).elements + (sense w a).elements) f) (p s t _ _ f same) (q s t _ _ f same)) (λ v. refl)));
  cast = λ c a p. subst (λ e. IsSameAt e.does) (sym (sense-Cast w c a)) (λ s t n k f same.
      same_then ((sense w a).does s n f) ((sense w a).does t k f) _ _ (p s t n k f same) (λ v. refl));
})

-- ---- statements

-- what a piece of program does at two positions
abbrev pub IsSameAnywhere : Step → Type 0
IsSameAnywhere x = (at bt : List ℕ) (f : Frame) → DoSame (x.does at f) (x.does bt f)

abbrev pub IsSameStep : Context → Stmt → Type 0
IsSameStep w x = IsSameAnywhere (step w x)

pub same_list : (w : Context) (xs : List Stmt) → Each (IsSameStep w) xs → (at bt : List ℕ) (k j : ℕ) (f : Frame) → DoSame (does_list w xs at k f) (does_list w xs bt j f)
same_list w [] h at bt k j f = refl
same_list w (x ∷ xs) h at bt k j f =
    same_then ((step w x).does (at ++ k ∷ []) f) ((step w x).does (bt ++ j ∷ []) f) (does_list w xs at (suc k)) (does_list w xs bt (suc j))
    (h.0 (at ++ k ∷ []) (bt ++ j ∷ []) f) (λ g. same_list w xs h.1 at bt (suc k) (suc j) g)

same_scope : (w : Context) (xs : List Stmt) → Each (IsSameStep w) xs → (at bt : List ℕ) (k j : ℕ) (f : Frame) → DoSame (does_scope w xs at k f) (does_scope w xs bt j f)
same_scope w xs h at bt k j f = same_then (does_list w xs at k f) (does_list w xs bt j f) _ _ (same_list w xs h at bt k j f) (λ g. refl)

pub same_turns : (is : List ℤ) (body other : Frame → Tree Frame) → ((f : Frame) → DoSame (body f) (other f)) → (f : Frame) → DoSame (turns is body f) (turns is other f)
same_turns [] body other h f = refl
same_turns (i ∷ is) body other h f =
    same_then (body (inside f i)) (other (inside f i)) _ _ (h (inside f i)) (λ g. same_turns is body other h (outside f g))

same_looping : (w : Context) (test : Test) (by : ℤ) (start limit : Expr) (body other : Frame → Tree Frame) → ((f : Frame) → DoSame (body f) (other f))
    → (place : ℕ) (at bt : List ℕ) (f : Frame)
    → DoSame (looping test by (sense w start) (sense w limit) body (spot place at) f) (looping test by (sense w start) (sense w limit) other (spot place bt) f)
same_looping w test by start limit body other h place at bt f =
    same_then ((sense w start).does (spot place at) 0 f) ((sense w start).does (spot place bt) 0 f) _ _ (same_expr w start (spot place at) (spot place bt) 0 0 f refl) (λ a.
    same_then ((sense w limit).does (spot place at) (sense w start).elements f) ((sense w limit).does (spot place bt) (sense w start).elements f) _ _
    (same_expr w limit (spot place at) (spot place bt) _ _ f refl) (λ b.
    same_turns (iterator_values test (reduced kind.Int (number_of a)) (reduced kind.Int (number_of b)) by) body other h f))

same_assignment : (w : Context) (a : ℕ) (subs : List Expr) (value : Expr) (place : ℕ) (at bt : List ℕ) (f : Frame)
    → DoSame (assignment w a (map (sense w) subs) (sense w value) (spot place at) f) (assignment w a (map (sense w) subs) (sense w value) (spot place bt) f)
same_assignment w a subs value place at bt f =
    let n = elements_in (map (sense w) subs) in
    same_then (target_of w a (map (sense w) subs) (spot place at) 0 f) (target_of w a (map (sense w) subs) (spot place bt) 0 f) _ _
    (same_target w a subs (each_all (λ x. IsSameAt (sense w x).does) (same_expr w) subs) (spot place at) (spot place bt) 0 0 f refl) (λ is.
    same_then ((sense w value).does (spot place at) (suc n) f) ((sense w value).does (spot place bt) (suc n) f) _ _
    (same_expr w value (spot place at) (spot place bt) (suc n) (suc n) f refl) (λ v. refl))

same_addition : (w : Context) (a : ℕ) (atomic : Bool) (n : ℕ) (value : Expr) (place : ℕ) (at bt : List ℕ) (is : List ℕ) (f : Frame)
    → DoSame (addition w a atomic n (sense w value) (spot place at) is f) (addition w a atomic n (sense w value) (spot place bt) is f)
same_addition w a false n value place at bt is f =
    ap (Read (only_place (site_at (spot place at) n f is)) (element_at w a is)) (λ i old.
    same_then ((sense w value).does (spot place at) (suc n) f) ((sense w value).does (spot place bt) (suc n) f)
    (λ v. then_do (answered (site_at (spot place at) n f is) (binary_of binary.Add old v)) (λ sum.
    Write (site_at (spot place at) n f is) (element_at w a is) (converted (array_kind w a) sum) (Ret f)))
    (λ v. then_do (answered (site_at (spot place bt) n f is) (binary_of binary.Add old v)) (λ sum.
    Write (site_at (spot place bt) n f is) (element_at w a is) (converted (array_kind w a) sum) (Ret f)))
    (same_expr w value (spot place at) (spot place bt) (suc n) (suc n) f refl)
    (λ v. same_then (answered (site_at (spot place at) n f is) (binary_of binary.Add old v)) (answered (site_at (spot place bt) n f is) (binary_of binary.Add old v)) _ _
    (same_answered _ _ (binary_of binary.Add old v) refl) (λ sum. refl)) i)
same_addition w a true n value place at bt is f =
    same_then ((sense w value).does (spot place at) (suc n) f) ((sense w value).does (spot place bt) (suc n) f) _ _
    (same_expr w value (spot place at) (spot place bt) (suc n) (suc n) f refl) (λ v.
    same_one (w.may_add a (array_kind w a)) (Add (site_at (spot place at) n f is) (element_at w a is) (converted (array_kind w a) v) (Ret f))
    (Stop (site_at (spot place at) n f is) Forbidden)
    (Add (site_at (spot place bt) n f is) (element_at w a is) (converted (array_kind w a) v) (Ret f)) (Stop (site_at (spot place bt) n f is) Forbidden) refl refl)

same_adding : (w : Context) (a : ℕ) (atomic : Bool) (subs : List Expr) (value : Expr) (place : ℕ) (at bt : List ℕ) (f : Frame)
    → DoSame (adding w a atomic (map (sense w) subs) (sense w value) (spot place at) f) (adding w a atomic (map (sense w) subs) (sense w value) (spot place bt) f)
same_adding w a atomic subs value place at bt f =
    same_then (target_of w a (map (sense w) subs) (spot place at) 0 f) (target_of w a (map (sense w) subs) (spot place bt) 0 f) _ _
    (same_target w a subs (each_all (λ x. IsSameAt (sense w x).does) (same_expr w) subs) (spot place at) (spot place bt) 0 0 f refl)
    (λ is. same_addition w a atomic (elements_in (map (sense w) subs)) value place at bt is f)

same_declaring : (w : Context) (x : ℕ) (init : Option Expr) (place : ℕ) (at bt : List ℕ) (f : Frame)
    → DoSame (declaring w x init (spot place at) f) (declaring w x init (spot place bt) f)
same_declaring w x None place at bt f = refl
same_declaring w x (Some e) place at bt f =
    let g = with_local f x None in
    same_then (initial w (local_kind w x) (spot place at) (Some e) g) (initial w (local_kind w x) (spot place bt) (Some e) g) _ _
    (same_then ((sense w e).does (spot place at) 0 g) ((sense w e).does (spot place bt) 0 g) _ _ (same_expr w e (spot place at) (spot place bt) 0 0 g refl) (λ v. refl))
    (λ v. refl)

same_setting : (w : Context) (x : ℕ) (value : Expr) (place : ℕ) (at bt : List ℕ) (f : Frame)
    → DoSame (setting w x (sense w value) (spot place at) f) (setting w x (sense w value) (spot place bt) f)
same_setting w x value place at bt f =
    same_then ((sense w value).does (spot place at) 0 f) ((sense w value).does (spot place bt) 0 f) _ _ (same_expr w value (spot place at) (spot place bt) 0 0 f refl) (λ v.
    same_one (w.may_set x) (Ret (with_local f x (Some (converted (local_kind w x) v)))) (Stop (site_at (spot place at) (sense w value).elements f []) Forbidden)
    (Ret (with_local f x (Some (converted (local_kind w x) v)))) (Stop (site_at (spot place bt) (sense w value).elements f []) Forbidden) refl refl)

same_branching : (w : Context) (test : Expr) (body other otherwise elsewise : Frame → Tree Frame) → ((f : Frame) → DoSame (body f) (other f)) → ((f : Frame) → DoSame (otherwise f) (elsewise f))
    → (place : ℕ) (at bt : List ℕ) (f : Frame)
    → DoSame (branching (sense w test) body otherwise (spot place at) f) (branching (sense w test) other elsewise (spot place bt) f)
same_branching w test body other otherwise elsewise p q place at bt f =
    same_then ((sense w test).does (spot place at) 0 f) ((sense w test).does (spot place bt) 0 f) _ _ (same_expr w test (spot place at) (spot place bt) 0 0 f refl) (λ v.
    same_one (is_true v) (body f) (otherwise f) (other f) (elsewise f) (p f) (q f))

-- the law: what a statement does does not depend on its position
pub same_step : (w : Context) (x : Stmt) → IsSameStep w x
same_step w = stmt_ind (IsSameStep w) (record {
  assign = λ place a subs value. subst IsSameAnywhere (sym (step-Assign w place a subs value)) (λ at bt f. same_assignment w a subs value place at bt f);
  add_to = λ place a subs value atomic. subst IsSameAnywhere (sym (step-AddTo w place a subs value atomic)) (λ at bt f. same_adding w a atomic subs value place at bt f);
  declare = λ place x init. subst IsSameAnywhere (sym (step-Declare w place x init)) (λ at bt f. same_declaring w x init place at bt f);
  set_local = λ place x value. subst IsSameAnywhere (sym (step-SetLocal w place x value)) (λ at bt f. same_setting w x value place at bt f);
  choice = λ place test body otherwise p q. subst IsSameAnywhere (sym (step-If w place test body otherwise)) (λ at bt f.
      same_branching w test (does_scope w body at 0) (does_scope w body bt 0) (does_scope w otherwise at (length (map (step w) body))) (does_scope w otherwise bt (length (map (step w) body)))
      (λ g. same_scope w body p at bt 0 0 g) (λ g. same_scope w otherwise q at bt _ _ g) place at bt f);
  loop = λ l p. subst IsSameAnywhere (sym (step-For w (roll-Loop l))) (λ at bt f.
      ap placed (loop-roll w l at f)
      ∙ same_looping w l.test l.step l.start l.limit (does_scope w l.body at 0) (does_scope w l.body bt 0) (λ g. same_scope w l.body p at bt 0 0 g) l.place at bt f
      ∙ ap placed (sym (loop-roll w l bt f)));
  block = λ body p. subst IsSameAnywhere (sym (step-Block w body)) (λ at bt f. same_scope w body p at bt 0 0 f);
})

pub same_body : (w : Context) (body : List Stmt) (at bt : List ℕ) (k j : ℕ) (f : Frame) → DoSame (does_scope w body at k f) (does_scope w body bt j f)
same_body w body at bt k j f = same_scope w body (each_all (IsSameStep w) (same_step w) body) at bt k j f

-- so the actions of an iteration are those of its body, wherever it stands
pub actions_are : (takes : Takes) (w : Context) (body : List Stmt) (at : List ℕ) (f : Frame) (answers : List Value)
    → acts (iteration takes w body at f) answers ≡ actions takes w body f answers
actions_are takes w body at f answers =
    same_acts (iteration takes w body at f) (iteration takes w body [] f) answers (same_body (iteration_in takes w body) body at [] 0 0 f)
