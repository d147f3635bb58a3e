-- What walks through statements and expressions do by their sites is what they do without them.
use Rattle.std.proofs.Common.{◌≡◌, refl, ap, sym, ◌∙◌, subst, ℕ, zero, suc, ◌+◌, List, [], ◌∷◌, ◌++◌, map, length, Option, Some, None, Bool, true, false, if◌then◌else◌, Result, Ok, Err, ℤ}
use Rattle.species_ast.specs.declared.action.Action.{Action}
use Rattle.species_ast.specs.declared.action.Action.TheVariants as action
use Rattle.species_ast.specs.declared.tree.Kind.TheVariants as kind
use Rattle.species_ast.specs.declared.tree.Value.{Value}
use Rattle.species_ast.specs.declared.tree.Test.{Test}
use Rattle.species_ast.specs.declared.tree.Expr.{Expr}
use Rattle.species_ast.specs.declared.tree.Expr.TheOpen.{Expr-F}
use Rattle.species_ast.specs.declared.tree.Expr.TheVariants as expr
use Rattle.species_ast.specs.declared.tree.Kind.{Kind}
use Rattle.species_ast.specs.declared.tree.Unary.{Unary}
use Rattle.species_ast.specs.declared.tree.Binary.{Binary}
use Rattle.species_ast.specs.declared.tree.Stmt.TheVariants as stmt
use Rattle.species_ast.specs.declared.tree.Stmt.{Stmt}
use Rattle.species_ast.specs.declared.tree.Stmt.TheOpen.{Stmt-F}
use Rattle.species_ast.specs.declared.tree.Loop.{Loop, roll-Loop, out-Loop}
use Rattle.species_ast.specs.declared.tree.Binary.TheVariants as binary
use Rattle.species_ast.specs.declared.trap.Trap.TheVariants as trap
use Rattle.species_ast.specs.Operators.{Answer, unary_kind, binary_kind, number_of, reduced, joint, converted, is_true, unary_of, binary_of}
use Rattle.species_ast.specs.Accesses.{Site, Cause, Trapped, Forbidden, Element, Tree, Ret, Stop, Read, Write, Add, then_do}
use Rattle.species_ast.specs.Evaluation.{Frame, Context, Spot, Sense, sense, trap_of, site_at, array_kind, local_kind, sizes_of, local_of, with_local, answered, known, tested, values_of, elements_in, indices_in, row_order, element_at}
use Rattle.species_ast.specs.Run.{Step, step, does_list, does_scope, declared_in, cleared, turns, inside, outside, iterator_values, looping, addition, initial, declaring, setting, spot}
use Rattle.species_ast.specs.Evaluation as senses
use Rattle.species_ast.proofs.Induction.{Each, each_all, expr_ind, stmt_ind}
use Rattle.species_ast.proofs.Folds.{fold_expr-Literal, fold_expr-Iter, fold_expr-Local, fold_expr-Elem, fold_expr-Unary, fold_expr-Binary, fold_expr-And, fold_expr-Or, fold_expr-Cond, fold_expr-Cast, fold_stmt-Assign, fold_stmt-AddTo, fold_stmt-Declare, fold_stmt-SetLocal, fold_stmt-If, fold_stmt-For, fold_stmt-Block, fold_loop, fold_loop-out}
use Rattle.species_ast.proofs.RunLaws.{sense-Literal, sense-Iter, sense-Local, sense-Elem, sense-Unary, sense-Binary, sense-And, sense-Or, sense-Cond, sense-Cast, step-Assign, step-AddTo, step-Declare, step-SetLocal, step-If, step-For, step-Block, loop-roll}
use Rattle.species_ast.proofs.AccessLaws.{then_do-assoc}
use Rattle.species_runs.specs.Walks.{Walk, Met, Past, Came, walk, walk_on}
use Rattle.species_runs.proofs.WalkLaws.{walk-then_do}
use Rattle.bones_meaning.specs.Tapes.{Tape, tape, passed, Walked, and_then, fault, fault_after, change, changing, ask, asking}
use Rattle.bones_meaning.specs.Places.{capped, capped_action, placed_in}
use Rattle.bones_meaning.specs.Walked.{Reads, answer_in, known_in, all_given, target, reads_at, reads, Effect, Act, all_done, declared, scope_done, turns_done, summed, initialised, looped, act_at, effect_at, act, effects, scope_effect, loop_effect}

-- ---- parts

-- a walk as code tells it, with places that words hold
abbrev pub seen : {X : Type 0} → Walk X → Walked X
seen (Met a) = Err (Some (capped_action a))
seen Past = Err None
seen (Came x vs d) = Ok (passed x (tape vs d))

abbrev pub walked : {X : Type 0} → Tree X → Tape → Walked X
walked t p = seen (walk t p.answers p.done)

seen_on : {X Y : Type 0} (o : Walk X) (next : X → List Value → ℕ → Walk Y) → seen (walk_on o next) ≡ and_then (seen o) (λ x t. seen (next x t.answers t.done))
seen_on (Met a) next = refl
seen_on Past next = refl
seen_on (Came x vs d) next = refl

pub same_next : {X Y : Type 0} (r : Walked X) (next more : X → Tape → Walked Y) → ((x : X) (t : Tape) → next x t ≡ more x t) → and_then r next ≡ and_then r more
same_next (Ok p) next more h = h p.value p.tape
same_next (Err why) next more h = refl

run_then : {X Y : Type 0} (t : Tree X) (next : X → Tree Y) (r : Walked X) (more : X → Tape → Walked Y) (p : Tape)
    → walked t p ≡ r → ((x : X) (u : Tape) → walked (next x) u ≡ more x u) → walked (then_do t next) p ≡ and_then r more
run_then t next r more p h k =
    ap seen (walk-then_do t next p.answers p.done)
    ∙ seen_on (walk t p.answers p.done) (λ x vs d. walk (next x) vs d)
    ∙ ap (λ o. and_then o (λ x u. walked (next x) u)) h
    ∙ same_next r (λ x u. walked (next x) u) more k

pub and_then-assoc : {X Y Z : Type 0} (r : Walked X) (f : X → Tape → Walked Y) (g : Y → Tape → Walked Z) → and_then (and_then r f) g ≡ and_then r (λ x t. and_then (f x t) g)
and_then-assoc (Ok p) f g = refl
and_then-assoc (Err why) f g = refl

stops : {X : Type 0} (s : Site) (why : Cause) (vs : List Value) (d : ℕ) → seen {X = X} (walk (Stop s why) vs d) ≡ fault_after d
stops s why vs zero = refl
stops s why vs (suc d) = refl

stops_before : {X Y : Type 0} (s : Site) (why : Cause) (vs : List Value) (d : ℕ) (more : X → Tape → Walked Y) → seen {X = Y} (walk (Stop s why) vs d) ≡ and_then (fault_after {X = X} d) more
stops_before s why vs zero more = refl
stops_before s why vs (suc d) more = refl

read_then : {Y : Type 0} (s : Site) (e : Element) (next : Value → Tree Y) (more : Value → Tape → Walked Y) (vs : List Value) (d : ℕ)
    → ((v : Value) (u : Tape) → walked (next v) u ≡ more v u) → seen (walk (Read s e next) vs d) ≡ and_then (asking (action.Read e.array (capped e.at)) vs d) more
read_then s e next more vs zero h = refl
read_then s e next more [] (suc d) h = refl
read_then s e next more (v ∷ vs) (suc d) h = h v (tape vs d)

read_is : (s : Site) (e : Element) (vs : List Value) (d : ℕ) → seen (walk (Read s e (λ v. Ret v)) vs d) ≡ asking (action.Read e.array (capped e.at)) vs d
read_is s e vs zero = refl
read_is s e [] (suc d) = refl
read_is s e (v ∷ vs) (suc d) = refl

write_is : {X : Type 0} (s : Site) (e : Element) (v : Value) (x : X) (vs : List Value) (d : ℕ) → seen (walk (Write s e v (Ret x)) vs d) ≡ changing (action.Write e.array (capped e.at) v) x vs d
write_is s e v x vs zero = refl
write_is s e v x vs (suc d) = refl

add_is : {X : Type 0} (s : Site) (e : Element) (v : Value) (x : X) (vs : List Value) (d : ℕ) → seen (walk (Add s e v (Ret x)) vs d) ≡ changing (action.Add e.array (capped e.at) v) x vs d
add_is s e v x vs zero = refl
add_is s e v x vs (suc d) = refl

run_answered : (s : Site) (a : Answer) (p : Tape) → walked (answered s a) p ≡ answer_in a p
run_answered s (Ok v) p = refl
run_answered s (Err why) p = stops s (Trapped (trap_of why)) p.answers p.done

run_known : (s : Site) (o : Option Value) (p : Tape) → walked (known s o) p ≡ known_in o p
run_known s (Some v) p = refl
run_known s None p = stops s (Trapped trap.Unset) p.answers p.done

run_one : {X : Type 0} (b : Bool) (t u : Tree X) (x y : Walked X) (p : Tape) → walked t p ≡ x → walked u p ≡ y → walked (if b then t else u) p ≡ (if b then x else y)
run_one true t u x y p h k = h
run_one false t u x y p h k = k

-- ---- expressions

abbrev pub Agrees : Sense → Reads → Type 0
Agrees x y = (x.kind ≡ y.kind) × ((s : Spot) (n : ℕ) (f : Frame) (p : Tape) → walked (x.does s n f) p ≡ y.gives f p)

agrees_values : (w : Context) (es : List Expr) → Each (λ x. Agrees (sense w x) (reads w x)) es → (s : Spot) (n : ℕ) (f : Frame) (p : Tape)
    → walked (values_of (map (sense w) es) s n f) p ≡ all_given (map (reads w) es) f p
agrees_values w [] h s n f p = refl
agrees_values w (x ∷ es) h s n f p =
    run_then ((sense w x).does s n f) _ ((reads w x).gives f p) _ p (h.0.1 s n f p) (λ v u.
    run_then (values_of (map (sense w) es) s (n + (sense w x).elements) f) _ (all_given (map (reads w) es) f u) _ u (agrees_values w es h.1 s (n + (sense w x).elements) f u) (λ vs r. refl))

run_tested : {Y : Type 0} (sizes : List ℕ) (s : Site) (o : Option (List ℕ)) (next : List ℕ → Tree Y) (more : ℕ → Tape → Walked Y) (p : Tape)
    → ((is : List ℕ) (u : Tape) → walked (next is) u ≡ more (capped (row_order sizes is)) u) → walked (then_do (tested s o) next) p ≡ and_then (placed_in sizes o p) more
run_tested sizes s (Some is) next more p h = h is p
run_tested sizes s None next more p h = stops_before s (Trapped trap.Index) p.answers p.done more

run_target : {Y : Type 0} (w : Context) (a : ℕ) (es : List Expr) → Each (λ x. Agrees (sense w x) (reads w x)) es → (s : Spot) (n : ℕ) (f : Frame) (p : Tape)
    → (next : List ℕ → Tree Y) (more : ℕ → Tape → Walked Y) → ((is : List ℕ) (u : Tape) → walked (next is) u ≡ more (capped (row_order (sizes_of w a) is)) u)
    → walked (then_do (senses.target_of w a (map (sense w) es) s n f) next) p ≡ and_then (target w a (map (reads w) es) f p) more
run_target w a es h s n f p next more k =
    let all = values_of (map (sense w) es) s n f in
    let test : List Value → Tree (List ℕ) = λ vs. tested (site_at s (n + elements_in (map (sense w) es)) f []) (indices_in (sizes_of w a) vs) in
    ap (λ t. walked t p) (then_do-assoc all test next)
    ∙ run_then all (λ vs. then_do (test vs) next) (all_given (map (reads w) es) f p) (λ vs u. and_then (placed_in (sizes_of w a) (indices_in (sizes_of w a) vs) u) more) p (agrees_values w es h s n f p)
    (λ vs u. run_tested (sizes_of w a) (site_at s (n + elements_in (map (sense w) es)) f []) (indices_in (sizes_of w a) vs) next more u k)
    ∙ sym (and_then-assoc (all_given (map (reads w) es) f p) (λ vs u. placed_in (sizes_of w a) (indices_in (sizes_of w a) vs) u) more)

pub reads-Literal : (w : Context) (v : Value) → reads w (expr.Literal v) ≡ reads_at w (Expr-F.Literal v)
reads-Literal w v = fold_expr-Literal (reads_at w) v

pub reads-Iter : (w : Context) (level : ℕ) → reads w (expr.Iter level) ≡ reads_at w (Expr-F.Iter level)
reads-Iter w level = fold_expr-Iter (reads_at w) level

pub reads-Local : (w : Context) (x : ℕ) → reads w (expr.Local x) ≡ reads_at w (Expr-F.Local x)
reads-Local w x = fold_expr-Local (reads_at w) x

pub reads-Elem : (w : Context) (a : ℕ) (subs : List Expr) → reads w (expr.Elem a subs) ≡ reads_at w (Expr-F.Elem a (map (reads w) subs))
reads-Elem w a subs = fold_expr-Elem (reads_at w) a subs

pub reads-Unary : (w : Context) (op : Unary) (a : Expr) → reads w (expr.Unary op a) ≡ reads_at w (Expr-F.Unary op (reads w a))
reads-Unary w op a = fold_expr-Unary (reads_at w) op a

pub reads-Binary : (w : Context) (op : Binary) (a b : Expr) → reads w (expr.Binary op a b) ≡ reads_at w (Expr-F.Binary op (reads w a) (reads w b))
reads-Binary w op a b = fold_expr-Binary (reads_at w) op a b

pub reads-And : (w : Context) (a b : Expr) → reads w (expr.And a b) ≡ reads_at w (Expr-F.And (reads w a) (reads w b))
reads-And w a b = fold_expr-And (reads_at w) a b

pub reads-Or : (w : Context) (a b : Expr) → reads w (expr.Or a b) ≡ reads_at w (Expr-F.Or (reads w a) (reads w b))
reads-Or w a b = fold_expr-Or (reads_at w) a b

pub reads-Cond : (w : Context) (c a b : Expr) → reads w (expr.Cond c a b) ≡ reads_at w (Expr-F.Cond (reads w c) (reads w a) (reads w b))
reads-Cond w c a b = fold_expr-Cond (reads_at w) c a b

pub reads-Cast : (w : Context) (k : Kind) (a : Expr) → reads w (expr.Cast k a) ≡ reads_at w (Expr-F.Cast k (reads w a))
reads-Cast w k a = fold_expr-Cast (reads_at w) k a

both_are : {x y : Sense} {p q : Reads} → x ≡ y → p ≡ q → Agrees y q → Agrees x p
both_are {x} {y} {p} {q} same_x same_p h = subst (λ z. Agrees z p) (sym same_x) (subst (λ z. Agrees y z) (sym same_p) h)

-- a walk through an expression is its equation
pub expressions : (w : Context) (x : Expr) → Agrees (sense w x) (reads w x)
expressions w = expr_ind (λ x. Agrees (sense w x) (reads w x)) (record {
  literal = λ v. both_are (sense-Literal w v) (reads-Literal w v) (refl, λ s n f p. refl);
  iter = λ l. both_are (sense-Iter w l) (reads-Iter w l) (refl, λ s n f p. refl);
  local = λ x. both_are (sense-Local w x) (reads-Local w x) (refl, λ s n f p. run_known (site_at s n f []) (local_of f x) p);
  elem = λ a subs h. both_are (sense-Elem w a subs) (reads-Elem w a subs) (
    refl,
    λ s n f p.
        run_target w a subs h s n f p _ (λ at u. ask (action.Read a at) u) (λ is u. read_is (site_at s (n + elements_in (map (sense w) subs)) f is) (element_at w a is) u.answers u.done),
  );
  unary = λ op a q. both_are (sense-Unary w op a) (reads-Unary w op a) (
    ap (unary_kind op) q.0,
    λ s n f p.
        run_then ((sense w a).does s n f) _ ((reads w a).gives f p) _ p (q.1 s n f p) (λ x u. run_answered (site_at s n f []) (unary_of op x) u),
  );
  binary = λ op a b q r. both_are (sense-Binary w op a b) (reads-Binary w op a b) (
    (λ i. binary_kind op (q.0 i) (r.0 i)),
    λ s n f p.
        run_then ((sense w a).does s n f) _ ((reads w a).gives f p) _ p (q.1 s n f p) (λ x u.
        run_then ((sense w b).does s (n + (sense w a).elements) f) _ ((reads w b).gives f u) _ u (r.1 s (n + (sense w a).elements) f u) (λ y v. run_answered (site_at s n f []) (binary_of op x y) v)),
  );
  both = λ a b q r. both_are (sense-And w a b) (reads-And w a b) (
    refl,
    λ s n f p.
        run_then ((sense w a).does s n f) _ ((reads w a).gives f p) _ p (q.1 s n f p) (λ x u.
        run_one (is_true x) _ _ _ _ u
        (run_then ((sense w b).does s (n + (sense w a).elements) f) _ ((reads w b).gives f u) _ u (r.1 s (n + (sense w a).elements) f u) (λ y v. refl)) refl),
  );
  either = λ a b q r. both_are (sense-Or w a b) (reads-Or w a b) (
    refl,
    λ s n f p.
        run_then ((sense w a).does s n f) _ ((reads w a).gives f p) _ p (q.1 s n f p) (λ x u.
        run_one (is_true x) _ _ _ _ u refl
        (run_then ((sense w b).does s (n + (sense w a).elements) f) _ ((reads w b).gives f u) _ u (r.1 s (n + (sense w a).elements) f u) (λ y v. refl))),
  );
  cond = λ c a b o q r. both_are (sense-Cond w c a b) (reads-Cond w c a b) (
    (λ i. joint (q.0 i) (r.0 i)),
    λ s n f p.
        run_then ((sense w c).does s n f) _ ((reads w c).gives f p) _ p (o.1 s n f p) (λ x u.
        run_then (if is_true x then (sense w a).does s (n + (sense w c).elements) f else (sense w b).does s (n + (sense w c).elements + (sense w a).elements) f) _
        (if is_true x then (reads w a).gives f u else (reads w b).gives f u) _ u
        (run_one (is_true x) _ _ _ _ u (q.1 s (n + (sense w c).elements) f u) (r.1 s (n + (sense w c).elements + (sense w a).elements) f u))
        (λ v t. ap (λ k. Ok (passed (converted k v) t)) (λ i. joint (q.0 i) (r.0 i)))),
  );
  cast = λ k a q. both_are (sense-Cast w k a) (reads-Cast w k a) (
    refl,
    λ s n f p.
        run_then ((sense w a).does s n f) _ ((reads w a).gives f p) _ p (q.1 s n f p) (λ v u. refl),
  );
})

each_agrees : (w : Context) (es : List Expr) → Each (λ x. Agrees (sense w x) (reads w x)) es
each_agrees w es = each_all (λ x. Agrees (sense w x) (reads w x)) (expressions w) es

-- ---- statements

abbrev pub AgreesStep : Step → Act → Type 0
AgreesStep x y = (x.declares ≡ y.declares) × ((at : List ℕ) (f : Frame) (p : Tape) → walked (x.does at f) p ≡ y.does f p)

steps_are : {x y : Step} {p q : Act} → x ≡ y → p ≡ q → AgreesStep y q → AgreesStep x p
steps_are {x} {y} {p} {q} same_x same_p h = subst (λ z. AgreesStep z p) (sym same_x) (subst (λ z. AgreesStep y z) (sym same_p) h)

pub act-Assign : (w : Context) (place a : ℕ) (subs : List Expr) (v : Expr) → act w (stmt.Assign place a subs v) ≡ act_at w (Stmt-F.Assign place a subs v)
act-Assign w place a subs v = fold_stmt-Assign (act_at w) (effect_at w) place a subs v

pub act-AddTo : (w : Context) (place a : ℕ) (subs : List Expr) (v : Expr) (atomic : Bool) → act w (stmt.AddTo place a subs v atomic) ≡ act_at w (Stmt-F.AddTo place a subs v atomic)
act-AddTo w place a subs v atomic = fold_stmt-AddTo (act_at w) (effect_at w) place a subs v atomic

pub act-Declare : (w : Context) (place x : ℕ) (init : Option Expr) → act w (stmt.Declare place x init) ≡ act_at w (Stmt-F.Declare place x init)
act-Declare w place x init = fold_stmt-Declare (act_at w) (effect_at w) place x init

pub act-SetLocal : (w : Context) (place x : ℕ) (v : Expr) → act w (stmt.SetLocal place x v) ≡ act_at w (Stmt-F.SetLocal place x v)
act-SetLocal w place x v = fold_stmt-SetLocal (act_at w) (effect_at w) place x v

pub act-If : (w : Context) (place : ℕ) (test : Expr) (body otherwise : List Stmt) → act w (stmt.If place test body otherwise) ≡ act_at w (Stmt-F.If place test (map (act w) body) (map (act w) otherwise))
act-If w place test body otherwise = fold_stmt-If (act_at w) (effect_at w) place test body otherwise

pub act-For : (w : Context) (l : Loop) → act w (stmt.For l) ≡ act_at w (Stmt-F.For (loop_effect w l))
act-For w l = fold_stmt-For (act_at w) (effect_at w) l

pub act-Block : (w : Context) (body : List Stmt) → act w (stmt.Block body) ≡ act_at w (Stmt-F.Block (map (act w) body))
act-Block w body = fold_stmt-Block (act_at w) (effect_at w) body

pub loop-is : (w : Context) (l : Loop)
    → loop_effect w l ≡ looped (out-Loop l).test (out-Loop l).step (reads w (out-Loop l).start) (reads w (out-Loop l).limit) (scope_done (map (act w) (out-Loop l).body))
loop-is w l = fold_loop-out (act_at w) (effect_at w) l

agrees_list : (w : Context) (ss : List Stmt) → Each (λ x. AgreesStep (step w x) (act w x)) ss → (at : List ℕ) (k : ℕ) (f : Frame) (p : Tape)
    → walked (does_list w ss at k f) p ≡ all_done (map (act w) ss) f p
agrees_list w [] h at k f p = refl
agrees_list w (x ∷ ss) h at k f p =
    run_then ((step w x).does (at ++ k ∷ []) f) _ ((act w x).does f p) (all_done (map (act w) ss)) p (h.0.1 (at ++ k ∷ []) f p) (λ g u. agrees_list w ss h.1 at (suc k) g u)

agrees_declared : (w : Context) (ss : List Stmt) → Each (λ x. AgreesStep (step w x) (act w x)) ss → declared_in (map (step w) ss) ≡ declared (map (act w) ss)
agrees_declared w [] h = refl
agrees_declared w (x ∷ ss) h = λ i. h.0.0 i ++ agrees_declared w ss h.1 i

agrees_scope : (w : Context) (ss : List Stmt) → Each (λ x. AgreesStep (step w x) (act w x)) ss → (at : List ℕ) (k : ℕ) (f : Frame) (p : Tape)
    → walked (does_scope w ss at k f) p ≡ scope_done (map (act w) ss) f p
agrees_scope w ss h at k f p =
    run_then (does_list w ss at k f) _ (all_done (map (act w) ss) f p) _ p (agrees_list w ss h at k f p) (λ g u. ap (λ xs. Ok (passed (cleared xs g) u)) (agrees_declared w ss h))

agrees_turns : (body : Frame → Tree Frame) (does : Effect) → ((f : Frame) (p : Tape) → walked (body f) p ≡ does f p) → (is : List ℤ) (f : Frame) (p : Tape)
    → walked (turns is body f) p ≡ turns_done is does f p
agrees_turns body does h [] f p = refl
agrees_turns body does h (i ∷ is) f p =
    run_then (body (inside f i)) _ (does (inside f i) p) _ p (h (inside f i) p) (λ g u. agrees_turns body does h is (outside f g) u)

agrees_looping : (w : Context) (test : Test) (by : ℤ) (start limit : Expr) (body : Frame → Tree Frame) (does : Effect) → ((f : Frame) (p : Tape) → walked (body f) p ≡ does f p)
    → (s : Spot) (f : Frame) (p : Tape) → walked (looping test by (sense w start) (sense w limit) body s f) p ≡ looped test by (reads w start) (reads w limit) does f p
agrees_looping w test by start limit body does h s f p =
    run_then ((sense w start).does s 0 f) _ ((reads w start).gives f p) _ p ((expressions w start).1 s 0 f p) (λ a u.
    run_then ((sense w limit).does s (sense w start).elements f) _ ((reads w limit).gives f u) _ u ((expressions w limit).1 s (sense w start).elements f u) (λ b r.
    agrees_turns body does h (iterator_values test (reduced kind.Int (number_of a)) (reduced kind.Int (number_of b)) by) f r))

agrees_addition : (w : Context) (a : ℕ) (atomic : Bool) (n : ℕ) (v : Expr) (s : Spot) (is : List ℕ) (f : Frame) (p : Tape)
    → walked (addition w a atomic n (sense w v) s is f) p ≡ summed w a atomic (capped (row_order (sizes_of w a) is)) (reads w v) f p
agrees_addition w a false n v s is f p =
    read_then (site_at s n f is) (element_at w a is) _ _ p.answers p.done (λ old u.
    run_then ((sense w v).does s (suc n) f) _ ((reads w v).gives f u) _ u ((expressions w v).1 s (suc n) f u) (λ x r.
    run_then (answered (site_at s n f is) (binary_of binary.Add old x)) _ (answer_in (binary_of binary.Add old x) r) _ r (run_answered (site_at s n f is) (binary_of binary.Add old x) r) (λ sum t.
    write_is (site_at s n f is) (element_at w a is) (converted (array_kind w a) sum) f t.answers t.done)))
agrees_addition w a true n v s is f p =
    run_then ((sense w v).does s (suc n) f) _ ((reads w v).gives f p) _ p ((expressions w v).1 s (suc n) f p) (λ x u.
    run_one (w.may_add a (array_kind w a)) _ _ _ _ u (add_is (site_at s n f is) (element_at w a is) (converted (array_kind w a) x) f u.answers u.done) (stops (site_at s n f is) Forbidden u.answers u.done))

agrees_declaring : (w : Context) (x : ℕ) (init : Option Expr) (s : Spot) (f : Frame) (p : Tape) → walked (declaring w x init s f) p ≡ initialised w x init f p
agrees_declaring w x None s f p = refl
agrees_declaring w x (Some e) s f p =
    let g = with_local f x None in
    ap (λ t. walked t p) (then_do-assoc ((sense w e).does s 0 g) (λ v. Ret (Some (converted (local_kind w x) v))) (λ v. Ret (with_local f x v)))
    ∙ run_then ((sense w e).does s 0 g) _ ((reads w e).gives g p) _ p ((expressions w e).1 s 0 g p) (λ v u. refl)

-- a walk through a statement is its effect
pub statements : (w : Context) (x : Stmt) → AgreesStep (step w x) (act w x)
statements w = stmt_ind (λ x. AgreesStep (step w x) (act w x)) (record {
  assign = λ place a subs v. steps_are (step-Assign w place a subs v) (act-Assign w place a subs v) (
    refl,
    λ at f p.
        run_target w a subs (each_agrees w subs) (spot place at) 0 f p _ _ (λ is u.
        run_then ((sense w v).does (spot place at) (suc (elements_in (map (sense w) subs))) f) _ ((reads w v).gives f u) _ u ((expressions w v).1 (spot place at) (suc (elements_in (map (sense w) subs))) f u) (λ x r.
        write_is (site_at (spot place at) (elements_in (map (sense w) subs)) f is) (element_at w a is) (converted (array_kind w a) x) f r.answers r.done)),
  );
  add_to = λ place a subs v atomic. steps_are (step-AddTo w place a subs v atomic) (act-AddTo w place a subs v atomic) (
    refl,
    λ at f p.
        run_target w a subs (each_agrees w subs) (spot place at) 0 f p _ (λ q u. summed w a atomic q (reads w v) f u) (λ is u.
        agrees_addition w a atomic (elements_in (map (sense w) subs)) v (spot place at) is f u),
  );
  declare = λ place x init. steps_are (step-Declare w place x init) (act-Declare w place x init) (refl, λ at f p. agrees_declaring w x init (spot place at) f p);
  set_local = λ place x v. steps_are (step-SetLocal w place x v) (act-SetLocal w place x v) (
    refl,
    λ at f p.
        run_then ((sense w v).does (spot place at) 0 f) _ ((reads w v).gives f p) _ p ((expressions w v).1 (spot place at) 0 f p) (λ y u.
        run_one (w.may_set x) _ _ _ _ u refl (stops (site_at (spot place at) (sense w v).elements f []) Forbidden u.answers u.done)),
  );
  choice = λ place test body otherwise q r. steps_are (step-If w place test body otherwise) (act-If w place test body otherwise) (
    refl,
    λ at f p.
        run_then ((sense w test).does (spot place at) 0 f) _ ((reads w test).gives f p) _ p ((expressions w test).1 (spot place at) 0 f p) (λ v u.
        run_one (is_true v) _ _ _ _ u (agrees_scope w body q at 0 f u) (agrees_scope w otherwise r at (length (map (step w) body)) f u)),
  );
  loop = λ l q. steps_are (step-For w (roll-Loop l)) (act-For w (roll-Loop l) ∙ ap (λ d. act_at w (Stmt-F.For d)) (fold_loop (act_at w) (effect_at w) l)) (
    refl,
    λ at f p.
        ap (λ t. walked t p) (loop-roll w l at f)
        ∙ agrees_looping w l.test l.step l.start l.limit (does_scope w l.body at 0) (scope_done (map (act w) l.body)) (λ g u. agrees_scope w l.body q at 0 g u) (spot l.place at) f p,
  );
  block = λ body q. steps_are (step-Block w body) (act-Block w body) (refl, λ at f p. agrees_scope w body q at 0 f p);
})

-- a walk through an iteration
pub scope_walked : (w : Context) (ss : List Stmt) (at : List ℕ) (k : ℕ) (f : Frame) (p : Tape) → walked (does_scope w ss at k f) p ≡ scope_effect w ss f p
scope_walked w ss at k f p = agrees_scope w ss (each_all (λ x. AgreesStep (step w x) (act w x)) (statements w) ss) at k f p
