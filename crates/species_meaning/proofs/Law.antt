-- What statements and expressions do by their sites is what they do without them.
use Rattle.std.proofs.Common.{◌≡◌, refl, ap, sym, ◌∙◌, subst, ℕ, suc, ◌+◌, List, [], ◌∷◌, ◌++◌, map, length, Option, Some, None, Bool, true, false, if◌then◌else◌, Result, Ok, Err, ℤ}
use Rattle.species_ast.specs.declared.tree.Kind.TheVariants as kind
use Rattle.species_ast.specs.declared.tree.Value.{Value}
use Rattle.species_ast.specs.declared.tree.Test.{Test}
use Rattle.species_ast.specs.declared.tree.Expr.{Expr}
use Rattle.species_ast.specs.declared.tree.Expr.TheOpen.{Expr-F}
use Rattle.species_ast.specs.declared.tree.Expr.TheVariants as expr
use Rattle.species_ast.specs.declared.tree.Kind.{Kind}
use Rattle.species_ast.specs.declared.tree.Unary.{Unary}
use Rattle.species_ast.specs.declared.tree.Binary.{Binary}
use Rattle.species_ast.specs.declared.tree.Stmt.TheVariants as stmt
use Rattle.species_ast.specs.declared.tree.Stmt.{Stmt}
use Rattle.species_ast.specs.declared.tree.Stmt.TheOpen.{Stmt-F}
use Rattle.species_ast.specs.declared.tree.Loop.{Loop, roll-Loop, out-Loop}
use Rattle.species_ast.specs.declared.tree.Unit.{Unit as Program}
use Rattle.species_ast.specs.declared.tree.Binary.TheVariants as binary
use Rattle.species_ast.specs.declared.trap.Trap.{Trap}
use Rattle.species_ast.specs.Operators.{Answer, unary_kind, binary_kind, number_of, reduced, joint, converted, is_true, unary_of, binary_of}
use Rattle.species_ast.specs.Accesses.{sums, Cells, cell, Site, Trapped, Tree, then_do, Outcome, Ended, Stopped, run}
use Rattle.species_ast.specs.Evaluation.{Frame, Context, Spot, Sense, sense, sense_at, site_at, array_kind, local_kind, sizes_of, local_of, with_local, answered, known, tested, values_of, elements_in, indices_in, row_order, element_at}
use Rattle.species_ast.specs.Run.{Step, step, does_list, does_scope, declared_in, cleared, turns, inside, outside, iterator_values, looping, addition, initial, declaring, spot, source_context, source_run, first_frame}
use Rattle.species_ast.specs.Evaluation as senses
use Rattle.species_ast.proofs.Induction.{Each, each_all, expr_ind, stmt_ind}
use Rattle.species_ast.proofs.AccessLaws.{go_on, run-then_do}
use Rattle.species_ast.proofs.Folds.{fold_expr-Literal, fold_expr-Iter, fold_expr-Local, fold_expr-Elem, fold_expr-Unary, fold_expr-Binary, fold_expr-And, fold_expr-Or, fold_expr-Cond, fold_expr-Cast, fold_stmt-Assign, fold_stmt-AddTo, fold_stmt-Declare, fold_stmt-SetLocal, fold_stmt-If, fold_stmt-For, fold_stmt-Block, fold_loop, fold_loop-out}
use Rattle.species_ast.proofs.RunLaws.{sense-Literal, sense-Iter, sense-Local, sense-Elem, sense-Unary, sense-Binary, sense-And, sense-Or, sense-Cond, sense-Cast, step-Assign, step-AddTo, step-Declare, step-SetLocal, step-If, step-For, step-Block, loop-roll}
use Rattle.species_meaning.specs.Effects.{and_then, Reads, answer_in, known_in, placed_in, all_given, target, element, reads_at, reads, after, with_value, Effect, Act, all_done, declared, scope_done, turns_done, summed, initialised, looped, act_at, effect_at, act, effects, loop_effect}

-- ---- parts

abbrev pub outcome : {X : Type 0} → ℕ → Cells → Result X Trap → Outcome X
outcome place m (Ok x) = Ended x m
outcome place m (Err why) = Stopped (Trapped why) place

run_then : {X Y : Type 0} (t : Tree X) (next : X → Tree Y) (r : Result X Trap) (more : X → Result Y Trap) (place : ℕ) (m : Cells)
    → run sums t m ≡ outcome place m r → ((x : X) → run sums (next x) m ≡ outcome place m (more x)) → run sums (then_do t next) m ≡ outcome place m (and_then r more)
run_then t next (Ok x) more place m h k = run-then_do sums t next m ∙ ap (λ o. go_on o (λ x n. run sums (next x) n)) h ∙ k x
run_then t next (Err why) more place m h k = run-then_do sums t next m ∙ ap (λ o. go_on o (λ x n. run sums (next x) n)) h

run_with : {X Y : Type 0} (t : Tree X) (next : X → Tree Y) (r : Result X Trap) (more : X → Outcome Y) (place : ℕ) (m : Cells)
    → run sums t m ≡ outcome place m r → ((x : X) → run sums (next x) m ≡ more x) → run sums (then_do t next) m ≡ with_value place r more
run_with t next (Ok x) more place m h k = run-then_do sums t next m ∙ ap (λ o. go_on o (λ x n. run sums (next x) n)) h ∙ k x
run_with t next (Err why) more place m h k = run-then_do sums t next m ∙ ap (λ o. go_on o (λ x n. run sums (next x) n)) h

go_after : {X Y : Type 0} (o : Outcome X) (next more : X → Cells → Outcome Y) → ((x : X) (n : Cells) → next x n ≡ more x n) → go_on o next ≡ after o more
go_after (Ended x m) next more k = k x m
go_after (Stopped why place) next more k = refl

run_after : {X Y : Type 0} (t : Tree X) (next : X → Tree Y) (o : Outcome X) (more : X → Cells → Outcome Y) (m : Cells)
    → run sums t m ≡ o → ((x : X) (n : Cells) → run sums (next x) n ≡ more x n) → run sums (then_do t next) m ≡ after o more
run_after t next o more m h k = run-then_do sums t next m ∙ ap (λ o. go_on o (λ x n. run sums (next x) n)) h ∙ go_after o (λ x n. run sums (next x) n) more k

run_answered : (s : Site) (m : Cells) (a : Answer) → run sums (answered s a) m ≡ outcome s.place m (answer_in a)
run_answered s m (Ok v) = refl
run_answered s m (Err why) = refl

run_known : (s : Site) (m : Cells) (o : Option Value) → run sums (known s o) m ≡ outcome s.place m (known_in o)
run_known s m (Some v) = refl
run_known s m None = refl

run_one : {X : Type 0} (b : Bool) (t u : Tree X) (x y : Result X Trap) (place : ℕ) (m : Cells) → run sums t m ≡ outcome place m x → run sums u m ≡ outcome place m y
    → run sums (if b then t else u) m ≡ outcome place m (if b then x else y)
run_one true t u x y place m p q = p
run_one false t u x y place m p q = q

-- ---- expressions

abbrev pub Agrees : Sense → Reads → Type 0
Agrees x y = (x.kind ≡ y.kind) × ((s : Spot) (n : ℕ) (f : Frame) (m : Cells) → run sums (x.does s n f) m ≡ outcome s.place m (y.gives f m))

agrees_values : (w : Context) (es : List Expr) → Each (λ x. Agrees (sense w x) (reads w x)) es → (s : Spot) (n : ℕ) (f : Frame) (m : Cells)
    → run sums (values_of (map (sense w) es) s n f) m ≡ outcome s.place m (all_given (map (reads w) es) f m)
agrees_values w [] h s n f m = refl
agrees_values w (x ∷ es) h s n f m =
    run_then ((sense w x).does s n f) _ ((reads w x).gives f m) _ s.place m (h.0.1 s n f m) (λ v.
    run_then (values_of (map (sense w) es) s (n + (sense w x).elements) f) _ (all_given (map (reads w) es) f m) _ s.place m (agrees_values w es h.1 s (n + (sense w x).elements) f m) (λ vs. refl))

run_target : {Y : Type 0} (w : Context) (a : ℕ) (es : List Expr) → Each (λ x. Agrees (sense w x) (reads w x)) es → (s : Spot) (n : ℕ) (f : Frame) (m : Cells)
    → (next : List ℕ → Tree Y) (more : ℕ → Outcome Y) → ((is : List ℕ) → run sums (next is) m ≡ more (row_order (sizes_of w a) is))
    → run sums (then_do (senses.target_of w a (map (sense w) es) s n f) next) m ≡ with_value s.place (target w a (map (reads w) es) f m) more
run_target {Y} w a es h s n f m next more k =
    run-then_do sums (senses.target_of w a (map (sense w) es) s n f) next m
    ∙ ap (λ o. go_on o (λ is c. run sums (next is) c)) (run-then_do sums (values_of (map (sense w) es) s n f) _ m)
    ∙ ap (λ o. go_on (go_on o (λ vs c. run sums (tested (site_at s (n + elements_in (map (sense w) es)) f []) (indices_in (sizes_of w a) vs)) c)) (λ is c. run sums (next is) c)) (agrees_values w es h s n f m)
    ∙ by_values (all_given (map (reads w) es) f m)
  where
    by_indices : (site : Site) → (o : Option (List ℕ)) → go_on (run sums (tested site o) m) (λ is c. run sums (next is) c) ≡ with_value site.place (placed_in (sizes_of w a) o) more
    by_indices site (Some is) = k is
    by_indices site None = refl

    by_values : (r : Result (List Value) Trap)
        → go_on (go_on (outcome s.place m r) (λ vs c. run sums (tested (site_at s (n + elements_in (map (sense w) es)) f []) (indices_in (sizes_of w a) vs)) c)) (λ is c. run sums (next is) c)
        ≡ with_value s.place (and_then r (λ vs. placed_in (sizes_of w a) (indices_in (sizes_of w a) vs))) more
    by_values (Ok vs) = by_indices (site_at s (n + elements_in (map (sense w) es)) f []) (indices_in (sizes_of w a) vs)
    by_values (Err why) = refl

ended_with : {X Y : Type 0} (place : ℕ) (m : Cells) (r : Result X Trap) (more : X → Y) → with_value place r (λ x. Ended (more x) m) ≡ outcome place m (and_then r (λ x. Ok (more x)))
ended_with place m (Ok x) more = refl
ended_with place m (Err why) more = refl

pub reads-Literal : (w : Context) (v : Value) → reads w (expr.Literal v) ≡ reads_at w (Expr-F.Literal v)
reads-Literal w v = fold_expr-Literal (reads_at w) v

pub reads-Iter : (w : Context) (level : ℕ) → reads w (expr.Iter level) ≡ reads_at w (Expr-F.Iter level)
reads-Iter w level = fold_expr-Iter (reads_at w) level

pub reads-Local : (w : Context) (x : ℕ) → reads w (expr.Local x) ≡ reads_at w (Expr-F.Local x)
reads-Local w x = fold_expr-Local (reads_at w) x

pub reads-Elem : (w : Context) (a : ℕ) (subs : List Expr) → reads w (expr.Elem a subs) ≡ reads_at w (Expr-F.Elem a (map (reads w) subs))
reads-Elem w a subs = fold_expr-Elem (reads_at w) a subs

pub reads-Unary : (w : Context) (op : Unary) (a : Expr) → reads w (expr.Unary op a) ≡ reads_at w (Expr-F.Unary op (reads w a))
reads-Unary w op a = fold_expr-Unary (reads_at w) op a

pub reads-Binary : (w : Context) (op : Binary) (a b : Expr) → reads w (expr.Binary op a b) ≡ reads_at w (Expr-F.Binary op (reads w a) (reads w b))
reads-Binary w op a b = fold_expr-Binary (reads_at w) op a b

pub reads-And : (w : Context) (a b : Expr) → reads w (expr.And a b) ≡ reads_at w (Expr-F.And (reads w a) (reads w b))
reads-And w a b = fold_expr-And (reads_at w) a b

pub reads-Or : (w : Context) (a b : Expr) → reads w (expr.Or a b) ≡ reads_at w (Expr-F.Or (reads w a) (reads w b))
reads-Or w a b = fold_expr-Or (reads_at w) a b

pub reads-Cond : (w : Context) (c a b : Expr) → reads w (expr.Cond c a b) ≡ reads_at w (Expr-F.Cond (reads w c) (reads w a) (reads w b))
reads-Cond w c a b = fold_expr-Cond (reads_at w) c a b

pub reads-Cast : (w : Context) (k : Kind) (a : Expr) → reads w (expr.Cast k a) ≡ reads_at w (Expr-F.Cast k (reads w a))
reads-Cast w k a = fold_expr-Cast (reads_at w) k a

both_are : {x y : Sense} {p q : Reads} → x ≡ y → p ≡ q → Agrees y q → Agrees x p
both_are {x} {y} {p} {q} same_x same_p h = subst (λ z. Agrees z p) (sym same_x) (subst (λ z. Agrees y z) (sym same_p) h)

-- an expression that is run gives its value or trap, and leaves the arrays as they are
pub expressions : (w : Context) (x : Expr) → Agrees (sense w x) (reads w x)
expressions w = expr_ind (λ x. Agrees (sense w x) (reads w x)) (record {
  literal = λ v. both_are (sense-Literal w v) (reads-Literal w v) (refl, λ s n f m. refl);
  iter = λ l. both_are (sense-Iter w l) (reads-Iter w l) (refl, λ s n f m. refl);
  local = λ x. both_are (sense-Local w x) (reads-Local w x) (refl, λ s n f m. run_known (site_at s n f []) m (local_of f x));
  elem = λ a subs h. both_are (sense-Elem w a subs) (reads-Elem w a subs) (
    refl,
    λ s n f m.
        run_target w a subs h s n f m _ (λ at. Ended (cell m (element a at)) m) (λ is. refl)
        ∙ ended_with s.place m (target w a (map (reads w) subs) f m) (λ at. cell m (element a at)),
  );
  unary = λ op a p. both_are (sense-Unary w op a) (reads-Unary w op a) (
    ap (unary_kind op) p.0,
    λ s n f m.
        run_then ((sense w a).does s n f) _ ((reads w a).gives f m) _ s.place m (p.1 s n f m) (λ x. run_answered (site_at s n f []) m (unary_of op x)),
  );
  binary = λ op a b p q. both_are (sense-Binary w op a b) (reads-Binary w op a b) (
    (λ i. binary_kind op (p.0 i) (q.0 i)),
    λ s n f m.
        run_then ((sense w a).does s n f) _ ((reads w a).gives f m) _ s.place m (p.1 s n f m) (λ x.
        run_then ((sense w b).does s (n + (sense w a).elements) f) _ ((reads w b).gives f m) _ s.place m (q.1 s (n + (sense w a).elements) f m) (λ y. run_answered (site_at s n f []) m (binary_of op x y))),
  );
  both = λ a b p q. both_are (sense-And w a b) (reads-And w a b) (
    refl,
    λ s n f m.
        run_then ((sense w a).does s n f) _ ((reads w a).gives f m) _ s.place m (p.1 s n f m) (λ x.
        run_one (is_true x) _ _ _ _ s.place m
        (run_then ((sense w b).does s (n + (sense w a).elements) f) _ ((reads w b).gives f m) _ s.place m (q.1 s (n + (sense w a).elements) f m) (λ y. refl)) refl),
  );
  either = λ a b p q. both_are (sense-Or w a b) (reads-Or w a b) (
    refl,
    λ s n f m.
        run_then ((sense w a).does s n f) _ ((reads w a).gives f m) _ s.place m (p.1 s n f m) (λ x.
        run_one (is_true x) _ _ _ _ s.place m refl
        (run_then ((sense w b).does s (n + (sense w a).elements) f) _ ((reads w b).gives f m) _ s.place m (q.1 s (n + (sense w a).elements) f m) (λ y. refl))),
  );
  cond = λ c a b r p q. both_are (sense-Cond w c a b) (reads-Cond w c a b) (
    (λ i. joint (p.0 i) (q.0 i)),
    λ s n f m.
        run_then ((sense w c).does s n f) _ ((reads w c).gives f m) _ s.place m (r.1 s n f m) (λ x.
        run_then (if is_true x then (sense w a).does s (n + (sense w c).elements) f else (sense w b).does s (n + (sense w c).elements + (sense w a).elements) f) _
        (if is_true x then (reads w a).gives f m else (reads w b).gives f m) _ s.place m
        (run_one (is_true x) _ _ _ _ s.place m (p.1 s (n + (sense w c).elements) f m) (q.1 s (n + (sense w c).elements + (sense w a).elements) f m))
        (λ v. ap (λ k. Ended (converted k v) m) (λ i. joint (p.0 i) (q.0 i)))),
  );
  cast = λ k a p. both_are (sense-Cast w k a) (reads-Cast w k a) (
    refl,
    λ s n f m.
        run_then ((sense w a).does s n f) _ ((reads w a).gives f m) _ s.place m (p.1 s n f m) (λ v. refl),
  );
})

each_agrees : (w : Context) (es : List Expr) → Each (λ x. Agrees (sense w x) (reads w x)) es
each_agrees w es = each_all (λ x. Agrees (sense w x) (reads w x)) (expressions w) es

-- ---- statements

abbrev pub AgreesStep : Step → Act → Type 0
AgreesStep x y = (x.declares ≡ y.declares) × ((at : List ℕ) (f : Frame) (m : Cells) → run sums (x.does at f) m ≡ y.does f m)

steps_are : {x y : Step} {p q : Act} → x ≡ y → p ≡ q → AgreesStep y q → AgreesStep x p
steps_are {x} {y} {p} {q} same_x same_p h = subst (λ z. AgreesStep z p) (sym same_x) (subst (λ z. AgreesStep y z) (sym same_p) h)

pub act-Assign : (w : Context) (place a : ℕ) (subs : List Expr) (v : Expr) → act w (stmt.Assign place a subs v) ≡ act_at w (Stmt-F.Assign place a subs v)
act-Assign w place a subs v = fold_stmt-Assign (act_at w) (effect_at w) place a subs v

pub act-AddTo : (w : Context) (place a : ℕ) (subs : List Expr) (v : Expr) (atomic : Bool) → act w (stmt.AddTo place a subs v atomic) ≡ act_at w (Stmt-F.AddTo place a subs v atomic)
act-AddTo w place a subs v atomic = fold_stmt-AddTo (act_at w) (effect_at w) place a subs v atomic

pub act-Declare : (w : Context) (place x : ℕ) (init : Option Expr) → act w (stmt.Declare place x init) ≡ act_at w (Stmt-F.Declare place x init)
act-Declare w place x init = fold_stmt-Declare (act_at w) (effect_at w) place x init

pub act-SetLocal : (w : Context) (place x : ℕ) (v : Expr) → act w (stmt.SetLocal place x v) ≡ act_at w (Stmt-F.SetLocal place x v)
act-SetLocal w place x v = fold_stmt-SetLocal (act_at w) (effect_at w) place x v

pub act-If : (w : Context) (place : ℕ) (test : Expr) (body otherwise : List Stmt) → act w (stmt.If place test body otherwise) ≡ act_at w (Stmt-F.If place test (map (act w) body) (map (act w) otherwise))
act-If w place test body otherwise = fold_stmt-If (act_at w) (effect_at w) place test body otherwise

pub act-For : (w : Context) (l : Loop) → act w (stmt.For l) ≡ act_at w (Stmt-F.For (loop_effect w l))
act-For w l = fold_stmt-For (act_at w) (effect_at w) l

pub act-Block : (w : Context) (body : List Stmt) → act w (stmt.Block body) ≡ act_at w (Stmt-F.Block (map (act w) body))
act-Block w body = fold_stmt-Block (act_at w) (effect_at w) body

pub loop-is : (w : Context) (l : Loop)
    → loop_effect w l ≡ looped (out-Loop l).place (out-Loop l).test (out-Loop l).step (reads w (out-Loop l).start) (reads w (out-Loop l).limit) (scope_done (map (act w) (out-Loop l).body))
loop-is w l = fold_loop-out (act_at w) (effect_at w) l

agrees_list : (w : Context) (ss : List Stmt) → Each (λ x. AgreesStep (step w x) (act w x)) ss → (at : List ℕ) (k : ℕ) (f : Frame) (m : Cells)
    → run sums (does_list w ss at k f) m ≡ all_done (map (act w) ss) f m
agrees_list w [] h at k f m = refl
agrees_list w (x ∷ ss) h at k f m =
    run_after ((step w x).does (at ++ k ∷ []) f) _ ((act w x).does f m) (all_done (map (act w) ss)) m (h.0.1 (at ++ k ∷ []) f m) (λ g n. agrees_list w ss h.1 at (suc k) g n)

agrees_declared : (w : Context) (ss : List Stmt) → Each (λ x. AgreesStep (step w x) (act w x)) ss → declared_in (map (step w) ss) ≡ declared (map (act w) ss)
agrees_declared w [] h = refl
agrees_declared w (x ∷ ss) h = λ i. h.0.0 i ++ agrees_declared w ss h.1 i

agrees_scope : (w : Context) (ss : List Stmt) → Each (λ x. AgreesStep (step w x) (act w x)) ss → (at : List ℕ) (k : ℕ) (f : Frame) (m : Cells)
    → run sums (does_scope w ss at k f) m ≡ scope_done (map (act w) ss) f m
agrees_scope w ss h at k f m =
    run_after (does_list w ss at k f) _ (all_done (map (act w) ss) f m) _ m (agrees_list w ss h at k f m) (λ g n. ap (λ xs. Ended (cleared xs g) n) (agrees_declared w ss h))

agrees_turns : (body : Frame → Tree Frame) (does : Effect) → ((f : Frame) (m : Cells) → run sums (body f) m ≡ does f m) → (is : List ℤ) (f : Frame) (m : Cells)
    → run sums (turns is body f) m ≡ turns_done is does f m
agrees_turns body does h [] f m = refl
agrees_turns body does h (i ∷ is) f m =
    run_after (body (inside f i)) _ (does (inside f i) m) _ m (h (inside f i) m) (λ g n. agrees_turns body does h is (outside f g) n)

agrees_looping : (w : Context) (test : Test) (by : ℤ) (start limit : Expr) (body : Frame → Tree Frame) (does : Effect) → ((f : Frame) (m : Cells) → run sums (body f) m ≡ does f m)
    → (s : Spot) (f : Frame) (m : Cells) → run sums (looping test by (sense w start) (sense w limit) body s f) m ≡ looped s.place test by (reads w start) (reads w limit) does f m
agrees_looping w test by start limit body does h s f m =
    run_with ((sense w start).does s 0 f) _ ((reads w start).gives f m) _ s.place m ((expressions w start).1 s 0 f m) (λ a.
    run_with ((sense w limit).does s (sense w start).elements f) _ ((reads w limit).gives f m) _ s.place m ((expressions w limit).1 s (sense w start).elements f m) (λ b.
    agrees_turns body does h (iterator_values test (reduced kind.Int (number_of a)) (reduced kind.Int (number_of b)) by) f m))

agrees_addition : (u : Program) (a : ℕ) (atomic : Bool) (n : ℕ) (v : Expr) (s : Spot) (is : List ℕ) (f : Frame) (m : Cells)
    → run sums (addition (source_context u) a atomic n (sense (source_context u) v) s is f) m ≡ summed (source_context u) s.place a atomic (row_order (sizes_of (source_context u) a) is) (reads (source_context u) v) f m
agrees_addition u a false n v s is f m =
    let w = source_context u in
    let old = cell m (element_at w a is) in
    run_with ((sense w v).does s (suc n) f) _ ((reads w v).gives f m) _ s.place m ((expressions w v).1 s (suc n) f m) (λ x.
    run_with (answered (site_at s n f is) (binary_of binary.Add old x)) _ (answer_in (binary_of binary.Add old x)) _ s.place m (run_answered (site_at s n f is) m (binary_of binary.Add old x)) (λ sum. refl))
agrees_addition u a true n v s is f m =
    let w = source_context u in
    run_with ((sense w v).does s (suc n) f) _ ((reads w v).gives f m) _ s.place m ((expressions w v).1 s (suc n) f m) (λ x. refl)

agrees_declaring : (w : Context) (x : ℕ) (init : Option Expr) (s : Spot) (f : Frame) (m : Cells) → run sums (declaring w x init s f) m ≡ initialised w s.place x init f m
agrees_declaring w x None s f m = refl
agrees_declaring w x (Some e) s f m =
    let g = with_local f x None in
    run-then_do sums (initial w (local_kind w x) s (Some e) g) _ m
    ∙ ap (λ o. go_on o (λ v n. Ended (with_local f x v) n)) (run_with ((sense w e).does s 0 g) _ ((reads w e).gives g m) (λ v. Ended (Some (converted (local_kind w x) v)) m) s.place m ((expressions w e).1 s 0 g m) (λ v. refl))
    ∙ by ((reads w e).gives g m)
  where
    by : (r : Result Value Trap) → go_on (with_value s.place r (λ v. Ended (Some (converted (local_kind w x) v)) m)) (λ v n. Ended (with_local f x v) n) ≡ with_value s.place r (λ v. Ended (with_local f x (Some (converted (local_kind w x) v))) m)
    by (Ok v) = refl
    by (Err why) = refl

agrees_if : (b : Bool) (t u : Tree Frame) (x y : Outcome Frame) (m : Cells) → run sums t m ≡ x → run sums u m ≡ y → run sums (if b then t else u) m ≡ (if b then x else y)
agrees_if true t u x y m p q = p
agrees_if false t u x y m p q = q

-- a statement that is run does its effect
pub statements : (u : Program) (x : Stmt) → AgreesStep (step (source_context u) x) (act (source_context u) x)
statements u = stmt_ind (λ x. AgreesStep (step (source_context u) x) (act (source_context u) x)) (record {
  assign = λ place a subs v. steps_are (step-Assign w place a subs v) (act-Assign w place a subs v) (
    refl,
    λ at f m.
        run_target w a subs (each_agrees w subs) (spot place at) 0 f m _ _ (λ is.
        run_with ((sense w v).does (spot place at) (suc (elements_in (map (sense w) subs))) f) _ ((reads w v).gives f m) _ place m ((expressions w v).1 (spot place at) (suc (elements_in (map (sense w) subs))) f m) (λ x. refl)),
  );
  add_to = λ place a subs v atomic. steps_are (step-AddTo w place a subs v atomic) (act-AddTo w place a subs v atomic) (
    refl,
    λ at f m.
        run_target w a subs (each_agrees w subs) (spot place at) 0 f m _ (λ p. summed w place a atomic p (reads w v) f m) (λ is.
        agrees_addition u a atomic (elements_in (map (sense w) subs)) v (spot place at) is f m),
  );
  declare = λ place x init. steps_are (step-Declare w place x init) (act-Declare w place x init) (refl, λ at f m. agrees_declaring w x init (spot place at) f m);
  set_local = λ place x v. steps_are (step-SetLocal w place x v) (act-SetLocal w place x v) (
    refl,
    λ at f m.
        run_with ((sense w v).does (spot place at) 0 f) _ ((reads w v).gives f m) _ place m ((expressions w v).1 (spot place at) 0 f m) (λ y. refl),
  );
  choice = λ place test body otherwise p q. steps_are (step-If w place test body otherwise) (act-If w place test body otherwise) (
    refl,
    λ at f m.
        run_with ((sense w test).does (spot place at) 0 f) _ ((reads w test).gives f m) _ place m ((expressions w test).1 (spot place at) 0 f m) (λ v.
        agrees_if (is_true v) _ _ _ _ m (agrees_scope w body p at 0 f m) (agrees_scope w otherwise q at (length (map (step w) body)) f m)),
  );
  loop = λ l p. steps_are (step-For w (roll-Loop l)) (act-For w (roll-Loop l) ∙ ap (λ d. act_at w (Stmt-F.For d)) (fold_loop (act_at w) (effect_at w) l)) (
    refl,
    λ at f m.
        ap (λ t. run sums t m) (loop-roll w l at f)
        ∙ agrees_looping w l.test l.step l.start l.limit (does_scope w l.body at 0) (scope_done (map (act w) l.body)) (λ g n. agrees_scope w l.body p at 0 g n) (spot l.place at) f m,
  );
  block = λ body p. steps_are (step-Block w body) (act-Block w body) (refl, λ at f m. agrees_scope w body p at 0 f m);
})
  where
    w : Context
    w = source_context u

-- the source's run
pub source_run_is : (u : Program) (m : Cells) → source_run sums u m ≡ effects (source_context u) u.body (first_frame u) m
source_run_is u m =
    agrees_list (source_context u) u.body (each_all (λ x. AgreesStep (step (source_context u) x) (act (source_context u) x)) (statements u) u.body) [] 0 (first_frame u) m
