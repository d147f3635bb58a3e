-- Laws of programs: what each expression and statement does, and how lists and loops are put together.
use Rattle.std.proofs.Common.{◌≡◌, refl, ap, sym, ◌∙◌, ℕ, suc, ◌+◌, List, [], ◌∷◌, ◌++◌, map, flat_map, length, Option, Bool, ℤ, arith}
use Rattle.species_ast.specs.declared.tree.Kind.{Kind}
use Rattle.species_ast.specs.declared.tree.Value.{Value}
use Rattle.species_ast.specs.declared.tree.Unary.{Unary}
use Rattle.species_ast.specs.declared.tree.Binary.{Binary}
use Rattle.species_ast.specs.declared.tree.Expr.{Expr}
use Rattle.species_ast.specs.declared.tree.Expr.TheOpen.{Expr-F}
use Rattle.species_ast.specs.declared.tree.Expr.TheVariants as e
use Rattle.species_ast.specs.declared.tree.Stmt.{Stmt}
use Rattle.species_ast.specs.declared.tree.Stmt.TheOpen.{Loop-F}
use Rattle.species_ast.specs.declared.tree.Stmt.TheVariants as s
use Rattle.species_ast.specs.declared.tree.Loop.{Loop, out-Loop, roll-Loop}
use Rattle.species_ast.specs.Accesses.{Joins, Cells, Tree, then_do, run, accesses}
use Rattle.species_ast.specs.Evaluation.{Frame, Context, sense, sense_at}
use Rattle.species_ast.specs.Run.{turns, inside, outside, step, step_at, loop_at, loop_of, does_list, does_scope, assignment, adding, declaring, setting, branching, looping, plain, spot, locals_at, locals_of, locals_in}
use Rattle.species_ast.proofs.Folds.{fold_expr-Literal, fold_expr-Iter, fold_expr-Local, fold_expr-Elem, fold_expr-Unary, fold_expr-Binary, fold_expr-And, fold_expr-Or, fold_expr-Cond, fold_expr-Cast, fold_stmt-Assign, fold_stmt-AddTo, fold_stmt-Declare, fold_stmt-SetLocal, fold_stmt-If, fold_stmt-For, fold_stmt-Block, fold_loop, fold_loop-out}
use Rattle.species_ast.proofs.AccessLaws.{go_on, accesses_on, run-then_do, accesses-then_do, then_do-assoc}

-- ---- what each expression does

pub sense-Literal : (w : Context) (v : Value) → sense w (e.Literal v) ≡ sense_at w (Expr-F.Literal v)
sense-Literal w v = fold_expr-Literal (sense_at w) v

pub sense-Iter : (w : Context) (level : ℕ) → sense w (e.Iter level) ≡ sense_at w (Expr-F.Iter level)
sense-Iter w level = fold_expr-Iter (sense_at w) level

pub sense-Local : (w : Context) (x : ℕ) → sense w (e.Local x) ≡ sense_at w (Expr-F.Local x)
sense-Local w x = fold_expr-Local (sense_at w) x

pub sense-Elem : (w : Context) (a : ℕ) (subs : List Expr) → sense w (e.Elem a subs) ≡ sense_at w (Expr-F.Elem a (map (sense w) subs))
sense-Elem w a subs = fold_expr-Elem (sense_at w) a subs

pub sense-Unary : (w : Context) (op : Unary) (a : Expr) → sense w (e.Unary op a) ≡ sense_at w (Expr-F.Unary op (sense w a))
sense-Unary w op a = fold_expr-Unary (sense_at w) op a

pub sense-Binary : (w : Context) (op : Binary) (a b : Expr) → sense w (e.Binary op a b) ≡ sense_at w (Expr-F.Binary op (sense w a) (sense w b))
sense-Binary w op a b = fold_expr-Binary (sense_at w) op a b

pub sense-And : (w : Context) (a b : Expr) → sense w (e.And a b) ≡ sense_at w (Expr-F.And (sense w a) (sense w b))
sense-And w a b = fold_expr-And (sense_at w) a b

pub sense-Or : (w : Context) (a b : Expr) → sense w (e.Or a b) ≡ sense_at w (Expr-F.Or (sense w a) (sense w b))
sense-Or w a b = fold_expr-Or (sense_at w) a b

pub sense-Cond : (w : Context) (c a b : Expr) → sense w (e.Cond c a b) ≡ sense_at w (Expr-F.Cond (sense w c) (sense w a) (sense w b))
sense-Cond w c a b = fold_expr-Cond (sense_at w) c a b

pub sense-Cast : (w : Context) (k : Kind) (a : Expr) → sense w (e.Cast k a) ≡ sense_at w (Expr-F.Cast k (sense w a))
sense-Cast w k a = fold_expr-Cast (sense_at w) k a

-- ---- what each statement does

pub step-Assign : (w : Context) (place a : ℕ) (subs : List Expr) (value : Expr)
    → step w (s.Assign place a subs value) ≡ plain (λ at. assignment w a (map (sense w) subs) (sense w value) (spot place at))
step-Assign w place a subs value = fold_stmt-Assign (step_at w) (loop_at w) place a subs value

pub step-AddTo : (w : Context) (place a : ℕ) (subs : List Expr) (value : Expr) (atomic : Bool)
    → step w (s.AddTo place a subs value atomic) ≡ plain (λ at. adding w a atomic (map (sense w) subs) (sense w value) (spot place at))
step-AddTo w place a subs value atomic = fold_stmt-AddTo (step_at w) (loop_at w) place a subs value atomic

pub step-Declare : (w : Context) (place x : ℕ) (init : Option Expr)
    → step w (s.Declare place x init) ≡ record { declares = x ∷ []; does = λ at. declaring w x init (spot place at) }
step-Declare w place x init = fold_stmt-Declare (step_at w) (loop_at w) place x init

pub step-SetLocal : (w : Context) (place x : ℕ) (value : Expr)
    → step w (s.SetLocal place x value) ≡ plain (λ at. setting w x (sense w value) (spot place at))
step-SetLocal w place x value = fold_stmt-SetLocal (step_at w) (loop_at w) place x value

pub step-If : (w : Context) (place : ℕ) (test : Expr) (body otherwise : List Stmt)
    → step w (s.If place test body otherwise)
    ≡ plain (λ at. branching (sense w test) (does_scope w body at 0) (does_scope w otherwise at (length (map (step w) body))) (spot place at))
step-If w place test body otherwise = fold_stmt-If (step_at w) (loop_at w) place test body otherwise

pub step-For : (w : Context) (l : Loop) → step w (s.For l) ≡ plain (loop_of w l)
step-For w l = fold_stmt-For (step_at w) (loop_at w) l

pub step-Block : (w : Context) (body : List Stmt) → step w (s.Block body) ≡ plain (λ at. does_scope w body at 0)
step-Block w body = fold_stmt-Block (step_at w) (loop_at w) body

-- a loop is its header and its turns
pub loop_is : (w : Context) (l : Loop)
    → loop_of w l ≡ (λ at. looping (out-Loop l).test (out-Loop l).step (sense w (out-Loop l).start) (sense w (out-Loop l).limit) (does_scope w (out-Loop l).body at 0) (spot (out-Loop l).place at))
loop_is w l = fold_loop-out (step_at w) (loop_at w) l

pub loop-roll : (w : Context) (l : Loop-F Stmt Loop) (at : List ℕ) (f : Frame)
    → loop_of w (roll-Loop l) at f ≡ looping l.test l.step (sense w l.start) (sense w l.limit) (does_scope w l.body at 0) (spot l.place at) f
loop-roll w l at f = ap (λ d. d at f) (fold_loop (step_at w) (loop_at w) l)

-- ---- the locals that a statement declares at any depth

pub locals-Assign : (place a : ℕ) (subs : List Expr) (value : Expr) → locals_of (s.Assign place a subs value) ≡ []
locals-Assign place a subs value = fold_stmt-Assign locals_at (λ l. flat_map (λ xs. xs) l.body) place a subs value

pub locals-AddTo : (place a : ℕ) (subs : List Expr) (value : Expr) (atomic : Bool) → locals_of (s.AddTo place a subs value atomic) ≡ []
locals-AddTo place a subs value atomic = fold_stmt-AddTo locals_at (λ l. flat_map (λ xs. xs) l.body) place a subs value atomic

pub locals-Declare : (place x : ℕ) (init : Option Expr) → locals_of (s.Declare place x init) ≡ x ∷ []
locals-Declare place x init = fold_stmt-Declare locals_at (λ l. flat_map (λ xs. xs) l.body) place x init

pub locals-SetLocal : (place x : ℕ) (value : Expr) → locals_of (s.SetLocal place x value) ≡ []
locals-SetLocal place x value = fold_stmt-SetLocal locals_at (λ l. flat_map (λ xs. xs) l.body) place x value

pub locals-If : (place : ℕ) (test : Expr) (body otherwise : List Stmt) → locals_of (s.If place test body otherwise) ≡ locals_in body ++ locals_in otherwise
locals-If place test body otherwise = fold_stmt-If locals_at (λ l. flat_map (λ xs. xs) l.body) place test body otherwise

pub locals-Block : (body : List Stmt) → locals_of (s.Block body) ≡ locals_in body
locals-Block body = fold_stmt-Block locals_at (λ l. flat_map (λ xs. xs) l.body) body

pub locals-For : (l : Loop-F Stmt Loop) → locals_of (s.For (roll-Loop l)) ≡ locals_in l.body
locals-For l = fold_stmt-For locals_at (λ l. flat_map (λ xs. xs) l.body) (roll-Loop l) ∙ fold_loop locals_at (λ l. flat_map (λ xs. xs) l.body) l

pub ruleset locals = (locals-Assign, locals-AddTo, locals-Declare, locals-SetLocal, locals-If, locals-Block, locals-For)

-- ---- lists of statements

-- a list is its first statement, and then the rest
pub does_list-cons : (w : Context) (x : Stmt) (xs : List Stmt) (at : List ℕ) (k : ℕ) (f : Frame)
    → does_list w (x ∷ xs) at k f ≡ then_do ((step w x).does (at ++ k ∷ []) f) (does_list w xs at (suc k))
does_list-cons w x xs at k f = refl

-- one list after another
pub does_list-append : (w : Context) (xs ys : List Stmt) (at : List ℕ) (k : ℕ) (f : Frame)
    → does_list w (xs ++ ys) at k f ≡ then_do (does_list w xs at k f) (does_list w ys at (k + length xs))
does_list-append w [] ys at k f =
    let same : k ≡ k + 0 = omega arith in
    ap (λ n. does_list w ys at n f) same
does_list-append w (x ∷ xs) ys at k f =
    let first = (step w x).does (at ++ k ∷ []) f in
    let same : suc k + length xs ≡ k + suc (length xs) = omega arith in
    let rest : (g : Frame) → does_list w (xs ++ ys) at (suc k) g ≡ then_do (does_list w xs at (suc k) g) (does_list w ys at (k + suc (length xs))) =
    λ g. does_list-append w xs ys at (suc k) g ∙ ap (λ n. then_do (does_list w xs at (suc k) g) (does_list w ys at n)) same
    in
    ap (then_do first) (λ i g. rest g i) ∙ sym (then_do-assoc first (does_list w xs at (suc k)) (does_list w ys at (k + suc (length xs))))

pub run_list-cons : (join : Joins) (w : Context) (x : Stmt) (xs : List Stmt) (at : List ℕ) (k : ℕ) (f : Frame) (m : Cells)
    → run join (does_list w (x ∷ xs) at k f) m
    ≡ go_on (run join ((step w x).does (at ++ k ∷ []) f) m) (λ g n. run join (does_list w xs at (suc k) g) n)
run_list-cons join w x xs at k f m = run-then_do join ((step w x).does (at ++ k ∷ []) f) (does_list w xs at (suc k)) m

pub run_list-append : (join : Joins) (w : Context) (xs ys : List Stmt) (at : List ℕ) (k : ℕ) (f : Frame) (m : Cells)
    → run join (does_list w (xs ++ ys) at k f) m
    ≡ go_on (run join (does_list w xs at k f) m) (λ g n. run join (does_list w ys at (k + length xs) g) n)
run_list-append join w xs ys at k f m =
    ap (λ t. run join t m) (does_list-append w xs ys at k f) ∙ run-then_do join (does_list w xs at k f) (does_list w ys at (k + length xs)) m

pub accesses_list-append : (join : Joins) (w : Context) (xs ys : List Stmt) (at : List ℕ) (k : ℕ) (f : Frame) (m : Cells)
    → accesses join (does_list w (xs ++ ys) at k f) m
    ≡ accesses join (does_list w xs at k f) m ++ accesses_on (run join (does_list w xs at k f) m) (λ g n. accesses join (does_list w ys at (k + length xs) g) n)
accesses_list-append join w xs ys at k f m =
    ap (λ t. accesses join t m) (does_list-append w xs ys at k f) ∙ accesses-then_do join (does_list w xs at k f) (does_list w ys at (k + length xs)) m

-- ---- the turns of a loop

-- the turns of a loop are its first turn, and then the rest
pub turns-cons : (i : ℤ) (is : List ℤ) (body : Frame → Tree Frame) (f : Frame)
    → turns (i ∷ is) body f ≡ then_do (body (inside f i)) (λ g. turns is body (outside f g))
turns-cons i is body f = refl

pub turns-append : (is js : List ℤ) (body : Frame → Tree Frame) (f : Frame)
    → turns (is ++ js) body f ≡ then_do (turns is body f) (turns js body)
turns-append [] js body f = refl
turns-append (i ∷ is) js body f =
    ap (then_do (body (inside f i))) (λ d g. turns-append is js body (outside f g) d)
    ∙ sym (then_do-assoc (body (inside f i)) (λ g. turns is body (outside f g)) (turns js body))

pub run_turns-cons : (join : Joins) (i : ℤ) (is : List ℤ) (body : Frame → Tree Frame) (f : Frame) (m : Cells)
    → run join (turns (i ∷ is) body f) m ≡ go_on (run join (body (inside f i)) m) (λ g n. run join (turns is body (outside f g)) n)
run_turns-cons join i is body f m = run-then_do join (body (inside f i)) (λ g. turns is body (outside f g)) m

pub run_turns-append : (join : Joins) (is js : List ℤ) (body : Frame → Tree Frame) (f : Frame) (m : Cells)
    → run join (turns (is ++ js) body f) m ≡ go_on (run join (turns is body f) m) (λ g n. run join (turns js body g) n)
run_turns-append join is js body f m = ap (λ t. run join t m) (turns-append is js body f) ∙ run-then_do join (turns is body f) (turns js body) m

-- the equations of expressions and of statements
pub ruleset folds = (sense-Literal, sense-Iter, sense-Local, sense-Elem, sense-Unary, sense-Binary, sense-And, sense-Or, sense-Cond, sense-Cast, step-Assign, step-AddTo, step-Declare, step-SetLocal, step-If, step-For, step-Block, loop-roll)
