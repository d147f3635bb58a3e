-- What is known of a moment, and of a running, to which a statement of a known form comes.
use Rattle.std.proofs.Common.{◌≡◌, refl, ap, sym, ◌∙◌, subst, ℕ, suc, List, [], ◌∷◌, ◌++◌, length, ℤ, true, false, ◌⊎◌, inl, inr, ⊎_elim}
use Rattle.species_ast.specs.declared.tree.Value.{Value}
use Rattle.species_ast.specs.declared.tree.Expr.{Expr}
use Rattle.species_ast.specs.declared.tree.Loop.{Loop, out-Loop}
use Rattle.species_ast.specs.declared.tree.Stmt.{Stmt, out-Stmt, out-roll-Stmt}
use Rattle.species_ast.specs.declared.tree.Stmt.TheOpen.{Stmt-F}
use Rattle.species_ast.specs.declared.tree.Stmt.TheVariants as stmt
use Rattle.species_ast.specs.Operators.{is_true}
use Rattle.species_ast.specs.Accesses.{Joins, Cells, Ended, run}
use Rattle.species_ast.specs.Evaluation.{Frame, Context, sense}
use Rattle.species_ast.specs.Run.{inside, turns, spot, step}
use Rattle.species_nests.specs.Arrivals.{header, turn_of, Moment, Reaches, here, in_turn, in_body, in_otherwise, in_block, ReachesIn, first, later, Running, moment, Comes}

-- it is in a turn of the loop
pub record InTurn (join : Joins) (w : Context) (q : Moment) (l : Loop) (around : List Loop) (at : List ℕ) (f : Frame) (m : Cells) : Type 0 where
  pub frame : Frame
  pub begun : Cells
  pub arrays : Cells
  pub before : List ℤ
  pub i : ℤ
  pub behind : List ℤ
  pub values : run join (header w l at f) m ≡ Ended (before ++ i ∷ behind) begun
  pub ended : run join (turns before (turn_of w l at) f) begun ≡ Ended frame arrays
  pub inner : ReachesIn join w q (out-Loop l).body (around ++ l ∷ []) at 0 (inside frame i) arrays

-- it is in the branch that is taken
pub record InBranch (join : Joins) (w : Context) (q : Moment) (place : ℕ) (test : Expr) (body otherwise : List Stmt) (around : List Loop) (at : List ℕ) (f : Frame) (m : Cells) : Type 0 where
  pub value : Value
  pub arrays : Cells
  pub tested : run join ((sense w test).does (spot place at) 0 f) m ≡ Ended value arrays
  pub inner : ((is_true value ≡ true) × ReachesIn join w q body around at 0 f arrays) ⊎ ((is_true value ≡ false) × ReachesIn join w q otherwise around at (length body) f arrays)

-- the moment at which this statement begins there
abbrev pub beginning : Stmt → List Loop → List ℕ → Frame → Cells → Moment
beginning x around at f m = record { statement = x; around = around; at = at; frame = f; arrays = m }

-- it is inside the statement
abbrev pub IsInside : (join : Joins) → Context → Moment → Stmt-F Stmt Loop → List Loop → List ℕ → Frame → Cells → Type 0
IsInside join w q (Stmt-F.Assign place a subs value) around at f m = ⊥
IsInside join w q (Stmt-F.AddTo place a subs value atomic) around at f m = ⊥
IsInside join w q (Stmt-F.Declare place x init) around at f m = ⊥
IsInside join w q (Stmt-F.SetLocal place x value) around at f m = ⊥
IsInside join w q (Stmt-F.If place test body otherwise) around at f m = InBranch join w q place test body otherwise around at f m
IsInside join w q (Stmt-F.For l) around at f m = InTurn join w q l around at f m
IsInside join w q (Stmt-F.Block body) around at f m = ReachesIn join w q body around at 0 f m

pub out-For : (l : Loop) → out-Stmt (stmt.For l) ≡ Stmt-F.For l
out-For l = ap out-Stmt (sym (stmt.rolls-For l)) ∙ out-roll-Stmt (Stmt-F.For l)

pub out-If : (place : ℕ) (test : Expr) (body otherwise : List Stmt) → out-Stmt (stmt.If place test body otherwise) ≡ Stmt-F.If place test body otherwise
out-If place test body otherwise = ap out-Stmt (sym (stmt.rolls-If place test body otherwise)) ∙ out-roll-Stmt (Stmt-F.If place test body otherwise)

pub out-Block : (body : List Stmt) → out-Stmt (stmt.Block body) ≡ Stmt-F.Block body
out-Block body = ap out-Stmt (sym (stmt.rolls-Block body)) ∙ out-roll-Stmt (Stmt-F.Block body)

-- it is the beginning of the statement, or inside it
pub reached : (join : Joins) (w : Context) (q : Moment) (x : Stmt) (around : List Loop) (at : List ℕ) (f : Frame) (m : Cells) → Reaches join w q x around at f m
    → (beginning x around at f m ≡ q) ⊎ IsInside join w q (out-Stmt x) around at f m
reached join w q x around at f m here = inl refl
reached join w q x around at f m (in_turn l _ _ _ g _ begun n before i behind is ended inner) =
    inr (subst (λ y. IsInside join w q y around at f m) (sym (out-For l))
    (record { frame = g; begun = begun; arrays = n; before = before; i = i; behind = behind; values = is; ended = ended; inner = inner }))
reached join w q x around at f m (in_body place test body otherwise _ _ _ _ n v is taken inner) =
    inr (subst (λ y. IsInside join w q y around at f m) (sym (out-If place test body otherwise)) (record { value = v; arrays = n; tested = is; inner = inl (taken, inner) }))
reached join w q x around at f m (in_otherwise place test body otherwise _ _ _ _ n v is taken inner) =
    inr (subst (λ y. IsInside join w q y around at f m) (sym (out-If place test body otherwise)) (record { value = v; arrays = n; tested = is; inner = inr (taken, inner) }))
reached join w q x around at f m (in_block body _ _ _ _ inner) = inr (subst (λ y. IsInside join w q y around at f m) (sym (out-Block body)) inner)

-- of a list: it is in the first, or behind it
pub record Behind (join : Joins) (w : Context) (q : Moment) (x : Stmt) (xs : List Stmt) (around : List Loop) (at : List ℕ) (k : ℕ) (f : Frame) (m : Cells) : Type 0 where
  pub frame : Frame
  pub arrays : Cells
  pub ended : run join ((step w x).does (at ++ k ∷ []) f) m ≡ Ended frame arrays
  pub inner : ReachesIn join w q xs around at (suc k) frame arrays

pub reached_in : (join : Joins) (w : Context) (q : Moment) (x : Stmt) (xs : List Stmt) (around : List Loop) (at : List ℕ) (k : ℕ) (f : Frame) (m : Cells) → ReachesIn join w q (x ∷ xs) around at k f m
    → Reaches join w q x around (at ++ k ∷ []) f m ⊎ Behind join w q x xs around at k f m
reached_in join w q x xs around at k f m (first _ _ _ _ _ _ _ inner) = inl inner
reached_in join w q x xs around at k f m (later _ _ _ _ _ _ g _ n ended inner) = inr (record { frame = g; arrays = n; ended = ended; inner = inner })

pub reached_nowhere : (join : Joins) (w : Context) (q : Moment) (around : List Loop) (at : List ℕ) (k : ℕ) (f : Frame) (m : Cells) → ReachesIn join w q [] around at k f m → ⊥
reached_nowhere join w q around at k f m c = none [] refl c
  where
    none : (xs : List Stmt) → xs ≡ [] → ReachesIn join w q xs around at k f m → ⊥
    none xs e (first x rest _ _ _ _ _ inner) = absurd cc
    none xs e (later x rest _ _ _ _ g _ n ended inner) = absurd cc

-- ---- runnings

-- of a running: it is the statement itself, which is a loop, or inside the statement
abbrev pub CameTo : (join : Joins) → Context → Running → Stmt-F Stmt Loop → List Loop → List ℕ → Frame → Cells → Type 0
CameTo join w r (Stmt-F.For l) around at f m = (record { loop = l; around = around; at = at; frame = f; arrays = m } ≡ r) ⊎ InTurn join w (moment r) l around at f m
CameTo join w r x around at f m = IsInside join w (moment r) x around at f m

came_inside : (join : Joins) (w : Context) (r : Running) (x : Stmt-F Stmt Loop) (around : List Loop) (at : List ℕ) (f : Frame) (m : Cells) → IsInside join w (moment r) x around at f m
    → CameTo join w r x around at f m
came_inside join w r (Stmt-F.Assign place a subs value) around at f m c = c
came_inside join w r (Stmt-F.AddTo place a subs value atomic) around at f m c = c
came_inside join w r (Stmt-F.Declare place x init) around at f m c = c
came_inside join w r (Stmt-F.SetLocal place x value) around at f m c = c
came_inside join w r (Stmt-F.If place test body otherwise) around at f m c = c
came_inside join w r (Stmt-F.For l) around at f m c = inr c
came_inside join w r (Stmt-F.Block body) around at f m c = c

pub came_to : (join : Joins) (w : Context) (r : Running) (x : Stmt) (around : List Loop) (at : List ℕ) (f : Frame) (m : Cells) → Comes join w r x around at f m → CameTo join w r (out-Stmt x) around at f m
came_to join w r x around at f m c = ⊎_elim
    (λ e. subst (λ q. CameTo join w r (out-Stmt q.statement) q.around q.at q.frame q.arrays) (sym e)
    (subst (λ y. CameTo join w r y r.around r.at r.frame r.arrays) (sym (out-For r.loop)) (inl refl)))
    (came_inside join w r (out-Stmt x) around at f m)
    (reached join w (moment r) x around at f m c)
