-- When a statement begins in a run: the statement, its position, and the frame and the arrays from which it is then run (C17 6.8, 6.8.4.1, 6.8.5.3).
use Rattle.std.specs.Prelude.{◌≡◌, ℕ, suc, List, [], ◌∷◌, ◌++◌, length, true, false, ℤ}
use Rattle.species_ast.specs.declared.tree.Kind.TheVariants as kind
use Rattle.species_ast.specs.declared.tree.Value.{Value}
use Rattle.species_ast.specs.declared.tree.Test.{Test}
use Rattle.species_ast.specs.declared.tree.Expr.{Expr}
use Rattle.species_ast.specs.declared.tree.Loop.{Loop, out-Loop}
use Rattle.species_ast.specs.declared.tree.Stmt.{Stmt}
use Rattle.species_ast.specs.declared.tree.Stmt.TheVariants as stmt
use Rattle.species_ast.specs.Operators.{number_of, reduced, is_true}
use Rattle.species_ast.specs.Accesses.{Joins, Cells, Tree, Ret, then_do, Ended, run}
use Rattle.species_ast.specs.Evaluation.{Frame, Context, Spot, Sense, sense}
use Rattle.species_ast.specs.declared.tree.Unit.{Unit as Program}
use Rattle.species_ast.specs.Run.{source_context, first_frame, inside, turns, iterator_values, does_scope, spot, step}

-- the header of a loop: the start and the limit are evaluated, and give the values that the iterator takes
abbrev pub heading : Test → ℤ → Sense → Sense → Spot → Frame → Tree (List ℤ)
heading test step start limit s f =
    then_do (start.does s 0 f) (λ a. then_do (limit.does s start.elements f) (λ b.
    Ret (iterator_values test (reduced kind.Int (number_of a)) (reduced kind.Int (number_of b)) step)))

abbrev pub header : Context → Loop → List ℕ → Frame → Tree (List ℤ)
header w l at = heading (out-Loop l).test (out-Loop l).step (sense w (out-Loop l).start) (sense w (out-Loop l).limit) (spot (out-Loop l).place at)

-- what one turn of a loop does
abbrev pub turn_of : Context → Loop → List ℕ → Frame → Tree Frame
turn_of w l at = does_scope w (out-Loop l).body at 0

-- A moment of a run at which a statement begins: the statement, the loops around it, the outermost first, its position, and the
-- frame and the arrays from which it is then run.
pub record Moment : Type 0 where
  pub statement : Stmt
  pub around : List Loop
  pub at : List ℕ
  pub frame : Frame
  pub arrays : Cells

mutual
  -- The run of a statement at a position inside these loops, from this frame and these arrays, comes to this moment.
  pub data Reaches (join : Joins) (w : Context) (q : Moment) : Stmt → List Loop → List ℕ → Frame → Cells → Type 0 where
    -- it is the beginning of this very statement
    here : Reaches join w q q.statement q.around q.at q.frame q.arrays
    -- it is in the body of a loop, in the turn of i, and the turns before have ended
    in_turn : (l : Loop) (around : List Loop) (at : List ℕ) (f g : Frame) (m begun n : Cells) (before : List ℤ) (i : ℤ) (behind : List ℤ)
        → run join (header w l at f) m ≡ Ended (before ++ i ∷ behind) begun → run join (turns before (turn_of w l at) f) begun ≡ Ended g n
        → ReachesIn join w q (out-Loop l).body (around ++ l ∷ []) at 0 (inside g i) n → Reaches join w q (stmt.For l) around at f m
    -- it is in the branch that is taken
    in_body : (place : ℕ) (test : Expr) (body otherwise : List Stmt) (around : List Loop) (at : List ℕ) (f : Frame) (m n : Cells) (v : Value)
        → run join ((sense w test).does (spot place at) 0 f) m ≡ Ended v n → is_true v ≡ true
        → ReachesIn join w q body around at 0 f n → Reaches join w q (stmt.If place test body otherwise) around at f m
    in_otherwise : (place : ℕ) (test : Expr) (body otherwise : List Stmt) (around : List Loop) (at : List ℕ) (f : Frame) (m n : Cells) (v : Value)
        → run join ((sense w test).does (spot place at) 0 f) m ≡ Ended v n → is_true v ≡ false
        → ReachesIn join w q otherwise around at (length body) f n → Reaches join w q (stmt.If place test body otherwise) around at f m
    in_block : (body : List Stmt) (around : List Loop) (at : List ℕ) (f : Frame) (m : Cells)
        → ReachesIn join w q body around at 0 f m → Reaches join w q (stmt.Block body) around at f m

  -- The same for the statements of a list, of which the first has number k inside the statement around it.
  pub data ReachesIn (join : Joins) (w : Context) (q : Moment) : List Stmt → List Loop → List ℕ → ℕ → Frame → Cells → Type 0 where
    -- it is in the first
    first : (x : Stmt) (xs : List Stmt) (around : List Loop) (at : List ℕ) (k : ℕ) (f : Frame) (m : Cells)
        → Reaches join w q x around (at ++ k ∷ []) f m → ReachesIn join w q (x ∷ xs) around at k f m
    -- it is behind the first, which has ended
    later : (x : Stmt) (xs : List Stmt) (around : List Loop) (at : List ℕ) (k : ℕ) (f g : Frame) (m n : Cells)
        → run join ((step w x).does (at ++ k ∷ []) f) m ≡ Ended g n
        → ReachesIn join w q xs around at (suc k) g n → ReachesIn join w q (x ∷ xs) around at k f m

-- what is done at a moment, as a tree
abbrev pub begun_at : Context → Moment → Tree Frame
begun_at w q = (step w q.statement).does q.at q.frame

-- In the run of a unit's body from these arrays a statement begins at this moment.
abbrev pub Begins : Joins → Program → Cells → Moment → Type 0
Begins join u m q = ReachesIn join (source_context u) q u.body [] [] 0 (first_frame u) m

-- ---- runnings of loops

-- A running of a loop is a moment at which a loop begins.
pub record Running : Type 0 where
  pub loop : Loop
  pub around : List Loop
  pub at : List ℕ
  pub frame : Frame
  pub arrays : Cells

abbrev pub moment : Running → Moment
moment r = record { statement = stmt.For r.loop; around = r.around; at = r.at; frame = r.frame; arrays = r.arrays }

-- the run of a statement, of a list, of a unit's body comes to this running
abbrev pub Comes : Joins → Context → Running → Stmt → List Loop → List ℕ → Frame → Cells → Type 0
Comes join w r = Reaches join w (moment r)

abbrev pub ComesIn : Joins → Context → Running → List Stmt → List Loop → List ℕ → ℕ → Frame → Cells → Type 0
ComesIn join w r = ReachesIn join w (moment r)

abbrev pub ComesTo : Joins → Program → Cells → Running → Type 0
ComesTo join u m r = Begins join u m (moment r)
