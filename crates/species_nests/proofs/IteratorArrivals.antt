-- The iterators of a moment are values that the loops around it take: an induction over the loops around.
use Rattle.std.proofs.Common.{◌≡◌, sym, subst, ℕ, suc, List, [], ◌∷◌, ◌++◌, length, ℤ}
use Rattle.std.specs.List.{Contains}
use Rattle.species_ast.specs.declared.tree.Loop.{Loop, out-Loop}
use Rattle.species_ast.specs.declared.tree.Stmt.{Stmt}
use Rattle.species_ast.specs.Accesses.{Joins, Cells, Ended, run}
use Rattle.species_ast.specs.Evaluation.{Frame, Context}
use Rattle.species_ast.specs.Run.{step, turns}
use Rattle.species_nests.specs.Arrivals.{header, turn_of, Moment, Reaches, here, in_turn, in_body, in_otherwise, in_block, ReachesIn, first, later}
use Rattle.species_runs.specs.Sites.{IsMadeAt}
use Rattle.species_runs.proofs.EveryLaws.{every_ended}
use Rattle.species_runs.proofs.SiteLaws.{HasIters, sits, sits_scope, sits_turns, each_sits}
use Rattle.species_runs.proofs.TurnLaws.{contains_middle}

-- turns and statements leave the iterators as they were
pub turns_iters : (join : Joins) (w : Context) (l : Loop) (at : List ℕ) (is : List ℤ) (f g : Frame) (m n : Cells) → run join (turns is (turn_of w l at) f) m ≡ Ended g n → g.iters ≡ f.iters
turns_iters join w l at is f g m n h =
    every_ended join (IsMadeAt w at f.iters) (HasIters f) (turns is (turn_of w l at) f) m g n
    (sits_turns w at is (turn_of w l at) (sits_scope w (out-Loop l).body (each_sits w (out-Loop l).body) at 0) f) h

pub step_iters : (join : Joins) (w : Context) (x : Stmt) (at : List ℕ) (f g : Frame) (m n : Cells) → run join ((step w x).does at f) m ≡ Ended g n → g.iters ≡ f.iters
step_iters join w x at f g m n h = every_ended join (IsMadeAt w at f.iters) (HasIters f) ((step w x).does at f) m g n (sits w x at f) h

-- Q goes over from the loops around a loop, with their iterators, to the turns of this loop: in each header that is evaluated
-- there, whatever the locals and the arrays are, each value that the iterator takes
abbrev pub GoesInside : (join : Joins) → Context → (List Loop → List ℤ → Type 0) → Type 0
GoesInside join w Q = (l : Loop) (around : List Loop) (at : List ℕ) (f : Frame) (m begun : Cells) (is : List ℤ) (i : ℤ)
    → Q around f.iters → run join (header w l at f) m ≡ Ended is begun → Contains is i → Q (around ++ l ∷ []) (f.iters ++ i ∷ [])

mutual
  pub reaches_iters : (join : Joins) (w : Context) (Q : List Loop → List ℤ → Type 0) → GoesInside join w Q → (p : Moment) (x : Stmt) (around : List Loop) (at : List ℕ) (f : Frame) (m : Cells)
      → Reaches join w p x around at f m → Q around f.iters → Q p.around p.frame.iters
  reaches_iters join w Q goes p x around at f m here q = q
  reaches_iters join w Q goes p x around at f m (in_turn l _ _ _ g _ begun n before i behind is ended inner) q =
      let kept = turns_iters join w l at before f g begun n ended in
      reaches_in_iters join w Q goes p (out-Loop l).body (around ++ l ∷ []) at 0 _ n inner
      (subst (λ is. Q (around ++ l ∷ []) (is ++ i ∷ [])) (sym kept) (goes l around at f m begun (before ++ i ∷ behind) i q is (contains_middle before i behind)))
  reaches_iters join w Q goes p x around at f m (in_body place test body otherwise _ _ _ _ n v is taken inner) q = reaches_in_iters join w Q goes p body around at 0 f n inner q
  reaches_iters join w Q goes p x around at f m (in_otherwise place test body otherwise _ _ _ _ n v is taken inner) q = reaches_in_iters join w Q goes p otherwise around at (length body) f n inner q
  reaches_iters join w Q goes p x around at f m (in_block body _ _ _ _ inner) q = reaches_in_iters join w Q goes p body around at 0 f m inner q

  pub reaches_in_iters : (join : Joins) (w : Context) (Q : List Loop → List ℤ → Type 0) → GoesInside join w Q → (p : Moment) (xs : List Stmt) (around : List Loop) (at : List ℕ) (k : ℕ) (f : Frame) (m : Cells)
      → ReachesIn join w p xs around at k f m → Q around f.iters → Q p.around p.frame.iters
  reaches_in_iters join w Q goes p xs around at k f m (first x rest _ _ _ _ _ inner) q = reaches_iters join w Q goes p x around (at ++ k ∷ []) f m inner q
  reaches_in_iters join w Q goes p xs around at k f m (later x rest _ _ _ _ g _ n ended inner) q =
      let kept = step_iters join w x (at ++ k ∷ []) f g m n ended in
      reaches_in_iters join w Q goes p rest around at (suc k) g n inner (subst (Q around) (sym kept) q)
