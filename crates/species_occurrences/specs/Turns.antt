-- The turns of a loop as they run, and the accesses of loops and nests, turn by turn and iteration by iteration.
use Rattle.std.specs.Prelude.{◌≡◌, ℕ, List, [], ◌∷◌, ◌++◌, map, flat_map, ℤ}
use Rattle.species_ast.specs.declared.tree.Loop.{Loop}
use Rattle.species_ast.specs.declared.tree.Unit.{Unit as Program}
use Rattle.species_ast.specs.Accesses.{Joins, Cells, Tree, Outcome, Ended, Stopped, run, Access, accesses}
use Rattle.species_ast.specs.Evaluation.{Frame, Context}
use Rattle.species_ast.specs.Run.{inside, outside, source_context, loop_of}
use Rattle.species_ast.specs.Scope.WellMade.{IsWellMade}
use Rattle.species_nests.specs.Arrivals.{header, turn_of, Running, ComesTo}
use Rattle.species_nests.specs.Meetings.{Ran, iterations_in, running_traces}

-- A turn where it begins: the frame, in which the iterator has its value, and the arrays.
pub record Turn : Type 0 where
  pub frame : Frame
  pub arrays : Cells

-- the turns behind what ended; behind what traps there are none
abbrev pub turns_behind : {X : Type 0} → Outcome X → (X → Cells → List Turn) → List Turn
turns_behind (Ended x m) next = next x m
turns_behind (Stopped why place) next = []

-- The turns in which the iterator takes these values. Each begins with the locals and the arrays that the turn before leaves,
-- and the first that traps is the last.
abbrev pub turns_from : Joins → (Frame → Tree Frame) → List ℤ → Frame → Cells → List Turn
turns_from join body [] f m = []
turns_from join body (i ∷ is) f m =
    record { frame = inside f i; arrays = m } ∷ turns_behind (run join (body (inside f i)) m) (λ g n. turns_from join body is (outside f g) n)

-- the turns of a loop at a position, which is run from this frame and these arrays
abbrev pub loop_turns : Joins → Context → Loop → List ℕ → Frame → Cells → List Turn
loop_turns join w l at f m = turns_behind (run join (header w l at f) m) (λ is n. turns_from join (turn_of w l at) is f n)

-- the accesses of turns, each from where it begins
abbrev pub turns_accesses : Joins → (Frame → Tree Frame) → List Turn → List Access
turns_accesses join body ts = flat_map (λ t. accesses join (body t.frame) t.arrays) ts

-- The accesses of a loop are those of its header, and then those of its turns, one after another, whatever its body does.
abbrev pub LoopsAreTheirTurns : Type 0
LoopsAreTheirTurns = (join : Joins) (w : Context) (l : Loop) (at : List ℕ) (f : Frame) (m : Cells)
    → accesses join (loop_of w l at f) m ≡ accesses join (header w l at f) m ++ turns_accesses join (turn_of w l at) (loop_turns join w l at f m)

-- Where the run of a well made unit comes to a loop, the loop's accesses are those of its turns, one after another.
abbrev pub RunningsAreTheirTurns : Type 0
RunningsAreTheirTurns = (join : Joins) (u : Program) (m : Cells) (r : Running) → IsWellMade u → ComesTo join u m r
    → let w = source_context u in
    accesses join (loop_of w r.loop r.at r.frame) r.arrays ≡ turns_accesses join (turn_of w r.loop r.at) (loop_turns join w r.loop r.at r.frame r.arrays)

-- They are also those of the iterations of its nest, one after another, to whatever depth the nest is taken. The iterations end
-- with the first that traps, and each may set locals of the outside.
abbrev pub RunningsAreTheirIterations : Type 0
RunningsAreTheirIterations = (join : Joins) (u : Program) (m : Cells) (d : ℕ) (r : Running) → IsWellMade u → ComesTo join u m r
    → let w = source_context u in accesses join (loop_of w r.loop r.at r.frame) r.arrays ≡ flat_map (λ xs. xs) (running_traces join w d r)

-- A turn as an iteration that ran. The iterations of a nest of one loop are its turns.
abbrev pub ran_in : Joins → (Frame → Tree Frame) → Turn → Ran
ran_in join body t = record { frame = t.frame; accesses = accesses join (body t.frame) t.arrays }

abbrev pub TurnsAreIterations : Type 0
TurnsAreIterations = (join : Joins) (w : Context) (r : Running)
    → iterations_in join w 0 r ≡ map (ran_in join (turn_of w r.loop r.at)) (loop_turns join w r.loop r.at r.frame r.arrays)
