-- The scripts of a run, and the plays of one nest.
use Rattle.std.specs.Prelude.{ℕ, ◌+◌, List, [], ◌∷◌, length, Option, Some, None}
use Rattle.species_ast.specs.Accesses.{Joins, Cells, cell, changed, Tree, Ret, Stop, Read, Write, Add, Outcome, Ended, Stopped, run}
use Rattle.bones_meaning.specs.Plays.{State, step_of}
use Rattle.bones_commute.specs.Scripts.{Act, Get, Put, Plus, act_on}

abbrev pub then_state : Option State → (State → Option State) → Option State
then_state None next = None
then_state (Some st) next = next st

-- where a list of ranks leads to in one nest, if it is a play
abbrev pub plays : {X : Type 0} → Joins → List (Tree X) → List ℕ → State → Option State
plays join ts [] st = Some st
plays join ts (k ∷ ks) st = then_state (step_of join ts st k) (plays join ts ks)

-- the arrays after all actions of a script
abbrev pub play : Joins → List Act → Cells → Cells
play join [] m = m
play join (a ∷ s) m = play join s (act_on join a m)

-- the actions of an iteration's run, with their answers
abbrev pub trace : {X : Type 0} → Joins → Tree X → Cells → List Act
trace join (Ret x) m = []
trace join (Stop s why) m = []
trace join (Read s p more) m = Get p (cell m p) ∷ trace join (more (cell m p)) m
trace join (Write s p v more) m = Put p v ∷ trace join more (changed m p (λ c. v))
trace join (Add s p v more) m = Plus p v ∷ trace join more (changed m p (λ c. join p.array c v))

abbrev pub left_by : {X : Type 0} → Outcome X → Cells → Cells
left_by (Ended x m) first = m
left_by (Stopped why place) first = first

-- those of iterations that run one after another
abbrev pub scripts : {X : Type 0} → Joins → List (Tree X) → Cells → List (List Act)
scripts join [] m = []
scripts join (t ∷ ts) m = trace join t m ∷ scripts join ts (left_by (run join t m) m)

abbrev pub total : List (List Act) → ℕ
total [] = 0
total (s ∷ ss) = length s + total ss
