-- Plays: the interleavings of a nest (OpenMP 4.5, 2.7.1 and 2.13.6), and those of a whole unit.
use Rattle.std.specs.Prelude.{◌≡◌, ℕ, suc, List, [], ◌∷◌, ◌++◌, map, Bool, true, false, ◌&&◌, Option, Some, None, slice_get, slice_set}
use Rattle.species_ast.specs.declared.action.Action.{Action}
use Rattle.species_ast.specs.declared.action.Action.TheVariants as action
use Rattle.species_ast.specs.declared.tree.Value.{Value}
use Rattle.species_ast.specs.Accesses.{Joins, Cells, Element, cell, changed, Tree, acts}
use Rattle.species_ast.specs.Evaluation.{Frame}
use Rattle.bones_meaning.specs.Courses.{Course, Over, Halt, Reading, Writing, Adding, Together}

-- ---- one nest

-- how far an iteration is: the number of its actions that were done, and the answers to its reads among them
pub record Turn : Type 0 where
  pub done : ℕ
  pub got : List Value

abbrev pub not_begun : Turn
not_begun = record { done = 0; got = [] }

-- a running nest: the arrays, and each iteration by rank
pub record State : Type 0 where
  pub cells : Cells
  pub turns : List Turn

abbrev pub start : {X : Type 0} → List (Tree X) → Cells → State
start ts m = record { cells = m; turns = map (λ t. not_begun) ts }

-- an iteration's next action
abbrev pub next_of : {X : Type 0} → Tree X → Turn → Option Action
next_of t turn = slice_get (acts t turn.got) turn.done

-- the arrays and the iteration after an action that is a step
pub record Stepped : Type 0 where
  pub cells : Cells
  pub turn : Turn

abbrev pub element : ℕ → ℕ → Element
element array at = record { array = array; at = at }

abbrev pub further : Turn → List Value → Turn
further turn answers = record { done = suc turn.done; got = turn.got ++ answers }

-- A read is answered by the element's value, a write sets the element, and an addition joins the value to it. The end and a fault are
-- no steps.
abbrev pub stepped : Joins → Cells → Turn → Action → Option Stepped
stepped join m turn (action.Read a i) = Some (record { cells = m; turn = further turn (cell m (element a i) ∷ []) })
stepped join m turn (action.Write a i v) = Some (record { cells = changed m (element a i) (λ c. v); turn = further turn [] })
stepped join m turn (action.Add a i v) = Some (record { cells = changed m (element a i) (λ c. join a c v); turn = further turn [] })
stepped join m turn action.Done = None
stepped join m turn action.Fault = None

abbrev pub after_step : State → ℕ → Option Stepped → Option State
after_step st k None = None
after_step st k (Some s) = Some (record { cells = s.cells; turns = slice_set st.turns k s.turn })

abbrev pub step_by : Joins → State → ℕ → Turn → Option Action → Option State
step_by join st k turn None = None
step_by join st k turn (Some a) = after_step st k (stepped join st.cells turn a)

abbrev pub try_turn : {X : Type 0} → Joins → State → ℕ → Option (Tree X) → Option Turn → Option State
try_turn join st k None turn = None
try_turn join st k (Some t) None = None
try_turn join st k (Some t) (Some turn) = step_by join st k turn (next_of t turn)

-- One step: iteration k does its next action, if this is a read, a write or an addition.
abbrev pub step_of : {X : Type 0} → Joins → List (Tree X) → State → ℕ → Option State
step_of join ts st k = try_turn join st k (slice_get ts k) (slice_get st.turns k)

abbrev pub is_done : Option Action → Bool
is_done (Some action.Done) = true
is_done next = false

-- each iteration is done
abbrev pub all_done : {X : Type 0} → List (Tree X) → List Turn → Bool
all_done [] [] = true
all_done [] (turn ∷ turns) = false
all_done (t ∷ ts) [] = false
all_done (t ∷ ts) (turn ∷ turns) = is_done (next_of t turn) && all_done ts turns

-- ---- a whole unit

-- where a play stands: the unit has come to its end, or is undefined in a sequential part, or a nest runs
pub data Position (X : Type 0) : Type 0 where
  Finished : Cells → Position X
  Undefined : Position X
  InNest : Joins → List (Tree Frame) → State → Course X → Position X

-- the barrier
abbrev pub past_barrier : {X : Type 0} → Bool → Position X → Position X → Position X
past_barrier true behind inside = behind
past_barrier false behind inside = inside

-- Sequential parts run, up to a nest that is not over; an atomic addition in them joins by `join`.
abbrev pub enter : {X : Type 0} → Joins → Course X → Cells → Position X
enter join (Over x) m = Finished m
enter join (Halt s why) m = Undefined
enter join (Reading s e more) m = enter join (more (cell m e)) m
enter join (Writing s e v more) m = enter join more (changed m e (λ c. v))
enter join (Adding s e v more) m = enter join more (changed m e (λ c. join e.array c v))
enter join (Together nest_join ts more) m =
    past_barrier (all_done ts (start ts m).turns) (enter join more m) (InNest nest_join ts (start ts m) more)

abbrev pub arrive : {X : Type 0} → Joins → Joins → List (Tree Frame) → Course X → Option State → Option (Position X)
arrive join nest_join ts more None = None
arrive join nest_join ts more (Some st) = Some (past_barrier (all_done ts st.turns) (enter join more st.cells) (InNest nest_join ts st more))

-- a rank names an iteration of the nest that runs
abbrev pub move : {X : Type 0} → Joins → Position X → ℕ → Option (Position X)
move join (Finished m) k = None
move join Undefined k = None
move join (InNest nest_join ts st more) k = arrive join nest_join ts more (step_of nest_join ts st k)

abbrev pub then_move : {X : Type 0} → Option (Position X) → (Position X → Option (Position X)) → Option (Position X)
then_move None next = None
then_move (Some p) next = next p

-- where a list of ranks leads to, if it is a play
abbrev pub moves : {X : Type 0} → Joins → List ℕ → Position X → Option (Position X)
moves join [] p = Some p
moves join (k ∷ ks) p = then_move (move join p k) (moves join ks)

-- the list of ranks is a play of the course from these arrays, and leads there
abbrev pub IsPlay : {X : Type 0} → Joins → Course X → Cells → List ℕ → Position X → Type 0
IsPlay join c m ks p = moves join ks (enter join c m) ≡ Some p

-- some next action is a fault
abbrev pub HasFault : {X : Type 0} → List (Tree X) → List Turn → Type 0
HasFault ts turns = (k : ℕ) × (t : Tree _) × (turn : Turn) × (slice_get ts k ≡ Some t) × (slice_get turns k ≡ Some turn) × (next_of t turn ≡ Some action.Fault)

-- a play that stands here faults
abbrev pub Faults : {X : Type 0} → Position X → Type 0
Faults (Finished m) = ⊥
Faults Undefined = Unit {0}
Faults (InNest join ts st more) = HasFault ts st.turns

-- a play that stands here is complete
abbrev pub IsComplete : {X : Type 0} → Position X → Type 0
IsComplete (Finished m) = Unit {0}
IsComplete Undefined = ⊥
IsComplete (InNest join ts st more) = ⊥
