-- How far a walk through an iteration is: the answers that its reads have not had yet, and how many actions are still to be passed.
use Rattle.std.specs.Prelude.{ℕ, zero, suc, List, [], ◌∷◌, Option, Some, None, Result, Ok, Err}
use Rattle.species_ast.specs.declared.action.Action.{Action}
use Rattle.species_ast.specs.declared.action.Action.TheVariants.{Fault}
use Rattle.species_ast.specs.declared.tree.Value.{Value}

pub record Tape : Type 0 where
  pub answers : List Value
  pub done : ℕ

abbrev pub tape : List Value → ℕ → Tape
tape vs d = record { answers = vs; done = d }

-- what a piece of program computed, and how far the walk is behind it
pub record Passed (X : Type 0) : Type 0 where
  pub value : X
  pub tape : Tape

abbrev pub passed : {X : Type 0} → X → Tape → Passed X
passed x t = record { value = x; tape = t }

-- A piece of program is passed, or the walk ends in it: at the action that was looked for, or because there are fewer actions.
abbrev pub Walked : Type 0 → Type 0
Walked X = Result (Passed X) (Option Action)

abbrev pub and_then : {X Y : Type 0} → Walked X → (X → Tape → Walked Y) → Walked Y
and_then (Ok p) next = next p.value p.tape
and_then (Err why) next = Err why

-- ---- one action

-- the walk ends at a fault
abbrev pub fault_of : ℕ → Option Action
fault_of zero = Some Fault
fault_of (suc d) = None

abbrev pub fault_after : {X : Type 0} → ℕ → Walked X
fault_after d = Err (fault_of d)

abbrev pub fault : {X : Type 0} → Tape → Walked X
fault t = fault_after t.done

-- an action that has no answer
abbrev pub changing : {X : Type 0} → Action → X → List Value → ℕ → Walked X
changing a x vs zero = Err (Some a)
changing a x vs (suc d) = Ok (passed x (tape vs d))

abbrev pub change : {X : Type 0} → Action → X → Tape → Walked X
change a x t = changing a x t.answers t.done

-- a read, and its answer
abbrev pub asking : Action → List Value → ℕ → Walked Value
asking a vs zero = Err (Some a)
asking a [] (suc d) = Err None
asking a (v ∷ vs) (suc d) = Ok (passed v (tape vs d))

abbrev pub ask : Action → Tape → Walked Value
ask a t = asking a t.answers t.done

-- ---- what calls answer

-- a call that leaves this tape
abbrev pub came : {X : Type 0} → Result X (Option Action) → Tape → Walked X
came (Ok x) t = Ok (passed x t)
came (Err why) t = Err why
