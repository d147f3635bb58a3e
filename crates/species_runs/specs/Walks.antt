-- The next action of a piece of program after so many actions.
use Rattle.std.specs.Prelude.{ℕ, zero, suc, List, [], ◌∷◌, Option, Some, None}
use Rattle.species_ast.specs.declared.action.Action.{Action}
use Rattle.species_ast.specs.declared.action.Action.TheVariants.{Done, Fault}
use Rattle.species_ast.specs.declared.tree.Value.{Value}
use Rattle.species_ast.specs.Accesses.{Tree, Ret, Stop, Read, Write, Add, read_of, write_of, add_of}

-- Where a walk of so many actions leads: to an action; to no action, where there are fewer; or to the end, with what was
-- computed, the answers that are left and the number of actions that are still to be passed.
pub data Walk (X : Type 0) : Type 0 where
  Met : Action → Walk X
  Past : Walk X
  Came : X → List Value → ℕ → Walk X

-- a walk past so many actions, where the reads are answered in order
abbrev pub walk : {X : Type 0} → Tree X → List Value → ℕ → Walk X
walk (Ret x) answers done = Came x answers done
walk (Stop s why) answers zero = Met Fault
walk (Stop s why) answers (suc done) = Past
walk (Read s e more) answers zero = Met (read_of e)
walk (Read s e more) [] (suc done) = Past
walk (Read s e more) (v ∷ answers) (suc done) = walk (more v) answers done
walk (Write s e v more) answers zero = Met (write_of e v)
walk (Write s e v more) answers (suc done) = walk more answers done
walk (Add s e v more) answers zero = Met (add_of e v)
walk (Add s e v more) answers (suc done) = walk more answers done

abbrev pub walk_on : {X Y : Type 0} → Walk X → (X → List Value → ℕ → Walk Y) → Walk Y
walk_on (Met a) next = Met a
walk_on Past next = Past
walk_on (Came x answers done) next = next x answers done

-- the action to which a walk leads; at the end it is Done
abbrev pub entry : {X : Type 0} → Walk X → Option Action
entry (Met a) = Some a
entry Past = None
entry (Came x answers zero) = Some Done
entry (Came x answers (suc done)) = None
