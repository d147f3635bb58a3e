-- Elements as code finds them.
use Rattle.std.specs.Prelude.{ℕ, ◌-◌, ◌+◌, ◌*◌, ◌^◌, min, List, [], ◌∷◌, Option, None, Some, option_map, option_and_then, Ok}
use Rattle.species_ast.specs.declared.action.Action.{Action}
use Rattle.species_ast.specs.declared.action.Action.TheVariants as action
use Rattle.species_ast.specs.declared.tree.Value.{Value}
use Rattle.species_ast.specs.Operators.{number_of}
use Rattle.species_ast.specs.Evaluation.{index_in, row_order, product}
use Rattle.bones_meaning.specs.Tapes.{Tape, passed, Walked, fault}

-- a place as a word holds it: the greatest word stands for all places that are too great
abbrev pub capped : ℕ → ℕ
capped at = min at (2 ^ 32 - 1)

abbrev pub capped_action : Action → Action
capped_action (action.Read a at) = action.Read a (capped at)
capped_action (action.Write a at v) = action.Write a (capped at) v
capped_action (action.Add a at v) = action.Add a (capped at) v
capped_action action.Done = action.Done
capped_action action.Fault = action.Fault

-- the place of these indices, if each is in its dimension
abbrev pub placed_in : List ℕ → Option (List ℕ) → Tape → Walked ℕ
placed_in sizes (Some is) t = Ok (passed (capped (row_order sizes is)) t)
placed_in sizes None t = fault t

-- the place so far, by Horner's rule, or None where an index lay outside; and the sizes that are left
abbrev pub next_in : List ℕ → Option ℕ → Value → Option ℕ
next_in [] o v = None
next_in (size ∷ sizes) o v = option_and_then (λ n. option_map (λ i. n * size + i) (index_in size (number_of v))) o

abbrev pub tail_of : List ℕ → List ℕ
tail_of [] = []
tail_of (size ∷ sizes) = sizes

-- what is found where these indices follow
abbrev pub found_in : List ℕ → Option ℕ → Option (List ℕ) → Tape → Walked ℕ
found_in sizes None is t = fault t
found_in sizes (Some n) None t = fault t
found_in sizes (Some n) (Some is) t = Ok (passed (capped (n * product sizes + row_order sizes is)) t)
