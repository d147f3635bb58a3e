-- Actions that may change places.
use Rattle.std.specs.Prelude.{◌≡◌, ◌⊎◌, Bool, true, false, Option, Some, None}
use Rattle.species_ast.specs.declared.action.Action.{Action}
use Rattle.species_ast.specs.declared.action.Action.TheVariants as action
use Rattle.species_ast.specs.declared.tree.Value.{Value}
use Rattle.species_ast.specs.Accesses.{Joins, Cells, Element}
use Rattle.bones_meaning.specs.Acted.{acted, answer}
use Rattle.bones_meaning.specs.Plays.{element}

abbrev pub named : Action → Option Element
named (action.Read a i) = Some (element a i)
named (action.Write a i v) = Some (element a i)
named (action.Add a i v) = Some (element a i)
named action.Done = None
named action.Fault = None

abbrev pub is_read : Action → Bool
is_read (action.Read a i) = true
is_read x = false

abbrev pub is_add : Action → Bool
is_add (action.Add a i v) = true
is_add x = false

-- the two name different elements, or one of them names none
abbrev pub NameOthers : Action → Action → Type 0
NameOthers x y = (e : Element) → named x ≡ Some e → named y ≡ Some e → ⊥

-- or they are both reads, or both additions
abbrev pub CanSwap : Action → Action → Type 0
CanSwap x y = NameOthers x y ⊎ ((is_read x ≡ true) × (is_read y ≡ true)) ⊎ ((is_add x ≡ true) × (is_add y ≡ true))

-- the arrays and the answers are those of the second action and then the first
abbrev pub AreOfOtherOrder : Joins → Action → Action → Cells → Cells → Option Value → Option Value → Type 0
AreOfOtherOrder join x y old new one other = (new ≡ acted join x (acted join y old)) × (one ≡ answer x (acted join y old)) × (other ≡ answer y old)
