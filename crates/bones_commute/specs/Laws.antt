-- The laws, for all joins in which the order of what is joined does not matter.
use Rattle.std.specs.Prelude.{List, map}
use Rattle.species_ast.specs.Accesses.{Joins, Cells}
use Rattle.species_ast.specs.Evaluation.{Frame}
use Rattle.species_ast.specs.declared.action.Action.{Action}
use Rattle.bones_meaning.specs.Acted.{acted, answer}
use Rattle.bones_meaning.specs.Plays.{start}
use Rattle.bones_commute.specs.Scripts.{Scripted, IsScripted, script_of, trees, Follows, StepsFollow, StatesGoOn, EndsAreEqual}
use Rattle.bones_commute.specs.Swaps.{CanSwap, AreOfOtherOrder}
use Rattle.bones_commute.specs.Trades.{Trades}

abbrev pub AllStepsFollow : Type 0
AllStepsFollow = (join : Joins) → Trades join → StepsFollow join

abbrev pub AllStatesGoOn : Type 0
AllStatesGoOn = (join : Joins) → Trades join → StatesGoOn join

abbrev pub AllEndsAreEqual : Type 0
AllEndsAreEqual = (join : Joins) → Trades join → EndsAreEqual join

-- The state in which a nest begins follows its scripts.
abbrev pub AllStartsFollow : Type 0
AllStartsFollow = (join : Joins) → Trades join → (first : Cells) (xs : List (Scripted Frame)) → IsScripted join first xs → Follows join first (map script_of xs) (start (trees xs) first)

-- Actions that may change places do the same in either order.
abbrev pub AllSwap : Type 0
AllSwap = (join : Joins) → Trades join → (x y : Action) (old : Cells) → CanSwap x y → AreOfOtherOrder join x y old (acted join y (acted join x old)) (answer x old) (answer y (acted join x old))
