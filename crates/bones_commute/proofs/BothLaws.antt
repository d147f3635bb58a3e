-- Two actions, one after the other, leave what the other order leaves, where additions are sums and the two may change places.
use Rattle.std.proofs.Common.{◌≡◌, ◌∙◌, Option}
use Rattle.species_ast.specs.declared.action.Action.{Action}
use Rattle.species_ast.specs.declared.tree.Value.{Value}
use Rattle.species_ast.specs.Accesses.{sums, Cells}
use Rattle.bones_meaning.specs.Acted.{acted, answer}
use Rattle.bones_commute.specs.Swaps.{CanSwap, AreOfOtherOrder}
use Rattle.bones_commute.proofs.SwapLaws.{in_either_order}
use Rattle.bones_commute.proofs.UnitLaws.{sums_trade}

pub both_orders : (x y : Action) (old new : Cells) (one other : Option Value) → new ≡ acted sums y (acted sums x old) → one ≡ answer x old → other ≡ answer y (acted sums x old)
    → CanSwap x y → AreOfOtherOrder sums x y old new one other
both_orders x y old new one other arrays first second can =
    let turned = in_either_order sums sums_trade x y old can in
    (arrays ∙ turned.0, first ∙ turned.1, second ∙ turned.2)
