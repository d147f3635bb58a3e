use Rattle.bones_commute.proofs.SwapLaws.{in_either_order}
use Rattle.bones_commute.proofs.laws.law_swap.Goals as goal

pub returns : goal.returns
returns c = in_either_order
