use Rattle.bones_commute.proofs.OrderlyExample.{some_unit}
use Rattle.bones_commute.proofs.UnitLaws.{orderly_units_play, every_interleaving}
use Rattle.bones_commute.proofs.laws.law_plays.Goals as goal

pub returns : goal.returns
returns c = record { any_join = orderly_units_play; of_sums = every_interleaving; some_unit = some_unit }
