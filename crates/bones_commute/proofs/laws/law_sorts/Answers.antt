use Rattle.bones_commute.proofs.SortLaws.{sorts_gather, sorts_trade, sorts_keep_values, sorted_units_play}
use Rattle.bones_commute.proofs.laws.law_sorts.Goals as goal

pub returns : goal.returns
returns c = record { gathers = sorts_gather; trades = sorts_trade; keeps = sorts_keep_values; plays = sorted_units_play }
