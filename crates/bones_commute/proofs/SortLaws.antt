-- Laws of lists of sorts: the order of what is joined does not matter.
use Rattle.species_joins.proofs.SortLaws.{sort_trades, sort_closed, sort_swaps, sort_groups}
use Rattle.bones_commute.specs.Sorts.{sort_in, joins_of, gatherings_of, SortsGather, SortsTrade, SortsKeepValues, SortedUnitsPlay}
use Rattle.bones_commute.proofs.UnitLaws.{orderly_units_play}

pub sorts_gather : SortsGather
sorts_gather s = record {
  closed = λ k c v h p q. sort_closed s k c v p q;
  swaps = λ k c v h p q. sort_swaps s k c v h p.0 q.0;
  groups = λ k c v w h p q r. sort_groups s k c v w h p.0 q.0;
}

pub sorts_trade : SortsTrade
sorts_trade sorts a c v w = sort_trades (sort_in sorts a) c v w

pub sorts_keep_values : SortsKeepValues
sorts_keep_values sorts a k c v p q = sort_closed (sort_in sorts a) k c v p q

pub sorted_units_play : SortedUnitsPlay
sorted_units_play sorts u m f last well_made orderly h =
    orderly_units_play (joins_of sorts) (sorts_trade sorts) (gatherings_of sorts) u m f last well_made orderly h
