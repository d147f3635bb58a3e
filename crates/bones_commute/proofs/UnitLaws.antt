-- Every play of an orderly unit ends in the arrays of its run.
use Rattle.species_ast.specs.Accesses.{sums}
use Rattle.species_nests.proofs.MarkLaws.{source_ends}
use Rattle.species_nests.proofs.SumLaws.{added_trade}
use Rattle.bones_meaning.specs.Gatherings.{sum_gatherings}
use Rattle.bones_meaning.specs.Courses.{course_of}
use Rattle.bones_commute.specs.Orderly.{OrderlyUnitsPlay, EveryInterleaving}
use Rattle.bones_commute.specs.Trades.{Trades}
use Rattle.bones_commute.proofs.CountLaws.{counts_ranks}
use Rattle.bones_commute.proofs.PlayLaws.{course_plays}
use Rattle.bones_commute.proofs.UnitRuns.{orderly_runs}

pub orderly_units_play : OrderlyUnitsPlay
orderly_units_play join trades gathers u m f last well_made orderly h =
    (course_plays join (course_of gathers u) m f last (orderly_runs join trades gathers u m well_made orderly f last h), counts_ranks join trades gathers u m f last well_made orderly h)

-- sums change places
pub sums_trade : Trades sums
sums_trade a c v w = added_trade c v w

pub every_interleaving : EveryInterleaving
every_interleaving u m f last well_made are adds orderly h =
    orderly_units_play sums sums_trade sum_gatherings u m f last well_made orderly (source_ends u m are adds f last h)
