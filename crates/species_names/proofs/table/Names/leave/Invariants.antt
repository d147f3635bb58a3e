use Rattle.std.proofs.Common.{length}
use Rattle.species_names.proofs.TableLaws.{Keeps}
use Rattle.species_names.proofs.table.Names.leave.Given as goal

abbrev pub invariant-loop-self : goal.invariant-loop-self
invariant-loop-self l = Keeps l.initial.self l.self l.depth

abbrev pub decreases-loop-self : goal.decreases-loop-self
decreases-loop-self l = length l.self
