-- What the loop of `load_refusal` keeps, and what falls in each turn.
use Rattle.std.proofs.Common.{length}
use Rattle.species_parser.proofs.Loads.{Counts}
use Rattle.species_parser.proofs.load.load_refusal.Given as goal

abbrev pub invariant-loop-token : goal.invariant-loop-token
invariant-loop-token l = Counts l.fn.tokens l.left l.load

abbrev pub decreases-loop-token : goal.decreases-loop-token
decreases-loop-token l = length l.left
