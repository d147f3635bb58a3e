use Rattle.std.proofs.Common.{take}
use Rattle.species_merge.specs.Bands.{moves_of, IsLeastSoFar}
use Rattle.species_merge.proofs.bands.step_of.Given as goal

abbrev pub invariant-loop-term : goal.invariant-loop-term
invariant-loop-term l = IsLeastSoFar (take l.term-index (moves_of l.outer l.bands l.terms)) l.least
