use Rattle.species_classify.proofs.DepthLemmas.{FreeBelow}
use Rattle.species_classify.proofs.bands.depth_of.Given as goal

abbrev pub invariant-loop-level : goal.invariant-loop-level
invariant-loop-level l = FreeBelow l.refs l.outer l.exempt l.level
