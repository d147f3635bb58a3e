use Rattle.species_depend.specs.Carried.{Carries}
use Rattle.species_depend.proofs.LeastLemmas.{IsFirstBelow}
use Rattle.species_depend.proofs.search.carried.Given as goal

abbrev pub invariant-loop-p : goal.invariant-loop-p
invariant-loop-p l = IsFirstBelow (Carries l.outer l.level l.exempt) l.refs l.p-index l.first
