use Rattle.species_depend.specs.Carried.{Carries}
use Rattle.species_depend.proofs.LeastLemmas.{IsFirstBelow}
use Rattle.species_depend.proofs.groups.carried_in.Given as goal

abbrev pub invariant-loop-first : goal.invariant-loop-first
invariant-loop-first l = IsFirstBelow (Carries l.outer l.level l.exempt) l.refs l.first l.found
