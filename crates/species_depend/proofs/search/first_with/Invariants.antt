use Rattle.species_depend.specs.Carried.{Carries}
use Rattle.species_depend.proofs.LeastLemmas.{IsLeastBelow}
use Rattle.species_depend.proofs.search.first_with.Given as goal

abbrev pub invariant-loop-q : goal.invariant-loop-q
invariant-loop-q l = IsLeastBelow (Carries l.outer l.level l.exempt l.p) l.refs l.q-index l.least
