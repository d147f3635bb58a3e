use Rattle.species_depend.proofs.SameLemmas.{SameBelow}
use Rattle.species_depend.proofs.alike.same_terms.Given as goal

abbrev pub invariant-loop-i : goal.invariant-loop-i
invariant-loop-i l = SameBelow l.a l.b l.i
