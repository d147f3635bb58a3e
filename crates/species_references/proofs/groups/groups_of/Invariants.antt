use Rattle.species_references.proofs.GroupLemmas.{AreGroupsOf}
use Rattle.species_references.proofs.groups.groups_of.Given as goal

abbrev pub invariant-loop-reference : goal.invariant-loop-reference
invariant-loop-reference l = AreGroupsOf l.refs l.reference-index l.groups.items
