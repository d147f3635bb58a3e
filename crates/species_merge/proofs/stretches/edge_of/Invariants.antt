use Rattle.species_merge.proofs.Covering.{IsEdge}
use Rattle.species_merge.proofs.stretches.edge_of.Given as goal

abbrev pub invariant-loop-span : goal.invariant-loop-span
invariant-loop-span l = IsEdge l.spans l.span-index l.at l.last l.edge
