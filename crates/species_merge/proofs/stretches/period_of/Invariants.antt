use Rattle.species_merge.proofs.Covering.{IsPeriodSoFar}
use Rattle.species_merge.proofs.stretches.period_of.Given as goal

abbrev pub invariant-loop-span : goal.invariant-loop-span
invariant-loop-span l = IsPeriodSoFar l.spans l.span-index l.at l.stride l.most l.period
