use Rattle.std.proofs.Common.{◌≢◌, take, All}
use Rattle.species_classify.proofs.decide.array_of.Given as goal

abbrev pub invariant-loop-reference : goal.invariant-loop-reference
invariant-loop-reference l = All (λ p. p.number ≢ l.number) (take l.reference-index l.reference-items)
