use Rattle.std.proofs.Common.{arith, subst}
use Rattle.species_merge.specs.Bands.{IsLeastSoFar}
use Rattle.species_merge.proofs.BandLemmas.{least_new}
use Rattle.species_merge.proofs.bands.least_with.Goals as goal

pub returns-else-number-other : goal.returns-else-number-other
returns-else-number-other c = λ ns h.
    least_new ns c.in-Some.number c.args.other (omega (arith, c.if-number-other.false)) (subst (λ o. IsLeastSoFar ns o) c.in-Some.is h)
