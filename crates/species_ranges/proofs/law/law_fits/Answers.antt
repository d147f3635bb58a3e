use Rattle.species_ranges.proofs.KeepLaws.{loops_fit, outermost_fit}
use Rattle.species_ranges.proofs.law.law_fits.Goals as goal

pub returns : goal.returns
returns c = record { fit = loops_fit; outermost = outermost_fit }
