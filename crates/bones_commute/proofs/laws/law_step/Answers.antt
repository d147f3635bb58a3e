use Rattle.bones_commute.proofs.NestPlays.{starts}
use Rattle.bones_commute.proofs.Steps.{law_step, law_goes}
use Rattle.bones_commute.proofs.laws.law_step.Goals as goal

pub returns : goal.returns
returns c = record { starts = starts; steps = law_step; goes_on = law_goes }
