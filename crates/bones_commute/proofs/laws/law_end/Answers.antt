use Rattle.bones_commute.proofs.Steps.{law_end}
use Rattle.bones_commute.proofs.laws.law_end.Goals as goal

pub returns : goal.returns
returns c = law_end
