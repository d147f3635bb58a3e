use Rattle.bones_commute.proofs.JoinedTraces.{joined_nests_run}
use Rattle.bones_commute.proofs.laws.law_joined.Goals as goal

pub returns : goal.returns
returns c = joined_nests_run
