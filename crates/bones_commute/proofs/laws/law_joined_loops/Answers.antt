use Rattle.bones_commute.proofs.JoinedNests.{joined_loops_run}
use Rattle.bones_commute.proofs.laws.law_joined_loops.Goals as goal

pub returns : goal.returns
returns c = joined_loops_run
