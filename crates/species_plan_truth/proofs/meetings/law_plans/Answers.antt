use Rattle.species_classify.proofs.AskedLaws.{nest_asked}
use Rattle.species_plan_truth.proofs.MeetLaws.{planned_never_meet}
use Rattle.species_plan_truth.proofs.MeetRunLaws.{planned_runnings_meet}
use Rattle.species_plan_truth.proofs.meetings.law_plans.Goals as goal

pub returns-clause-accesses : goal.returns-clause-accesses
returns-clause-accesses c = planned_never_meet nest_asked

pub returns-clause-runnings : goal.returns-clause-runnings
returns-clause-runnings c = planned_runnings_meet nest_asked
