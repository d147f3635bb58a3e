-- The lines of planned nests are true, by the laws of the crates below.
use Rattle.species_classify.proofs.AskedLaws.{nest_asked}
use Rattle.species_lines.proofs.AdditionLaws.{additions_are_marked}
use Rattle.species_lines.proofs.LineLaws.{lines_hold}
use Rattle.species_lines.proofs.OutsideLaws.{domains_are_outside}
use Rattle.species_plan_truth.proofs.LineTruth.{lines_are_true}
use Rattle.species_plan_truth.proofs.LineReadable.{references_are_bounded}
use Rattle.species_plan_truth.proofs.MeetLaws.{planned_never_meet}
use Rattle.species_plan_truth.proofs.TruthSpelt.{units_are_named}
use Rattle.species_plan_truth.proofs.lines.law_lines.Goals as goal

pub returns : goal.returns
returns c = lines_are_true lines_hold domains_are_outside additions_are_marked (planned_never_meet nest_asked) units_are_named references_are_bounded
