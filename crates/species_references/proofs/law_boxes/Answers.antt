use Rattle.species_references.proofs.BoxLaws.{boxes_hold, boxes_extreme}
use Rattle.species_references.proofs.TurnLaws.{references_have_turns}
use Rattle.species_references.proofs.law_boxes.Goals as goal

pub returns : goal.returns
returns c = record { holds = boxes_hold; extremes = boxes_extreme; turns = references_have_turns }
