use Rattle.species_occurrences.proofs.DepthLaws.{marked_nests_are_deep, marked_runnings_are_deep}
use Rattle.species_occurrences.proofs.FrontLaws.{nests_are_fronts, fitting_nests_are_deep}
use Rattle.species_occurrences.proofs.WalkLaws.{placed_loops_are_loops, runnings_are_loops}
use Rattle.species_occurrences.proofs.law_nesting.Goals as goal

pub returns : goal.returns
returns c = record {
  fronts = nests_are_fronts;
  fitting = fitting_nests_are_deep;
  placed = placed_loops_are_loops;
  reached = runnings_are_loops;
  marked = marked_nests_are_deep;
  marked_reached = marked_runnings_are_deep;
}
