use Rattle.species_occurrences.proofs.LoopLaws.{loops_are_turns, runnings_are_turns, runnings_are_iterations, turns_are_iterations}
use Rattle.species_occurrences.proofs.law_turns.Goals as goal

pub returns : goal.returns
returns c = record { loops = loops_are_turns; runnings = runnings_are_turns; nests = runnings_are_iterations; iterations = turns_are_iterations }
