use Rattle.species_occurrences.proofs.IterationLaws.{iterations_made}
use Rattle.species_occurrences.proofs.RunningTaken.{moment_taken}
use Rattle.species_occurrences.proofs.UnitLaws.{accesses_are_made, affine_have_their_forms}
use Rattle.species_occurrences.proofs.law_accesses.Goals as goal

pub returns : goal.returns
returns c = record { made = accesses_are_made; affine = affine_have_their_forms; moments = moment_taken; iterations = iterations_made }
