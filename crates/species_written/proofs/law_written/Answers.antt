use Rattle.species_written.proofs.WrittenLaws.{reads_written_trees}
use Rattle.species_written.proofs.law_written.Goals as goal

pub returns : goal.returns
returns c = reads_written_trees
