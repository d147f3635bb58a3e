use Rattle.species_readback.proofs.MarkedLaws.{marked_reads_back}
use Rattle.species_readback.proofs.law_marked_read_back.Goals as goal

pub returns : goal.returns
returns c = marked_reads_back
