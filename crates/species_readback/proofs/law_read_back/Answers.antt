use Rattle.species_readback.proofs.ReadBackLaws.{reads_back}
use Rattle.species_readback.proofs.law_read_back.Goals as goal

pub returns : goal.returns
returns c = reads_back
