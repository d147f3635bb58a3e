use Rattle.species_readback.proofs.LawfulLaws.{lawful_reads_back}
use Rattle.species_readback.proofs.law_lawful_read_back.Goals as goal

pub returns : goal.returns
returns c = lawful_reads_back
