use Rattle.species_notation.proofs.ReadBack.{reads_back}
use Rattle.species_notation.proofs.law.law_notation.Goals as goal

pub returns : goal.returns
returns c = reads_back
