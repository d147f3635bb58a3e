use Rattle.species_readback.proofs.TextLaws.{takes_texts}
use Rattle.species_readback.proofs.law_line_text.Goals as goal

pub returns : goal.returns
returns c = takes_texts
