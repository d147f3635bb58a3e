use Rattle.species_readback.proofs.SpeciesLemmas.{takes_species_back}
use Rattle.species_readback.proofs.law_species_text.Goals as goal

pub returns : goal.returns
returns c = takes_species_back
