use Rattle.species_classify.proofs.bands.band_of.Goals as goal

pub carried_in-requires : goal.carried_in-requires
carried_in-requires c = c.requires.asked 0 c.requires.some
