use Rattle.species_depend.proofs.DependenceLaws.{refuted_never_meet, free_bands_never_meet}
use Rattle.species_depend.proofs.law_dependences.Goals as goal

pub returns : goal.returns
returns c = record { refuted = refuted_never_meet; free = free_bands_never_meet }
