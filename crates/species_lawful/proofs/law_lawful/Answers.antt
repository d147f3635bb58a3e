use Rattle.species_lawful.proofs.LawfulLaws.{lawful_units_are_made}
use Rattle.species_lawful.proofs.law_lawful.Goals as goal

pub returns : goal.returns
returns c = lawful_units_are_made
