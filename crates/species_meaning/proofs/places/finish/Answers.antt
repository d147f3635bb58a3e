use Rattle.species_meaning.proofs.Elements.{left_over}
use Rattle.species_meaning.proofs.places.finish.Goals as goal

pub returns-in_default : goal.returns-in_default
returns-in_default c o h = left_over c.args.sizes.now o c.in_default.len_at_least
