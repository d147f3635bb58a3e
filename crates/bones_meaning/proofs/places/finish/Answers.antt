use Rattle.bones_meaning.proofs.Elements.{no_place}
use Rattle.bones_meaning.proofs.places.finish.Goals as goal

pub returns-in_default : goal.returns-in_default
returns-in_default c o h = no_place c.args.sizes.now o c.args.tape.now c.fault-in_default.result c.in_default.len_at_least c.fault-in_default.ensures
