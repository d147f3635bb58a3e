use Rattle.species_data.proofs.ElementLaws.{written, read}
use Rattle.species_data.proofs.element.element.Goals as goal

pub returns-clause-written : goal.returns-clause-written
returns-clause-written c = written c.args.kind c.args.word.now c.value_of.result c.value_of.ensures

pub returns-clause-read : goal.returns-clause-read
returns-clause-read c = read c.args.kind c.args.word.now c.value_of.result c.value_of.ensures
