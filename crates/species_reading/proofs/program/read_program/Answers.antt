-- The answer is the only one.
use Rattle.species_reading.proofs.AnswerLemmas.{one_answer}
use Rattle.species_reading.proofs.program.read_program.Goals as goal

pub returns-clause-exact : goal.returns-clause-exact
returns-clause-exact c answer h = one_answer c.args.bytes.now c.read.result answer c.read.ensures.answers h
