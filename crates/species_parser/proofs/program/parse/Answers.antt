-- The goals of `parse` that need an answer.
use Rattle.species_parser.proofs.Answering.{accepted_answer, text_answer, load_answer, syntax_answer}
use Rattle.species_parser.proofs.program.parse.Goals as goal

pub returns-clause-accepted : goal.returns-clause-accepted
returns-clause-accepted c = accepted_answer c.args.bytes.now c.read.result c.read.ensures

pub returns-clause-refused_text : goal.returns-clause-refused_text
returns-clause-refused_text c = text_answer c.args.bytes.now c.read.result c.read.ensures

pub returns-clause-refused_load : goal.returns-clause-refused_load
returns-clause-refused_load c = load_answer c.args.bytes.now c.read.result c.read.ensures

pub returns-clause-refused_syntax : goal.returns-clause-refused_syntax
returns-clause-refused_syntax c = syntax_answer c.args.bytes.now c.read.result c.read.ensures
