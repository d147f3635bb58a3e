-- The goals of `parse_table` that need an answer.
use Rattle.species_parser.specs.Tabled.{as_parsed}
use Rattle.species_parser.proofs.Answering.{accepted_answer, load_answer, syntax_answer}
use Rattle.species_parser.proofs.table.parse_table.Goals as goal

pub returns-clause-accepted : goal.returns-clause-accepted
returns-clause-accepted c = λ bytes unit is h. accepted_answer bytes (as_parsed c.read_table.result) (c.read_table.ensures bytes is) unit h

pub returns-clause-refused_load : goal.returns-clause-refused_load
returns-clause-refused_load c = λ bytes place is h. load_answer bytes (as_parsed c.read_table.result) (c.read_table.ensures bytes is) place h

pub returns-clause-refused_syntax : goal.returns-clause-refused_syntax
returns-clause-refused_syntax c = λ bytes place is h. syntax_answer bytes (as_parsed c.read_table.result) (c.read_table.ensures bytes is) place h
