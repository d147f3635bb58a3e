-- The goals of `law_grammar` that need an answer.
use Rattle.species_parser.proofs.Whole.{derives_one_way}
use Rattle.species_parser.proofs.law.law_grammar.Goals as goal

pub returns : goal.returns
returns c = derives_one_way
