-- The goals of `law_reading` that need an answer.
use Rattle.species_parser.proofs.Reading.{reads_one_way}
use Rattle.species_parser.proofs.law.law_reading.Goals as goal

pub returns : goal.returns
returns c = reads_one_way
