-- The goals of `law_places` that need an answer.
use Rattle.species_parser.proofs.Places.{expression_place, declaration_place, statement_place}
use Rattle.species_parser.proofs.law.law_places.Goals as goal

pub returns : goal.returns
returns c = record { expression = expression_place; declaration = declaration_place; statement = statement_place }
