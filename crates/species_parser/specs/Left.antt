-- The tokens that a cursor takes, as the grammar has them.
use Rattle.std.specs.Prelude.{List}
use Rattle.species_ast.specs.Token.{Token}
use Rattle.species_ast.specs.Text.Stream.{grammar_tokens}
use Rattle.species_parser.specs.Given.{seen_tokens}
use Rattle.species_parser.specs.declared.left.Left.{Left}
use Rattle.species_parser.specs.declared.left.Left.TheVariants as left

abbrev pub seen_left : Left → List Token
seen_left (left.Listed tokens) = seen_tokens tokens.now
seen_left (left.Table tokens) = grammar_tokens tokens
