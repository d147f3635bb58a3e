-- What the loop of `grammar_tokens` keeps, and what falls in each turn.
use Rattle.std.proofs.Common.{length}
use Rattle.species_ast.specs.Text.Stream.{stream_of}
use Rattle.species_parser.proofs.Listing.{Gathers}
use Rattle.species_parser.proofs.tokens.grammar_tokens.Given as goal

abbrev pub invariant-loop-tokens : goal.invariant-loop-tokens
invariant-loop-tokens l = Gathers l.tokens.items l.left (stream_of l.bytes)

abbrev pub decreases-loop-tokens : goal.decreases-loop-tokens
decreases-loop-tokens l = length l.left.tokens
