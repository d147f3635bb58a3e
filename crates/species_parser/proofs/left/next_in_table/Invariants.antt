-- What the loop of `next_in_table` keeps, and what falls in each turn.
use Rattle.std.proofs.Common.{◌≡◌, length}
use Rattle.species_ast.specs.Text.Stream.{grammar_tokens}
use Rattle.species_parser.proofs.left.next_in_table.Given as goal

abbrev pub invariant-loop-token : goal.invariant-loop-token
invariant-loop-token l = grammar_tokens l.tokens ≡ grammar_tokens l.fn.tokens

abbrev pub decreases-loop-token : goal.decreases-loop-token
decreases-loop-token l = length l.tokens
