-- The goals of `new` that need an answer.
use Rattle.std.proofs.Common.{true, arith}
use Rattle.species_lexer.proofs.Streams.{first, defined_here}
use Rattle.species_lexer.proofs.tokens.Tokens.new.Goals as goal

pub invariant_of-result : goal.invariant_of-result
invariant_of-result c = record { short = c.requires; within = omega arith; reached = first c.args.bytes.now; definitions = defined_here c.args.bytes.now 0 true (first c.args.bytes.now) }
