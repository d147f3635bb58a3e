-- The goals of `load_refusal` that need an answer.
use Rattle.std.proofs.Common.{arith, ap, subst}
use Rattle.species_lexer.specs.Tokens.{seen_token}
use Rattle.species_parser.proofs.Loads.{Counts, counts_next}
use Rattle.species_parser.proofs.load.load_refusal.Goals as goal

pub loop-token-preserved : goal.loop-token-preserved
loop-token-preserved c =
    counts_next c.args.tokens c.next.new.self (seen_token c.in-Some.token) c.loop-token.load c.count.new.self c.settle.new.self
    (subst (λ z. Counts c.args.tokens z c.loop-token.load) c.in-Some.ensures c.loop-token.invariant)
    c.in_ok-count.ensures (omega (arith, ap (λ z. z.load) c.load.view_is, c.if-load-gt-MOST_LOAD.false)) c.settle.ensures
