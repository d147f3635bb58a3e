-- The goals of `closing_len` that need an answer.
use Rattle.std.proofs.Common.{rules, ◌∙◌}
use Rattle.species_notation.proofs.Fronts.{closing_later}
use Rattle.species_notation.proofs.scan.closing_len.Goals as goal

pub loop-at-preserved : goal.loop-at-preserved
loop-at-preserved c = c.loop-at.invariant ∙ closing_later c.args.bytes.now c.loop-at.at c.loop-at-test.true (search rules)
