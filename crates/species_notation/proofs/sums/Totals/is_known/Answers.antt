-- The goals of `is_known` that need an answer.
use Rattle.std.proofs.Common.{rules}
use Rattle.species_notation.proofs.Adding.{known_more, known_false}
use Rattle.species_notation.proofs.sums.Totals.is_known.Goals as goal

pub returns-then-not-is_among : goal.returns-then-not-is_among
returns-then-not-is_among c =
    known_false c.args.iters.now c.args.self.now c.self.inside.constant c.self.inside.names c.loop-at.at (c.in-Some.name.now, c.in-Some.field-0-1.now)
    c.self.view_is c.loop-at.invariant c.in-Some.ensures.entry (search rules)

pub loop-at-preserved : goal.loop-at-preserved
loop-at-preserved c =
    known_more c.args.iters.now c.args.self.now c.self.inside.constant c.self.inside.names c.loop-at.at (c.in-Some.name.now, c.in-Some.field-0-1.now)
    c.self.view_is c.loop-at.invariant c.in-Some.ensures.entry (search rules)
