-- The goals of `parts_of` that need an answer.
use Rattle.std.proofs.Common.{rules}
use Rattle.species_notation.proofs.Fronts.{cut_next, cut_fails, cut_ends}
use Rattle.species_notation.proofs.scan.parts_of.Goals as goal

pub returns-in_default : goal.returns-in_default
returns-in_default c = cut_fails c.args.text.now c.loop-at.at c.loop-at.parts c.loop-at.invariant.1 (search rules) (search rules)

pub loop-at-preserved : goal.loop-at-preserved
loop-at-preserved c = (
  search rules,
  cut_next c.args.text.now c.loop-at.at c.in-Some.size c.in-Some.part c.loop-at.parts c.put_part.new.parts c.loop-at.invariant.1 (search rules) (search rules),
)

pub returns : goal.returns
returns c = cut_ends c.args.text.now c.loop-at.at c.loop-at.parts c.loop-at.invariant.1 (search rules)
