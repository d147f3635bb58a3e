use Rattle.std.proofs.Common.{ap, ◌∙◌}
use Rattle.species_ast.specs.Accesses.{sums}
use Rattle.bones_meaning.specs.Acted.{acted, answer}
use Rattle.bones_commute.proofs.BothLaws.{both_orders}
use Rattle.bones_commute.proofs.swap.apply_both.Goals as goal

pub returns-clause-other_order : goal.returns-clause-other_order
returns-clause-other_order c can =
    both_orders c.args.first.now c.args.second.now c.args.arrays.now c.apply-other.new.arrays c.apply-one.result c.apply-other.result
    (c.apply-other.ensures.arrays ∙ ap (acted sums c.args.second.now) c.apply-one.ensures.arrays) c.apply-one.ensures.answer
    (c.apply-other.ensures.answer ∙ ap (answer c.args.second.now) c.apply-one.ensures.arrays) can
