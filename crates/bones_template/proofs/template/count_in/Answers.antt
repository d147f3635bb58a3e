use Rattle.std.proofs.Common.{arith, ◌∙◌, ap, sym, ◌+◌, ◌-◌, length, take, drop}
use Rattle.species_ast.specs.Text.Characters.{begins}
use Rattle.bones_template.specs.Filling.{count_in}
use Rattle.bones_template.proofs.FillLemmas.{count_turn, at_most_one}
use Rattle.bones_template.proofs.template.count_in.Goals as goal

pub loop-at-preserved : goal.loop-at-preserved
loop-at-preserved c =
    let text = c.args.text.now in
    let at = c.loop-at.at in
    let here = c.starts_with.ensures.value ∙ ap (λ h. begins h (take (length text - at) (drop at text))) c.text.ensures in
    record {
      few = omega (arith, at_most_one c.starts_with.result, c.from-count.ensures);
      counted =
          count_turn c.args.hole at c.loop-at.count c.starts_with.result text c.loop-at-test.true c.loop-at.invariant.counted here
          ∙ ap (λ n. c.loop-at.count + n + count_in c.args.hole (drop (at + 1) text)) (sym c.from-count.ensures);
    }
