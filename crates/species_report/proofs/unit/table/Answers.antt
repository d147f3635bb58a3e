use Rattle.std.proofs.Common.{◌∙◌, ap, rules}
use Rattle.species_notation.specs.declared.given.Names.{Names}
use Rattle.species_report.proofs.PartLemmas.{parts_next}
use Rattle.species_report.proofs.unit.table.Goals as goal

pub loop-head-preserved : goal.loop-head-preserved
loop-head-preserved c =
    let before = c.loop-head.invariant in
    record {
      arrays = ap (λ (n : Names). n.arrays) c.in_ok-enter.ensures ∙ before.arrays;
      locals = ap (λ (n : Names). n.locals) c.in_ok-enter.ensures ∙ before.locals;
      parts = parts_next c.args.unit.now c.as_slice-head-items.result.now c.loop-head.head-index c.head-item.result c.loop-head.text.items c.in_ok-part.part.items c.extend_from_slice.new.self.items c.head-item.is
          c.loop-head-test.true before.parts c.in_ok-part.ensures (search rules);
    }
