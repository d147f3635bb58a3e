use Rattle.std.proofs.Common.{rules, ◌≡◌, ◌∙◌, ap, sym, ◌++◌}
use Rattle.bones_template.specs.Holes.{contents_of}
use Rattle.bones_template.proofs.FillLemmas.{all_filled, becomes, hole_turn}
use Rattle.bones_template.proofs.template.fill.Goals as goal

pub loop-at-preserved-in-Some : goal.loop-at-preserved-in-Some
loop-at-preserved-in-Some c =
    let text = c.as_slice-text.result.now in
    let filled = c.loop-at.filled.items in
    let grown : c.extend_from_slice.new.self.items ≡ filled ++ c.text_for.result.now = search rules in
    record {
      within = search rules;
      filled =
          c.loop-at.invariant.filled
          ∙ hole_turn (contents_of c.args.holes.now) c.in-Some.hole c.loop-at.at text filled c.text.result.now c.extend_from_slice.new.self.items
          c.loop-at-test.true (sym c.hole_at.ensures.value ∙ c.in-Some.is) c.text.ensures (grown ∙ ap (λ t. filled ++ t) c.text_for.ensures);
    }

pub returns-clause-becomes : goal.returns-clause-becomes
returns-clause-becomes c =
    let same : c.as_slice-text.result.now ≡ c.args.template.now = search rules in
    let f = contents_of c.args.holes.now in
    becomes f c.args.template.now c.loop-at.filled.items
    (all_filled f c.loop-at.at c.as_slice-text.result.now c.args.template.now c.loop-at.filled.items c.loop-at-test.false same c.loop-at.invariant.filled)
