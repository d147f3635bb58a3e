use Rattle.species_classify.proofs.ReasonLemmas.{array_here, none_numbered}
use Rattle.species_classify.proofs.decide.array_of.Goals as goal

pub returns-then-reference-number : goal.returns-then-reference-number
returns-then-reference-number c =
    array_here c.args.refs.now c.as_slice-reference-items.result.now c.args.number c.loop-reference.reference-index c.reference-item.result c.as_slice-reference-items.ensures c.loop-reference-test.true c.reference-item.is
    c.if-reference-number.true

pub returns : goal.returns
returns c =
    absurd (none_numbered c.args.refs.now c.as_slice-reference-items.result.now c.args.number c.loop-reference.reference-index c.as_slice-reference-items.ensures c.loop-reference-test.false c.loop-reference.invariant c.requires)
