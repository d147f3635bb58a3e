use Rattle.std.proofs.Common.{arith, pos}
use Rattle.species_linear.specs.declared.forms.Term.{Term}
use Rattle.species_references.proofs.ExtentLemmas.{place_below_level, extent_next, extent_all}
use Rattle.species_references.proofs.boxes.inner_box.Goals as goal

pub with_term-extent-requires-clause-small_low : goal.with_term-extent-requires-clause-small_low
with_term-extent-requires-clause-small_low c =
    let nothing : Term = record { level = 0; coefficient = pos 0 } in
    let few = place_below_level 0 c.loop-term.term-index c.as_slice-term-items.result.now nothing c.as_slice-term-items.ensures.rising c.loop-term-test.true in
    omega (arith, few, c.inner_range-range.ensures.level, c.loop-term.invariant.small_low)

pub with_term-extent-requires-clause-small_high : goal.with_term-extent-requires-clause-small_high
with_term-extent-requires-clause-small_high c =
    let nothing : Term = record { level = 0; coefficient = pos 0 } in
    let few = place_below_level 0 c.loop-term.term-index c.as_slice-term-items.result.now nothing c.as_slice-term-items.ensures.rising c.loop-term-test.true in
    omega (arith, few, c.inner_range-range.ensures.level, c.loop-term.invariant.small_high)

pub loop-term-preserved : goal.loop-term-preserved
loop-term-preserved c =
    let nothing : Term = record { level = 0; coefficient = pos 0 } in
    extent_next c.as_slice-term-items.result.now c.args.form.now.constant c.args.inner c.args.path.now c.loop-term.term-index nothing c.inner_range-range.result c.loop-term.extent c.with_term-extent.result
    c.as_slice-term-items.ensures.rising c.loop-term-test.true c.inner_range-range.ensures.value c.with_term-extent.ensures.low c.with_term-extent.ensures.high c.with_term-extent.ensures.divisor c.with_term-extent.ensures.grows_low
    c.with_term-extent.ensures.grows_high c.loop-term.invariant

pub returns : goal.returns
returns c = λ f same.
    extent_all c.args.form.now f c.as_slice-term-items.result.now c.args.inner c.args.path.now c.loop-term.term-index c.loop-term.extent c.finish.result same c.as_slice-term-items.ensures.value c.loop-term-test.false
    c.loop-term.invariant c.finish.ensures
