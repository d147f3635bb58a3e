use Rattle.std.proofs.Common.{◌<◌, ◌^◌, FitsSigned, length, arith, rules, to_z, pos, slice_index_or, All}
use Rattle.std.proofs.lemmas.Int.{to_z-of_z}
use Rattle.std.specs.Int.{w128, w64}
use Rattle.std.specs.Int.RustNames.{unsigned_abs}
use Rattle.species_linear.specs.declared.forms.Term.{Term}
use Rattle.species_linear.specs.Point.{point_of}
use Rattle.species_linear.specs.Value.{form_at}
use Rattle.species_linear.proofs.Running.{running_next, running_small}
use Rattle.species_linear.proofs.forms.value.Goals as goal

pub add_term-total-requires-clause-small_total : goal.add_term-total-requires-clause-small_total
add_term-total-requires-clause-small_total c =
    let below : All (λ t. t.level < length c.args.iters.now) c.as_slice-term-items.result.now = rw c.as_slice-term-items.ensures.value c.requires.named in
    running_small c.as_slice-term-items.result.now (point_of c.args.iters.now) (form_at c.args.form.now (point_of c.args.iters.now)) c.loop-term.term-index
    (length c.args.iters.now) (to_z w128 c.loop-term.total-bits) c.as_slice-term-items.ensures.rising below c.requires.short (omega (arith, c.loop-term-test.true)) c.loop-term.invariant

pub loop-term-preserved : goal.loop-term-preserved
loop-term-preserved c =
    let nothing : Term = record { level = 0; coefficient = pos 0 } in
    let term : Term = slice_index_or c.as_slice-term-items.result.now c.loop-term.term-index nothing in
    let below : All (λ t. t.level < length c.args.iters.now) c.as_slice-term-items.result.now = rw c.as_slice-term-items.ensures.value c.requires.named in
    let small : All (λ t. unsigned_abs t.coefficient < 2 ^ 70) c.as_slice-term-items.result.now = rw c.as_slice-term-items.ensures.value c.requires.small_form.1 in
    let fits : FitsSigned w128 c.add_term-total.result = search rules in
    let at_fits : FitsSigned w64 (point_of c.args.iters.now term.level) = search rules in
    let step = rw (to_z-of_z w64 (point_of c.args.iters.now term.level) at_fits) at c.add_term-total.ensures in
    rw (to_z-of_z w128 c.add_term-total.result fits) (running_next c.as_slice-term-items.result.now (point_of c.args.iters.now) _ c.loop-term.term-index nothing
    (to_z w128 c.loop-term.total-bits) c.add_term-total.result c.loop-term-test.true
    (small c.loop-term.term-index nothing c.loop-term-test.true)
    (c.requires.small_iters term.level (pos 0) (below c.loop-term.term-index nothing c.loop-term-test.true))
    c.loop-term.invariant step)

pub returns-clause-size : goal.returns-clause-size
returns-clause-size c =
    let below : All (λ t. t.level < length c.args.iters.now) c.as_slice-term-items.result.now = rw c.as_slice-term-items.ensures.value c.requires.named in
    running_small c.as_slice-term-items.result.now (point_of c.args.iters.now) (form_at c.args.form.now (point_of c.args.iters.now)) c.loop-term.term-index
    (length c.args.iters.now) (to_z w128 c.loop-term.total-bits) c.as_slice-term-items.ensures.rising below c.requires.short
    c.loop-term.auto.term-index-end c.loop-term.invariant
