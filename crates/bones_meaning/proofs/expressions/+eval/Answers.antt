use Rattle.std.proofs.Common.{rules, refl, Some}
use Rattle.species_ast.specs.Run.{source_context}
use Rattle.bones_meaning.specs.Places.{next_in}
use Rattle.bones_meaning.proofs.Elements.{found_first, found_step}
use Rattle.bones_meaning.proofs.expressions.+eval.Goals as goal

pub target-loop-e-init : goal.target-loop-e-init
target-loop-e-init t c = (Some 0, refl, rw (c.sizes-sizes.ensures) (found_first (source_context c.args.unit.now) c.args.array c.args.subs.now c.args.frame.now c.args.tape.now))

pub target-returns-in-Err : goal.target-returns-in-Err
target-returns-in-Err t c =
    let next = found_step (source_context c.args.unit.now) c.args.subs.now c.loop-e.e-index c.args.frame.now c.loop-e.tape c.e-item.result c.loop-e.sizes.now c.loop-e.invariant.0 c.e-item.is c.loop-e-test.true in
    rw (c.loop-e.invariant.2, next) (search rules)

pub target-loop-e-preserved : goal.target-loop-e-preserved
target-loop-e-preserved t c =
    let next = found_step (source_context c.args.unit.now) c.args.subs.now c.loop-e.e-index c.args.frame.now c.loop-e.tape c.e-item.result c.loop-e.sizes.now c.loop-e.invariant.0 c.e-item.is c.loop-e-test.true in
    (next_in c.loop-e.sizes.now c.loop-e.invariant.0 c.in-Ok.v, c.next-place.ensures c.loop-e.invariant.0 c.loop-e.invariant.1, rw (c.loop-e.invariant.2, next, c.tail-sizes.ensures) (search rules))
