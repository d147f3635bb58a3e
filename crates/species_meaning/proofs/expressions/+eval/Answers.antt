use Rattle.std.proofs.Common.{rules, refl, Some, ◌∙◌, ap}
use Rattle.species_meaning.specs.Effects.{reads}
use Rattle.species_meaning.proofs.Choices.{typed_binary, first_chosen, second_chosen, first_typed}
use Rattle.species_ast.specs.Run.{source_context}
use Rattle.species_meaning.specs.Places.{next_in}
use Rattle.species_meaning.proofs.Elements.{found_first, found_step}
use Rattle.species_meaning.proofs.expressions.+eval.Goals as goal

pub target-loop-e-init : goal.target-loop-e-init
target-loop-e-init t c = (Some 0, refl, rw (c.sizes-sizes.ensures) (found_first (source_context c.args.unit.now) c.args.array c.args.subs.now c.args.frame.now c.args.arrays.now))

pub target-returns-in-Err : goal.target-returns-in-Err
target-returns-in-Err t c =
    let next = found_step (source_context c.args.unit.now) c.args.subs.now c.loop-e.e-index c.args.frame.now c.args.arrays.now c.e-item.result c.loop-e.sizes.now c.loop-e.invariant.0 c.e-item.is c.loop-e-test.true in
    rw (c.loop-e.invariant.2, next) (search rules)

pub target-loop-e-preserved : goal.target-loop-e-preserved
target-loop-e-preserved t c =
    let next = found_step (source_context c.args.unit.now) c.args.subs.now c.loop-e.e-index c.args.frame.now c.args.arrays.now c.e-item.result c.loop-e.sizes.now c.loop-e.invariant.0 c.e-item.is c.loop-e-test.true in
    (next_in c.loop-e.sizes.now c.loop-e.invariant.0 c.in-Ok.v, c.next-place.ensures c.loop-e.invariant.0 c.loop-e.invariant.1, rw (c.loop-e.invariant.2, next, c.tail-sizes.ensures) (search rules))

pub eval_rest-returns-in-Ok-eval_typed : goal.eval_rest-returns-in-Ok-eval_typed
eval_rest-returns-in-Ok-eval_typed t c =
    let w = source_context c.args.unit.now in
    let is = first_chosen w c.in-Cond.test c.in-Cond.a c.in-Cond.b c.args.frame.now c.args.arrays.now c.in-Ok-eval-3.x c.in-Ok-eval_typed.v c.kind.result (search rules) (search rules) (search rules) (c.kind.ensures ∙ ap (λ e. (reads w e).kind) c.get-in-Ok-eval_typed.ensures) in
    rw (c.in-Cond.is, is) (search rules)

pub eval_rest-returns-in-Ok-eval_typed-2 : goal.eval_rest-returns-in-Ok-eval_typed-2
eval_rest-returns-in-Ok-eval_typed-2 t c =
    let w = source_context c.args.unit.now in
    let is = second_chosen w c.in-Cond.test c.in-Cond.a c.in-Cond.b c.args.frame.now c.args.arrays.now c.in-Ok-eval-3.x c.in-Ok-eval_typed-2.v c.kind-in-Ok-eval_typed-2.result (search rules) (search rules) (search rules) (search rules) in
    rw (c.in-Cond.is, is) (search rules)

pub eval_typed-returns-in-Ok-eval_typed-2 : goal.eval_typed-returns-in-Ok-eval_typed-2
eval_typed-returns-in-Ok-eval_typed-2 t c =
    let w = source_context c.args.unit.now in
    let is = typed_binary w c.in-Binary.op c.in-Binary.a c.in-Binary.b c.args.frame.now c.args.arrays.now c.in-Ok-eval_typed.x c.in-Ok-eval_typed-2.y (search rules) (search rules) in
    rw (c.in-Binary.is, is) (search rules)

pub eval_typed-returns-in-Ok-eval_typed-3 : goal.eval_typed-returns-in-Ok-eval_typed-3
eval_typed-returns-in-Ok-eval_typed-3 t c =
    let w = source_context c.args.unit.now in
    let is = first_typed w c.in-Cond.test c.in-Cond.a c.in-Cond.b c.args.frame.now c.args.arrays.now c.in-Ok-eval.x c.in-Ok-eval_typed-3.v c.kind.result (search rules) (search rules) (search rules) (c.kind.ensures ∙ ap (λ e. (reads w e).kind) c.get-in-Ok-eval_typed-3.ensures) in
    rw (c.in-Cond.is, is) (search rules)
