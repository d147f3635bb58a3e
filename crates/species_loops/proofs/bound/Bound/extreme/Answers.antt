use Rattle.std.proofs.Common.{◌≡◌, ◌∙◌, ◌≤◌, ◌^◌, subst, sym, rules, arith, to_z, of_z, slice_index_or, pos}
use Rattle.std.specs.Int.{w64, w128}
use Rattle.std.specs.Int.RustNames.{unsigned_abs}
use Rattle.species_affine.proofs.Numbers.{passed}
use Rattle.species_linear.specs.Box.{zero_range}
use Rattle.species_loops.proofs.ExtremeLaws.{IsRunning, running_first, running_next, running_small, running_done, word_plus, word_wide}
use Rattle.species_loops.proofs.bound.Bound.extreme.Goals as goal

pub loop-level-preserved : goal.loop-level-preserved
loop-level-preserved c =
    let total = to_z w128 c.loop-level.total-bits in
    let slope = c.line-slope.result.slope in
    let same : to_z w64 (of_z w64 slope) ≡ slope = passed slope c.line-slope.ensures.slope in
    let here : slope ≡ slice_index_or c.args.self.now.coefficients c.loop-level.level (pos 0) = search (rules, arith) in
    let few : c.loop-level.level ≤ 16 = omega (arith, c.requires.short, c.loop-level-test.true) in
    let small : unsigned_abs total ≤ 2 ^ 79 = running_small c.args.lower c.args.self.now c.args.path.now c.loop-level.level total few c.loop-level.invariant in
    running_next c.args.lower c.args.self.now c.args.path.now c.loop-level.level zero_range total (to_z w64 (of_z w64 slope)) c.product-total.result _ c.loop-level-test.true c.loop-level.invariant
    (same ∙ here) c.product-total.ensures.value c.product-total.ensures.small (word_plus total c.product-total.result small c.product-total.ensures.small)

pub loop-level-init : goal.loop-level-init
loop-level-init c =
    let same : to_z w128 (of_z w128 c.from-total.result) ≡ c.line.result.constant =
    word_wide c.from-total.result c.line.result.constant c.from-total.ensures (omega (arith, c.line.ensures.constant)) in
    running_first c.args.lower c.args.self.now c.args.path.now (to_z w128 (of_z w128 c.from-total.result)) (same ∙ c.line.ensures.value.0)
    (subst (λ z. unsigned_abs z ≤ 2 ^ 32) (sym same) c.line.ensures.constant)

pub returns : goal.returns
returns c =
    let total = to_z w128 c.loop-level.total-bits in
    let few : c.loop-level.level ≤ 16 = omega (arith, c.requires.short, c.loop-level.auto.level-end) in
    let small : unsigned_abs total ≤ 2 ^ 79 = running_small c.args.lower c.args.self.now c.args.path.now c.loop-level.level total few c.loop-level.invariant in
    record {
      value = running_done c.args.lower c.args.self.now c.args.path.now c.loop-level.level total c.loop-level-test.false c.loop-level.invariant;
      small = omega (arith, small);
    }
