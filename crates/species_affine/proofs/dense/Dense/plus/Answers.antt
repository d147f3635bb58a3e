use Rattle.std.proofs.Common.{◌≡◌, ap, ◌∙◌, arith, length, ◌+ℤ◌, pos, to_z, of_z}
use Rattle.std.specs.Int.{w64}
use Rattle.std.specs.Prelude.{slice_index_or}
use Rattle.std.proofs.lemmas.Int.{ints}
use Rattle.species_ast.specs.Scope.Forms.{added_coefficients}
use Rattle.species_affine.proofs.Numbers.{added_next, added_done}
use Rattle.species_affine.proofs.dense.Dense.plus.Goals as goal

pub loop-level-preserved : goal.loop-level-preserved
loop-level-preserved c =
    let next : to_z w64 (of_z w64 c.sum.result) ≡ slice_index_or c.args.self.now.coefficients c.loop-level.level (pos 0) +ℤ slice_index_or c.args.other.now.coefficients c.loop-level.level (pos 0) =
    omega (arith, ints, c.sum.ensures, c.coefficient.ensures.value, c.coefficient-in-loop-level.ensures.value) in
    c.in_ok-push.ensures.items ∙
    added_next c.args.self.now.coefficients c.args.other.now.coefficients c.loop-level.coefficients.items c.loop-level.level (to_z w64 (of_z w64 c.sum.result))
    (omega (arith, c.loop-level-test.true, c.max-levels.ensures, ap length c.coefficients.ensures.value, ap length c.coefficients-2.ensures.value)) c.loop-level.invariant next

pub returns : goal.returns
returns c =
    let numbers : to_z w64 (of_z w64 c.sum-2.result) ≡ c.args.self.now.constant +ℤ c.args.other.now.constant =
    omega (arith, ints, c.sum-2.ensures, c.constant.ensures.value, c.constant-2.ensures.value) in
    let coefficients : c.loop-level.coefficients.items ≡ added_coefficients c.args.self.now.coefficients c.args.other.now.coefficients =
    added_done c.args.self.now.coefficients c.args.other.now.coefficients c.loop-level.coefficients.items c.loop-level.level
    (omega (arith, c.loop-level-test.false, c.max-levels.ensures, ap length c.coefficients.ensures.value, ap length c.coefficients-2.ensures.value)) c.loop-level.invariant in
    rw (← numbers, ← coefficients) c.limited.ensures
