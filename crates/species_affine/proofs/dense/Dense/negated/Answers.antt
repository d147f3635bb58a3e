use Rattle.std.proofs.Common.{◌≡◌, arith, rules, map, neg_ℤ, to_z, of_z}
use Rattle.std.specs.Int.{w64}
use Rattle.std.proofs.lemmas.Int.{ints}
use Rattle.species_affine.proofs.Numbers.{passed, negated_done, negated_parts}
use Rattle.species_affine.proofs.dense.Dense.negated.Goals as goal

pub invariant_of-result : goal.invariant_of-result
invariant_of-result c =
    let coefficients : c.loop-c.coefficients.items ≡ map neg_ℤ c.coefficients-c-items.result.now =
    negated_done c.coefficients-c-items.result.now c.loop-c.coefficients.items c.loop-c.c-index (omega (arith, c.loop-c-test.false)) c.loop-c.invariant in
    let parts = negated_parts c.coefficients-c-items.result.now c.loop-c.coefficients.items coefficients c.coefficients-c-items.ensures.small c.coefficients-c-items.ensures.short in
    (rw (passed c.negative-2.result c.negative-2.ensures.small) c.negative-2.ensures.small, parts.0, parts.1)

pub returns : goal.returns
returns c =
    let coefficients : c.loop-c.coefficients.items ≡ map neg_ℤ c.coefficients-c-items.result.now =
    negated_done c.coefficients-c-items.result.now c.loop-c.coefficients.items c.loop-c.c-index (omega (arith, c.loop-c-test.false)) c.loop-c.invariant in
    let number : to_z w64 (of_z w64 c.negative-2.result) ≡ neg_ℤ c.args.self.now.constant =
    omega (arith, ints, c.negative-2.ensures.value, c.constant.ensures.value) in
    rw (number, coefficients, c.coefficients-c-items.ensures.value) (search rules)
