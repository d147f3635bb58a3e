use Rattle.std.proofs.Common.{◌≡◌, arith, rules}
use Rattle.species_affine.proofs.Numbers.{zeros_then_one, iterator_limited}
use Rattle.species_affine.proofs.dense.Dense.iterator.Goals as goal

pub invariant_of-result : goal.invariant_of-result
invariant_of-result c =
    let all : c.loop-lower._lower ≡ c.args.level = omega (arith, c.loop-lower-test.false, c.loop-lower.auto._lower-end) in
    rw (c.in_ok-push-2.ensures.items, c.loop-lower.invariant, all, zeros_then_one c.args.level) (iterator_limited c.args.level (omega (arith, c.ranges.level)))

pub returns : goal.returns
returns c =
    let all : c.loop-lower._lower ≡ c.args.level = omega (arith, c.loop-lower-test.false, c.loop-lower.auto._lower-end) in
    rw (c.in_ok-push-2.ensures.items, c.loop-lower.invariant, all, zeros_then_one c.args.level) (search rules)
