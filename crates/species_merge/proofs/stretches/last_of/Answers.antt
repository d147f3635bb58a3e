use Rattle.std.proofs.Common.{rules, pos, to_z, arith, FitsSigned, ◌≡◌, ◌+ℤ◌, ◌-ℤ◌, ◌≤◌, ◌^◌}
use Rattle.std.specs.Int.{w128}
use Rattle.std.proofs.lemmas.Int.{to_z-of_z, to_z_pos, fits_signed_from_abs}
use Rattle.species_integers.proofs.Sizes.{abs_difference, abs_sum}
use Rattle.species_merge.proofs.Covering.{enough_of}
use Rattle.species_merge.proofs.stretches.last_of.Goals as goal

pub returns-else-period-most-clause-enough : goal.returns-else-period-most-clause-enough
returns-else-period-most-clause-enough c =
    let fits_at = c.ranges.at in
    let fits_edge = c.ranges.edge in
    let fits_way : FitsSigned w128 (c.args.edge -ℤ c.args.at) = search rules in
    let way = simp to_z-of_z at c.unsigned_abs-most.ensures.value in
    let period = c.period_of-period.result in
    let far = abs_difference c.args.edge c.args.at in
    let small : period ≤ 2 ^ 72 = omega (arith, far, way, c.requires.small_at, c.requires.small_edge, c.if-period-most.false) in
    let step : to_z w128 period ≡ pos period = to_z_pos w128 period (omega (arith, small)) in
    let fits_last : FitsSigned w128 (pos period -ℤ pos 1) = fits_signed_from_abs w128 (pos period -ℤ pos 1) (omega (arith, abs_difference (pos period) (pos 1), small)) in
    let fits_sum : FitsSigned w128 (c.args.at +ℤ (pos period -ℤ pos 1)) =
    fits_signed_from_abs w128 (c.args.at +ℤ (pos period -ℤ pos 1)) (omega (arith, abs_sum c.args.at (pos period -ℤ pos 1), abs_difference (pos period) (pos 1), small, c.requires.small_at)) in
    let is_period = simp to_z-of_z at c.period_of-period.ensures in
    simp (step, to_z-of_z) (enough_of c.args.spans.now c.args.at c.args.edge c.args.stride c.unsigned_abs-most.result period is_period c.if-period-most.false)
