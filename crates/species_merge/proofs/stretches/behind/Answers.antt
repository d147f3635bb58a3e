use Rattle.std.proofs.Common.{rules, pos, to_z, arith, FitsSigned, ◌≡◌, ◌+◌, ◌*◌, ◌/◌, ◌+ℤ◌, ◌-ℤ◌, ◌≤◌, ◌^◌, ℕ}
use Rattle.std.specs.Int.{w128}
use Rattle.std.proofs.lemmas.Int.{to_z-of_z, to_z_pos, fits_signed_from_abs}
use Rattle.species_integers.proofs.Sizes.{abs_difference, abs_sum}
use Rattle.species_merge.proofs.Covering.{behind_is, behind_small}
use Rattle.species_merge.proofs.stretches.behind.Goals as goal

pub returns : goal.returns
returns c =
    let fits_at = c.ranges.at in
    let fits_edge = c.ranges.edge in
    let fits_way : FitsSigned w128 (c.args.edge -ℤ c.args.at) = search rules in
    let way = simp to_z-of_z at c.unsigned_abs.ensures.value in
    let ahead : ℕ = (c.unsigned_abs.result / c.args.stride + 1) * c.args.stride in
    let far : c.unsigned_abs.result ≤ 2 ^ 72 = omega (arith, abs_difference c.args.edge c.args.at, way, c.requires.small_at, c.requires.small_edge) in
    let small : ahead ≤ 2 ^ 72 + 2 ^ 70 = behind_small c.unsigned_abs.result c.args.stride (2 ^ 72) (2 ^ 70) far c.requires.small_stride c.requires.some in
    let step : to_z w128 ahead ≡ pos ahead = to_z_pos w128 ahead (omega (arith, small)) in
    let sum : FitsSigned w128 (c.args.at +ℤ pos ahead) = fits_signed_from_abs w128 (c.args.at +ℤ pos ahead) (omega (arith, abs_sum c.args.at (pos ahead), small, c.requires.small_at)) in
    simp (step, to_z-of_z) (behind_is c.args.at c.args.edge c.args.stride c.unsigned_abs.result c.requires.ahead way c.requires.some)
