use Rattle.std.proofs.Common.{◌≤◌, ◌^◌, ◌+◌, ◌*◌, ◌+ℤ◌, ◌-ℤ◌, ◌*ℤ◌, FitsSigned, arith, refl}
use Rattle.std.proofs.lemmas.Int.{to_z-of_z, fits_signed_from_abs}
use Rattle.std.specs.Int.{w128}
use Rattle.std.specs.Int.RustNames.{unsigned_abs}
use Rattle.species_integers.proofs.Sizes.{abs_sum, abs_difference, abs_product}
use Rattle.species_gcd.proofs.add_products.Goals as goal

pub overflow_sub-result : goal.overflow_sub-result
overflow_sub-result c =
    let fa = c.ranges.a in let fb = c.ranges.b in let fx = c.ranges.x in let fy = c.ranges.y in
    let small_ax : unsigned_abs (c.args.a *ℤ c.args.x) ≤ 2 ^ 70 * 2 ^ 31 = abs_product c.args.a c.args.x (2 ^ 70) (2 ^ 31) (omega arith) c.requires.small_x in
    let small_by : unsigned_abs (c.args.b *ℤ c.args.y) ≤ 2 ^ 70 * 2 ^ 31 = abs_product c.args.b c.args.y (2 ^ 70) (2 ^ 31) (omega arith) c.requires.small_y in
    let ax : FitsSigned w128 (c.args.a *ℤ c.args.x) = fits_signed_from_abs w128 (c.args.a *ℤ c.args.x) (omega arith) in
    let by : FitsSigned w128 (c.args.b *ℤ c.args.y) = fits_signed_from_abs w128 (c.args.b *ℤ c.args.y) (omega arith) in
    let apart : FitsSigned w128 (c.args.a *ℤ c.args.x -ℤ c.args.b *ℤ c.args.y) =
    fits_signed_from_abs w128 (c.args.a *ℤ c.args.x -ℤ c.args.b *ℤ c.args.y) (omega (arith, abs_difference (c.args.a *ℤ c.args.x) (c.args.b *ℤ c.args.y))) in
    simp to_z-of_z apart

pub overflow_add-result : goal.overflow_add-result
overflow_add-result c =
    let fa = c.ranges.a in let fb = c.ranges.b in let fx = c.ranges.x in let fy = c.ranges.y in let ft = c.ranges.total in
    let small_ax : unsigned_abs (c.args.a *ℤ c.args.x) ≤ 2 ^ 70 * 2 ^ 31 = abs_product c.args.a c.args.x (2 ^ 70) (2 ^ 31) (omega arith) c.requires.small_x in
    let small_by : unsigned_abs (c.args.b *ℤ c.args.y) ≤ 2 ^ 70 * 2 ^ 31 = abs_product c.args.b c.args.y (2 ^ 70) (2 ^ 31) (omega arith) c.requires.small_y in
    let ax : FitsSigned w128 (c.args.a *ℤ c.args.x) = fits_signed_from_abs w128 (c.args.a *ℤ c.args.x) (omega arith) in
    let by : FitsSigned w128 (c.args.b *ℤ c.args.y) = fits_signed_from_abs w128 (c.args.b *ℤ c.args.y) (omega arith) in
    let small_apart : unsigned_abs (c.args.a *ℤ c.args.x -ℤ c.args.b *ℤ c.args.y) ≤ 2 ^ 70 * 2 ^ 31 + 2 ^ 70 * 2 ^ 31 =
    omega (arith, abs_difference (c.args.a *ℤ c.args.x) (c.args.b *ℤ c.args.y)) in
    let apart : FitsSigned w128 (c.args.a *ℤ c.args.x -ℤ c.args.b *ℤ c.args.y) = fits_signed_from_abs w128 (c.args.a *ℤ c.args.x -ℤ c.args.b *ℤ c.args.y) (omega arith) in
    let sum : FitsSigned w128 (c.args.total +ℤ (c.args.a *ℤ c.args.x -ℤ c.args.b *ℤ c.args.y)) =
    fits_signed_from_abs w128 (c.args.total +ℤ (c.args.a *ℤ c.args.x -ℤ c.args.b *ℤ c.args.y))
    (omega (arith, abs_sum c.args.total (c.args.a *ℤ c.args.x -ℤ c.args.b *ℤ c.args.y))) in
    simp to_z-of_z sum

pub returns : goal.returns
returns c =
    let fa = c.ranges.a in let fb = c.ranges.b in let fx = c.ranges.x in let fy = c.ranges.y in let ft = c.ranges.total in
    let small_ax : unsigned_abs (c.args.a *ℤ c.args.x) ≤ 2 ^ 70 * 2 ^ 31 = abs_product c.args.a c.args.x (2 ^ 70) (2 ^ 31) (omega arith) c.requires.small_x in
    let small_by : unsigned_abs (c.args.b *ℤ c.args.y) ≤ 2 ^ 70 * 2 ^ 31 = abs_product c.args.b c.args.y (2 ^ 70) (2 ^ 31) (omega arith) c.requires.small_y in
    let ax : FitsSigned w128 (c.args.a *ℤ c.args.x) = fits_signed_from_abs w128 (c.args.a *ℤ c.args.x) (omega arith) in
    let by : FitsSigned w128 (c.args.b *ℤ c.args.y) = fits_signed_from_abs w128 (c.args.b *ℤ c.args.y) (omega arith) in
    let small_apart : unsigned_abs (c.args.a *ℤ c.args.x -ℤ c.args.b *ℤ c.args.y) ≤ 2 ^ 70 * 2 ^ 31 + 2 ^ 70 * 2 ^ 31 =
    omega (arith, abs_difference (c.args.a *ℤ c.args.x) (c.args.b *ℤ c.args.y)) in
    let apart : FitsSigned w128 (c.args.a *ℤ c.args.x -ℤ c.args.b *ℤ c.args.y) = fits_signed_from_abs w128 (c.args.a *ℤ c.args.x -ℤ c.args.b *ℤ c.args.y) (omega arith) in
    let sum : FitsSigned w128 (c.args.total +ℤ (c.args.a *ℤ c.args.x -ℤ c.args.b *ℤ c.args.y)) =
    fits_signed_from_abs w128 (c.args.total +ℤ (c.args.a *ℤ c.args.x -ℤ c.args.b *ℤ c.args.y))
    (omega (arith, abs_sum c.args.total (c.args.a *ℤ c.args.x -ℤ c.args.b *ℤ c.args.y))) in
    simp to_z-of_z refl
