use Rattle.std.proofs.Common.{◌≤◌, ◌^◌, ◌*◌, ◌*ℤ◌, FitsSigned, arith, refl, rules}
use Rattle.std.proofs.lemmas.Int.{ints, to_z-of_z, fits_signed_from_abs}
use Rattle.std.specs.Int.{w128, w64}
use Rattle.std.specs.Int.RustNames.{unsigned_abs}
use Rattle.species_integers.proofs.Sizes.{abs_product}
use Rattle.species_references.proofs.boxes.product.Goals as goal

pub returns : goal.returns
returns c =
    let narrow : FitsSigned w64 c.args.end = c.ranges.end in
    let end : unsigned_abs c.args.end ≤ 2 ^ 63 = omega (arith, ints) in
    let small : unsigned_abs (c.args.coefficient *ℤ c.args.end) ≤ 2147483647 * 2 ^ 63 = abs_product c.args.coefficient c.args.end 2147483647 (2 ^ 63) c.requires end in
    let wide : FitsSigned w128 c.args.end = fits_signed_from_abs w128 c.args.end (omega (arith, end)) in
    let coefficient : FitsSigned w128 c.args.coefficient = search rules in
    let product : FitsSigned w128 (c.args.coefficient *ℤ c.args.end) = fits_signed_from_abs w128 (c.args.coefficient *ℤ c.args.end) (omega (arith, small)) in
    record { value = simp to_z-of_z refl; small = simp to_z-of_z (omega (arith, small)) }
