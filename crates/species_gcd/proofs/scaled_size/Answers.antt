use Rattle.std.proofs.Common.{◌≤◌, ◌^◌, ◌∙◌, ℤ, pos, negsuc, ◌*ℤ◌, FitsSigned, arith, ap, rules}
use Rattle.std.proofs.lemmas.Int.{to_z-of_z, fits_signed_from_abs}
use Rattle.std.specs.Int.{w32, w128}
use Rattle.std.specs.Int.RustNames.{unsigned_abs}
use Rattle.species_integers.proofs.Sizes.{abs_product}
use Rattle.species_gcd.proofs.scaled_size.Goals as goal

abs_of_narrow : (z : ℤ) → FitsSigned w32 z → unsigned_abs z ≤ 2 ^ 31
abs_of_narrow (pos n) fits = omega (arith, fits.sfits)
abs_of_narrow (negsuc n) fits = omega (arith, fits.sfits)

pub returns : goal.returns
returns c =
    let coefficient = c.ranges.coefficient in
    let narrow : FitsSigned w32 c.unit.result = search rules in
    let small_unit = abs_of_narrow c.unit.result narrow in
    let wide : FitsSigned w128 c.unit.result = fits_signed_from_abs w128 c.unit.result (omega (arith, small_unit)) in
    let product : FitsSigned w128 (c.args.coefficient *ℤ c.unit.result) =
    fits_signed_from_abs w128 (c.args.coefficient *ℤ c.unit.result)
    (omega (arith, abs_product c.args.coefficient c.unit.result (2 ^ 71) (2 ^ 31) c.requires small_unit)) in
    let size = simp to_z-of_z at c.unsigned_abs.ensures.value in
    size ∙ ap (λ (z : ℤ). unsigned_abs (c.args.coefficient *ℤ z)) c.unit.ensures
