use Rattle.std.proofs.Common.{◌≤◌, ◌^◌, ◌*◌, ◌+ℤ◌, ◌*ℤ◌, FitsSigned, arith, refl, rules}
use Rattle.std.proofs.lemmas.Int.{to_z-of_z, fits_signed_from_abs}
use Rattle.std.specs.Int.{w128, w64}
use Rattle.std.specs.Int.RustNames.{unsigned_abs}
use Rattle.species_integers.proofs.Sizes.{abs_sum, abs_product}
use Rattle.species_linear.proofs.forms.add_term.Goals as goal

pub returns : goal.returns
returns c =
    let small : unsigned_abs (c.args.term.coefficient *ℤ c.args.at) ≤ 2 ^ 70 * 2 ^ 40 =
    abs_product c.args.term.coefficient c.args.at (2 ^ 70) (2 ^ 40) (omega arith) c.requires.small_at in
    let narrow_at : FitsSigned w64 c.args.at = c.ranges.at in
    let wide_at : FitsSigned w128 c.args.at = fits_signed_from_abs w128 c.args.at (omega (arith, c.requires.small_at)) in
    let coefficient : FitsSigned w128 c.args.term.coefficient = search rules in
    let total : FitsSigned w128 c.args.total = c.ranges.total in
    let product : FitsSigned w128 (c.args.term.coefficient *ℤ c.args.at) = fits_signed_from_abs w128 (c.args.term.coefficient *ℤ c.args.at) (omega arith) in
    let sum : FitsSigned w128 (c.args.total +ℤ c.args.term.coefficient *ℤ c.args.at) =
    fits_signed_from_abs w128 (c.args.total +ℤ c.args.term.coefficient *ℤ c.args.at) (omega (arith, abs_sum c.args.total (c.args.term.coefficient *ℤ c.args.at))) in
    simp to_z-of_z refl
