use Rattle.std.proofs.Common.{◌≤◌, ◌*◌, ◌^◌, ◌+ℤ◌, ◌*ℤ◌, FitsSigned, ℤ, arith, refl, rules}
use Rattle.std.proofs.lemmas.Int.{to_z-of_z, fits_signed_from_abs}
use Rattle.std.specs.Int.{w128}
use Rattle.std.specs.Int.RustNames.{unsigned_abs}
use Rattle.species_integers.proofs.Sizes.{abs_sum, abs_product}
use Rattle.species_merge.proofs.bands.constant_with.Goals as goal

pub returns-clause-value : goal.returns-clause-value
returns-clause-value c =
    let first : ℤ = c.args.form.now.constant in
    let second : ℤ = c.args.c *ℤ c.args.other.now.constant in
    let small : unsigned_abs second ≤ 2 ^ 40 * 2 ^ 40 = abs_product c.args.c c.args.other.now.constant (2 ^ 40) (2 ^ 40) c.requires.c c.requires.other in
    let fits_form : FitsSigned w128 c.args.form.now.constant = search rules in
    let fits_c : FitsSigned w128 c.args.c = c.ranges.c in
    let fits_other : FitsSigned w128 c.args.other.now.constant = search rules in
    let fits_product : FitsSigned w128 (c.args.c *ℤ c.args.other.now.constant) = fits_signed_from_abs w128 second (omega (arith, small)) in
    let fits_sum : FitsSigned w128 (c.args.form.now.constant +ℤ c.args.c *ℤ c.args.other.now.constant) =
    fits_signed_from_abs w128 (first +ℤ second) (omega (arith, small, c.requires.small, abs_sum first second)) in
    simp to_z-of_z refl

pub returns-clause-number : goal.returns-clause-number
returns-clause-number c =
    let first : ℤ = c.args.form.now.constant in
    let second : ℤ = c.args.c *ℤ c.args.other.now.constant in
    let small : unsigned_abs second ≤ 2 ^ 40 * 2 ^ 40 = abs_product c.args.c c.args.other.now.constant (2 ^ 40) (2 ^ 40) c.requires.c c.requires.other in
    let fits_form : FitsSigned w128 c.args.form.now.constant = search rules in
    let fits_c : FitsSigned w128 c.args.c = c.ranges.c in
    let fits_other : FitsSigned w128 c.args.other.now.constant = search rules in
    let fits_product : FitsSigned w128 (c.args.c *ℤ c.args.other.now.constant) = fits_signed_from_abs w128 second (omega (arith, small)) in
    let fits_sum : FitsSigned w128 (c.args.form.now.constant +ℤ c.args.c *ℤ c.args.other.now.constant) =
    fits_signed_from_abs w128 (first +ℤ second) (omega (arith, small, c.requires.small, abs_sum first second)) in
    simp to_z-of_z (omega (arith, small, abs_sum first second))
