use Rattle.std.proofs.Common.{◌≤◌, ◌*◌, ◌^◌, ◌*ℤ◌, FitsSigned, arith, refl, rules}
use Rattle.std.proofs.lemmas.Int.{to_z-of_z, fits_signed_from_abs}
use Rattle.std.specs.Int.{w128}
use Rattle.std.specs.Int.RustNames.{unsigned_abs}
use Rattle.species_integers.proofs.Sizes.{abs_product}
use Rattle.species_merge.proofs.bands.times.Goals as goal

pub returns-clause-value : goal.returns-clause-value
returns-clause-value c =
    let small : unsigned_abs (c.args.c *ℤ c.args.term.coefficient) ≤ 2 ^ 40 * 2 ^ 40 = abs_product c.args.c c.args.term.coefficient (2 ^ 40) (2 ^ 40) c.requires.c c.requires.term in
    let fits_c : FitsSigned w128 c.args.c = c.ranges.c in
    let fits_term : FitsSigned w128 c.args.term.coefficient = search rules in
    let fits_product : FitsSigned w128 (c.args.c *ℤ c.args.term.coefficient) = fits_signed_from_abs w128 (c.args.c *ℤ c.args.term.coefficient) (omega (arith, small)) in
    simp to_z-of_z refl

pub returns-clause-small : goal.returns-clause-small
returns-clause-small c =
    let small : unsigned_abs (c.args.c *ℤ c.args.term.coefficient) ≤ 2 ^ 40 * 2 ^ 40 = abs_product c.args.c c.args.term.coefficient (2 ^ 40) (2 ^ 40) c.requires.c c.requires.term in
    let fits_c : FitsSigned w128 c.args.c = c.ranges.c in
    let fits_term : FitsSigned w128 c.args.term.coefficient = search rules in
    let fits_product : FitsSigned w128 (c.args.c *ℤ c.args.term.coefficient) = fits_signed_from_abs w128 (c.args.c *ℤ c.args.term.coefficient) (omega (arith, small)) in
    simp to_z-of_z (omega (arith, small))
