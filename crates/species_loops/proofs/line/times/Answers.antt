use Rattle.std.proofs.Common.{◌≤◌, ◌*◌, ◌*ℤ◌, FitsSigned, arith, refl}
use Rattle.std.specs.Int.{w64}
use Rattle.std.specs.Int.RustNames.{unsigned_abs}
use Rattle.std.proofs.lemmas.Int.{to_z-of_z, fits_signed_from_abs}
use Rattle.species_integers.proofs.Sizes.{abs_product}
use Rattle.species_ast.specs.Scope.Forms.{form_limit}
use Rattle.species_loops.proofs.line.times.Goals as goal

pub returns : goal.returns
returns c =
    let small : unsigned_abs (c.args.n *ℤ c.args.m) ≤ form_limit * form_limit =
    abs_product c.args.n c.args.m form_limit form_limit c.requires.left c.requires.right in
    let n : FitsSigned w64 c.args.n = c.ranges.n in
    let m : FitsSigned w64 c.args.m = c.ranges.m in
    let both : FitsSigned w64 (c.args.n *ℤ c.args.m) = fits_signed_from_abs w64 (c.args.n *ℤ c.args.m) (omega arith) in
    record { value = simp to_z-of_z refl; small = simp to_z-of_z small }
