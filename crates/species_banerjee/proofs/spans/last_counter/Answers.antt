use Rattle.std.proofs.Common.{◌≡◌, ◌/◌, ◌<◌, ◌^◌, ℤ, pos, ◌≤ℤ◌, FitsSigned, arith}
use Rattle.std.proofs.lemmas.Int.{ints, to_z-of_z, to_z_pos}
use Rattle.std.proofs.Math.Nat.{div-le_self}
use Rattle.std.specs.Int.{w128}
use Rattle.std.specs.Int.RustNames.{unsigned_abs}
use Rattle.species_banerjee.proofs.Counters.{last_by_division}
use Rattle.species_banerjee.proofs.spans.last_counter.Goals as goal

is_size : (z : ℤ) → pos 0 ≤ℤ z → z ≡ pos (unsigned_abs z)
is_size z h = grind (arith, ints)

size_small : (z : ℤ) → FitsSigned w128 z → pos 0 ≤ℤ z → unsigned_abs z < 2 ^ 127
size_small z fits h = grind (arith, ints, fits.sfits)

pub returns : goal.returns
returns c =
    let far = c.ranges.far in
    let nonnegative : pos 0 ≤ℤ c.args.far = grind (arith, ints, c.if-far-lt0.false) in
    let fits : unsigned_abs c.args.far / c.args.size < 2 ^ 127 = omega (arith, size_small c.args.far far nonnegative, div-le_self (unsigned_abs c.args.far) c.args.size) in
    simp to_z-of_z (rw (to_z_pos w128 (unsigned_abs c.args.far / c.args.size) fits)
    (last_by_division c.args.size (unsigned_abs c.args.far) c.args.far c.requires (is_size c.args.far nonnegative)))
