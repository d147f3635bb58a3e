use Rattle.std.proofs.Common.{◌≡◌, ◌+◌, ◌/◌, ◌<◌, ◌^◌, ℤ, pos, ◌-ℤ◌, ◌<ℤ◌, FitsSigned, arith}
use Rattle.std.proofs.lemmas.Int.{ints, to_z-of_z, to_z_pos, fits_signed_from_abs}
use Rattle.std.proofs.Math.Nat.{div-le_self}
use Rattle.std.specs.Int.{w128}
use Rattle.std.specs.Int.RustNames.{unsigned_abs}
use Rattle.species_banerjee.proofs.Counters.{first_by_division}
use Rattle.species_banerjee.proofs.spans.first_counter.Goals as goal

-- the number before a positive one
before_positive : (z : ℤ) → pos 0 <ℤ z → z ≡ pos (unsigned_abs (z -ℤ pos 1) + 1)
before_positive z h = grind (arith, ints)

before_small : (z : ℤ) → FitsSigned w128 z → pos 0 <ℤ z → unsigned_abs (z -ℤ pos 1) + 1 < 2 ^ 127
before_small z fits h = grind (arith, ints, fits.sfits)

pub returns : goal.returns
returns c =
    let near = c.ranges.near in
    let positive : pos 0 <ℤ c.args.near = grind (arith, ints, c.if-near-le0.false) in
    let small = before_small c.args.near near positive in
    let before_fits : FitsSigned w128 (c.args.near -ℤ pos 1) = fits_signed_from_abs w128 (c.args.near -ℤ pos 1) (omega (arith, small)) in
    let fits : unsigned_abs (c.args.near -ℤ pos 1) / c.args.size + 1 < 2 ^ 127 = omega (arith, small, div-le_self (unsigned_abs (c.args.near -ℤ pos 1)) c.args.size) in
    simp to_z-of_z (rw (to_z_pos w128 (unsigned_abs (c.args.near -ℤ pos 1) / c.args.size + 1) fits)
    (first_by_division c.args.size (unsigned_abs (c.args.near -ℤ pos 1)) c.args.near c.requires (before_positive c.args.near positive)))
