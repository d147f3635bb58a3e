use Rattle.std.proofs.Common.{◌≡◌, ◌^◌, ◌≤◌, ℤ, pos, negsuc, ◌-ℤ◌, ◌≤ℤ◌, ◌<ℤ◌, FitsSigned, arith, rules}
use Rattle.std.proofs.lemmas.Int.{ints, to_z-of_z, fits_signed_from_abs}
use Rattle.std.proofs.Math.IntN.{neg_ℤ}
use Rattle.std.specs.Int.{w32, w64, w128}
use Rattle.std.specs.Int.RustNames.{unsigned_abs}
use Rattle.species_integers.proofs.Sizes.{abs_difference}
use Rattle.species_banerjee.proofs.Counters.{counters_up, counters_down}
use Rattle.species_banerjee.proofs.spans.counters.Goals as goal

abs_of_narrow : (z : ℤ) → FitsSigned w64 z → unsigned_abs z ≤ 2 ^ 63
abs_of_narrow (pos n) fits = omega (arith, fits.sfits)
abs_of_narrow (negsuc n) fits = omega (arith, fits.sfits)

widened : (z : ℤ) → FitsSigned w64 z → FitsSigned w128 z
widened z fits = fits_signed_from_abs w128 z (omega (arith, abs_of_narrow z fits))

apart_fits : (x y : ℤ) → FitsSigned w64 x → FitsSigned w64 y → FitsSigned w128 (x -ℤ y)
apart_fits x y f g = fits_signed_from_abs w128 (x -ℤ y) (omega (arith, abs_difference x y, abs_of_narrow x f, abs_of_narrow y g))

step_up : (z : ℤ) → pos 0 <ℤ z → z ≡ pos (unsigned_abs z)
step_up z h = grind (arith, ints)

step_down : (z : ℤ) → z ≤ℤ pos 0 → z ≡ neg_ℤ (pos (unsigned_abs z))
step_down z h = grind (arith, ints)

pub returns-then-range-gt0 : goal.returns-then-range-gt0
returns-then-range-gt0 c =
    let start = c.ranges.start in
    let start_wide = widened c.args.start start in
    let low : FitsSigned w64 c.args.range.low = search rules in
    let high : FitsSigned w64 c.args.range.high = search rules in
    let step : FitsSigned w32 c.args.range.step = search rules in
    let low_wide = widened c.args.range.low low in
    let high_wide = widened c.args.range.high high in
    let near = apart_fits c.args.range.low c.args.start low start in
    let far = apart_fits c.args.range.high c.args.start high start in
    let first_fits : FitsSigned w128 c.first_counter.result = search rules in
    let last_fits : FitsSigned w128 c.last_counter.result = search rules in
    let size = simp to_z-of_z at c.unsigned_abs-size.ensures.value in
    let rises : pos 0 <ℤ c.args.range.step = grind (arith, ints, c.if-range-gt0.true) in
    let first = rw size at (simp to_z-of_z at c.first_counter.ensures) in
    let last = rw size at (simp to_z-of_z at c.last_counter.ensures) in
    simp to_z-of_z (counters_up c.args.range c.args.start c.first_counter.result c.last_counter.result (unsigned_abs c.args.range.step)
    c.requires.counted (step_up c.args.range.step rises) first last)

pub returns-else-range-gt0 : goal.returns-else-range-gt0
returns-else-range-gt0 c =
    let start = c.ranges.start in
    let start_wide = widened c.args.start start in
    let low : FitsSigned w64 c.args.range.low = search rules in
    let high : FitsSigned w64 c.args.range.high = search rules in
    let step : FitsSigned w32 c.args.range.step = search rules in
    let low_wide = widened c.args.range.low low in
    let high_wide = widened c.args.range.high high in
    let near = apart_fits c.args.start c.args.range.high start high in
    let far = apart_fits c.args.start c.args.range.low start low in
    let first_fits : FitsSigned w128 c.first_counter-else-range-gt0.result = search rules in
    let last_fits : FitsSigned w128 c.last_counter-else-range-gt0.result = search rules in
    let size = simp to_z-of_z at c.unsigned_abs-size.ensures.value in
    let falls : c.args.range.step ≤ℤ pos 0 = grind (arith, ints, c.if-range-gt0.false) in
    let first = rw size at (simp to_z-of_z at c.first_counter-else-range-gt0.ensures) in
    let last = rw size at (simp to_z-of_z at c.last_counter-else-range-gt0.ensures) in
    simp to_z-of_z (counters_down c.args.range c.args.start c.first_counter-else-range-gt0.result c.last_counter-else-range-gt0.result (unsigned_abs c.args.range.step)
    c.requires.counted (step_down c.args.range.step falls) first last)
