use Rattle.std.proofs.Common.{◌≡◌, ◌≤◌, ◌+◌, ◌^◌, ℤ, pos, negsuc, ◌+ℤ◌, ◌-ℤ◌, ◌*ℤ◌, FitsSigned, arith, refl, subst, sym, rules}
use Rattle.std.proofs.lemmas.Int.{ints, to_z-of_z, fits_signed_from_abs}
use Rattle.std.specs.Int.{w32, w64, w128}
use Rattle.std.specs.Int.RustNames.{unsigned_abs}
use Rattle.species_integers.proofs.Sizes.{abs_difference, abs_between}
use Rattle.species_linear.specs.declared.loops.LoopRange.{LoopRange}
use Rattle.species_linear.specs.Box.{IsInRange, HasSmallEnds}
use Rattle.species_region.specs.Coordinate.{iterator_at, IsCoordinate}
use Rattle.species_banerjee.proofs.Counters.{counted_iterator}
use Rattle.species_banerjee.proofs.spans.iterator.Goals as goal

abs_of_narrow : (z : ℤ) → FitsSigned w64 z → unsigned_abs z ≤ 2 ^ 63
abs_of_narrow (pos n) fits = omega (arith, fits.sfits)
abs_of_narrow (negsuc n) fits = omega (arith, fits.sfits)

abs_of_step : (z : ℤ) → FitsSigned w32 z → unsigned_abs z ≤ 2 ^ 31
abs_of_step (pos n) fits = omega (arith, fits.sfits)
abs_of_step (negsuc n) fits = omega (arith, fits.sfits)

-- the iterator is in the range, so it is small; and so is the product that the start is added to
value_small : (r : LoopRange) (v z : ℤ) → IsCoordinate r v → HasSmallEnds r → iterator_at r v ≡ z → unsigned_abs z ≤ 2 ^ 40
value_small r v z inside small is =
    let in_range : IsInRange r z = subst (λ (x : ℤ). IsInRange r x) is inside.0 in
    abs_between r.low r.high z (2 ^ 40) in_range.0 in_range.1 small.0 small.1

product_small : (s product : ℤ) → unsigned_abs s ≤ 2 ^ 63 → unsigned_abs (s +ℤ product) ≤ 2 ^ 40 → unsigned_abs product ≤ 2 ^ 63 + 2 ^ 40
product_small s product small_s small_sum =
    let e : (s +ℤ product) -ℤ s ≡ product = omega (arith, ints) in
    subst (λ (x : ℤ). unsigned_abs x ≤ 2 ^ 63 + 2 ^ 40) e (omega (arith, abs_difference (s +ℤ product) s, small_s, small_sum))

pub overflow_add-result : goal.overflow_add-result
overflow_add-result c =
    let at = c.ranges.coordinate in
    let start : FitsSigned w64 c.in-Some.start = search rules in
    let step : FitsSigned w32 c.args.range.step = search rules in
    let small_start = abs_of_narrow c.in-Some.start start in
    let start_wide : FitsSigned w128 c.in-Some.start = fits_signed_from_abs w128 c.in-Some.start (omega (arith, small_start)) in
    let step_wide : FitsSigned w128 c.args.range.step = fits_signed_from_abs w128 c.args.range.step (omega (arith, abs_of_step c.args.range.step step)) in
    let small = value_small c.args.range c.args.coordinate (c.in-Some.start +ℤ c.args.range.step *ℤ c.args.coordinate) c.requires.inside c.requires.small
    (counted_iterator c.args.range c.in-Some.start c.args.coordinate c.in-Some.is) in
    let product : FitsSigned w128 (c.args.range.step *ℤ c.args.coordinate) = fits_signed_from_abs w128 (c.args.range.step *ℤ c.args.coordinate)
    (omega (arith, product_small c.in-Some.start (c.args.range.step *ℤ c.args.coordinate) small_start small)) in
    let sum : FitsSigned w128 (c.in-Some.start +ℤ c.args.range.step *ℤ c.args.coordinate) =
    fits_signed_from_abs w128 (c.in-Some.start +ℤ c.args.range.step *ℤ c.args.coordinate) (omega (arith, small)) in
    simp to_z-of_z sum

pub returns-in-Some-clause-value : goal.returns-in-Some-clause-value
returns-in-Some-clause-value c =
    let at = c.ranges.coordinate in
    let start : FitsSigned w64 c.in-Some.start = search rules in
    let step : FitsSigned w32 c.args.range.step = search rules in
    let small_start = abs_of_narrow c.in-Some.start start in
    let start_wide : FitsSigned w128 c.in-Some.start = fits_signed_from_abs w128 c.in-Some.start (omega (arith, small_start)) in
    let step_wide : FitsSigned w128 c.args.range.step = fits_signed_from_abs w128 c.args.range.step (omega (arith, abs_of_step c.args.range.step step)) in
    let is = counted_iterator c.args.range c.in-Some.start c.args.coordinate c.in-Some.is in
    let small = value_small c.args.range c.args.coordinate (c.in-Some.start +ℤ c.args.range.step *ℤ c.args.coordinate) c.requires.inside c.requires.small is in
    let product : FitsSigned w128 (c.args.range.step *ℤ c.args.coordinate) = fits_signed_from_abs w128 (c.args.range.step *ℤ c.args.coordinate)
    (omega (arith, product_small c.in-Some.start (c.args.range.step *ℤ c.args.coordinate) small_start small)) in
    let sum : FitsSigned w128 (c.in-Some.start +ℤ c.args.range.step *ℤ c.args.coordinate) =
    fits_signed_from_abs w128 (c.in-Some.start +ℤ c.args.range.step *ℤ c.args.coordinate) (omega (arith, small)) in
    simp to_z-of_z (sym is)

pub returns-in-Some-clause-size : goal.returns-in-Some-clause-size
returns-in-Some-clause-size c =
    rw (returns-in-Some-clause-value c) (value_small c.args.range c.args.coordinate (iterator_at c.args.range c.args.coordinate) c.requires.inside c.requires.small refl)
