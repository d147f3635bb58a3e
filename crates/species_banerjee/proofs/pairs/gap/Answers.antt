use Rattle.std.proofs.Common.{◌≤◌, ◌^◌, ◌*◌, ℤ, ◌-ℤ◌, ◌*ℤ◌, FitsSigned, arith, refl, rules}
use Rattle.std.proofs.lemmas.Int.{to_z-of_z, fits_signed_from_abs}
use Rattle.std.specs.Int.{w128}
use Rattle.std.specs.Int.RustNames.{unsigned_abs}
use Rattle.species_integers.proofs.Sizes.{abs_difference, abs_product}
use Rattle.species_banerjee.proofs.pairs.gap.Goals as goal

product_small : (a x : ℤ) → unsigned_abs a ≤ 2 ^ 70 → unsigned_abs x ≤ 2 ^ 40 → unsigned_abs (a *ℤ x) ≤ 2 ^ 70 * 2 ^ 40
product_small a x small_a small_x = abs_product a x (2 ^ 70) (2 ^ 40) small_a small_x

product_fits : (a x : ℤ) → unsigned_abs a ≤ 2 ^ 70 → unsigned_abs x ≤ 2 ^ 40 → FitsSigned w128 (a *ℤ x)
product_fits a x small_a small_x = fits_signed_from_abs w128 (a *ℤ x) (omega (arith, product_small a x small_a small_x))

gap_fits : (a x b y : ℤ) → unsigned_abs a ≤ 2 ^ 70 → unsigned_abs x ≤ 2 ^ 40 → unsigned_abs b ≤ 2 ^ 70 → unsigned_abs y ≤ 2 ^ 40 → FitsSigned w128 (a *ℤ x -ℤ b *ℤ y)
gap_fits a x b y small_a small_x small_b small_y =
    fits_signed_from_abs w128 (a *ℤ x -ℤ b *ℤ y) (omega (arith, abs_difference (a *ℤ x) (b *ℤ y), product_small a x small_a small_x, product_small b y small_b small_y))

pub overflow_mul-result : goal.overflow_mul-result
overflow_mul-result c =
    let a = c.ranges.a in
    let x : FitsSigned w128 c.iterator.result = search rules in
    simp to_z-of_z (product_fits c.args.a c.iterator.result (omega (arith, c.requires.small_a)) c.iterator.ensures.size)

pub overflow_mul-result-2 : goal.overflow_mul-result-2
overflow_mul-result-2 c =
    let b = c.ranges.b in
    let y : FitsSigned w128 c.iterator-2.result = search rules in
    simp to_z-of_z (product_fits c.args.b c.iterator-2.result (omega (arith, c.requires.small_b)) c.iterator-2.ensures.size)

pub overflow_sub-result : goal.overflow_sub-result
overflow_sub-result c =
    let a = c.ranges.a in let b = c.ranges.b in
    let x : FitsSigned w128 c.iterator.result = search rules in
    let y : FitsSigned w128 c.iterator-2.result = search rules in
    let ax = product_fits c.args.a c.iterator.result (omega (arith, c.requires.small_a)) c.iterator.ensures.size in
    let by = product_fits c.args.b c.iterator-2.result (omega (arith, c.requires.small_b)) c.iterator-2.ensures.size in
    simp to_z-of_z (gap_fits c.args.a c.iterator.result c.args.b c.iterator-2.result
    (omega (arith, c.requires.small_a)) c.iterator.ensures.size (omega (arith, c.requires.small_b)) c.iterator-2.ensures.size)

pub returns : goal.returns
returns c =
    let a = c.ranges.a in let b = c.ranges.b in
    let at_first : FitsSigned w128 c.args.at.first = search rules in
    let at_second : FitsSigned w128 c.args.at.second = search rules in
    let x : FitsSigned w128 c.iterator.result = search rules in
    let y : FitsSigned w128 c.iterator-2.result = search rules in
    let ax = product_fits c.args.a c.iterator.result (omega (arith, c.requires.small_a)) c.iterator.ensures.size in
    let by = product_fits c.args.b c.iterator-2.result (omega (arith, c.requires.small_b)) c.iterator-2.ensures.size in
    let both = gap_fits c.args.a c.iterator.result c.args.b c.iterator-2.result
    (omega (arith, c.requires.small_a)) c.iterator.ensures.size (omega (arith, c.requires.small_b)) c.iterator-2.ensures.size in
    let is_x = simp to_z-of_z at c.iterator.ensures.value in
    let is_y = simp to_z-of_z at c.iterator-2.ensures.value in
    simp to_z-of_z (rw (is_x, is_y) refl)
