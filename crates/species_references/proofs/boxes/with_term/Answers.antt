use Rattle.std.proofs.Common.{ap, ℤ, ◌+ℤ◌, ◌≤◌, ◌+◌, ◌^◌, FitsSigned, arith, rules}
use Rattle.std.proofs.lemmas.Int.{to_z-of_z, fits_signed_from_abs}
use Rattle.std.specs.Int.{w128}
use Rattle.std.specs.Int.RustNames.{unsigned_abs}
use Rattle.species_integers.proofs.Sizes.{abs_sum}
use Rattle.species_references.proofs.boxes.with_term.Goals as goal

sum_fits : (x y : ℤ) → unsigned_abs x ≤ 2 ^ 126 + 2 ^ 94 → unsigned_abs y ≤ 2 ^ 94 → FitsSigned w128 (x +ℤ y)
sum_fits x y h k = fits_signed_from_abs w128 (x +ℤ y) (omega (arith, abs_sum x y))

pub returns-clause-low : goal.returns-clause-low
returns-clause-low c =
    let low : FitsSigned w128 c.args.extent.low = search rules in
    let product : FitsSigned w128 c.least_product.result = search rules in
    let sum : FitsSigned w128 (c.args.extent.low +ℤ c.least_product.result) = sum_fits c.args.extent.low c.least_product.result c.requires.small_low c.least_product.ensures.small in
    simp to_z-of_z (ap (λ z. c.args.extent.low +ℤ z) c.least_product.ensures.value)

pub returns-clause-high : goal.returns-clause-high
returns-clause-high c =
    let high : FitsSigned w128 c.args.extent.high = search rules in
    let product : FitsSigned w128 c.greatest_product.result = search rules in
    let sum : FitsSigned w128 (c.args.extent.high +ℤ c.greatest_product.result) = sum_fits c.args.extent.high c.greatest_product.result c.requires.small_high c.greatest_product.ensures.small in
    simp to_z-of_z (ap (λ z. c.args.extent.high +ℤ z) c.greatest_product.ensures.value)

pub returns-clause-grows_low : goal.returns-clause-grows_low
returns-clause-grows_low c =
    let low : FitsSigned w128 c.args.extent.low = search rules in
    let product : FitsSigned w128 c.least_product.result = search rules in
    let sum : FitsSigned w128 (c.args.extent.low +ℤ c.least_product.result) = sum_fits c.args.extent.low c.least_product.result c.requires.small_low c.least_product.ensures.small in
    simp to_z-of_z (omega (arith, abs_sum c.args.extent.low c.least_product.result))

pub returns-clause-grows_high : goal.returns-clause-grows_high
returns-clause-grows_high c =
    let high : FitsSigned w128 c.args.extent.high = search rules in
    let product : FitsSigned w128 c.greatest_product.result = search rules in
    let sum : FitsSigned w128 (c.args.extent.high +ℤ c.greatest_product.result) = sum_fits c.args.extent.high c.greatest_product.result c.requires.small_high c.greatest_product.ensures.small in
    simp to_z-of_z (omega (arith, abs_sum c.args.extent.high c.greatest_product.result))

pub returns-clause-divisor : goal.returns-clause-divisor
returns-clause-divisor c = rw c.gap.ensures at c.gcd.ensures
