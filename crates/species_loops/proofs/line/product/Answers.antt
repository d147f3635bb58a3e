use Rattle.std.proofs.Common.{◌≡◌, ◌∙◌, ap, ◌+ℤ◌, ◌*ℤ◌, FitsSigned, arith, rules, to_z, of_z}
use Rattle.std.specs.Int.{w64}
use Rattle.std.proofs.lemmas.Int.{ints, to_z-of_z, fits_signed_from_abs}
use Rattle.species_integers.proofs.Sizes.{abs_sum}
use Rattle.species_loops.proofs.LineLaws.{line_product, word_product, renamed}
use Rattle.species_loops.proofs.line.product.Goals as goal

pub overflow_add-times : goal.overflow_add-times
overflow_add-times c =
    let second : FitsSigned w64 c.times-2.result = search rules in
    let third : FitsSigned w64 c.times-3.result = search rules in
    let both : FitsSigned w64 (c.times-2.result +ℤ c.times-3.result) =
    fits_signed_from_abs w64 (c.times-2.result +ℤ c.times-3.result) (omega (arith, abs_sum c.times-2.result c.times-3.result, c.times-2.ensures.small, c.times-3.ensures.small)) in
    rw (to_z-of_z w64 c.times-2.result second, to_z-of_z w64 c.times-3.result third) both

pub returns-clause-value : goal.returns-clause-value
returns-clause-value c =
    let constant : FitsSigned w64 c.limited.result = search rules in
    let slope : FitsSigned w64 c.limited-2.result = search rules in
    let first : FitsSigned w64 c.times.result = search rules in
    let second : FitsSigned w64 c.times-2.result = search rules in
    let third : FitsSigned w64 c.times-3.result = search rules in
    let both : FitsSigned w64 (c.times-2.result +ℤ c.times-3.result) =
    fits_signed_from_abs w64 (c.times-2.result +ℤ c.times-3.result) (omega (arith, abs_sum c.times-2.result c.times-3.result, c.times-2.ensures.small, c.times-3.ensures.small)) in
    let a = c.args.a in
    let b = c.args.b in
    let constants : c.times.result ≡ a.constant *ℤ b.constant = word_product a.constant b.constant c.times.result c.requires.left.0 c.requires.right.0 c.times.ensures.value in
    let ups : c.times-2.result ≡ a.constant *ℤ b.slope = word_product a.constant b.slope c.times-2.result c.requires.left.0 c.requires.right.1 c.times-2.ensures.value in
    let downs : c.times-3.result ≡ a.slope *ℤ b.constant = word_product a.slope b.constant c.times-3.result c.requires.left.1 c.requires.right.0 c.times-3.ensures.value in
    let slopes : to_z w64 (of_z w64 (to_z w64 (of_z w64 c.times-2.result) +ℤ to_z w64 (of_z w64 c.times-3.result))) ≡ a.constant *ℤ b.slope +ℤ a.slope *ℤ b.constant =
    (λ i. to_z w64 (of_z w64 (to_z-of_z w64 c.times-2.result second i +ℤ to_z-of_z w64 c.times-3.result third i)))
    ∙ to_z-of_z w64 (c.times-2.result +ℤ c.times-3.result) both ∙ (λ i. ups i +ℤ downs i) in
    rw (to_z-of_z w64 c.limited.result constant, to_z-of_z w64 c.limited-2.result slope)
    (line_product a b (record { constant = c.limited.result; slope = c.limited-2.result })
    (renamed _ (a.constant *ℤ b.constant) c.limited.result c.limited.ensures.same (to_z-of_z w64 c.times.result first ∙ constants))
    (renamed _ (a.constant *ℤ b.slope +ℤ a.slope *ℤ b.constant) c.limited-2.result c.limited-2.ensures.same slopes))
