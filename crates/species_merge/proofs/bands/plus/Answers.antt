use Rattle.std.proofs.Common.{◌≡◌, ◌∙◌, ◌≤◌, ap, sym, subst, arith, rules, ◌+◌, ◌^◌, ℤ, ◌+ℤ◌, ◌*ℤ◌, FitsSigned, to_z, of_z}
use Rattle.std.proofs.lemmas.Int.{to_z-of_z}
use Rattle.std.specs.Int.{w128}
use Rattle.std.specs.Int.RustNames.{unsigned_abs}
use Rattle.species_linear.specs.Value.{sum_at}
use Rattle.species_merge.proofs.BandLemmas.{plus_value}
use Rattle.species_merge.proofs.bands.plus.Goals as goal

pub returns-clause-value : goal.returns-clause-value
returns-clause-value c = λ p.
    let k : ℤ = c.constant_with-constant.result in
    let fits : FitsSigned w128 c.constant_with-constant.result = search rules in
    let whole : to_z w128 (of_z w128 c.constant_with-constant.result) ≡ c.constant_with-constant.result = to_z-of_z w128 c.constant_with-constant.result fits in
    let same : to_z w128 (of_z w128 c.args.c) ≡ c.args.c = to_z-of_z w128 c.args.c c.ranges.c in
    let constant : k ≡ c.args.form.constant +ℤ c.args.c *ℤ c.args.other.now.constant = cc (c.constant_with-constant.ensures.value, same) in
    let sums : sum_at c.in_ok-terms.terms p ≡ sum_at c.args.form.terms p +ℤ c.args.c *ℤ sum_at c.as_slice.result.now p = cc (c.in_ok-terms.ensures.value p, same) in
    ap (λ (z : ℤ). z +ℤ sum_at c.in_ok-terms.terms p) whole
    ∙ plus_value c.args.form c.args.other.now k c.args.c c.in_ok-terms.terms c.as_slice.result.now p constant c.as_slice.ensures.value sums

pub returns-clause-numbers : goal.returns-clause-numbers
returns-clause-numbers c = λ m h.
    let fits : FitsSigned w128 c.constant_with-constant.result = search rules in
    let whole : to_z w128 (of_z w128 c.constant_with-constant.result) ≡ c.constant_with-constant.result = to_z-of_z w128 c.constant_with-constant.result fits in (
      subst (λ (z : ℤ). unsigned_abs z ≤ m + 2 ^ 112) (sym whole) (omega (arith, c.constant_with-constant.ensures.number, h.0)),
      c.in_ok-terms.ensures.numbers m h.1,
    )
