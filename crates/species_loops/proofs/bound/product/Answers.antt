use Rattle.std.proofs.Common.{◌≡◌, ◌∙◌, ◌≤◌, ◌*◌, ◌^◌, ap, subst, sym, ℤ, ◌*ℤ◌, FitsSigned, arith, rules}
use Rattle.std.specs.Int.{w64}
use Rattle.std.specs.Int.RustNames.{unsigned_abs}
use Rattle.std.proofs.lemmas.Int.{to_z-of_z}
use Rattle.species_integers.proofs.Sizes.{abs_product}
use Rattle.species_linear.specs.Corner.{end_of}
use Rattle.species_linear.proofs.CornerEnds.{end_has}
use Rattle.species_loops.proofs.ExtremeLaws.{product_at, word_times}
use Rattle.species_loops.proofs.bound.product.Goals as goal

pub returns : goal.returns
returns c =
    let slope_fits : FitsSigned w64 c.args.slope = c.ranges.slope in
    let end_fits : FitsSigned w64 c.end_of.result = search rules in
    let slope : c.from.result ≡ c.args.slope = c.from.ensures ∙ to_z-of_z w64 c.args.slope slope_fits in
    let end_is : c.end_of.result ≡ end_of c.args.lower c.args.slope c.args.range =
    c.end_of.ensures ∙ ap (λ (z : ℤ). end_of c.args.lower z c.args.range) (to_z-of_z w64 c.args.slope slope_fits) in
    let end : c.from-2.result ≡ end_of c.args.lower c.args.slope c.args.range = c.from-2.ensures ∙ to_z-of_z w64 c.end_of.result end_fits ∙ end_is in
    let near : unsigned_abs (end_of c.args.lower c.args.slope c.args.range) ≤ 2 ^ 40 =
    end_has (λ z. unsigned_abs z ≤ 2 ^ 40) c.args.lower c.args.slope c.args.range c.requires.ends.0 c.requires.ends.1 in
    let whole = word_times c.from.result c.from-2.result c.args.slope (end_of c.args.lower c.args.slope c.args.range) slope end c.requires.slope near in
    let size : unsigned_abs (c.args.slope *ℤ end_of c.args.lower c.args.slope c.args.range) ≤ 2147483647 * 2 ^ 40 =
    abs_product c.args.slope (end_of c.args.lower c.args.slope c.args.range) 2147483647 (2 ^ 40) c.requires.slope near in
    record {
      value = whole ∙ product_at c.args.lower c.args.slope c.args.range;
      small = subst (λ z. unsigned_abs z ≤ 2 ^ 72) (sym whole) (omega (arith, size));
    }
