use Rattle.std.proofs.Common.{rules, arith, FitsSigned, ℤ, ◌≡◌, ◌-ℤ◌, ◌≤ℤ◌, false}
use Rattle.std.specs.Int.{w128}
use Rattle.std.specs.Int.RustNames.{int_lt}
use Rattle.std.proofs.lemmas.Int.{to_z-of_z, ints}
use Rattle.species_arcs.proofs.SpanLaws.{span_test}
use Rattle.species_arcs.proofs.spans.Span.holds.Goals as goal

not_less : (x y : ℤ) → int_lt x y ≡ false → y ≤ℤ x
not_less x y h = grind (arith, ints)

pub returns : goal.returns
returns c =
    let fits : FitsSigned w128 c.args.self.low = search rules in
    let fits_high : FitsSigned w128 c.args.self.high = search rules in
    let fits_number = c.ranges.number in
    let fits_way : FitsSigned w128 (c.args.number -ℤ c.args.self.low) = search rules in
    let way = simp to_z-of_z at c.unsigned_abs.ensures.value in
    let low : c.args.self.low ≤ℤ c.args.number = not_less c.args.number c.args.self.low (simp to_z-of_z at c.if-number-self.false) in
    let high : c.args.number ≤ℤ c.args.self.high = not_less c.args.self.high c.args.number (simp to_z-of_z at c.if-self-number.false) in
    span_test c.args.self c.args.number c.unsigned_abs.result low high way
