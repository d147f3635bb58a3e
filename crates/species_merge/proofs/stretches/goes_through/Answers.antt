use Rattle.std.proofs.Common.{rules, FitsSigned, ◌%◌}
use Rattle.std.specs.Int.{w128}
use Rattle.std.proofs.lemmas.Int.{to_z-of_z}
use Rattle.std.proofs.Math.Nat.{dvd_iff_mod-eq-zero}
use Rattle.std.proofs.lemmas.Bool.{eqb-true}
use Rattle.species_merge.proofs.stretches.goes_through.Goals as goal

pub returns-then-stride-span-eq0 : goal.returns-then-stride-span-eq0
returns-then-stride-span-eq0 c =
    let fits = c.ranges.at in
    let fits_low : FitsSigned w128 c.args.span.low = search rules in
    let fits_high : FitsSigned w128 c.args.span.high = search rules in
    let fact = simp to_z-of_z at c.holds.ensures in
    let divides = (dvd_iff_mod-eq-zero c.args.span.stride {n = c.args.stride}).1 c.if-stride-span-eq0.true in
    ((λ t. (divides, fact.0 t)), (λ g. fact.1 g.1))

pub returns-else-stride-span-eq0 : goal.returns-else-stride-span-eq0
returns-else-stride-span-eq0 c =
    ((λ t. absurd (c.if-stride-span-eq0.false (eqb-true (c.args.stride % c.args.span.stride) 0 t))), (λ g. absurd (c.if-stride-span-eq0.false ((dvd_iff_mod-eq-zero c.args.span.stride {n = c.args.stride}).0 g.0))))
