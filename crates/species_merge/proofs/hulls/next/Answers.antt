use Rattle.std.proofs.Common.{rules, FitsSigned}
use Rattle.std.specs.Int.{w128}
use Rattle.std.proofs.lemmas.Int.{to_z-of_z}
use Rattle.species_merge.proofs.HullSteps.{three}
use Rattle.species_merge.proofs.hulls.next.Goals as goal

pub returns : goal.returns
returns c =
    let fits_lesser : FitsSigned w128 c.lesser.result = search rules in
    let fits_greater : FitsSigned w128 c.greater.result = search rules in
    let fits_reach_low : FitsSigned w128 c.args.reach.low = search rules in
    let fits_span_low : FitsSigned w128 c.args.span.low = search rules in
    let fits_reach_high : FitsSigned w128 c.args.reach.high = search rules in
    let fits_span_high : FitsSigned w128 c.args.span.high = search rules in
    let way = simp to_z-of_z at c.way.ensures in
    let low = simp to_z-of_z at c.lesser.ensures in
    let high = simp to_z-of_z at c.greater.ensures in
    simp to_z-of_z (record { next = record { low = low; high = high; divisor = three _ _ _ _ _ _ _ c.gcd.ensures c.gcd-divisor.ensures way c.own_stride.ensures } })
