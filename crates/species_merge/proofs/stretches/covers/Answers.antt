use Rattle.std.proofs.Common.{rules, FitsSigned, to_z, arith, ◌≤ℤ◌, ◌<ℤ◌, ℤ}
use Rattle.std.specs.Int.{w128}
use Rattle.std.proofs.lemmas.Int.{ints, to_z-of_z}
use Rattle.species_merge.proofs.Divides.{dvd_ways}
use Rattle.species_merge.proofs.Covering.{covered_stretch, part_covered, not_true, clash}
use Rattle.species_merge.proofs.stretches.covers.Goals as goal

farther : (low at edge next : ℤ) → low ≤ℤ at → at ≤ℤ edge → edge <ℤ next → low ≤ℤ next
farther low at edge next p q r = omega (arith, ints, p, q, r)

pub returns-then-not-stretch : goal.returns-then-not-stretch
returns-then-not-stretch c =
    let at = to_z w128 c.loop-at.at-bits in
    let fits_low : FitsSigned w128 c.args.hull.low = search rules in
    let fits_high : FitsSigned w128 c.args.hull.high = search rules in
    let fits_edge : FitsSigned w128 c.edge_of-edge.result = search rules in
    let cover = simp to_z-of_z at c.stretch.ensures in
    let within = simp to_z-of_z at c.edge_of-edge.ensures.within in (
      (λ t. not_true t),
      (λ h. absurd (clash c.stretch.result (cover.1 (part_covered c.args.spans.now c.args.hull.low c.args.hull.high c.args.hull.stride at c.edge_of-edge.result c.loop-at.invariant.from within c.loop-at.invariant.whole h)) c.if-not-stretch.true)),
    )

pub loop-at-preserved : goal.loop-at-preserved
loop-at-preserved c =
    let at = to_z w128 c.loop-at.at-bits in
    let fits_low : FitsSigned w128 c.args.hull.low = search rules in
    let fits_high : FitsSigned w128 c.args.hull.high = search rules in
    let fits_edge : FitsSigned w128 c.edge_of-edge.result = search rules in
    let fits_next : FitsSigned w128 c.behind-at.result = search rules in
    let cover = simp to_z-of_z at c.stretch.ensures in
    let is_behind = simp to_z-of_z at c.behind-at.ensures in
    simp to_z-of_z (record {
      covered = covered_stretch c.args.spans.now c.args.hull.low c.args.hull.stride at c.edge_of-edge.result c.behind-at.result c.loop-at.invariant.covered c.loop-at.invariant.whole (cover.0 c.if-not-stretch.false) is_behind;
      whole = dvd_ways c.args.hull.stride c.behind-at.result at c.args.hull.low is_behind.whole c.loop-at.invariant.whole;
      from = farther c.args.hull.low at c.edge_of-edge.result c.behind-at.result c.loop-at.invariant.from c.edge_of-edge.ensures.ahead is_behind.behind;
    })
