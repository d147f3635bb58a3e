use Rattle.std.proofs.Common.{rules, pos, to_z, FitsSigned}
use Rattle.std.specs.Int.{w128}
use Rattle.std.proofs.lemmas.Int.{to_z-of_z}
use Rattle.species_arcs.specs.declared.spans.Span.{Span}
use Rattle.species_merge.proofs.Covering.{edge_next}
use Rattle.species_merge.proofs.stretches.edge_of.Goals as goal

pub loop-span-preserved : goal.loop-span-preserved
loop-span-preserved c =
    let nothing : Span = record { low = pos 0; high = pos 0; stride = 0 } in
    let fits_at = c.ranges.at in
    let fits_last = c.ranges.last in
    let fits_edge : FitsSigned w128 c.edge_with-edge.result = search rules in
    let before = simp to_z-of_z at c.loop-span.invariant in
    let ahead = simp to_z-of_z at c.edge_with-edge.ensures.ahead in
    let settled = simp to_z-of_z at c.edge_with-edge.ensures.settled in
    simp to_z-of_z (edge_next c.args.spans.now c.loop-span.span-index nothing c.args.at c.args.last (to_z w128 c.loop-span.edge-bits) c.edge_with-edge.result
    c.loop-span-test.true before ahead c.edge_with-edge.ensures.within settled)
