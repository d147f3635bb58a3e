use Rattle.std.proofs.Common.{pos}
use Rattle.std.proofs.lemmas.Int.{to_z-of_z}
use Rattle.species_arcs.specs.declared.spans.Span.{Span}
use Rattle.species_merge.proofs.Covering.{period_begins, period_next, period_ends}
use Rattle.species_merge.proofs.stretches.period_of.Goals as goal

pub loop-span-init : goal.loop-span-init
loop-span-init c = let fits = c.ranges.at in simp to_z-of_z (period_begins c.args.spans.now c.args.at c.args.stride c.args.most c.requires.some)

pub loop-span-preserved : goal.loop-span-preserved
loop-span-preserved c =
    let nothing : Span = record { low = pos 0; high = pos 0; stride = 0 } in
    let fits = c.ranges.at in
    let before = simp to_z-of_z at c.loop-span.invariant in
    let own = simp to_z-of_z at c.period_with-period.ensures.own in
    simp to_z-of_z (period_next c.args.spans.now c.loop-span.span-index nothing c.args.at c.args.stride c.args.most c.loop-span.period c.period_with-period.result
    c.loop-span-test.true before c.period_with-period.ensures.some c.period_with-period.ensures.kept own)

pub returns : goal.returns
returns c =
    let fits = c.ranges.at in
    let before = simp to_z-of_z at c.loop-span.invariant in
    period_ends c.args.spans.now c.loop-span.span-index c.args.at c.args.stride c.args.most c.loop-span.period c.loop-span-test.false before
