use Rattle.std.proofs.Common.{refl, pos}
use Rattle.std.proofs.lemmas.Int.{to_z-of_z}
use Rattle.species_arcs.specs.declared.spans.Span.{Span}
use Rattle.species_arcs.specs.Spans.{IsInSpan}
use Rattle.species_merge.proofs.Covering.{any_at, none_next, none_at_end}
use Rattle.species_merge.proofs.stretches.some_holds.Goals as goal

nothing : Span
nothing = record { low = pos 0; high = pos 0; stride = 0 }

pub returns-then-holds : goal.returns-then-holds
unfolding nothing
returns-then-holds c =
    let fits = c.ranges.number in
    let fact = simp to_z-of_z at c.holds.ensures in
    ((λ t. any_at (λ b. IsInSpan b c.args.number) c.args.spans.now c.loop-span.span-index nothing c.loop-span-test.true (fact.0 c.if-holds.true)), (λ h. refl))

pub loop-span-preserved : goal.loop-span-preserved
unfolding nothing
loop-span-preserved c =
    let fits = c.ranges.number in
    let fact = simp to_z-of_z at c.holds.ensures in
    let before = simp to_z-of_z at c.loop-span.invariant in
    simp to_z-of_z (none_next (λ b. IsInSpan b c.args.number) c.args.spans.now c.loop-span.span-index nothing c.loop-span-test.true before (λ p. absurd (cc (fact.1 p, c.if-holds.false))))

pub returns : goal.returns
returns c =
    let fits = c.ranges.number in
    let before = simp to_z-of_z at c.loop-span.invariant in
    ((λ t. absurd (cc t)), (λ h. absurd (none_at_end (λ b. IsInSpan b c.args.number) c.args.spans.now c.loop-span.span-index c.loop-span-test.false before h)))
