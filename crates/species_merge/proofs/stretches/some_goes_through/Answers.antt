use Rattle.std.proofs.Common.{pos}
use Rattle.std.proofs.lemmas.Int.{to_z-of_z}
use Rattle.species_arcs.specs.declared.spans.Span.{Span}
use Rattle.species_merge.specs.Stretches.{GoesThrough}
use Rattle.species_merge.proofs.Covering.{any_at}
use Rattle.species_merge.proofs.stretches.some_goes_through.Goals as goal

nothing : Span
nothing = record { low = pos 0; high = pos 0; stride = 0 }

pub returns-then-goes_through : goal.returns-then-goes_through
unfolding nothing
returns-then-goes_through c =
    let fits = c.ranges.at in
    let fact = simp to_z-of_z at c.goes_through.ensures in
    (λ t. any_at (GoesThrough c.args.at c.args.stride) c.args.spans.now c.loop-span.span-index nothing c.loop-span-test.true (fact.0 c.if-goes_through.true))
