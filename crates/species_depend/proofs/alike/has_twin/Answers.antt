use Rattle.std.proofs.Common.{arith, ◌-◌}
use Rattle.species_depend.proofs.AlikeLemmas.{twin_here}
use Rattle.species_depend.proofs.alike.has_twin.Goals as goal

pub returns-then-is_twin : goal.returns-then-is_twin
returns-then-is_twin c t =
    twin_here c.args.refs.now (c.loop-place.place - 1) c.args.at c.args.least c.index-refs-place.result c.index-refs-at.result
    (omega (arith, c.loop-place.invariant, c.loop-place-test.true)) c.requires c.index-refs-place.is c.index-refs-at.is
    (c.is_twin.ensures.alike c.if-is_twin.true) (c.is_twin.ensures.above c.if-is_twin.true) (c.is_twin.ensures.below c.if-is_twin.true)
