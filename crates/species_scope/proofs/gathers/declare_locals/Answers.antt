-- One declarator more.
use Rattle.species_scope.proofs.GatherLaws.{declared_next}
use Rattle.species_scope.proofs.gathers.declare_locals.Goals as goal

pub loop-local-preserved : goal.loop-local-preserved
loop-local-preserved c =
    declared_next c.args.kind c.args.all.now c.args.place.now c.loop-local.place c.declare_local.new.self c.loop-local.local-index _ _
    c.loop-local.invariant c.local-item.is c.loop-local-test.true c.is_some.ensures c.in_ok-declare_local.ensures
