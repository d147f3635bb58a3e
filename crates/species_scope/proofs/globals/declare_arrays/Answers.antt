-- One array more.
use Rattle.species_scope.proofs.DeclaringLaws.{arrays-none, arrays_next}
use Rattle.species_scope.proofs.globals.declare_arrays.Goals as goal

pub loop-raw-init : goal.loop-raw-init
loop-raw-init c = arrays-none c.args.heads.now

pub loop-raw-preserved : goal.loop-raw-preserved
loop-raw-preserved c =
    arrays_next c.args.kind c.args.all.now c.args.heads.now c.loop-raw.heads c.declare_array.new.heads c.loop-raw.raw-index _
    c.loop-raw.invariant c.raw-item.is c.loop-raw-test.true c.in_ok-declare_array.ensures
