-- One item more.
use Rattle.species_scope.proofs.DeclaringLaws.{items-none, items_next}
use Rattle.species_scope.proofs.globals.read_items.Goals as goal

pub loop-raw-init : goal.loop-raw-init
loop-raw-init c = items-none c.args.heads.now

pub loop-raw-preserved : goal.loop-raw-preserved
loop-raw-preserved c =
    items_next c.args.all.now c.args.heads.now c.loop-raw.heads c.read_item.new.heads c.loop-raw.raw-index _
    c.loop-raw.invariant c.raw-item.is c.loop-raw-test.true c.in_ok-read_item.ensures
