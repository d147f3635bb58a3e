-- One expression more.
use Rattle.species_scope.proofs.LevelLemmas.{named_next}
use Rattle.species_scope.proofs.forms.+names.Goals as goal

pub any_names-loop-e-preserved : goal.any_names-loop-e-preserved
any_names-loop-e-preserved t c =
    named_next c.args.level c.args.all.now c.loop-e.e-index _ c.loop-e.found c.names-here.result c.either-found.result
    c.loop-e.invariant c.e-item.is c.loop-e-test.true c.names-here.ensures c.either-found.ensures
