use Rattle.species_linear.specs.Point.{point_of}
use Rattle.species_linear.specs.Value.{form_at}
use Rattle.species_linear.proofs.Running.{IsRunning}
use Rattle.species_linear.proofs.forms.value.Given as goal

abbrev pub invariant-loop-term : goal.invariant-loop-term
invariant-loop-term l = IsRunning l.term-items (point_of l.iters) (form_at l.form (point_of l.iters)) l.term-index l.total
