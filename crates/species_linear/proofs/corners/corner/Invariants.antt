use Rattle.species_linear.specs.Value.{form_at}
use Rattle.species_linear.specs.Corner.{corner_of}
use Rattle.species_linear.proofs.Running.{IsRunning}
use Rattle.species_linear.proofs.corners.corner.Given as goal

abbrev pub invariant-loop-term : goal.invariant-loop-term
invariant-loop-term l = IsRunning l.term-items (corner_of l.lower l.form l.path) (form_at l.form (corner_of l.lower l.form l.path)) l.term-index l.total
