use Rattle.std.proofs.Common.{◌≡◌, drop}
use Rattle.species_linear.specs.Value.{coefficient_at}
use Rattle.species_region.proofs.coefficient.Given as goal

abbrev pub invariant-loop-term : goal.invariant-loop-term
invariant-loop-term l = coefficient_at (drop l.term-index l.term-items) l.level ≡ coefficient_at l.form.terms l.level
