-- What is read before a place in a list of sizes.
use Rattle.species_scope.proofs.DeclaringLaws.{Sized}
use Rattle.species_scope.proofs.globals.sizes.Given as goal

abbrev pub invariant-loop-raw : goal.invariant-loop-raw
invariant-loop-raw l = Sized l.all l.initial.b l.b l.values.items l.raw-index
