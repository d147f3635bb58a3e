-- What is built behind the first items of a list.
use Rattle.std.proofs.Common.{◌≡◌, take}
use Rattle.species_scope.specs.Declaring.{after_items}
use Rattle.species_scope.proofs.globals.read_items.Given as goal

abbrev pub invariant-loop-raw : goal.invariant-loop-raw
invariant-loop-raw l = l.heads ≡ after_items l.initial.heads (take l.raw-index l.all)
