-- What is built behind the first arrays of a list.
use Rattle.std.proofs.Common.{◌≡◌, map, take}
use Rattle.species_ast.specs.Scope.Programs.{parts_of}
use Rattle.species_scope.specs.Declaring.{after_arrays}
use Rattle.species_scope.proofs.globals.declare_arrays.Given as goal

abbrev pub invariant-loop-raw : goal.invariant-loop-raw
invariant-loop-raw l = l.heads ≡ after_arrays l.initial.heads (map (parts_of l.kind) (take l.raw-index l.all))
