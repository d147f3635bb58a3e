-- Whether the expressions before a place name the iterator.
use Rattle.std.proofs.Common.{◌≡◌, take}
use Rattle.species_ast.specs.Scope.Meanings.{is_among}
use Rattle.species_loops.specs.Bands.{iterators_of_all}
use Rattle.species_scope.proofs.forms.+names.Given as goal

abbrev pub invariant-any_names-loop-e : goal.invariant-any_names-loop-e
invariant-any_names-loop-e l = l.found ≡ is_among (iterators_of_all (take l.e-index l.all)) l.level
