use Rattle.std.proofs.Common.{◌≡◌, take}
use Rattle.species_loops.specs.Bands.{iterators_of_all, names_band}
use Rattle.species_loops.proofs.front.+names.Given as goal

abbrev pub invariant-any_names-loop-e : goal.invariant-any_names-loop-e
invariant-any_names-loop-e l = l.found ≡ names_band l.band.first l.band.size (iterators_of_all (take l.e-index l.all))
