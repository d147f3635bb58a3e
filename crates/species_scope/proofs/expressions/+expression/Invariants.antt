-- What is read before a place in a list of expressions.
use Rattle.std.proofs.Common.{◌≡◌, take}
use Rattle.species_names.specs.Noted.{noted}
use Rattle.species_scope.specs.Readings.{exprs_in, names_in}
use Rattle.species_scope.proofs.expressions.+expression.Given as goal

abbrev pub invariant-expressions-loop-raw : goal.invariant-expressions-loop-raw
invariant-expressions-loop-raw l =
    (l.values ≡ exprs_in (take l.raw-index l.all) l.place) × (l.found ≡ noted l.place.iterators l.initial.found (names_in (take l.raw-index l.all) l.place))
