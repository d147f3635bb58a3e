use Rattle.std.proofs.Common.{◌≡◌, ◌<◌, ◌++◌, take, drop, All}
use Rattle.species_notation.specs.Meaning.{terms_from}
use Rattle.species_notation.specs.Tables.{left_after}
use Rattle.species_notation.proofs.meaning.given_form.Given as goal

-- the terms of the other levels come behind those so far
abbrev pub invariant-loop-level : goal.invariant-loop-level
invariant-loop-level l =
    (terms_from 0 l.iters l.sums.names ≡ l.terms ++ terms_from l.level (drop l.level l.iters) (left_after (take l.level l.iters) l.sums.names))
    × All (λ t. t.level < l.level) l.terms
