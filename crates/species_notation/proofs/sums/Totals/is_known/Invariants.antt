use Rattle.std.proofs.Common.{◌≡◌, drop}
use Rattle.std.specs.List.{list_all}
use Rattle.species_notation.specs.Meaning.{is_known}
use Rattle.species_notation.proofs.Adding.{known_in}
use Rattle.species_notation.proofs.sums.Totals.is_known.Given as goal

-- the names so far are known
abbrev pub invariant-loop-at : goal.invariant-loop-at
invariant-loop-at l = is_known l.iters l.self ≡ list_all (known_in l.iters) (drop l.at l.self.names)
