-- What the loop of `unit` keeps, and what falls in each turn.
use Rattle.std.proofs.Common.{◌≡◌, length}
use Rattle.species_parser.specs.Parsing.{unit, after_items}
use Rattle.species_parser.proofs.units.unit.Given as goal

-- reading goes on behind the items that were read
abbrev pub invariant-loop-items : goal.invariant-loop-items
invariant-loop-items l = unit l.fn.cursor ≡ after_items l.items (unit l.cursor)

abbrev pub decreases-loop-items : goal.decreases-loop-items
decreases-loop-items l = length l.cursor
