use Rattle.std.proofs.Common.{◌≡◌, drop}
use Rattle.std.specs.List.{list_all}
use Rattle.species_notation.specs.Meaning.{is_range}
use Rattle.species_notation.proofs.meaning.check_ranges.Given as goal

-- those so far are ranges
abbrev pub invariant-loop-range : goal.invariant-loop-range
invariant-loop-range l = list_all is_range l.ranges ≡ list_all is_range (drop l.range-index l.ranges)
