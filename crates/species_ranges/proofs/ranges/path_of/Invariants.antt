use Rattle.std.proofs.Common.{◌≡◌, take}
use Rattle.species_references.specs.Ranges.{ranges_seen}
use Rattle.species_ranges.proofs.ranges.path_of.Given as goal

abbrev pub invariant-loop-range : goal.invariant-loop-range
invariant-loop-range l = l.path ≡ ranges_seen (take l.range-index l.ranges)
