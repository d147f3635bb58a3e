use Rattle.std.proofs.Common.{◌≡◌, ◌++◌, take}
use Rattle.species_references.specs.Occurrences.{all_seen, seen_in_all}
use Rattle.species_references.specs.Ranges.{ranges_seen}
use Rattle.species_references.proofs.occurrences.+reads.Given as goal

abbrev pub invariant-add_all_reads-loop-value : goal.invariant-add_all_reads-loop-value
invariant-add_all_reads-loop-value l =
    all_seen l.found.items ≡ all_seen l.initial.found.items ++ seen_in_all (take l.value-index l.values) (ranges_seen l.path) l.conditional
