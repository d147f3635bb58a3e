use Rattle.std.proofs.Common.{take}
use Rattle.species_references.specs.Ranges.{ranges_seen, ranges_in_list}
use Rattle.species_references.specs.Occurrences.{all_seen, seen_in_list, Collected}
use Rattle.species_references.specs.References.{adds_of}
use Rattle.species_references.proofs.occurrences.+statements.Given as goal

abbrev pub invariant-add_list-loop-statement : goal.invariant-add_list-loop-statement
invariant-add_list-loop-statement l =
    Collected (ranges_seen l.ranges) (ranges_in_list (take l.statement-index l.statements) (ranges_seen l.path)) (ranges_seen l.rest) (all_seen l.initial.found.items)
    (seen_in_list (adds_of l.gathered) (take l.statement-index l.statements) (ranges_seen l.path) l.conditional l.band) (all_seen l.found.items)
