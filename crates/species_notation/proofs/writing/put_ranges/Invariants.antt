use Rattle.std.proofs.Common.{◌≡◌, ◌++◌, map, take}
use Rattle.species_notation.specs.Parts.{parts_text}
use Rattle.species_notation.specs.Spelled.{listed_parts, range_parts}
use Rattle.species_notation.specs.Written.{written_range}
use Rattle.species_notation.proofs.writing.put_ranges.Given as goal

abbrev pub invariant-loop-index : goal.invariant-loop-index
invariant-loop-index l = l.out.items ≡ l.initial.out.items ++ parts_text (listed_parts 44 range_parts (map (written_range l.iters) (take l.index l.dims)))
