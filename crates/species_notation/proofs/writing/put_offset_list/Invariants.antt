use Rattle.std.proofs.Common.{◌≡◌, ◌++◌, map, take}
use Rattle.species_notation.specs.Parts.{parts_text}
use Rattle.species_notation.specs.Spelled.{listed_parts, offset_parts}
use Rattle.species_notation.specs.Written.{written_offset}
use Rattle.species_notation.proofs.writing.put_offset_list.Given as goal

abbrev pub invariant-loop-index : goal.invariant-loop-index
invariant-loop-index l = l.out.items ≡ l.initial.out.items ++ parts_text (listed_parts 44 offset_parts (map written_offset (take l.index l.dims)))
