use Rattle.std.proofs.Common.{◌≡◌, ◌++◌, map, take}
use Rattle.species_notation.specs.Parts.{parts_text}
use Rattle.species_notation.specs.Spelled.{listed_parts}
use Rattle.species_notation.specs.Written.{number_parts}
use Rattle.species_notation.proofs.table.put_steps.Given as goal

abbrev pub invariant-loop-index : goal.invariant-loop-index
invariant-loop-index l = l.out.items ≡ l.initial.out.items ++ parts_text (listed_parts 44 number_parts (map (λ d. d.step) (take l.index l.dims)))
