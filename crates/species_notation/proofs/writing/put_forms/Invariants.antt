use Rattle.std.proofs.Common.{◌≡◌, ◌++◌, map, take}
use Rattle.species_notation.specs.Parts.{parts_text}
use Rattle.species_notation.specs.Spelled.{listed_parts, form_parts}
use Rattle.species_notation.specs.Written.{written_form}
use Rattle.species_notation.proofs.writing.put_forms.Given as goal

abbrev pub invariant-loop-index : goal.invariant-loop-index
invariant-loop-index l = l.out.items ≡ l.initial.out.items ++ parts_text (listed_parts 44 form_parts (map (λ d. written_form l.iters d.at) (take l.index l.dims)))
