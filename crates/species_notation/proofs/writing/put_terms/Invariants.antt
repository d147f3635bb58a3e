use Rattle.std.proofs.Common.{◌≡◌, ◌++◌, map, take}
use Rattle.species_notation.specs.Parts.{parts_text}
use Rattle.species_notation.specs.Spelled.{summands_parts}
use Rattle.species_notation.specs.Written.{written_term}
use Rattle.species_notation.proofs.writing.put_terms.Given as goal

abbrev pub invariant-loop-index : goal.invariant-loop-index
invariant-loop-index l = l.out.items ≡ l.initial.out.items ++ parts_text (summands_parts (map (written_term l.iters) (take l.index l.terms)))
