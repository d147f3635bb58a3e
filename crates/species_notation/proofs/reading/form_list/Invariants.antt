use Rattle.std.proofs.Common.{◌≡◌, ◌<◌, length}
use Rattle.species_grammar.specs.Reader.{prepended}
use Rattle.species_notation.specs.Readers.{listed, more_of, form}
use Rattle.species_notation.proofs.reading.form_list.Given as goal

-- reading goes on behind what was read
abbrev pub invariant-loop-alloc : goal.invariant-loop-alloc
invariant-loop-alloc l = (listed 44 form l.fn.cursor ≡ prepended l.found (more_of 44 form l.cursor)) × (length l.cursor < length l.fn.cursor)

abbrev pub decreases-loop-alloc : goal.decreases-loop-alloc
decreases-loop-alloc l = length l.cursor
