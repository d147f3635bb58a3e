use Rattle.std.proofs.Common.{◌≡◌, ◌<◌, length}
use Rattle.species_grammar.specs.Reader.{prepended}
use Rattle.species_notation.specs.Readers.{arcs, more_of, arc}
use Rattle.species_notation.proofs.reading.arcs.Given as goal

-- reading goes on behind what was read
abbrev pub invariant-loop-alloc : goal.invariant-loop-alloc
invariant-loop-alloc l = (arcs l.fn.cursor ≡ prepended l.found (more_of 94 arc l.cursor)) × (length l.cursor < length l.fn.cursor)

abbrev pub decreases-loop-alloc : goal.decreases-loop-alloc
decreases-loop-alloc l = length l.cursor
