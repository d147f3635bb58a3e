use Rattle.std.proofs.Common.{◌≡◌, ◌≤◌, length}
use Rattle.species_grammar.specs.Reader.{prepended}
use Rattle.species_notation.specs.Readers.{more_summands}
use Rattle.species_notation.proofs.reading.more_summands.Given as goal

-- reading goes on behind what was read
abbrev pub invariant-loop-found : goal.invariant-loop-found
invariant-loop-found l = (more_summands l.fn.cursor ≡ prepended l.found (more_summands l.cursor)) × (length l.cursor ≤ length l.fn.cursor)

abbrev pub decreases-loop-found : goal.decreases-loop-found
decreases-loop-found l = length l.cursor
