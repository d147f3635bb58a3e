-- What the loop of `arrays` keeps, and what falls in each turn.
use Rattle.std.proofs.Common.{◌≡◌, ◌<◌, length}
use Rattle.species_grammar.specs.Reader.{prepended}
use Rattle.species_parser.specs.Parsing.{arrays, more_arrays}
use Rattle.species_parser.proofs.declarations.arrays.Given as goal

-- reading goes on behind the arrays that were read
abbrev pub invariant-loop-alloc : goal.invariant-loop-alloc
invariant-loop-alloc l = (arrays l.fn.cursor ≡ prepended l.arrays (more_arrays l.cursor)) × (length l.cursor < length l.fn.cursor)

abbrev pub decreases-loop-alloc : goal.decreases-loop-alloc
decreases-loop-alloc l = length l.cursor
