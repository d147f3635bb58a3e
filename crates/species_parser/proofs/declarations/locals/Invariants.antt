-- What the loop of `locals` keeps, and what falls in each turn.
use Rattle.std.proofs.Common.{◌≡◌, ◌<◌, length}
use Rattle.species_grammar.specs.Reader.{prepended}
use Rattle.species_parser.specs.Parsing.{locals, more_locals}
use Rattle.species_parser.proofs.declarations.locals.Given as goal

-- reading goes on behind the locals that were read
abbrev pub invariant-loop-alloc : goal.invariant-loop-alloc
invariant-loop-alloc l = (locals l.fn.cursor ≡ prepended l.locals (more_locals l.cursor)) × (length l.cursor < length l.fn.cursor)

abbrev pub decreases-loop-alloc : goal.decreases-loop-alloc
decreases-loop-alloc l = length l.cursor
