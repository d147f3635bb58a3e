-- What the loops of the functions of statements keep, and what falls in each turn.
use Rattle.std.proofs.Common.{◌≡◌, ◌≤◌, ◌+◌, ◌*◌, length}
use Rattle.species_grammar.specs.Reader.{prepended}
use Rattle.species_parser.specs.Parsing.{items}
use Rattle.species_parser.proofs.statements.+statements.Given as goal

abbrev pub decreases-statement : goal.decreases-statement
decreases-statement l = 8 * length l.cursor.now + 2

abbrev pub decreases-block : goal.decreases-block
decreases-block l = 8 * length l.cursor.now + 1

abbrev pub decreases-if_statement : goal.decreases-if_statement
decreases-if_statement l = 8 * length l.cursor.now + 1

abbrev pub decreases-otherwise : goal.decreases-otherwise
decreases-otherwise l = 8 * length l.cursor.now + 1

abbrev pub decreases-loop_statement : goal.decreases-loop_statement
decreases-loop_statement l = 8 * length l.cursor.now + 1

abbrev pub decreases-item : goal.decreases-item
decreases-item l = 8 * length l.cursor.now + 3

abbrev pub decreases-items : goal.decreases-items
decreases-items l = 8 * length l.cursor.now + 4

-- reading goes on behind the things that were read
abbrev pub invariant-items-loop-alloc : goal.invariant-items-loop-alloc
invariant-items-loop-alloc l = (items l.fn.cursor ≡ prepended l.items (items l.cursor)) × (length l.cursor ≤ length l.fn.cursor)

abbrev pub decreases-items-loop-alloc : goal.decreases-items-loop-alloc
decreases-items-loop-alloc l = length l.cursor
