-- What the loops of the functions of expressions keep, and what falls in each turn.
use Rattle.std.proofs.Common.{◌≡◌, ◌≤◌, ◌<◌, ◌+◌, ◌-◌, ◌*◌, length}
use Rattle.species_grammar.specs.Reader.{Answer, prepended}
use Rattle.species_parser.specs.Parsing.{binary, binary_tail, subscripts}
use Rattle.species_parser.proofs.expressions.+expressions.Given as goal

abbrev pub decreases-expression : goal.decreases-expression
decreases-expression l = 8 * length l.cursor.now + 3

abbrev pub decreases-binary : goal.decreases-binary
decreases-binary l = 8 * length l.cursor.now + 2

abbrev pub decreases-operand : goal.decreases-operand
decreases-operand l = 8 * length l.cursor.now + 1

abbrev pub decreases-choices : goal.decreases-choices
decreases-choices l = 8 * length l.cursor.now + 1

abbrev pub decreases-binary_tail : goal.decreases-binary_tail
decreases-binary_tail l = 8 * length l.cursor.now + 1

abbrev pub decreases-opened : goal.decreases-opened
decreases-opened l = 8 * length l.cursor.now + 4

abbrev pub decreases-subscript : goal.decreases-subscript
decreases-subscript l = 8 * length l.cursor.now + 4

abbrev pub decreases-subscripts : goal.decreases-subscripts
decreases-subscripts l = 8 * length l.cursor.now + 5

-- what was read so far is read with the operators down to the current level
abbrev pub invariant-binary-loop-current : goal.invariant-binary-loop-current
invariant-binary-loop-current l =
    (binary l.current l.fn.cursor ≡ Answer.read l.left l.cursor) × (l.level ≤ l.current) × (l.current ≤ 11) × (length l.cursor < length l.fn.cursor)

abbrev pub decreases-binary-loop-current : goal.decreases-binary-loop-current
decreases-binary-loop-current l = l.current - l.level

-- reading goes on behind the operands that were joined
abbrev pub invariant-binary_tail-loop-alloc : goal.invariant-binary_tail-loop-alloc
invariant-binary_tail-loop-alloc l =
    (binary_tail l.level l.fn.first l.fn.cursor ≡ binary_tail l.level l.left l.cursor) × (length l.cursor ≤ length l.fn.cursor)

abbrev pub decreases-binary_tail-loop-alloc : goal.decreases-binary_tail-loop-alloc
decreases-binary_tail-loop-alloc l = length l.cursor

-- reading goes on behind the subscripts that were read
abbrev pub invariant-subscripts-loop-alloc : goal.invariant-subscripts-loop-alloc
invariant-subscripts-loop-alloc l =
    (subscripts l.fn.cursor ≡ prepended l.subs (subscripts l.cursor)) × (length l.cursor ≤ length l.fn.cursor)

abbrev pub decreases-subscripts-loop-alloc : goal.decreases-subscripts-loop-alloc
decreases-subscripts-loop-alloc l = length l.cursor
