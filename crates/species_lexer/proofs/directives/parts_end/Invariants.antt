-- What the loop of `parts_end` keeps, and what falls in each turn.
use Rattle.std.proofs.Common.{◌≡◌, length}
use Rattle.species_ast.specs.Text.Parts.{parts_end}
use Rattle.species_lexer.specs.Parts.{parts_left}
use Rattle.species_lexer.proofs.directives.parts_end.Given as goal

abbrev pub invariant-loop-part : goal.invariant-loop-part
invariant-loop-part l = parts_end l.fn.before (parts_left l.fn.parts) ≡ parts_end l.end (parts_left l.rest)

abbrev pub decreases-loop-part : goal.decreases-loop-part
decreases-loop-part l = length (parts_left l.rest)
