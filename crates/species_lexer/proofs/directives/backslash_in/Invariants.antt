-- What the loop of `backslash_in` keeps, and what falls in each turn.
use Rattle.std.proofs.Common.{◌≡◌, length, codes}
use Rattle.species_ast.specs.Text.Parts.{offset_of}
use Rattle.species_lexer.specs.Parts.{parts_left}
use Rattle.species_lexer.proofs.directives.backslash_in.Given as goal

abbrev pub invariant-loop-part : goal.invariant-loop-part
invariant-loop-part l = offset_of (codes "\\") (parts_left l.fn.parts) ≡ offset_of (codes "\\") (parts_left l.rest)

abbrev pub decreases-loop-part : goal.decreases-loop-part
decreases-loop-part l = length (parts_left l.rest)
