-- What the loop of `gap_len` keeps, and what falls in each turn.
use Rattle.std.proofs.Common.{◌≡◌, ◌+◌, ◌-◌, ◌≤◌, length, drop}
use Rattle.species_ast.specs.Text.Comments.{gap_len}
use Rattle.species_lexer.proofs.comments.gap_len.Given as goal

abbrev pub invariant-loop-at : goal.invariant-loop-at
invariant-loop-at l = (l.at ≤ length l.line) × (gap_len l.line ≡ l.at + gap_len (drop l.at l.line))

abbrev pub decreases-loop-at : goal.decreases-loop-at
decreases-loop-at l = length l.line - l.at
