-- What the loop of `closing_len` keeps.
use Rattle.std.proofs.Common.{◌≡◌, ◌+◌, drop}
use Rattle.std.specs.Prelude.{option_map}
use Rattle.species_ast.specs.Text.Comments.{closing_len}
use Rattle.species_notation.proofs.scan.closing_len.Given as goal

abbrev pub invariant-loop-at : goal.invariant-loop-at
invariant-loop-at l = closing_len l.bytes ≡ option_map (λ n. n + l.at) (closing_len (drop l.at l.bytes))
