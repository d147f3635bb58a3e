-- What the loop of `run_more` keeps.
use Rattle.std.proofs.Common.{◌≡◌, ◌+◌, drop}
use Rattle.species_ast.specs.Text.Numbers.{run_more}
use Rattle.species_lexer.proofs.numbers.run_more.Given as goal

abbrev pub invariant-loop-n : goal.invariant-loop-n
invariant-loop-n l = run_more l.fn.last l.bytes ≡ l.n + run_more l.before (drop l.n l.bytes)
