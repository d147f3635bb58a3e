use Rattle.std.proofs.Common.{◌≡◌}
use Rattle.species_print.specs.Statements.{indentation}
use Rattle.species_print.proofs.statements.indentation.Given as goal

abbrev pub invariant-loop-level : goal.invariant-loop-level
invariant-loop-level l = l.indent.items ≡ indentation l._level
