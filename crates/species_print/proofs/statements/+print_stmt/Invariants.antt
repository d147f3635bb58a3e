use Rattle.std.proofs.Common.{◌≡◌, ◌++◌, take}
use Rattle.species_print.specs.Texts.{stmts_text}
use Rattle.species_print.proofs.statements.+print_stmt.Given as goal

abbrev pub invariant-print_all-loop-stmt : goal.invariant-print_all-loop-stmt
invariant-print_all-loop-stmt l =
    l.out.items ≡ l.initial.out.items ++ stmts_text l.unit l.iters l.indent (take l.stmt-index l.stmts)
