use Rattle.std.proofs.Common.{rules, ◌∙◌, ap, append_assoc}
use Rattle.species_print.specs.Statements.{stmt_text}
use Rattle.species_print.proofs.StmtTexts.{text-Assign, text-AddTo, text-Declare, text-SetLocal, text-If, text-For, text-Block, text-bare}
use Rattle.species_print.proofs.statements.+print_stmt.Goals as goal

pub print_bare_loop-returns : goal.print_bare_loop-returns
print_bare_loop-returns t c =
    search (rules, append_assoc, text-bare c.args.unit.now c.args.iters.now c.args.indent.now c.args.head.now)

pub print_one-returns-in_ok-print_assignment-in-Assign : goal.print_one-returns-in_ok-print_assignment-in-Assign
print_one-returns-in_ok-print_assignment-in-Assign t c =
    search (rules, append_assoc, ap (stmt_text c.args.unit.now c.args.iters.now c.args.indent.now) c.in-Assign.is ∙ text-Assign c.args.unit.now c.args.iters.now c.args.indent.now _ _ _ _)

pub print_one-returns-in_ok-print_assignment-in-AddTo : goal.print_one-returns-in_ok-print_assignment-in-AddTo
print_one-returns-in_ok-print_assignment-in-AddTo t c =
    search (rules, append_assoc, ap (stmt_text c.args.unit.now c.args.iters.now c.args.indent.now) c.in-AddTo.is ∙ text-AddTo c.args.unit.now c.args.iters.now c.args.indent.now _ _ _ _ _)

pub print_one-returns-in_ok-print_declaration-in-Declare : goal.print_one-returns-in_ok-print_declaration-in-Declare
print_one-returns-in_ok-print_declaration-in-Declare t c =
    search (rules, append_assoc, ap (stmt_text c.args.unit.now c.args.iters.now c.args.indent.now) c.in-Declare.is ∙ text-Declare c.args.unit.now c.args.iters.now c.args.indent.now _ _ _)

pub print_one-returns-in_ok-print_assignment-in-SetLocal : goal.print_one-returns-in_ok-print_assignment-in-SetLocal
print_one-returns-in_ok-print_assignment-in-SetLocal t c =
    search (rules, append_assoc, ap (stmt_text c.args.unit.now c.args.iters.now c.args.indent.now) c.in-SetLocal.is ∙ text-SetLocal c.args.unit.now c.args.iters.now c.args.indent.now _ _ _)

pub print_one-returns-in_ok-print_close-in-If : goal.print_one-returns-in_ok-print_close-in-If
print_one-returns-in_ok-print_close-in-If t c =
    search (rules, append_assoc, ap (stmt_text c.args.unit.now c.args.iters.now c.args.indent.now) c.in-If.is ∙ text-If c.args.unit.now c.args.iters.now c.args.indent.now _ _ _ _)

pub print_one-returns-in_ok-print_bare_loop-in-For : goal.print_one-returns-in_ok-print_bare_loop-in-For
print_one-returns-in_ok-print_bare_loop-in-For t c =
    search (rules, append_assoc, ap (stmt_text c.args.unit.now c.args.iters.now c.args.indent.now) c.in-For.is ∙ text-For c.args.unit.now c.args.iters.now c.args.indent.now _)

pub print_one-returns-in_ok-print_close-in-Block : goal.print_one-returns-in_ok-print_close-in-Block
print_one-returns-in_ok-print_close-in-Block t c =
    search (rules, append_assoc, ap (stmt_text c.args.unit.now c.args.iters.now c.args.indent.now) c.in-Block.is ∙ text-Block c.args.unit.now c.args.iters.now c.args.indent.now _)
