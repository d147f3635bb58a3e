use Rattle.std.proofs.Common.{rules, ◌∙◌, ap, append_assoc}
use Rattle.species_print.specs.Statements.{head_text}
use Rattle.species_print.proofs.StmtTexts.{head-If, head-For}
use Rattle.species_print.proofs.statements.print_first_line.Goals as goal

pub returns-in_ok-print_if_head-in-If : goal.returns-in_ok-print_if_head-in-If
returns-in_ok-print_if_head-in-If c =
    search (rules, append_assoc, ap (head_text c.args.unit.now c.args.iters.now c.args.indent.now) c.in-If.is ∙ head-If c.args.unit.now c.args.iters.now c.args.indent.now _ _ _ _)

pub returns-in_ok-print_for_head-in-For : goal.returns-in_ok-print_for_head-in-For
returns-in_ok-print_for_head-in-For c =
    search (rules, append_assoc, ap (head_text c.args.unit.now c.args.iters.now c.args.indent.now) c.in-For.is ∙ head-For c.args.unit.now c.args.iters.now c.args.indent.now _)
