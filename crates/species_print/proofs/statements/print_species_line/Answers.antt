use Rattle.std.proofs.Common.{rules, ◌∙◌, ap, append_assoc}
use Rattle.species_print.specs.Texts.{species_text}
use Rattle.species_print.proofs.StmtTexts.{text-species_line}
use Rattle.species_print.proofs.statements.print_species_line.Goals as goal

pub returns-in_ok-print_pragma-in-Some : goal.returns-in_ok-print_pragma-in-Some
returns-in_ok-print_pragma-in-Some c =
    search (rules, append_assoc, ap (species_text c.args.indent.now) c.in-Some.is ∙ text-species_line c.args.indent.now c.in-Some.line)
