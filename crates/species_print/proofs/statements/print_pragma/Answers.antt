use Rattle.std.proofs.Common.{codes}
use Rattle.species_print.proofs.ExprTexts.{regroup3}
use Rattle.species_print.proofs.statements.print_pragma.Goals as goal

pub returns : goal.returns
returns c =
    rw (c.in_ok-put-3.ensures.ok, c.in_ok-put-2.ensures.ok, c.in_ok-put.ensures.ok)
    (regroup3 c.args.out.now.items (codes "#pragma species ") c.args.text.now (codes "\n"))
