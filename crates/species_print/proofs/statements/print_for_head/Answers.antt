use Rattle.std.proofs.Common.{◌++◌, ◌∷◌, []}
use Rattle.species_ast.specs.declared.tree.Loop.{out-Loop}
use Rattle.species_print.specs.Texts.{for_start_text, for_test_text, for_end_text}
use Rattle.species_print.proofs.ExprTexts.{regroup3}
use Rattle.species_print.proofs.statements.print_for_head.Goals as goal

pub returns : goal.returns
returns c =
    let head = out-Loop c.args.head.now in
    rw (c.in_ok-print_for_end.ensures, c.in_ok-print_for_test.ensures, c.in_ok-print_for_start.ensures, c.as_slice.ensures, c.in_ok-names.ensures, c.as_slice-iter.ensures)
    (regroup3 c.args.out.now.items
    (for_start_text c.args.unit.now c.args.iters.now c.args.indent.now head.iter head.start)
    (for_test_text c.args.unit.now (c.args.iters.now ++ head.iter ∷ []) head.iter head.test head.limit)
    (for_end_text head.iter c.args.head.now))
