use Rattle.std.proofs.Common.{subst, sym}
use Rattle.std.specs.Prelude.{All}
use Rattle.species_print.specs.Named.{IsNamed}
use Rattle.species_print.proofs.NamedLaws.{named_item}
use Rattle.species_print.proofs.tests.calls.stmt_text.Goals as goal

pub print_stmt-requires : goal.print_stmt-requires
print_stmt-requires c =
    named_item (IsNamed c.args.made.now 0) c.as_slice-stmt-items.result.now c.loop-stmt.stmt-index c.stmt-item.result
    (subst (All (IsNamed c.args.made.now 0)) (sym c.as_slice-stmt-items.ensures) (c.in_ok-all.ensures c.args.made.now).0) c.stmt-item.is c.loop-stmt-test.true
