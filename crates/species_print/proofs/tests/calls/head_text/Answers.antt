use Rattle.std.proofs.Common.{subst, sym}
use Rattle.std.specs.Prelude.{All}
use Rattle.species_print.specs.Named.{IsNamed, HasHead}
use Rattle.species_print.proofs.NamedLaws.{named_item}
use Rattle.species_print.proofs.tests.calls.head_text.Goals as goal

pub print_head-requires-clause-named : goal.print_head-requires-clause-named
print_head-requires-clause-named c =
    named_item (IsNamed c.args.made.now 0) c.as_slice-stmt-items.result.now c.loop-stmt.stmt-index c.stmt-item.result
    (subst (All (IsNamed c.args.made.now 0)) (sym c.as_slice-stmt-items.ensures) (c.in_ok-all.ensures c.args.made.now).0) c.stmt-item.is c.loop-stmt-test.true

pub print_head-requires-clause-has_head : goal.print_head-requires-clause-has_head
print_head-requires-clause-has_head c =
    named_item HasHead c.as_slice-stmt-items.result.now c.loop-stmt.stmt-index c.stmt-item.result
    (subst (All HasHead) (sym c.as_slice-stmt-items.ensures) (c.in_ok-all.ensures c.args.made.now).1) c.stmt-item.is c.loop-stmt-test.true
