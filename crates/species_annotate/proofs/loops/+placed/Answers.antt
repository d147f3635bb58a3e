use Rattle.std.proofs.Common.{◌∙◌, ◌+◌, ap, sym}
use Rattle.species_ast.specs.Scope.Loops.{numbered}
use Rattle.species_ranges.specs.Fitting.{fits_in}
use Rattle.species_annotate.proofs.HeadLemmas.{next_heads, all_heads, fits_there, if_heads, block_heads, for_heads, loop_heads, none_heads, heads-Assign, heads-AddTo, heads-Declare, heads-SetLocal}
use Rattle.species_annotate.proofs.loops.+placed.Goals as goal

pub add_list-loop-statement-preserved : goal.add_list-loop-statement-preserved
add_list-loop-statement-preserved t c =
    let path = c.args.path.now in
    let before = c.loop-statement in
    let x = c.statement-item.result in
    record {
      same = c.in_ok-add_stmt.ensures.same ∙ before.invariant.same;
      found = λ h s k at.
          next_heads c.args.statements.now before.statement-index x s k c.args.found.now.items before.found.items c.add_stmt.new.found.items c.statement-item.is c.loop-statement-test.true (before.invariant.found h s k at)
          (c.in_ok-add_stmt.ensures.found (ap (λ p. fits_in x p) before.invariant.same ∙ fits_there c.args.statements.now before.statement-index x path c.statement-item.is c.loop-statement-test.true h)
          (numbered s (k + before.statement-index)) (at ∙ sym before.invariant.same));
    }

pub add_list-returns-clause-found : goal.add_list-returns-clause-found
add_list-returns-clause-found t c h s k at =
    all_heads c.args.statements.now c.loop-statement.statement-index s k c.args.found.now.items c.loop-statement.found.items c.loop-statement-test.false (c.loop-statement.invariant.found h s k at)

pub add_stmt-returns-in_ok-add_list-in-If-2-clause-found : goal.add_stmt-returns-in_ok-add_list-in-If-2-clause-found
add_stmt-returns-in_ok-add_list-in-If-2-clause-found t c h =
    let i = c.in-If in
    if_heads c.args.statement.now i.place i.test i.body i.otherwise c.as_slice.result.now c.as_slice-in-If.result.now c.args.path.now c.add_list.new.path
    c.args.found.now.items c.add_list.new.found.items c.add_list-in-If.new.found.items i.is c.as_slice.ensures c.as_slice-in-If.ensures
    c.in_ok-add_list-in-If.ensures.same c.in_ok-add_list-in-If.ensures.found c.in_ok-add_list-in-If-2.ensures.found h

pub add_stmt-returns-in_ok-add_list-in-Block-clause-found : goal.add_stmt-returns-in_ok-add_list-in-Block-clause-found
add_stmt-returns-in_ok-add_list-in-Block-clause-found t c h =
    block_heads c.args.statement.now c.in-Block.body c.as_slice-in-Block.result.now c.args.path.now c.args.found.now.items c.add_list-in-Block.new.found.items c.in-Block.is c.as_slice-in-Block.ensures
    c.in_ok-add_list-in-Block.ensures.found h

pub add_stmt-returns-in_ok-add_loop-in-For-clause-found : goal.add_stmt-returns-in_ok-add_loop-in-For-clause-found
add_stmt-returns-in_ok-add_loop-in-For-clause-found t c h =
    for_heads c.args.statement.now c.in-For.head c.args.path.now c.args.found.now.items c.add_loop.new.found.items c.in-For.is c.in_ok-add_loop-in-For.ensures.found h

pub add_stmt-returns-in-Assign-clause-found : goal.add_stmt-returns-in-Assign-clause-found
add_stmt-returns-in-Assign-clause-found t c h s at =
    let i = c.in-Assign in none_heads c.args.statement.now c.args.found.now.items s (heads-Assign c.args.statement.now i.place i.array i.subs i.value s i.is)

pub add_stmt-returns-in-AddTo-clause-found : goal.add_stmt-returns-in-AddTo-clause-found
add_stmt-returns-in-AddTo-clause-found t c h s at =
    let i = c.in-AddTo in none_heads c.args.statement.now c.args.found.now.items s (heads-AddTo c.args.statement.now i.place i.array i.subs i.value i.atomic s i.is)

pub add_stmt-returns-in-Declare-clause-found : goal.add_stmt-returns-in-Declare-clause-found
add_stmt-returns-in-Declare-clause-found t c h s at =
    let i = c.in-Declare in none_heads c.args.statement.now c.args.found.now.items s (heads-Declare c.args.statement.now i.place i.local i.init s i.is)

pub add_stmt-returns-in-SetLocal-clause-found : goal.add_stmt-returns-in-SetLocal-clause-found
add_stmt-returns-in-SetLocal-clause-found t c h s at =
    let i = c.in-SetLocal in none_heads c.args.statement.now c.args.found.now.items s (heads-SetLocal c.args.statement.now i.place i.local i.value s i.is)

pub add_loop-returns-clause-found : goal.add_loop-returns-clause-found
add_loop-returns-clause-found t c h =
    loop_heads c.args.head.now c.as_slice.result.now c.args.path.now c.enter.new.path c.args.found.now.items c.add_head.new.found.items c.add_list.new.found.items c.as_slice.ensures
    c.in_ok-add_head.ensures c.in_ok-enter.ensures.open c.in_ok-add_list.ensures.found h
