use Rattle.species_report.specs.Heads.{loops_seen}
use Rattle.species_report.proofs.HeadLemmas.{next_heads, all_heads, if_heads, block_heads, for_heads, pushed, assign_heads, add_heads, declare_heads, set_heads}
use Rattle.species_report.proofs.heads.+heads.Goals as goal

pub add_list-loop-statement-preserved : goal.add_list-loop-statement-preserved
add_list-loop-statement-preserved t c =
    next_heads c.args.statements.now c.loop-statement.statement-index c.statement-item.result (loops_seen c.args.found.now.items) (loops_seen c.loop-statement.found.items) (loops_seen c.add_stmt.new.found.items) c.statement-item.is
    c.loop-statement-test.true c.loop-statement.invariant c.in_ok-add_stmt.ensures

pub add_list-returns : goal.add_list-returns
add_list-returns t c =
    all_heads c.args.statements.now c.loop-statement.statement-index (loops_seen c.args.found.now.items) (loops_seen c.loop-statement.found.items) c.loop-statement-test.false c.loop-statement.invariant

pub add_stmt-returns-in_ok-add_list-in-If-2 : goal.add_stmt-returns-in_ok-add_list-in-If-2
add_stmt-returns-in_ok-add_list-in-If-2 t c =
    let i = c.in-If in
    if_heads c.args.statement.now i.place i.test i.body i.otherwise c.as_slice.result.now c.as_slice-in-If.result.now (loops_seen c.args.found.now.items) (loops_seen c.add_list.new.found.items) (loops_seen c.add_list-in-If.new.found.items)
    i.is c.as_slice.ensures c.as_slice-in-If.ensures c.in_ok-add_list-in-If.ensures c.in_ok-add_list-in-If-2.ensures

pub add_stmt-returns-in_ok-add_list-in-Block : goal.add_stmt-returns-in_ok-add_list-in-Block
add_stmt-returns-in_ok-add_list-in-Block t c =
    block_heads c.args.statement.now c.in-Block.body c.as_slice-in-Block.result.now (loops_seen c.args.found.now.items) (loops_seen c.add_list-in-Block.new.found.items) c.in-Block.is c.as_slice-in-Block.ensures
    c.in_ok-add_list-in-Block.ensures

pub add_stmt-returns-in-Assign : goal.add_stmt-returns-in-Assign
add_stmt-returns-in-Assign t c = let i = c.in-Assign in assign_heads c.args.statement.now i.place i.array i.subs i.value (loops_seen c.args.found.now.items) i.is

pub add_stmt-returns-in-AddTo : goal.add_stmt-returns-in-AddTo
add_stmt-returns-in-AddTo t c = let i = c.in-AddTo in add_heads c.args.statement.now i.place i.array i.subs i.value i.atomic (loops_seen c.args.found.now.items) i.is

pub add_stmt-returns-in-Declare : goal.add_stmt-returns-in-Declare
add_stmt-returns-in-Declare t c = let i = c.in-Declare in declare_heads c.args.statement.now i.place i.local i.init (loops_seen c.args.found.now.items) i.is

pub add_stmt-returns-in-SetLocal : goal.add_stmt-returns-in-SetLocal
add_stmt-returns-in-SetLocal t c = let i = c.in-SetLocal in set_heads c.args.statement.now i.place i.local i.value (loops_seen c.args.found.now.items) i.is

pub add_stmt-returns-in_ok-push-in-For : goal.add_stmt-returns-in_ok-push-in-For
add_stmt-returns-in_ok-push-in-For t c =
    for_heads c.args.statement.now c.in-For.head (loops_seen c.args.found.now.items) (loops_seen c.push.new.self.items) c.in-For.is (pushed c.args.found.now.items c.push.new.self.items _ c.in_ok-push-in-For.ensures.items)
