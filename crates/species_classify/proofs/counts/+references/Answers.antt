-- The references of each kind of statement.
use Rattle.std.proofs.Common.{◌∙◌, ap}
use Rattle.species_ast.specs.declared.tree.Stmt.TheVariants as stmt
use Rattle.species_classify.proofs.CountLemmas.{assign_counted, add_counted, init_counted, no_init_counted, set_counted, if_counted, for_counted, block_counted, most_next}
use Rattle.species_classify.proofs.counts.+references.Goals as goal

pub count_stmt-returns-in_ok-more-in-Assign : goal.count_stmt-returns-in_ok-more-in-Assign
count_stmt-returns-in_ok-more-in-Assign t c =
    let i = c.in-Assign in
    assign_counted c.args.stmt.now i.place i.array i.subs c.as_slice.result.now i.value _ _ _ _ i.is c.as_slice.ensures
    c.in_ok-count_in_all-in-Assign.ensures c.in_ok-count_in-in-Assign.ensures c.in_ok-more-in-Assign.ensures

pub count_stmt-returns-in_ok-more-in-AddTo : goal.count_stmt-returns-in_ok-more-in-AddTo
count_stmt-returns-in_ok-more-in-AddTo t c =
    let i = c.in-AddTo in
    add_counted c.args.stmt.now i.place i.array i.subs c.as_slice-in-AddTo.result.now i.value i.atomic _ _ _ _ i.is c.as_slice-in-AddTo.ensures
    c.in_ok-count_in_all-in-AddTo.ensures c.in_ok-count_in-in-AddTo.ensures c.in_ok-more-in-AddTo.ensures

pub count_stmt-returns-in_ok-count_in-in-Some : goal.count_stmt-returns-in_ok-count_in-in-Some
count_stmt-returns-in_ok-count_in-in-Some t c =
    let i = c.in-Declare in
    init_counted c.args.stmt.now i.place i.local c.in-Some.value _ _ (i.is ∙ ap (stmt.Declare i.place i.local) c.in-Some.is) c.in_ok-count_in-in-Some.ensures

pub count_stmt-returns-in-None : goal.count_stmt-returns-in-None
count_stmt-returns-in-None t c =
    let i = c.in-Declare in
    no_init_counted c.args.stmt.now i.place i.local _ (i.is ∙ ap (stmt.Declare i.place i.local) c.in-None.is)

pub count_stmt-returns-in_ok-count_in-in-SetLocal : goal.count_stmt-returns-in_ok-count_in-in-SetLocal
count_stmt-returns-in_ok-count_in-in-SetLocal t c =
    let i = c.in-SetLocal in
    set_counted c.args.stmt.now i.place i.local i.value _ _ i.is c.in_ok-count_in-in-SetLocal.ensures

pub count_stmt-returns-in_ok-count_list-in-If-2 : goal.count_stmt-returns-in_ok-count_list-in-If-2
count_stmt-returns-in_ok-count_list-in-If-2 t c =
    let i = c.in-If in
    if_counted c.args.stmt.now i.place i.test i.body i.otherwise c.as_slice-in-If.result.now c.as_slice-in-If-2.result.now _ _ _ _ i.is c.as_slice-in-If.ensures c.as_slice-in-If-2.ensures
    c.in_ok-count_in-in-If.ensures c.in_ok-count_list-in-If.ensures c.in_ok-count_list-in-If-2.ensures

pub count_stmt-returns-in_ok-count_list-in-For : goal.count_stmt-returns-in_ok-count_list-in-For
count_stmt-returns-in_ok-count_list-in-For t c =
    let i = c.in-For in
    for_counted c.args.stmt.now i.head c.as_slice-in-For.result.now _ _ i.is c.as_slice-in-For.ensures c.in_ok-count_list-in-For.ensures

pub count_stmt-returns-in_ok-count_list-in-Block : goal.count_stmt-returns-in_ok-count_list-in-Block
count_stmt-returns-in_ok-count_list-in-Block t c =
    let i = c.in-Block in
    block_counted c.args.stmt.now i.body c.as_slice-in-Block.result.now _ _ i.is c.as_slice-in-Block.ensures c.in_ok-count_list-in-Block.ensures

pub count_list-loop-stmt-preserved : goal.count_list-loop-stmt-preserved
count_list-loop-stmt-preserved t c =
    most_next c.args.all.now c.loop-stmt.stmt-index _ _ _ _ c.stmt-item.is c.loop-stmt-test.true c.loop-stmt.invariant c.in_ok-count_stmt.ensures
