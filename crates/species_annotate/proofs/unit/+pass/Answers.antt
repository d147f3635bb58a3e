use Rattle.std.proofs.Common.{◌∙◌, ◌+◌, ◌++◌, drop, refl}
use Rattle.species_ast.specs.Scope.Loops.{numbered}
use Rattle.species_annotate.specs.Loops.{heads_in_list}
use Rattle.species_annotate.proofs.WalkLemmas.{left_begin, left_next, left_end, pass_If, pass_Block, pass_For, pass_none, none_assign, none_add, none_declare, none_set}
use Rattle.species_annotate.proofs.unit.+pass.Goals as goal

pub pass_list-loop-statement-init : goal.pass_list-loop-statement-init
pass_list-loop-statement-init t c = record { unit = refl; left = λ s k rest h. left_begin c.args.statements.now s k c.args.loops.now.left rest h }

pub pass_list-loop-statement-preserved : goal.pass_list-loop-statement-preserved
pass_list-loop-statement-preserved t c =
    let all = c.args.statements.now in
    let before = c.loop-statement in
    let i = before.statement-index in
    let x = c.statement-item.result in
    record {
      unit = c.pass_stmt.ensures.unit ∙ before.invariant.unit;
      left = λ s k rest h. c.pass_stmt.ensures.left (numbered s (k + i)) (heads_in_list (drop (i + 1) all) s (k + (i + 1)) ++ rest)
          (left_next all i x s k before.loops.left rest c.statement-item.is c.loop-statement-test.true (before.invariant.left s k rest h));
    }

pub pass_list-returns-clause-left : goal.pass_list-returns-clause-left
pass_list-returns-clause-left t c s k rest h =
    left_end c.args.statements.now c.loop-statement.statement-index s k c.loop-statement.loops.left rest c.loop-statement-test.false (c.loop-statement.invariant.left s k rest h)

pub pass_stmt-returns-in-If-clause-left : goal.pass_stmt-returns-in-If-clause-left
pass_stmt-returns-in-If-clause-left t c =
    let i = c.in-If in
    pass_If c.args.statement.now i.place i.test i.body i.otherwise c.as_slice.result.now c.as_slice-in-If.result.now c.args.loops.now.left c.pass_list.new.loops.left c.pass_list-in-If.new.loops.left
    i.is c.as_slice.ensures c.as_slice-in-If.ensures c.pass_list.ensures.left c.pass_list-in-If.ensures.left

pub pass_stmt-returns-in-For-clause-left : goal.pass_stmt-returns-in-For-clause-left
pass_stmt-returns-in-For-clause-left t c =
    pass_For c.args.statement.now c.in-For.head c.as_slice-in-For.result.now c.args.loops.now.left c.pass.new.self.left c.pass_list-in-For.new.loops.left c.in-For.is c.as_slice-in-For.ensures
    (λ i. (c.pass.ensures i).left) c.pass_list-in-For.ensures.left

pub pass_stmt-returns-in-Block-clause-left : goal.pass_stmt-returns-in-Block-clause-left
pass_stmt-returns-in-Block-clause-left t c =
    pass_Block c.args.statement.now c.in-Block.body c.as_slice-in-Block.result.now c.args.loops.now.left c.pass_list-in-Block.new.loops.left c.in-Block.is c.as_slice-in-Block.ensures c.pass_list-in-Block.ensures.left

pub pass_stmt-returns-in-Assign-clause-left : goal.pass_stmt-returns-in-Assign-clause-left
pass_stmt-returns-in-Assign-clause-left t c =
    let i = c.in-Assign in pass_none c.args.statement.now c.args.loops.now.left (none_assign c.args.statement.now i.place i.array i.subs i.value i.is)

pub pass_stmt-returns-in-AddTo-clause-left : goal.pass_stmt-returns-in-AddTo-clause-left
pass_stmt-returns-in-AddTo-clause-left t c =
    let i = c.in-AddTo in pass_none c.args.statement.now c.args.loops.now.left (none_add c.args.statement.now i.place i.array i.subs i.value i.atomic i.is)

pub pass_stmt-returns-in-Declare-clause-left : goal.pass_stmt-returns-in-Declare-clause-left
pass_stmt-returns-in-Declare-clause-left t c =
    let i = c.in-Declare in pass_none c.args.statement.now c.args.loops.now.left (none_declare c.args.statement.now i.place i.local i.init i.is)

pub pass_stmt-returns-in-SetLocal-clause-left : goal.pass_stmt-returns-in-SetLocal-clause-left
pass_stmt-returns-in-SetLocal-clause-left t c =
    let i = c.in-SetLocal in pass_none c.args.statement.now c.args.loops.now.left (none_set c.args.statement.now i.place i.local i.value i.is)
