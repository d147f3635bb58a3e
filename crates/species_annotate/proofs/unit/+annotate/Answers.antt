use Rattle.std.proofs.Common.{◌∙◌, ◌+◌, ◌++◌, ◌∷◌, [], drop, refl}
use Rattle.species_ast.specs.declared.tree.Loop.{out-Loop}
use Rattle.species_ast.specs.declared.tree.Stmt.TheVariants as stmt
use Rattle.species_ast.specs.Scope.Loops.{numbered}
use Rattle.species_annotate.specs.Loops.{heads_in_list}
use Rattle.species_annotate.proofs.NameLemmas.{adds_from}
use Rattle.species_annotate.proofs.WalkLemmas.{left_begin, left_next, left_end, become_begin, become_next, become_end, pass_If, pass_Block, pass_For, pass_none, none_assign, none_add, none_declare, none_set, one_same, all_same, assign_becomes, add_becomes, declare_becomes, set_becomes, if_becomes, block_becomes, first_plan, no_plan, parallel_becomes, sequential_becomes}
use Rattle.species_annotate.proofs.unit.+annotate.Goals as goal

pub annotate_list-loop-statement-init : goal.annotate_list-loop-statement-init
annotate_list-loop-statement-init t c = record {
  unit = refl;
  names = refl;
  left = λ s k rest h. left_begin c.args.statements.now s k c.args.loops.now.left rest h;
  becomes = λ w s k rest path named h. become_begin c.args.loops.now.unit w c.args.statements.now c.new-lined.result c.new-lined.ensures;
}

pub annotate_list-loop-statement-preserved : goal.annotate_list-loop-statement-preserved
annotate_list-loop-statement-preserved t c =
    let all = c.args.statements.now in
    let u = c.args.loops.now.unit in
    let before = c.loop-statement in
    let i = before.statement-index in
    let x = c.statement-item.result in
    let y = c.in_ok-annotate_stmt.field-0 in
    let one = c.in_ok-annotate_stmt.ensures in
    record {
      unit = one.unit ∙ before.invariant.unit;
      names = one.names ∙ before.invariant.names;
      left = λ s k rest h. one.left (numbered s (k + i)) (heads_in_list (drop (i + 1) all) s (k + (i + 1)) ++ rest)
          (left_next all i x s k before.loops.left rest c.statement-item.is c.loop-statement-test.true (before.invariant.left s k rest h));
      becomes = λ w s k rest path named h.
          become_next u w all i x y before.lined c.push.new.self c.statement-item.is c.loop-statement-test.true c.in_ok-push.ensures.ok (before.invariant.becomes w s k rest path named h)
          (one_same u before.loops.unit c.args.names.now before.names before.loops.left x y before.invariant.unit before.invariant.names one.becomes w (numbered s (k + i))
          (heads_in_list (drop (i + 1) all) s (k + (i + 1)) ++ rest) path named (left_next all i x s k before.loops.left rest c.statement-item.is c.loop-statement-test.true (before.invariant.left s k rest h)));
    }

pub annotate_list-returns-clause-left : goal.annotate_list-returns-clause-left
annotate_list-returns-clause-left t c s k rest h =
    left_end c.args.statements.now c.loop-statement.statement-index s k c.loop-statement.loops.left rest c.loop-statement-test.false (c.loop-statement.invariant.left s k rest h)

pub annotate_list-returns-clause-becomes : goal.annotate_list-returns-clause-becomes
annotate_list-returns-clause-becomes t c w s k rest path named h =
    become_end c.args.loops.now.unit w c.args.statements.now c.loop-statement.statement-index c.loop-statement.lined c.loop-statement-test.false (c.loop-statement.invariant.becomes w s k rest path named h)

pub annotate_loop-returns-in_default-clause-left : goal.annotate_loop-returns-in_default-clause-left
annotate_loop-returns-in_default-clause-left t c s rest h = absurd (no_plan c.args.loops.now c.in_ok-nest.field-0 c.args.head.now s rest c.in_default.is c.in_ok-nest.ensures.plan h)

pub annotate_loop-returns-in_default-clause-becomes : goal.annotate_loop-returns-in_default-clause-becomes
annotate_loop-returns-in_default-clause-becomes t c w s rest path named h = absurd (no_plan c.args.loops.now c.in_ok-nest.field-0 c.args.head.now s rest c.in_default.is c.in_ok-nest.ensures.plan h)

pub annotate_loop-returns-then-nest-eq0-clause-left : goal.annotate_loop-returns-then-nest-eq0-clause-left
annotate_loop-returns-then-nest-eq0-clause-left t c =
    let head = c.args.head.now in
    pass_For (stmt.For head) head c.as_slice.result.now c.args.loops.now.left c.pass.new.self.left c.annotate_list.new.loops.left refl c.as_slice.ensures (λ i. (c.pass.ensures i).left) c.in_ok-body.ensures.left

pub annotate_loop-returns-then-nest-eq0-clause-becomes : goal.annotate_loop-returns-then-nest-eq0-clause-becomes
annotate_loop-returns-then-nest-eq0-clause-becomes t c =
    let l = c.args.loops.now in
    let head = c.args.head.now in
    let nest = c.in-Some.nest in
    let names = c.args.names.now in
    let inner = c.enter.new.names in
    let p = c.as_slice.result.now in
    let body = c.in_ok-body.body in
    let mid = c.pass.new.self.left in
    sequential_becomes l names inner head c.in_ok-lined.field-0 nest c.in_ok-line.line p body mid (first_plan l c.in_ok-nest.field-0 nest c.in-Some.is c.in_ok-nest.ensures.plan) c.in_ok-line.ensures.line c.in_ok-lined.ensures
    c.if-nest-eq0.true c.as_slice.ensures (λ i. (c.pass.ensures i).left) (adds_from names c.line_of.new.names inner ((out-Loop head).iter ∷ []) c.in_ok-line.ensures.same c.in_ok-enter.ensures)
    (all_same l.unit c.pass.new.self.unit inner inner mid p body (λ i. (c.pass.ensures i).unit) refl c.in_ok-body.ensures.becomes)

pub annotate_stmt-returns-in_ok-test-in-If-clause-left : goal.annotate_stmt-returns-in_ok-test-in-If-clause-left
annotate_stmt-returns-in_ok-test-in-If-clause-left t c =
    let i = c.in-If in
    pass_If c.args.statement.now i.place i.test i.body i.otherwise c.as_slice.result.now c.as_slice-in-If.result.now c.args.loops.now.left c.annotate_list.new.loops.left c.annotate_list-in-If.new.loops.left
    i.is c.as_slice.ensures c.as_slice-in-If.ensures c.in_ok-body-in-If.ensures.left c.in_ok-otherwise-in-If.ensures.left

pub annotate_stmt-returns-in_ok-test-in-If-clause-becomes : goal.annotate_stmt-returns-in_ok-test-in-If-clause-becomes
annotate_stmt-returns-in_ok-test-in-If-clause-becomes t c =
    let i = c.in-If in
    let u = c.args.loops.now.unit in
    let names = c.args.names.now in
    let mid = c.annotate_list.new.loops.left in
    let first = c.in_ok-body-in-If in
    let second = c.in_ok-otherwise-in-If in
    if_becomes u names c.args.loops.now.left mid c.args.statement.now i.place i.test i.body i.otherwise c.as_slice.result.now c.as_slice-in-If.result.now c.in_ok-test-in-If.test first.body second.otherwise
    i.is c.as_slice.ensures c.as_slice-in-If.ensures c.in_ok-test-in-If.ensures first.ensures.left first.ensures.becomes
    (all_same u c.annotate_list.new.loops.unit names c.annotate_list.new.names mid c.as_slice-in-If.result.now second.otherwise first.ensures.unit first.ensures.names second.ensures.becomes)

pub annotate_stmt-returns-in_ok-body-in-Block-clause-left : goal.annotate_stmt-returns-in_ok-body-in-Block-clause-left
annotate_stmt-returns-in_ok-body-in-Block-clause-left t c =
    pass_Block c.args.statement.now c.in-Block.body c.as_slice-in-Block.result.now c.args.loops.now.left c.annotate_list-in-Block.new.loops.left c.in-Block.is c.as_slice-in-Block.ensures c.in_ok-body-in-Block.ensures.left

pub annotate_stmt-returns-in_ok-body-in-Block-clause-becomes : goal.annotate_stmt-returns-in_ok-body-in-Block-clause-becomes
annotate_stmt-returns-in_ok-body-in-Block-clause-becomes t c =
    block_becomes c.args.loops.now.unit c.args.names.now c.args.loops.now.left c.args.statement.now c.in-Block.body c.as_slice-in-Block.result.now c.in_ok-body-in-Block.body c.in-Block.is c.as_slice-in-Block.ensures
    c.in_ok-body-in-Block.ensures.becomes

pub annotate_stmt-returns-in_ok-copy_stmt-in-Assign-clause-left : goal.annotate_stmt-returns-in_ok-copy_stmt-in-Assign-clause-left
annotate_stmt-returns-in_ok-copy_stmt-in-Assign-clause-left t c =
    let i = c.in-Assign in pass_none c.args.statement.now c.args.loops.now.left (none_assign c.args.statement.now i.place i.array i.subs i.value i.is)

pub annotate_stmt-returns-in_ok-copy_stmt-in-Assign-clause-becomes : goal.annotate_stmt-returns-in_ok-copy_stmt-in-Assign-clause-becomes
annotate_stmt-returns-in_ok-copy_stmt-in-Assign-clause-becomes t c =
    let i = c.in-Assign in
    assign_becomes c.args.loops.now.unit c.args.names.now c.args.loops.now.left c.args.statement.now c.in_ok-copy_stmt-in-Assign.field-0 i.place i.array i.subs i.value i.is c.in_ok-copy_stmt-in-Assign.ensures

pub annotate_stmt-returns-in_ok-copy_stmt-in-AddTo-clause-left : goal.annotate_stmt-returns-in_ok-copy_stmt-in-AddTo-clause-left
annotate_stmt-returns-in_ok-copy_stmt-in-AddTo-clause-left t c =
    let i = c.in-AddTo in pass_none c.args.statement.now c.args.loops.now.left (none_add c.args.statement.now i.place i.array i.subs i.value i.atomic i.is)

pub annotate_stmt-returns-in_ok-copy_stmt-in-AddTo-clause-becomes : goal.annotate_stmt-returns-in_ok-copy_stmt-in-AddTo-clause-becomes
annotate_stmt-returns-in_ok-copy_stmt-in-AddTo-clause-becomes t c =
    let i = c.in-AddTo in
    add_becomes c.args.loops.now.unit c.args.names.now c.args.loops.now.left c.args.statement.now c.in_ok-copy_stmt-in-AddTo.field-0 i.place i.array i.subs i.value i.atomic i.is c.in_ok-copy_stmt-in-AddTo.ensures

pub annotate_stmt-returns-in_ok-copy_stmt-in-Declare-clause-left : goal.annotate_stmt-returns-in_ok-copy_stmt-in-Declare-clause-left
annotate_stmt-returns-in_ok-copy_stmt-in-Declare-clause-left t c =
    let i = c.in-Declare in pass_none c.args.statement.now c.args.loops.now.left (none_declare c.args.statement.now i.place i.local i.init i.is)

pub annotate_stmt-returns-in_ok-copy_stmt-in-Declare-clause-becomes : goal.annotate_stmt-returns-in_ok-copy_stmt-in-Declare-clause-becomes
annotate_stmt-returns-in_ok-copy_stmt-in-Declare-clause-becomes t c =
    let i = c.in-Declare in
    declare_becomes c.args.loops.now.unit c.args.names.now c.args.loops.now.left c.args.statement.now c.in_ok-copy_stmt-in-Declare.field-0 i.place i.local i.init i.is c.in_ok-copy_stmt-in-Declare.ensures

pub annotate_stmt-returns-in_ok-copy_stmt-in-SetLocal-clause-left : goal.annotate_stmt-returns-in_ok-copy_stmt-in-SetLocal-clause-left
annotate_stmt-returns-in_ok-copy_stmt-in-SetLocal-clause-left t c =
    let i = c.in-SetLocal in pass_none c.args.statement.now c.args.loops.now.left (none_set c.args.statement.now i.place i.local i.value i.is)

pub annotate_stmt-returns-in_ok-copy_stmt-in-SetLocal-clause-becomes : goal.annotate_stmt-returns-in_ok-copy_stmt-in-SetLocal-clause-becomes
annotate_stmt-returns-in_ok-copy_stmt-in-SetLocal-clause-becomes t c =
    let i = c.in-SetLocal in
    set_becomes c.args.loops.now.unit c.args.names.now c.args.loops.now.left c.args.statement.now c.in_ok-copy_stmt-in-SetLocal.field-0 i.place i.local i.value i.is c.in_ok-copy_stmt-in-SetLocal.ensures

pub annotate_loop-returns-clause-left : goal.annotate_loop-returns-clause-left
annotate_loop-returns-clause-left t c =
    let head = c.args.head.now in
    pass_For (stmt.For head) head c.as_slice-2.result.now c.args.loops.now.left c.pass.new.self.left c.pass_list.new.loops.left refl c.as_slice-2.ensures (λ i. (c.pass.ensures i).left) c.pass_list.ensures.left

pub annotate_loop-returns-clause-becomes : goal.annotate_loop-returns-clause-becomes
annotate_loop-returns-clause-becomes t c =
    let l = c.args.loops.now in
    let nest = c.in-Some.nest in
    parallel_becomes l c.args.names.now c.args.head.now c.in_ok-lined-2.field-0 nest c.in_ok-line.line c.as_slice-3.result.now c.in_ok-body-2.body (first_plan l c.in_ok-nest.field-0 nest c.in-Some.is c.in_ok-nest.ensures.plan)
    c.in_ok-line.ensures.line c.in_ok-lined-2.ensures c.if-nest-eq0.false c.as_slice-3.ensures c.in_ok-body-2.ensures
