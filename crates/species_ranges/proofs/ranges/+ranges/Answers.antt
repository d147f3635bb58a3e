use Rattle.std.proofs.Common.{◌≡◌, ◌∙◌, ◌++◌, ap, true}
use Rattle.species_references.specs.Ranges.{ranges_seen, ranges_in}
use Rattle.species_ranges.specs.Fitting.{fits_in}
use Rattle.species_ranges.proofs.RangeLemmas.{next_ranges, all_ranges, fits_there, if_ranges, block_ranges, for_ranges, loop_ranges, assign_ranges, add_ranges, declare_ranges, set_ranges}
use Rattle.species_ranges.proofs.ranges.+ranges.Goals as goal

pub add_list-loop-statement-preserved : goal.add_list-loop-statement-preserved
add_list-loop-statement-preserved t c =
    let path = c.args.path.now in
    let before = c.loop-statement in
    let x = c.statement-item.result in
    record {
      same = c.in_ok-add_stmt.ensures.same ∙ before.invariant.same;
      ends = λ h. c.in_ok-add_stmt.ensures.ends (before.invariant.ends h);
      found = λ h.
          next_ranges c.args.statements.now before.statement-index x path (ranges_seen c.args.found.now) (ranges_seen before.found) (ranges_seen c.add_stmt.new.found) c.statement-item.is c.loop-statement-test.true (before.invariant.found h)
          (c.in_ok-add_stmt.ensures.found (ap (λ p. fits_in x p) before.invariant.same ∙ fits_there c.args.statements.now before.statement-index x path c.statement-item.is c.loop-statement-test.true h)
          ∙ ap (λ p. ranges_seen before.found ++ ranges_in x p) before.invariant.same);
    }

pub add_list-returns-clause-found : goal.add_list-returns-clause-found
add_list-returns-clause-found t c h =
    all_ranges c.args.statements.now c.loop-statement.statement-index c.args.path.now (ranges_seen c.args.found.now) (ranges_seen c.loop-statement.found) c.loop-statement-test.false (c.loop-statement.invariant.found h)

pub add_stmt-returns-in_ok-add_list-in-If-2-clause-found : goal.add_stmt-returns-in_ok-add_list-in-If-2-clause-found
add_stmt-returns-in_ok-add_list-in-If-2-clause-found t c h =
    let i = c.in-If in
    if_ranges c.args.statement.now i.place i.test i.body i.otherwise c.as_slice.result.now c.as_slice-in-If.result.now c.args.path.now c.add_list.new.path
    (ranges_seen c.args.found.now) (ranges_seen c.add_list.new.found) (ranges_seen c.add_list-in-If.new.found) i.is c.as_slice.ensures c.as_slice-in-If.ensures
    c.in_ok-add_list-in-If.ensures.same c.in_ok-add_list-in-If.ensures.found c.in_ok-add_list-in-If-2.ensures.found h

pub add_stmt-returns-in_ok-add_list-in-Block-clause-found : goal.add_stmt-returns-in_ok-add_list-in-Block-clause-found
add_stmt-returns-in_ok-add_list-in-Block-clause-found t c h =
    block_ranges c.args.statement.now c.in-Block.body c.as_slice-in-Block.result.now c.args.path.now (ranges_seen c.args.found.now) (ranges_seen c.add_list-in-Block.new.found) c.in-Block.is c.as_slice-in-Block.ensures
    c.in_ok-add_list-in-Block.ensures.found h

pub add_stmt-returns-in_ok-add_loop-in-For-clause-found : goal.add_stmt-returns-in_ok-add_loop-in-For-clause-found
add_stmt-returns-in_ok-add_loop-in-For-clause-found t c h =
    for_ranges c.args.statement.now c.in-For.head c.args.path.now (ranges_seen c.args.found.now) (ranges_seen c.add_loop.new.found) c.in-For.is c.in_ok-add_loop-in-For.ensures.found h

pub add_stmt-returns-in-Assign-clause-found : goal.add_stmt-returns-in-Assign-clause-found
add_stmt-returns-in-Assign-clause-found t c h =
    let i = c.in-Assign in assign_ranges c.args.statement.now i.place i.array i.subs i.value c.args.path.now (ranges_seen c.args.found.now) i.is

pub add_stmt-returns-in-AddTo-clause-found : goal.add_stmt-returns-in-AddTo-clause-found
add_stmt-returns-in-AddTo-clause-found t c h =
    let i = c.in-AddTo in add_ranges c.args.statement.now i.place i.array i.subs i.value i.atomic c.args.path.now (ranges_seen c.args.found.now) i.is

pub add_stmt-returns-in-Declare-clause-found : goal.add_stmt-returns-in-Declare-clause-found
add_stmt-returns-in-Declare-clause-found t c h =
    let i = c.in-Declare in declare_ranges c.args.statement.now i.place i.local i.init c.args.path.now (ranges_seen c.args.found.now) i.is

pub add_stmt-returns-in-SetLocal-clause-found : goal.add_stmt-returns-in-SetLocal-clause-found
add_stmt-returns-in-SetLocal-clause-found t c h =
    let i = c.in-SetLocal in set_ranges c.args.statement.now i.place i.local i.value c.args.path.now (ranges_seen c.args.found.now) i.is

pub add_loop-returns-clause-found : goal.add_loop-returns-clause-found
add_loop-returns-clause-found t c h =
    loop_ranges c.args.head.now c.as_slice.result.now c.args.path.now c.enter.new.path (ranges_seen c.args.found.now) (ranges_seen c.enter.new.found) (ranges_seen c.add_list.new.found) c.as_slice.ensures
    c.in_ok-enter.ensures.found c.in_ok-enter.ensures.open c.in_ok-add_list.ensures.found h
