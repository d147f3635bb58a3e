-- What is found in each kind of statement.
use Rattle.std.proofs.Common.{◌∙◌, ap, map, ◌++◌}
use Rattle.species_ast.specs.declared.raw.RawWhat.TheVariants as what
use Rattle.species_ast.specs.Scope.Meanings.{behind}
use Rattle.species_ast.specs.Scope.Programs.{iterators_of}
use Rattle.species_ast.specs.Scope.Statements.{stmt_fragment, in_order}
use Rattle.species_scope.proofs.BuildLaws.{in_order_stays, map_stays}
use Rattle.species_scope.proofs.StayLaws.{stmt_stays}
use Rattle.species_scope.proofs.GatherLaws.{in_declare, nothing, change_none, atomic_none, block_next, ends_at, if_found, else_found, gathered_next, loop_found, loop_place}
use Rattle.species_scope.proofs.gathers.+gather.Goals as goal

pub gather-returns-in-Atomic-clause-found : goal.gather-returns-in-Atomic-clause-found
gather-returns-in-Atomic-clause-found t c = nothing c.args.found.now _ (atomic_none c.args.raw.now c.in-Atomic.target c.in-Atomic.value c.in-Atomic.is c.args.place.now)

pub gather-returns-in-Change-clause-found : goal.gather-returns-in-Change-clause-found
gather-returns-in-Change-clause-found t c = change_none c.args.raw.now c.in-Change.field-0 c.in-Change.is c.args.place.now c.args.found.now

pub gather-returns-in_ok-declare_locals-in-Declare-clause-found : goal.gather-returns-in_ok-declare_locals-in-Declare-clause-found
gather-returns-in_ok-declare_locals-in-Declare-clause-found t c =
    nothing c.args.found.now _ (in_declare c.args.raw.now c.in-Declare.kind c.in-Declare.locals c.in-Declare.is c.args.place.now)

pub gather-returns-in_ok-gather_all-in-Block-clause-place : goal.gather-returns-in_ok-gather_all-in-Block-clause-place
gather-returns-in_ok-gather_all-in-Block-clause-place t c =
    let ss = c.in-Block.ss in
    let s = c.args.place.now in
    ends_at s c.gather_all.new.place c.leave.new.self (in_order (map stmt_fragment ss) s).next
    (c.in_ok-gather_all-in-Block.ensures.place ∙ ap (λ l. (in_order (map stmt_fragment l) s).next) c.as_slice-in-Block.ensures)
    (in_order_stays (map stmt_fragment ss) (map_stays stmt_fragment stmt_stays ss) s)
    (λ inside. c.leave.ensures s c.mark-mark.ensures inside)
    ∙ block_next c.args.raw.now ss c.in-Block.is s

pub gather_all-loop-raw-preserved : goal.gather_all-loop-raw-preserved
gather_all-loop-raw-preserved t c =
    gathered_next stmt_fragment c.args.all.now c.args.place.now c.loop-raw.place c.gather.new.place c.args.found.now c.loop-raw.found c.gather.new.found c.loop-raw.raw-index _
    c.loop-raw.invariant c.raw-item.is c.loop-raw-test.true c.in_ok-gather.ensures.place c.in_ok-gather.ensures.found

pub gather_branch-returns-clause-place : goal.gather_branch-returns-clause-place
gather_branch-returns-clause-place t c =
    let s = c.args.place.now in
    ends_at s c.gather.new.place c.leave.new.self (stmt_fragment c.args.raw.now s).next c.in_ok-gather.ensures.place (stmt_stays c.args.raw.now s)
    (λ inside. c.leave.ensures s c.mark-mark.ensures inside)

pub gather_loop-returns-clause-found : goal.gather_loop-returns-clause-found
gather_loop-returns-clause-found t c =
    let u = c.in_ok-enter_loop.ensures in
    loop_found c.args.raw.now c.get.result.now c.args.place.now c.enter_loop.new.self c.args.found.now c.note_taken.new.found c.gather_branch.new.found u c.get.ensures
    c.in_ok-note_taken.ensures c.in_ok-gather_branch.ensures.found

pub gather_loop-returns-clause-place : goal.gather_loop-returns-clause-place
gather_loop-returns-clause-place t c =
    let u = c.in_ok-enter_loop.ensures in
    loop_place c.args.raw.now c.get.result.now c.args.place.now c.enter_loop.new.self c.gather_branch.new.place c.leave.new.self u c.get.ensures c.in_ok-gather_branch.ensures.place
    (λ inside. c.leave.ensures c.args.place.now c.mark-mark.ensures inside)

pub gather-returns-in-None-clause-found : goal.gather-returns-in-None-clause-found
gather-returns-in-None-clause-found t c =
    let i = c.in-If in
    let s = c.args.place.now in
    c.in_ok-gather_branch-in-If.ensures.found ∙ ap (λ b. c.args.found.now ++ iterators_of (stmt_fragment b s).notes.names) c.get.ensures
    ∙ ap (λ l. c.args.found.now ++ l) (if_found c.args.raw.now i.test i.body (i.is ∙ ap (λ o. what.If i.test i.body o) c.in-None.is) s)

pub gather-returns-in_ok-gather_branch-in-Some-clause-found : goal.gather-returns-in_ok-gather_branch-in-Some-clause-found
gather-returns-in_ok-gather_branch-in-Some-clause-found t c =
    let i = c.in-If in
    let s = c.args.place.now in
    let a = c.in_ok-gather_branch-in-If.ensures in
    let b = c.in_ok-gather_branch-in-Some.ensures in
    let mid = c.gather_branch.new.found in
    let u = c.gather_branch.new.place in
    else_found c.args.raw.now i.test i.body c.in-Some.otherwise (i.is ∙ ap (λ o. what.If i.test i.body o) c.in-Some.is) s c.args.found.now mid c.gather_branch-in-Some.new.found u
    (a.found ∙ ap (λ r. c.args.found.now ++ iterators_of (stmt_fragment r s).notes.names) c.get.ensures)
    (a.place ∙ ap (λ r. behind s (stmt_fragment r s).next) c.get.ensures)
    (b.found ∙ ap (λ r. mid ++ iterators_of (stmt_fragment r u).notes.names) c.get-in-Some.ensures)
