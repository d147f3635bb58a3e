-- What is built behind each kind of statement.
use Rattle.std.proofs.Common.{map, ◌∙◌}
use Rattle.species_ast.specs.Scope.Statements.{stmt_fragment, in_order}
use Rattle.species_scope.proofs.BuildLaws.{reached_next, left, in_order_stays, map_stays}
use Rattle.species_scope.proofs.LoopLaws.{whole_loop}
use Rattle.species_scope.proofs.StayLaws.{stmt_stays, declares_body}
use Rattle.species_scope.proofs.statements.+statement.Goals as goal

pub block-returns-clause-state : goal.block-returns-clause-state
block-returns-clause-state t c =
    left c.args.b.now c.statements.new.b (in_order (map stmt_fragment c.args.all.now) c.args.b.now.place) c.leave.new.self c.in_ok-statements.ensures.state
    (in_order_stays (map stmt_fragment c.args.all.now) (map_stays stmt_fragment stmt_stays c.args.all.now) c.args.b.now.place)
    (λ inside. c.leave.ensures c.args.b.now.place c.mark-mark.ensures inside)

pub alone-returns-clause-state : goal.alone-returns-clause-state
alone-returns-clause-state t c =
    left c.args.b.now c.statement.new.b (stmt_fragment c.args.raw.now c.args.b.now.place) c.leave.new.self c.in_ok-statement.ensures.state
    (stmt_stays c.args.raw.now c.args.b.now.place)
    (λ inside. c.leave.ensures c.args.b.now.place c.mark-mark.ensures inside)

pub statements-loop-raw-preserved : goal.statements-loop-raw-preserved
statements-loop-raw-preserved t c =
    reached_next stmt_fragment c.args.all.now stmt_stays c.args.b.now c.loop-raw.b c.statement.new.b c.args.out.now c.loop-raw.out c.statement.new.out c.loop-raw.raw-index _
    c.loop-raw.invariant c.raw-item.is c.loop-raw-test.true c.in_ok-statement.ensures.state c.in_ok-statement.ensures.made

pub branch-returns-in_ok-body-in-Declare-clause-made : goal.branch-returns-in_ok-body-in-Declare-clause-made
branch-returns-in_ok-body-in-Declare-clause-made t c =
    c.in_ok-body-in-Declare.ensures.made ∙ declares_body c.args.raw.now c.in-Declare.kind c.in-Declare.locals c.in-Declare.is c.args.b.now.place

pub for_loop-returns-clause-state : goal.for_loop-returns-clause-state
for_loop-returns-clause-state t c =
    let h = c.in_ok-header.ensures in
    whole_loop c.args.raw.now c.args.at c.args.b.now c.branch-alloc.new.b c.mark-mark.result c.read_header.new.place c.leave.new.self c.read_header.new.found c.note_forms.new.found
    c.get.result.now c.in_ok-made.made c.get-2.result.now c.in_ok-header.header.start c.in_ok-header.header.limit c.in_ok-header.header.one_variable c.in_ok-header.header.number c.in_ok-body.body
    c.mark-mark.ensures h.place h.start h.limit h.one h.number h.noted c.get.ensures c.in_ok-body.ensures.state c.in_ok-body.ensures.made c.leave.ensures c.in_ok-made.ensures
    c.get-2.ensures c.in_ok-note_forms.ensures
