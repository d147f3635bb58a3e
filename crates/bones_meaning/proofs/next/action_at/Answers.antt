use Rattle.std.proofs.Common.{ap, ◌∙◌}
use Rattle.bones_meaning.proofs.NextLaws.{begun, halted, next_done, next_met, next_past}
use Rattle.bones_meaning.proofs.Steps.{walks_at}
use Rattle.bones_meaning.proofs.next.action_at.Goals as goal

pub returns-in-Ok : goal.returns-in-Ok
returns-in-Ok c =
    next_done c.args.unit.now c.args.body.now c.args.frame.now c.args.answers.now c.args.done _ c.requires.within (begun c.args.unit.now c.args.body.now c.args.frame.now c.in_ok-here.here c.args.answers.now c.args.done c.new-tape.result c.in_ok-here.ensures c.new-tape.ensures ∙ c.in-Ok.ensures.walks)

pub returns-in-Err-At-Some : goal.returns-in-Err-At-Some
returns-in-Err-At-Some c =
    let at = walks_at c.in-Err-At-Some.field-0 c.in-Err-At-Some.field-0-0 c.walk_scope.new.frame c.walk_scope.new.tape _ c.in-Err-At-Some.ensures.walks c.in-Err-At-Some.field-0-is in
    next_met c.args.unit.now c.args.body.now c.args.frame.now c.args.answers.now c.args.done c.in-Err-At-Some.action c.requires.unit
    (begun c.args.unit.now c.args.body.now c.args.frame.now c.in_ok-here.here c.args.answers.now c.args.done c.new-tape.result c.in_ok-here.ensures c.new-tape.ensures ∙ at ∙ ap halted c.in-Err-At-Some.field-0-0-is)

pub unreachable-requires : goal.unreachable-requires
unreachable-requires c =
    let at = walks_at c.in-Err-At-None.field-0 c.in-Err-At-None.field-0-0 c.walk_scope.new.frame c.walk_scope.new.tape _ c.in-Err-At-None.ensures.walks c.in-Err-At-None.field-0-is in
    next_past c.args.unit.now c.args.body.now c.args.frame.now c.args.answers.now c.args.done c.requires.within
    (begun c.args.unit.now c.args.body.now c.args.frame.now c.in_ok-here.here c.args.answers.now c.args.done c.new-tape.result c.in_ok-here.ensures c.new-tape.ensures ∙ at ∙ ap halted c.in-Err-At-None.field-0-0-is)
