use Rattle.std.proofs.Common.{rules, ◌≡◌}
use Rattle.bones_meaning.specs.Doubling.{body, frame}
use Rattle.bones_meaning.proofs.ActionsExample.{made_so, within_so}
use Rattle.bones_meaning.proofs.tests.next.Goals as goal

pub action_at-requires-clause-unit : goal.action_at-requires-clause-unit
action_at-requires-clause-unit c = made_so c.in_ok-unit.unit c.in_ok-unit.ensures

pub action_at-requires-clause-within : goal.action_at-requires-clause-within
action_at-requires-clause-within c =
    let b : c.as_slice.result.now ≡ body = search rules in
    let f : c.new-frame.result ≡ frame = search rules in
    within_so c.in_ok-unit.unit c.as_slice.result.now c.new-frame.result c.args.answers.now c.args.done c.in_ok-unit.ensures b f c.requires
