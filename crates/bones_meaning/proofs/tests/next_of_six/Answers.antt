use Rattle.std.proofs.Common.{sym, subst, ◌<◌}
use Rattle.bones_meaning.proofs.ActionsExample.{three_answered}
use Rattle.bones_meaning.proofs.tests.next_of_six.Goals as goal

pub next-requires : goal.next-requires
next-requires c = subst (λ n. c.args.done < n) (sym three_answered) c.requires
