use Rattle.std.proofs.Common.{sym, subst, ◌<◌, lit<}
use Rattle.bones_meaning.proofs.ActionsExample.{one_unanswered}
use Rattle.bones_meaning.proofs.tests.first.Goals as goal

pub next-requires : goal.next-requires
next-requires c = subst (λ n. 0 < n) (sym one_unanswered) (lit< tt)
