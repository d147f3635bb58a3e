use Rattle.std.proofs.Common.{arith}
use Rattle.species_linear.proofs.Order.{rising_push}
use Rattle.species_linear.proofs.forms.Terms.push.Goals as goal

pub invariant_of-self-2 : goal.invariant_of-self-2
invariant_of-self-2 c =
    rw c.in_ok-push.ensures.items (rising_push 0 c.self.inside.list.items c.args.term c.self.invariant (rw (← c.self.view_is) at c.requires.above) (omega arith) c.requires.nonzero)
