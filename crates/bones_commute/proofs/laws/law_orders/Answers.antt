use Rattle.bones_commute.proofs.OrderLaws.{any_order_plays, source_order_plays, order_of_two_plays}
use Rattle.bones_commute.proofs.laws.law_orders.Goals as goal

pub returns : goal.returns
returns c = record { any = any_order_plays; source = source_order_plays; two = order_of_two_plays }
