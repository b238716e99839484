use Rattle.hs_compare.proofs.Order.{the_order_has_all}
use Rattle.hs_compare.proofs.laws.the_order_has_all.Goals as goal

pub returns : goal.returns
returns c = the_order_has_all c.all_is_sent_in_the_end.ensures.triggers
