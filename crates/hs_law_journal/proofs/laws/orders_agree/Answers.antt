use Rattle.hs_law_journal.proofs.Orders.{orders_agree}
use Rattle.hs_law_journal.proofs.laws.orders_agree.Goals as goal

pub returns : goal.returns
returns c = orders_agree c.steps_say_what_they_tell.ensures
