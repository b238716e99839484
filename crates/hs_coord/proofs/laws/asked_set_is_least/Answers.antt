use Rattle.hs_coord.proofs.OrderlyLemmas.{closed, least}
use Rattle.hs_coord.proofs.laws.asked_set_is_least.Goals as goal

pub returns-clause-closed : goal.returns-clause-closed
returns-clause-closed c = closed

pub returns-clause-least : goal.returns-clause-least
returns-clause-least c = λ group messages set. least group set messages
