use Rattle.hs_law_life.proofs.Standing.{new, does, begins}
use Rattle.hs_law_life.proofs.clients.lives_stay_in_order.Goals as goal

pub returns-clause-new : goal.returns-clause-new
returns-clause-new c = new

pub returns-clause-does : goal.returns-clause-does
returns-clause-does c = does

pub returns-clause-begins : goal.returns-clause-begins
returns-clause-begins c = begins
