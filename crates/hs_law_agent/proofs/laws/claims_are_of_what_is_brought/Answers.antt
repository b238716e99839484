use Rattle.hs_law_agent.proofs.Bringing.{claims_are_of_what_is_brought}
use Rattle.hs_law_agent.proofs.laws.claims_are_of_what_is_brought.Goals as goal

pub returns : goal.returns
returns c = claims_are_of_what_is_brought c.steps_say_what_they_tell.ensures
