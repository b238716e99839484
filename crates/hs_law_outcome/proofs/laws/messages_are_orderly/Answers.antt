use Rattle.hs_law_outcome.proofs.Orderly.{messages_are_orderly}
use Rattle.hs_law_outcome.proofs.laws.messages_are_orderly.Goals as goal

pub returns : goal.returns
returns c = messages_are_orderly c.steps_say_what_they_tell.ensures c.events_add_few.ensures
