use Rattle.hs_law_outcome.proofs.Orderly.{answers_come_from_asked}
use Rattle.hs_law_outcome.proofs.laws.answers_come_from_asked.Goals as goal

pub returns : goal.returns
returns c = answers_come_from_asked c.steps_say_what_they_tell.ensures c.events_add_few.ensures
