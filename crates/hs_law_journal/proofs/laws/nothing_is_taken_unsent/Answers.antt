use Rattle.hs_law_journal.proofs.Supplied.{nothing_is_taken_unsent}
use Rattle.hs_law_journal.proofs.laws.nothing_is_taken_unsent.Goals as goal

pub returns : goal.returns
returns c = nothing_is_taken_unsent c.steps_say_what_they_tell.ensures c.events_add_this.ensures
