use Rattle.hs_law_journal.proofs.Extending.{steps_are_noted}
use Rattle.hs_law_journal.proofs.laws.steps_are_noted.Goals as goal

pub returns : goal.returns
returns c = steps_are_noted c.events_add_this.ensures
