use Rattle.hs_law_journal.proofs.Extending.{runs_are_of_the_journal}
use Rattle.hs_law_journal.proofs.laws.runs_are_of_the_journal.Goals as goal

pub returns : goal.returns
returns c = runs_are_of_the_journal c.events_add_this.ensures
