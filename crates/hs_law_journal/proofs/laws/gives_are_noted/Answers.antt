use Rattle.hs_law_journal.proofs.Givens.{gives_are_noted}
use Rattle.hs_law_journal.proofs.laws.gives_are_noted.Goals as goal

pub returns : goal.returns
returns c = gives_are_noted c.events_add_this.ensures
