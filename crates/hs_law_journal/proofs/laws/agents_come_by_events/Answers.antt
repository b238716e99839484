use Rattle.hs_law_journal.proofs.Events.{agents_come_by_events}
use Rattle.hs_law_journal.proofs.laws.agents_come_by_events.Goals as goal

pub returns : goal.returns
returns c = agents_come_by_events c.events_go_on.ensures
