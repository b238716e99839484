use Rattle.hs_law_outcome.proofs.Kept.{evicted_only_where_over}
use Rattle.hs_law_outcome.proofs.laws.evicted_only_where_over.Goals as goal

pub returns : goal.returns
returns c = evicted_only_where_over c.evicted_were_over.ensures c.agents_come_by_events.ensures
