use Rattle.hs_law_outcome.proofs.Claimed.{nothing_claimed_was_evicted}
use Rattle.hs_law_outcome.proofs.laws.nothing_claimed_was_evicted.Goals as goal

pub returns : goal.returns
returns c = nothing_claimed_was_evicted c.events_add_this.ensures c.events_go_on.ensures c.claims_hold_for_good.ensures c.nothing_claimed_is_evicted.ensures c.agents_come_by_events.ensures
