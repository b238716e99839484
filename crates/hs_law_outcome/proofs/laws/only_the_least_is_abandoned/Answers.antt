use Rattle.hs_law_outcome.proofs.Abandonment.{only_the_least_is_abandoned}
use Rattle.hs_law_outcome.proofs.laws.only_the_least_is_abandoned.Goals as goal

pub returns : goal.returns
returns c = only_the_least_is_abandoned c.the_least_goes.ensures c.limits_hold.ensures c.events_go_on.ensures c.agents_come_by_events.ensures
