use Rattle.hs_law_life.proofs.Sparing.{spared_by}
use Rattle.hs_law_life.proofs.nodes.claimed_traces_are_spared.Goals as goal

pub returns : goal.returns
returns c = spared_by c.lives_go_on_well.ensures c.events_lead_on.ensures c.events_add_this.ensures c.nothing_claimed_goes.ensures c.claims_stand.ensures
