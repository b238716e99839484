use Rattle.hs_law_outcome.proofs.Kept.{agents_keep_their_model}
use Rattle.hs_law_outcome.proofs.laws.agents_keep_their_model.Goals as goal

pub returns : goal.returns
returns c = agents_keep_their_model c.lists_have_their_chunks.ensures c.limits_hold.ensures c.traces_are_claimed_once.ensures c.chunks_stand_by_their_claim.ensures c.agents_come_by_events.ensures
