use Rattle.hs_law_run.proofs.Offers.{make_their_offers}
use Rattle.hs_law_run.proofs.laws.doings_make_their_offers.Goals as goal

pub returns : goal.returns
returns c = make_their_offers c.doings_are_followed.ensures c.events_add_this.ensures
