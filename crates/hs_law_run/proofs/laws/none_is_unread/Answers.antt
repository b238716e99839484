use Rattle.hs_law_run.proofs.Quiet.{none_unread}
use Rattle.hs_law_run.proofs.laws.none_is_unread.Goals as goal

pub returns : goal.returns
returns c = none_unread c.doings_are_followed.ensures c.events_add_this.ensures
