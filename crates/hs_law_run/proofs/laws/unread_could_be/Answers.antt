use Rattle.hs_law_run.proofs.Unread.{unreads_could}
use Rattle.hs_law_run.proofs.laws.unread_could_be.Goals as goal

pub returns : goal.returns
returns c = unreads_could c.doings_are_followed.ensures c.events_add_this.ensures
