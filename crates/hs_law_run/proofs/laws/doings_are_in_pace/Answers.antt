use Rattle.hs_law_run.proofs.Pace.{are_in_pace}
use Rattle.hs_law_run.proofs.laws.doings_are_in_pace.Goals as goal

pub returns : goal.returns
returns c = are_in_pace c.doings_are_followed.ensures c.events_add_this.ensures
