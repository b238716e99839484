use Rattle.hs_law_run.proofs.Spent.{closed_keep}
use Rattle.hs_law_run.proofs.laws.closed_pools_keep.Goals as goal

pub returns : goal.returns
returns c = closed_keep c.events_add_this.ensures
