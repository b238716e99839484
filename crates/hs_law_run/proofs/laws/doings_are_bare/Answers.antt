use Rattle.hs_law_run.proofs.Clauses.{are_bare}
use Rattle.hs_law_run.proofs.laws.doings_are_bare.Goals as goal

pub returns : goal.returns
returns c = are_bare c.doings_are_followed.ensures c.events_add_this.ensures
