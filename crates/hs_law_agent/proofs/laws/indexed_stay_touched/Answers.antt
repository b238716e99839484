use Rattle.hs_law_agent.proofs.Whiles.{indexed_stay_touched}
use Rattle.hs_law_agent.proofs.laws.indexed_stay_touched.Goals as goal

pub returns : goal.returns
returns c = indexed_stay_touched
