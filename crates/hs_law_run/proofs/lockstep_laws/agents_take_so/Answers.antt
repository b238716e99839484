use Rattle.hs_law_run.proofs.Taking.{agents_take_so}
use Rattle.hs_law_run.proofs.lockstep_laws.agents_take_so.Goals as goal

pub returns : goal.returns
returns c = agents_take_so c.known.ensures
