use Rattle.hs_agent.proofs.Few.{few-admitted}
use Rattle.hs_agent.proofs.laws.few_are_admitted.Goals as goal

pub returns : goal.returns
returns c = few-admitted
