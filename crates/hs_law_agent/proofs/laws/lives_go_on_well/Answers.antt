use Rattle.hs_law_agent.proofs.Lives.{lives_go_on_well}
use Rattle.hs_law_agent.proofs.laws.lives_go_on_well.Goals as goal

pub returns : goal.returns
returns c = lives_go_on_well
