use Rattle.hs_hub.proofs.Lives.{all_calls}
use Rattle.hs_hub.proofs.laws.pages_come_and_go.Goals as goal

pub returns : goal.returns
returns c = all_calls
