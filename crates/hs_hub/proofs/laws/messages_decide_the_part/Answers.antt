use Rattle.hs_hub.proofs.Lives.{messages_decide}
use Rattle.hs_hub.proofs.laws.messages_decide_the_part.Goals as goal

pub returns : goal.returns
returns c = messages_decide
