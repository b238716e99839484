use Rattle.hs_hub.proofs.Restart.{hold_again}
use Rattle.hs_hub.proofs.laws.held_pages_come_again.Goals as goal

pub returns : goal.returns
returns c = hold_again
