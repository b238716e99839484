use Rattle.hs_collect.proofs.Turns.{in_turn}
use Rattle.hs_collect.proofs.laws.pages_in_turn_can_be_added.Goals as goal

pub returns : goal.returns
returns c = in_turn
