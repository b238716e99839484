use Rattle.hs_law_agent.proofs.Partition.{held_chunks_are_in_no_hand}
use Rattle.hs_law_agent.proofs.laws.held_chunks_are_in_no_hand.Goals as goal

pub returns : goal.returns
returns c = held_chunks_are_in_no_hand
