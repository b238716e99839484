use Rattle.hs_law_agent.proofs.Partition.{lists_have_their_chunks}
use Rattle.hs_law_agent.proofs.laws.lists_have_their_chunks.Goals as goal

pub returns : goal.returns
returns c = lists_have_their_chunks
