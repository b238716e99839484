use Rattle.hs_law_agent.proofs.Partition.{standings_partition}
use Rattle.hs_law_agent.proofs.laws.standings_partition.Goals as goal

pub returns : goal.returns
returns c = standings_partition
