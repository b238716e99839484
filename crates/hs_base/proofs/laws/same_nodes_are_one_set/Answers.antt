use Rattle.hs_base.specs.NodeSetLaws.{same_nodes}
use Rattle.hs_base.proofs.laws.same_nodes_are_one_set.Goals as goal

pub returns : goal.returns
returns c = same_nodes
