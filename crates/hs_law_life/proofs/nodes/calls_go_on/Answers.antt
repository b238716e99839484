use Rattle.hs_node.proofs.Joining.{on_more}
use Rattle.hs_law_life.proofs.nodes.calls_go_on.Goals as goal

pub returns : goal.returns
returns c = on_more
