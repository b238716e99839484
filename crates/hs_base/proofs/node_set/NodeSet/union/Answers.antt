use Rattle.hs_base.specs.NodeSetLaws.{has-either}
use Rattle.hs_base.proofs.node_set.NodeSet.union.Goals as goal

pub returns-clause-nodes : goal.returns-clause-nodes
returns-clause-nodes c = λ n. has-either c.args.self c.args.other n
