use Rattle.std.proofs.Common.{arith}
use Rattle.hs_base.specs.NodeSetLaws.{has-without}
use Rattle.hs_base.proofs.node_set.NodeSet.without.Goals as goal

pub returns-clause-nodes : goal.returns-clause-nodes
returns-clause-nodes c = λ n. has-without c.args.self c.args.other n (omega arith) (omega arith)
