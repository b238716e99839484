use Rattle.hs_replay.proofs.Prelude.{Machine, agents_take, agents_give, PlainWorkload, NodesAt, NodesBetween}
use Rattle.hs_replay.proofs.all.pass_all.Given as goal

abbrev pub invariant-loop-node : goal.invariant-loop-node
invariant-loop-node l = (W : PlainWorkload) (m : Machine) → NodesAt W m l.initial.nodes.items → NodesBetween W m (agents_give W (agents_take W m)) l.node l.nodes.items
