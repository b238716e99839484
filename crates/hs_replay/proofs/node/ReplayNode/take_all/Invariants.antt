use Rattle.std.proofs.Common.{ℕ}
use Rattle.hs_replay.proofs.Prelude.{NodeRun, Machine, PlainWorkload, IsAmid, WentBy, takes_first}
use Rattle.hs_replay.proofs.node.ReplayNode.take_all.Given as goal

abbrev pub invariant-loop-client : goal.invariant-loop-client
invariant-loop-client l = (W : PlainWorkload) (m : Machine) (n : ℕ) (run : NodeRun) → IsAmid W m n run l.initial.self → WentBy W m n run (takes_first W m run l.client) l.self
