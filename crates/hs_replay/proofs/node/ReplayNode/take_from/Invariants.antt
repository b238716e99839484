use Rattle.std.proofs.Common.{ℕ}
use Rattle.hs_replay.proofs.Prelude.{NodeRun, Machine, PlainWorkload, IsAmid, TookSome}
use Rattle.hs_replay.proofs.node.ReplayNode.take_from.Given as goal

abbrev pub invariant-loop-count : goal.invariant-loop-count
invariant-loop-count l = (W : PlainWorkload) (m : Machine) (n : ℕ) (run : NodeRun) → IsAmid W m n run l.initial.self → TookSome W m n l.queue run l.count l.self
