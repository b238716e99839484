use Rattle.std.proofs.Common.{ℕ}
use Rattle.hs_replay.proofs.Prelude.{Machine, PlainWorkload, AreOf, node_goes, StandsStill}
use Rattle.hs_replay.proofs.node.ReplayNode.play_clients.Given as goal

abbrev pub invariant-loop-client : goal.invariant-loop-client
invariant-loop-client l = (W : PlainWorkload) (m : Machine) (n : ℕ) → StandsStill W m n l.initial.self → AreOf W n l.settings l.clients → StandsStill W (node_goes W m n l.client) n l.self
