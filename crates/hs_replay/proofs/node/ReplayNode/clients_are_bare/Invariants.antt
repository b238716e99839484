use Rattle.std.proofs.Common.{ℕ, ◌<◌}
use Rattle.hs_replay.proofs.Prelude.{Machine, PlainWorkload, IsNodeDone, StandsStill}
use Rattle.hs_replay.proofs.LeftOver.{AllTaken}
use Rattle.hs_replay.proofs.node.ReplayNode.clients_are_bare.Given as goal

abbrev pub invariant-loop-player : goal.invariant-loop-player
invariant-loop-player l = (W : PlainWorkload) (m : Machine) (n : ℕ) (still : StandsStill W m n l.self) → IsNodeDone W m n → (client : ℕ) → client < l.player-index → AllTaken still.at.run client
