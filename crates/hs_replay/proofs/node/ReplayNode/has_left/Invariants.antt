use Rattle.std.proofs.Common.{◌≡◌, ℕ, ◌<◌}
use Rattle.hs_replay.proofs.Prelude.{Machine, PlainWorkload, HasClients, done_of, all_of, NodeIsAt}
use Rattle.hs_replay.proofs.node.ReplayNode.has_left.Given as goal

abbrev pub invariant-loop-client : goal.invariant-loop-client
invariant-loop-client l = (W : PlainWorkload) (m : Machine) (n : ℕ) → NodeIsAt W m n l.self → HasClients W n l.clients → (client : ℕ) → client < l.client → done_of W m n client ≡ all_of W n client
