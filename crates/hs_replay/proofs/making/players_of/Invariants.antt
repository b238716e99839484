use Rattle.std.proofs.Common.{◌≡◌, ◌≤◌, length}
use Rattle.hs_replay.proofs.Prelude.{PlainWorkload, IsNewNode, AreNew}
use Rattle.hs_replay.proofs.making.players_of.Given as goal

abbrev pub invariant-loop-client : goal.invariant-loop-client
invariant-loop-client l =
    (length l.clients ≤ l.players.room) × (length l.players.items ≡ l.client) × ((W : PlainWorkload) → IsNewNode W l.node l.settings l.clients → AreNew W l.node l.client l.players.items)
