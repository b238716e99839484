use Rattle.std.proofs.Common.{◌≡◌, true, ℕ, ◌<◌, Some}
use Rattle.hs_replay.proofs.Prelude.{is_left_bare, NodeRun, followed, AllDone, Machine, node_at, PlainWorkload, NodesAt}
use Rattle.hs_replay.proofs.all.is_bare.Given as goal

abbrev pub invariant-loop-node : goal.invariant-loop-node
invariant-loop-node l =
    (W : PlainWorkload) (m : Machine) → NodesAt W m l.nodes.items → AllDone W m → (n : ℕ) (run : NodeRun) → n < l.node → node_at W m.journal n ≡ Some run → is_left_bare (followed W m.journal) run ≡ true
