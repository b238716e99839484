use Rattle.std.proofs.Common.{◌≡◌, ◌++◌, take}
use Rattle.hs_run_actors.proofs.Prelude.{asks_for}
use Rattle.hs_run_actors.proofs.coordinator.add_asks.Given as goal

abbrev pub invariant-loop-place : goal.invariant-loop-place
invariant-loop-place l = l.others.items ≡ l.initial.others.items ++ asks_for l.node.0 (take l.place l.asks.items)
