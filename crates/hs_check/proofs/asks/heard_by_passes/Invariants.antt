use Rattle.std.proofs.Common.{◌≡◌, ℕ, ◌<◌, max, length, get_or, drop}
use Rattle.hs_check.proofs.Prelude.{heard_for, most_passes}
use Rattle.hs_check.proofs.asks.heard_by_passes.Given as goal

abbrev pub invariant-loop-node : goal.invariant-loop-node
invariant-loop-node l = record {
  count : length l.heard.items ≡ most_passes l.nodes;
  each : (pass : ℕ) → pass < most_passes l.nodes → max (get_or l.heard.items pass 0) (heard_for l.told pass l.node (drop l.node l.nodes)) ≡ heard_for l.told pass 0 l.nodes;
}
