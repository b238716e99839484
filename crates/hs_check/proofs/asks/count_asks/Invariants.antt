use Rattle.std.proofs.Common.{◌≡◌, ◌≤◌, ◌∷◌, ◌++◌, drop}
use Rattle.hs_check.proofs.Prelude.{asks_behind_each}
use Rattle.hs_check.proofs.asks.count_asks.Given as goal

abbrev pub invariant-loop-place : goal.invariant-loop-place
invariant-loop-place l = record {
  is : l.sent.items ++ asks_behind_each l.node.0 l.count (drop l.place l.asked) ≡ 0 ∷ asks_behind_each l.node.0 0 l.asked;
  few : l.count ≤ l.place;
}
