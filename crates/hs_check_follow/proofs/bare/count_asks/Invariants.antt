use Rattle.std.proofs.Common.{◌≡◌, ◌≤◌, take}
use Rattle.hs_check_follow.proofs.Prelude.{count_by, has_node}
use Rattle.hs_check_follow.proofs.bare.count_asks.Given as goal

abbrev pub invariant-loop-to : goal.invariant-loop-to
invariant-loop-to l = record {
  is : l.count ≡ count_by (λ to. has_node to l.node.0) (take l.to-index l.asked);
  few : l.count ≤ l.to-index;
}
