use Rattle.std.proofs.Common.{◌≡◌, ◌≤◌, take, eqb}
use Rattle.hs_check_follow.proofs.Prelude.{count_by, NodeId}
use Rattle.hs_check_follow.proofs.bare.count_told.Given as goal

abbrev pub invariant-loop-other : goal.invariant-loop-other
invariant-loop-other l = record {
  is : l.count ≡ count_by (λ (other : NodeId). eqb other.0 l.node.0) (take l.other-index l.told);
  few : l.count ≤ l.other-index;
}
