use Rattle.std.proofs.Common.{◌≡◌, ◌++◌, map}
use Rattle.hs_check_follow.proofs.Prelude.{flat_map, AreFound, books_left, IsFoundOf, FollowedNode}
use Rattle.hs_check_follow.proofs.parting.part_nodes.Given as goal

abbrev pub invariant-loop-tracked : goal.invariant-loop-tracked
invariant-loop-tracked l =
    (goal.iterator-loop-tracked).can_next l.tracked-iterator × (goal.iterator-loop-tracked).is_finite l.tracked-iterator
    × AreFound IsFoundOf l.yielded l.found.items × (l.ended.clients.items ≡ l.initial.ended.clients.items ++ flat_map books_left l.yielded)
    × (l.ended.agents.items ≡ l.initial.ended.agents.items ++ map (λ (t : FollowedNode). t.follower.agent) l.yielded)
