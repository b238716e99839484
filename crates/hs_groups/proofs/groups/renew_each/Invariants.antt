use Rattle.std.proofs.Common.{◌≡◌, ◌++◌, take, drop, map}
use Rattle.std.specs.VecDeque.{deque_capacity}
use Rattle.hs_groups.specs.Following.{renewed}
use Rattle.hs_groups.proofs.groups.renew_each.Given as goal

-- the first groups are changed, and no place is lost
abbrev pub invariant-loop-place : goal.invariant-loop-place
invariant-loop-place l = (l.groups.items ≡ map (renewed l.node) (take l.place l.fn.groups.items) ++ drop l.place l.fn.groups.items) × (deque_capacity l.groups ≡ deque_capacity l.fn.groups)
