use Rattle.std.proofs.Common.{◌≡◌, ◌-◌, ◌≤◌, length}
use Rattle.bench.proofs.live.copy_all.Given as goal

abbrev pub invariant-copies : goal.invariant-copies
invariant-copies l = (length l.target ≡ length l.initial.target) × (l.at ≤ length l.target)

abbrev pub decreases-copies : goal.decreases-copies
decreases-copies l = length l.target - l.at
