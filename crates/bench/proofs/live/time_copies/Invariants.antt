use Rattle.std.proofs.Common.{◌≡◌, length}
use Rattle.bench.proofs.live.time_copies.Given as goal

abbrev pub invariant-loop-round : goal.invariant-loop-round
invariant-loop-round g l = length l.target.items ≡ l.bytes
