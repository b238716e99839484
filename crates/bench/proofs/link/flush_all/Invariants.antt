use Rattle.std.proofs.Common.{◌≡◌}
use Rattle.hs_link.specs.Contents.{sent}
use Rattle.bench.proofs.link.flush_all.Given as goal

abbrev pub invariant-loop : goal.invariant-loop
invariant-loop g l = (sent l.sender ≡ sent l.initial.sender) × (l.sender.room ≡ l.initial.sender.room)
