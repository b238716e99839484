use Rattle.std.proofs.Common.{◌≡◌, length}
use Rattle.tests_service.proofs.wire.most_laterals.Given as goal

abbrev pub invariant-loop-number : goal.invariant-loop-number
invariant-loop-number l = length l.laterals ≡ l.number
