use Rattle.std.proofs.Common.{◌≡◌, length}
use Rattle.tests_node.proofs.claimed.thirty_two.Given as goal

abbrev pub invariant-loop-number : goal.invariant-loop-number
invariant-loop-number l = length l.laterals ≡ l.number
