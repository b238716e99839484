use Rattle.std.proofs.Common.{◌≡◌}
use Rattle.hs_base.specs.declared.limits.TheConstants.{MOST_NODES}
use Rattle.tests_parts.proofs.coord.tell_all.Given as goal

abbrev pub invariant-loop-number : goal.invariant-loop-number
invariant-loop-number l = l.coordinator.nodes ≡ MOST_NODES
