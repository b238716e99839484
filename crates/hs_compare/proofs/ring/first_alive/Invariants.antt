use Rattle.std.proofs.Common.{◌≡◌, ◌≤◌, length}
use Rattle.hs_compare.proofs.Prelude.{alive}
use Rattle.hs_compare.proofs.ring.first_alive.Given as goal

abbrev pub invariant-loop-noted : goal.invariant-loop-noted
invariant-loop-noted l = (alive l.named.keys l.fn.ring.items ≡ alive l.named.keys l.ring.items) × (l.ring.capacity ≡ l.fn.ring.capacity) × (length l.ring.items ≤ length l.fn.ring.items)

abbrev pub decreases-loop-noted : goal.decreases-loop-noted
decreases-loop-noted l = length l.ring.items
