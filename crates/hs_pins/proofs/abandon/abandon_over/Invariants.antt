use Rattle.std.proofs.Common.{◌≡◌, ◌+◌, ◌≤◌, length, map}
use Rattle.hs_pins.proofs.Prelude.{total_of, Remembered, pin_of, HasPinned}
use Rattle.indexmap.specs.IndexSet.{spare}
use Rattle.hs_pins.proofs.Leaving.{GoesOn}
use Rattle.hs_pins.proofs.abandon.abandon_over.Given as goal

-- there is room for what is still pinned, and what was remembered goes on from here
abbrev pub invariant-loop-queues : goal.invariant-loop-queues
invariant-loop-queues g l =
    (length l.dropped.items + total_of l.queues ≤ l.dropped.room) × (total_of l.queues ≤ spare l.abandoned + l.most)
    × ((memory : Remembered g.row.L.Denot) → l.most ≡ memory.most → HasPinned l.fn.queues l.fn.abandoned.keys memory → GoesOn memory l.queues l.abandoned.keys (map pin_of l.fn.dropped.items) (map pin_of l.dropped.items))

abbrev pub decreases-loop-queues : goal.decreases-loop-queues
decreases-loop-queues g l = total_of l.queues
