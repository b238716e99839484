-- How a ring of records lies in the fields of a ring tail, with records that no longer wait among those that do.
use Rattle.std.specs.Prelude.{◌≡◌, ◌≤◌, ◌+◌, ◌*◌, length}
use Rattle.hs_compare.specs.Ringing.{Ringing, alive}
use Rattle.hs_compare.specs.Queues.{AreQueued}
use Rattle.hs_compare.specs.declared.limits.TheConstants.{MAX_ROOM}
use Rattle.hs_compare.specs.declared.ring_tail.RingTail.TheInside.{Inside}

abbrev pub ringing_of : Inside → Ringing
ringing_of a =
    record { room = a.room; waiting = alive a.named.keys a.ring.items; named = a.named.keys; kept = a.kept.items; traces = a.traces.items }

pub record IsRingTail (a : Inside) : Type 0 where
  pub room : (1 ≤ a.room) × (a.room ≤ MAX_ROOM)
  -- so where the ring is full, more of its records are dead than alive
  pub capacity : a.ring.capacity ≡ 2 * a.room
  pub within : length a.ring.items ≤ a.ring.capacity
  pub waiting : a.waiting ≡ length (alive a.named.keys a.ring.items)
  pub few : a.waiting ≤ a.room
  pub queued : AreQueued a.queues.entries (alive a.named.keys a.ring.items)
  -- a record that waits has room among the kept ones
  pub kept : length a.kept.items + a.waiting ≤ a.kept.room
  pub traces : length a.traces.items + a.waiting ≤ a.traces.room
