use Rattle.std.proofs.Common.{◌≡◌, ◌≤◌, ◌+◌, ◌++◌, length, map}
use Rattle.hs_compare.proofs.ring_tail.keep_all.Given as goal

abbrev pub invariant-loop-id : goal.invariant-loop-id
invariant-loop-id l = record {
  kept : l.kept.items ++ l.queue ≡ l.fn.kept.items ++ l.fn.queue;
  traces : l.traces.items ++ map (λ _. l.trace) l.queue ≡ l.fn.traces.items ++ map (λ _. l.trace) l.fn.queue;
  room : length l.kept.items + length l.queue ≤ l.kept.room;
  places : length l.traces.items + length l.queue ≤ l.traces.room;
  kept_room : l.fn.kept.room ≤ l.kept.room;
  traces_room : l.fn.traces.room ≤ l.traces.room;
}

abbrev pub decreases-loop-id : goal.decreases-loop-id
decreases-loop-id l = length l.queue
