use Rattle.std.proofs.Common.{◌≡◌, ◌++◌, ◌+◌, ◌≤◌, length, map}
use Rattle.hs_collect.proofs.Prelude.{wholes_of}
use Rattle.hs_collect.proofs.Placed.{begun}
use Rattle.hs_collect.proofs.records.TraceRecords.append.Given as goal

abbrev pub invariant-loop-place : goal.invariant-loop-place
invariant-loop-place l = record {
  goes : (goal.iterator-loop-place).can_next l.place-iterator;
  ends : (goal.iterator-loop-place).is_finite l.place-iterator;
  wholes : wholes_of l.self ≡ wholes_of l.initial.self ++ map (begun l.header) l.yielded;
  room : length l.self.entries.items + (length l.fn.points.items) ≤ l.self.entries.room + length l.yielded;
}
