use Rattle.std.proofs.Common.{◌≡◌, ◌++◌}
use Rattle.std.specs.VecDeque.{deque_len, deque_capacity}
use Rattle.hs_link.specs.Contents.{IsBeginning}
use Rattle.hs_link.specs.Ring.{AllHold, IsSender, IsSameSeat, IsCounted, put_of, heard_of}
use Rattle.hs_link.proofs.sender.put_outbox.Given as goal

abbrev pub invariant-loop-place : goal.invariant-loop-place
invariant-loop-place g l = record {
  seat : IsSameSeat l.initial.place l.place;
  sender : IsSender l.entries.table_id l.entries.key l.place (put_of l.place) (heard_of l.initial.place);
  cursor : IsCounted l.entries.table_id l.cursor.capacity l.cursor.count (put_of l.place);
  sent : put_of l.place ++ l.outbox.items ≡ put_of l.initial.place ++ l.initial.outbox.items;
  put : IsBeginning (put_of l.initial.place) (put_of l.place);
  fact : AllHold (g.F.Fact.holds l.entries.key) l.outbox.items;
  capacity : deque_capacity l.outbox ≡ deque_capacity l.initial.outbox;
}

abbrev pub decreases-loop-place : goal.decreases-loop-place
decreases-loop-place g l = deque_len l.outbox
