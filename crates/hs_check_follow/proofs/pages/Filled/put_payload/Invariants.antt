use Rattle.std.proofs.Common.{◌≡◌, ℕ, ◌+◌, ◌-◌, ◌≤◌, length, drop}
use Rattle.hs_check_follow.proofs.Prelude.{piece_limit, opened, room_behind, payload_costs}
use Rattle.hs_check_follow.proofs.pages.Filled.put_payload.Given as goal

abbrev pub invariant-loop-done : goal.invariant-loop-done
invariant-loop-done l = record {
  within : l.done ≤ length l.payload;
  pages : l.filled.pages + opened l.size l.filled.room (payload_costs l.size (drop l.done l.payload)) ≡ l.fn.self.pages + opened l.size l.fn.self.room (payload_costs l.size l.payload);
  room : room_behind l.size l.filled.room (payload_costs l.size (drop l.done l.payload)) ≡ room_behind l.size l.fn.self.room (payload_costs l.size l.payload);
}

abbrev pub decreases-loop-done : goal.decreases-loop-done
decreases-loop-done l = length l.payload - l.done
