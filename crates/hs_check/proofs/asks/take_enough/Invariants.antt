use Rattle.std.proofs.Common.{◌≡◌, ◌-◌, ◌+◌, ◌≤◌, length}
use Rattle.hs_check.proofs.Prelude.{list_all, range_with_len, ask_enough_at, all_ask_enough}
use Rattle.hs_check.proofs.asks.take_enough.Given as goal

abbrev pub invariant-loop-pass : goal.invariant-loop-pass
invariant-loop-pass l = record {
  least : 1 ≤ l.pass;
  is : list_all (ask_enough_at l.taken l.sent l.heard) (range_with_len l.pass (length l.taken - (l.pass + 1))) ≡ all_ask_enough l.taken l.sent l.heard;
}
