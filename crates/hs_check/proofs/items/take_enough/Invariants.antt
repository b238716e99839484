use Rattle.std.proofs.Common.{◌≡◌, ◌-◌, ◌+◌, ◌≤◌, length, take, sum}
use Rattle.hs_check.proofs.Prelude.{list_all, range_with_len, enough_at, all_enough}
use Rattle.hs_check.proofs.items.take_enough.Given as goal

abbrev pub invariant-loop-pass : goal.invariant-loop-pass
invariant-loop-pass l = record {
  least : 1 ≤ l.pass;
  all : l.all ≡ sum (take (l.pass - 1) l.sent);
  is : list_all (enough_at l.taken l.sent) (range_with_len l.pass (length l.taken - (l.pass + 1))) ≡ all_enough l.taken l.sent;
}
