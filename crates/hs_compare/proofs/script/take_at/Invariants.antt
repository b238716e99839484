use Rattle.std.proofs.Common.{◌≡◌, ◌-◌, ◌++◌, length, drop}
use Rattle.hs_compare.proofs.Prelude.{events_in, run_of, rest_of}
use Rattle.hs_compare.proofs.script.take_at.Given as goal

abbrev pub invariant-loop-next : goal.invariant-loop-next
invariant-loop-next l = record {
  events : l.events.items ++ events_in (run_of l.number (drop l.next l.happenings)) ≡ l.fn.events.items ++ events_in (run_of l.number (drop l.from l.happenings));
  rest : rest_of l.number (drop l.next l.happenings) ≡ rest_of l.number (drop l.from l.happenings);
}

abbrev pub decreases-loop-next : goal.decreases-loop-next
decreases-loop-next l = length l.happenings - l.next
