use Rattle.std.proofs.Common.{◌≡◌, ◌++◌, drop}
use Rattle.hs_check_follow.proofs.Prelude.{filter_map, timed_miss}
use Rattle.hs_check_follow.proofs.happened.push_missed.Given as goal

abbrev pub invariant-loop-step : goal.invariant-loop-step
invariant-loop-step l = l.events.items ++ filter_map timed_miss (drop l.step-index l.log) ≡ l.fn.events.items ++ filter_map timed_miss l.log
