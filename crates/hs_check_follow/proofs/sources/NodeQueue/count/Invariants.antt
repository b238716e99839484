use Rattle.std.proofs.Common.{◌≡◌, ◌≤◌, take}
use Rattle.hs_check_follow.proofs.Prelude.{taken}
use Rattle.hs_check_follow.specs.Sources.{queue_of}
use Rattle.hs_check_follow.proofs.sources.NodeQueue.count.Given as goal

abbrev pub invariant-loop-step : goal.invariant-loop-step
invariant-loop-step l = record {
  is : l.count ≡ taken (queue_of l.fn.self) (take l.step-index l.log);
  few : l.count ≤ l.step-index;
}
