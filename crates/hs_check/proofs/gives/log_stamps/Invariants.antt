use Rattle.std.proofs.Common.{◌≡◌, ◌++◌, drop}
use Rattle.hs_check.proofs.Prelude.{log_stamps}
use Rattle.hs_check.proofs.gives.log_stamps.Given as goal

abbrev pub invariant-loop-step : goal.invariant-loop-step
invariant-loop-step l = l.stamps.items ++ log_stamps (drop l.step-index l.log) ≡ log_stamps l.log
