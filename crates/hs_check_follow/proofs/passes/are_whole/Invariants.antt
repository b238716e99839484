use Rattle.std.proofs.Common.{◌≡◌, drop}
use Rattle.hs_check_follow.proofs.Prelude.{goes_through, at_start}
use Rattle.hs_check_follow.proofs.passes.are_whole.Given as goal

abbrev pub invariant-loop-step : goal.invariant-loop-step
invariant-loop-step l = goes_through l.clients l.walk (drop l.step-index l.log) ≡ goes_through l.clients at_start l.log
