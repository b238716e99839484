use Rattle.std.proofs.Common.{◌≡◌, [], take, drop}
use Rattle.hs_check.proofs.Prelude.{IsShown}
use Rattle.hs_check.specs.Showing.{may_be_unread}
use Rattle.hs_check.proofs.Stepping.{through}
use Rattle.hs_check.proofs.unreads.are_possible.Given as goal

abbrev pub invariant-loop-step : goal.invariant-loop-step
invariant-loop-step l = record {
  shown : IsShown l.gives (take l.step-index l.log) l.shown;
  is : through (may_be_unread l.settings.buffers l.settings.stride l.draws l.gives) (take l.step-index l.log) (drop l.step-index l.log)
      ≡ through (may_be_unread l.settings.buffers l.settings.stride l.draws l.gives) [] l.log;
}
