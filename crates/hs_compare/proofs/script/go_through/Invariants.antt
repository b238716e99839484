use Rattle.std.proofs.Common.{◌≡◌, take}
use Rattle.hs_compare.proofs.Prelude.{rings_after}
use Rattle.hs_compare.proofs.script.go_through.Given as goal

abbrev pub invariant-loop-event : goal.invariant-loop-event
invariant-loop-event l = l.ring ≡ rings_after l.fn.ring (take l.event-index l.events)
