use Rattle.std.proofs.Common.{◌≡◌, None}
use Rattle.hs_pins.proofs.Fullest.{choose}
use Rattle.hs_pins.proofs.queues.TriggerQueues.fullest.Given as goal

-- along the queues that are left the choice is that among all
abbrev pub invariant-loop-id : goal.invariant-loop-id
invariant-loop-id g l = choose l.id-iterator l.most l.fullest ≡ choose l.self 0 None
