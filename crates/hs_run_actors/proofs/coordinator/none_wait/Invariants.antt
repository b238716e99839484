use Rattle.hs_run_actors.proofs.Inboxes.{EmptyBelow}
use Rattle.hs_run_actors.proofs.coordinator.none_wait.Given as goal

abbrev pub invariant-loop-inbox : goal.invariant-loop-inbox
invariant-loop-inbox l = EmptyBelow l.inbox-index l.told.items
