use Rattle.hs_check_follow.proofs.Prelude.{AreSent}
use Rattle.hs_check_follow.proofs.coordinator.send_all.Given as goal

abbrev pub invariant-loop-node : goal.invariant-loop-node
invariant-loop-node l = AreSent l.asks l.node l.initial.lists.items l.lists.items
