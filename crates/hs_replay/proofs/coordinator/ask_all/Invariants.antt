use Rattle.hs_replay.proofs.Prelude.{AreAsked}
use Rattle.hs_replay.proofs.coordinator.ask_all.Given as goal

abbrev pub invariant-loop-node : goal.invariant-loop-node
invariant-loop-node l = AreAsked l.asks l.node l.initial.nodes.items l.nodes.items
