use Rattle.hs_replay.proofs.Prelude.{PlainWorkload, Machine, AllAt, HeardUpTo}
use Rattle.hs_replay.proofs.coordinator.coordinate.Given as goal

abbrev pub invariant-loop-node : goal.invariant-loop-node
invariant-loop-node l = (W : PlainWorkload) (m : Machine) → AllAt W m l.initial.nodes.items l.initial.coordinator → HeardUpTo W m l.node l.nodes.items l.coordinator
