use Rattle.hs_replay.proofs.Prelude.{Messages, PlainWorkload, Machine, AllHeard, HeardOf}
use Rattle.hs_replay.proofs.coordinator.hear_node.Given as goal

abbrev pub invariant-loop-count : goal.invariant-loop-count
invariant-loop-count l = (W : PlainWorkload) (m : Machine) (heard : Messages) → AllHeard W m heard l.initial.nodes.items l.initial.coordinator → HeardOf W m heard l.node l.count l.nodes.items l.coordinator
