use Rattle.hs_run_actors.proofs.Prelude.{Messages, PlainWorkload, Tellings, Askings, IsCoordinatorActor, coordinator_actor_of}
use Rattle.hs_run_actors.proofs.Hearing.{HeardSome}
use Rattle.hs_run_actors.proofs.coordinator.hear_node.Given as goal

abbrev pub invariant-loop-count : goal.invariant-loop-count
invariant-loop-count g l = (W : PlainWorkload) (heard : Messages) (moved : Tellings) (asked : Askings) → IsCoordinatorActor W heard moved asked (coordinator_actor_of l.initial.coordinator l.initial.told.items l.initial.asks.items)
    → HeardSome W heard moved asked l.node l.count (coordinator_actor_of l.coordinator l.told.items l.asks.items)
