use Rattle.hs_run_actors.proofs.Prelude.{Messages, PlainWorkload, Tellings, Askings, IsCoordinatorActor, coordinator_actor_of}
use Rattle.hs_run_actors.proofs.Hearing.{HeardFirst}
use Rattle.hs_run_actors.proofs.coordinator.hear_all.Given as goal

abbrev pub invariant-loop-node : goal.invariant-loop-node
invariant-loop-node g l = (W : PlainWorkload) (heard : Messages) (moved : Tellings) (asked : Askings) → IsCoordinatorActor W heard moved asked (coordinator_actor_of l.initial.coordinator l.initial.told.items l.initial.asks.items)
    → HeardFirst W heard moved asked l.node (coordinator_actor_of l.coordinator l.told.items l.asks.items)
