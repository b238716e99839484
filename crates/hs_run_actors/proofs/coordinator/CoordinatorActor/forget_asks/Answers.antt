use Rattle.std.proofs.Common.{[], ap, ◌∙◌}
use Rattle.hs_run_actors.proofs.Prelude.{PlainCoordinatorActor, coordinator_actor_of}
use Rattle.hs_run_actors.proofs.Hearing.{fetched}
use Rattle.hs_run_actors.proofs.coordinator.CoordinatorActor.forget_asks.Goals as goal

pub returns-clause-stands : goal.returns-clause-stands
returns-clause-stands c = λ W heard moved asked asked' is are.
    let s = c.self.inside in
    let only = ap (λ l. coordinator_actor_of s.coordinator s.told.items l) c.clear.ensures.items ∙ ap (λ (x : PlainCoordinatorActor). record x { asks = [] }) c.self.view_is in
    fetched W heard moved asked asked' c.args.self.now (coordinator_actor_of s.coordinator s.told.items c.clear.new.self.items) is are only
