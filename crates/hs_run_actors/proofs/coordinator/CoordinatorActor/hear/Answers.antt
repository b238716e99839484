use Rattle.std.proofs.Common.{subst}
use Rattle.hs_run_actors.proofs.Prelude.{Brings, PlainCoordinatorActor, coordinator_actor_of}
use Rattle.std.proofs.lemmas.Result.{on_ok_weaker}
use Rattle.hs_run_actors.proofs.Hearing.{brings}
use Rattle.hs_run_actors.proofs.coordinator.CoordinatorActor.hear.Goals as goal

pub returns-clause-brings : goal.returns-clause-brings
returns-clause-brings c = λ W tellable.
    let s = c.self.inside in
    let told = c.bring.new.told.items in
    on_ok_weaker c.bring.result
    (λ put. subst (λ (x : PlainCoordinatorActor). Brings W c.args.node.0 c.args.told.now.items x (coordinator_actor_of s.coordinator told s.asks.items)) c.self.view_is
    (brings W (coordinator_actor_of s.coordinator s.told.items s.asks.items) told c.args.node.0 c.args.told.now.items put tellable))
    c.bring.ensures.put
