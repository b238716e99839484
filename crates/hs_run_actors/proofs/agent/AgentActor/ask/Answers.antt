use Rattle.std.proofs.Common.{List, sym, subst}
use Rattle.hs_run_actors.proofs.Prelude.{agent_actor_in, Ask, asks_for, PlainAgentActor, IsAgentActor, with_asks}
use Rattle.hs_run_actors.proofs.Telling.{asked_manned, these_askable}
use Rattle.hs_run_actors.proofs.agent.AgentActor.ask.Goals as goal

pub returns-clause-manned : goal.returns-clause-manned
returns-clause-manned c = λ W work manned askable.
    let old = agent_actor_in c.self.inside in
    let asks = c.args.coordinator.now.asks in
    let more = asks_for c.args.node.0 asks in
    let here : IsAgentActor W work old = subst (λ (m : PlainAgentActor). IsAgentActor W work m) (sym c.self.view_is) manned in
    subst (λ (l : List Ask). IsAgentActor W (with_asks more work) (record old { asks = l })) (sym c.in_ok-ask.ensures) (asked_manned W work old here more (these_askable W c.args.node.0 asks askable))
