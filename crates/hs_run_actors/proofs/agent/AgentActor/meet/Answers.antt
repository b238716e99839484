use Rattle.std.proofs.Common.{sym, subst}
use Rattle.hs_run_actors.proofs.Prelude.{agent_actor_in, PlainAgentActor, IsAgentActor}
use Rattle.hs_run_actors.proofs.Meeting.{met_manned}
use Rattle.hs_run_actors.proofs.agent.AgentActor.meet.Goals as goal

pub returns-clause-manned : goal.returns-clause-manned
returns-clause-manned c = λ W work manned.
    let here : IsAgentActor W work (agent_actor_in c.self.inside) = subst (λ (m : PlainAgentActor). IsAgentActor W work m) (sym c.self.view_is) manned in
    met_manned W work c.args.number (agent_actor_in c.self.inside) c.args.caller.now.client c.meet.new.self.client c.meet.new.port c.meet.ensures.met here
