use Rattle.std.proofs.Common.{List, sym, subst, rules}
use Rattle.hs_run_actors.proofs.Prelude.{AgentEvent, Leased, Buffer, agent_actor_in, PlainAgentActor, IsAgentActor, Passes}
use Rattle.hs_run_actors.proofs.Passed.{can_pass, passed}
use Rattle.hs_run_actors.proofs.agent.AgentActor.pass.Goals as goal

pub pass-requires : goal.pass-requires
pass-requires g c =
    let (W, work, manned, few) = c.requires in
    let here : IsAgentActor W work (agent_actor_in c.self.inside) = subst (λ (m : PlainAgentActor). IsAgentActor W work m) (sym c.self.view_is) manned in
    (search rules, (W, work, can_pass W work (agent_actor_in c.self.inside) here few))

pub returns : goal.returns
returns g c = λ W work manned few.
    let here : IsAgentActor W work (agent_actor_in c.self.inside) = subst (λ (m : PlainAgentActor). IsAgentActor W work m) (sym c.self.view_is) manned in
    let made = c.in_ok-pass.ensures W work (can_pass W work (agent_actor_in c.self.inside) here few) in
    let new : PlainAgentActor = record { agent = c.pass.new.self.agent; port = c.pass.new.ends; asks = c.pass.new.self.asks.items; said = c.pass.new.self.said.items; clients = c.self.inside.clients } in
    subst (λ (old : PlainAgentActor). (p : List AgentEvent) × (k : List (Buffer Leased)) × Passes W work p k old new) c.self.view_is (passed W work (agent_actor_in c.self.inside) new here made here.clients_are)
