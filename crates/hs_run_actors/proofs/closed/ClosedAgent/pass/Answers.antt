use Rattle.std.proofs.Common.{rules, sym, subst}
use Rattle.hs_run_actors.proofs.Prelude.{PlainClosedAgent, IsClosedAgent, ClosedAgentPasses, closed_agent_in}
use Rattle.hs_run_actors.specs.ClosedAgents.{Events, Buffers}
use Rattle.hs_run_actors.proofs.Resting.{buffered}
use Rattle.hs_run_actors.proofs.Shutting.{can_pass_shut, passed_shut}
use Rattle.hs_run_actors.proofs.closed.ClosedAgent.pass.Goals as goal

pub pass-requires : goal.pass-requires
pass-requires c =
    let (W, work, all, shut, few) = c.requires in
    let here : IsClosedAgent W work all (closed_agent_in c.self.inside) = subst (λ (s : PlainClosedAgent). IsClosedAgent W work all s) (sym c.self.view_is) shut in
    (search rules, (W, work, can_pass_shut W work all (closed_agent_in c.self.inside) here few))

pub returns : goal.returns
returns c = λ W work all shut few.
    let here : IsClosedAgent W work all (closed_agent_in c.self.inside) = subst (λ (s : PlainClosedAgent). IsClosedAgent W work all s) (sym c.self.view_is) shut in
    let made = c.in_ok-pass.ensures W work (can_pass_shut W work all (closed_agent_in c.self.inside) here few) in
    let ends = c.pass.new.ends in
    let new : PlainClosedAgent = record {
      agent = c.pass.new.self.agent;
      giver = ends.giver;
      chunks = buffered ends.chunks.items;
      crumbs = ends.crumbs.items;
      triggers = ends.triggers.items;
      asks = c.pass.new.self.asks.items;
      said = c.pass.new.self.said.items;
      clients = c.self.inside.clients;
    } in
    subst (λ (old : PlainClosedAgent). (p : Events) × (k : Buffers) × ClosedAgentPasses W work all p k old new) c.self.view_is (passed_shut W work all (closed_agent_in c.self.inside) new here made here.clients_are)
