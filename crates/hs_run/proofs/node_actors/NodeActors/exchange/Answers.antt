use Rattle.std.proofs.Common.{◌≡◌, ℕ, refl, ap, sym, subst, ◌∙◌, length, List, slice_get}
use Rattle.hs_run.proofs.Prelude.{AreMates, asks_for, Brings, IsAgentActor, NodeActorsStand, NodeWork, PlainAgentActor, PlainClientActor, PlainNodeActors, PlainWorkload, Told, with_asks, with_moved}
use Rattle.hs_run.proofs.node_actors.NodeActors.exchange.Goals as goal

-- a node whose clients and port are the same, with other work of its agent
site_with : (W : PlainWorkload) (n : ℕ) (work work' : NodeWork) (old new : PlainNodeActors) → NodeActorsStand W n work old → new.callers ≡ old.callers → new.agent.port ≡ old.agent.port → work'.node ≡ work.node
    → IsAgentActor W work' new.agent → NodeActorsStand W n work' new
site_with W n work work' old new h callers port node manned =
    record {
      node_is = node ∙ h.node_is;
      count = ap length callers ∙ h.count;
      callers = λ number caller at. h.callers number caller (sym (ap (λ (l : List PlainClientActor). slice_get l number) callers) ∙ at);
      mates = λ number caller at. subst (λ p. AreMates number p caller.client) (sym port) (h.mates number caller (sym (ap (λ (l : List PlainClientActor). slice_get l number) callers) ∙ at));
      agent = manned;
    }

pub returns : goal.returns
returns c =
    let n = c.args.number in
    let old = c.self.inside.agent in
    let more = asks_for n c.args.coordinator.now.asks in
    let asked = c.in_ok-ask.ensures.only in
    let told = c.in_ok-tell.ensures.only in
    let callers = ap (λ (s : PlainNodeActors). s.callers) c.self.view_is in
    let port = ap (λ (a : PlainAgentActor). a.port) told ∙ ap (λ (a : PlainAgentActor). a.port) asked ∙ ap (λ (s : PlainNodeActors). s.agent.port) c.self.view_is in
    let said = ap (λ (a : PlainAgentActor). a.said) asked ∙ ap (λ (s : PlainNodeActors). s.agent.said) c.self.view_is in
    record {
      moves =
          record {
            callers = callers;
            port = port;
            agent = ap (λ (a : PlainAgentActor). a.agent) told ∙ ap (λ (a : PlainAgentActor). a.agent) asked ∙ ap (λ (s : PlainNodeActors). s.agent.agent) c.self.view_is;
            said = ap (λ (a : PlainAgentActor). a.said) told;
          };
      only = c.in_ok-tell.ensures.coordinator;
      by = λ W work stands askable.
          let here : IsAgentActor W work old = subst (λ (s : PlainNodeActors). IsAgentActor W work s.agent) (sym c.self.view_is) stands.agent in
          let both = c.in_ok-tell.ensures.manned W (with_asks more work) (c.in_ok-ask.ensures.manned W work here askable) in
          let same = subst (λ (l : List Told). IsAgentActor W (with_moved l (with_asks more work)) c.tell.new.self × Brings W n l c.args.coordinator.now c.tell.new.coordinator) said both in
          (site_with W n work (with_moved c.args.self.now.agent.said (with_asks more work)) c.args.self.now (record { callers = c.self.inside.callers.items; agent = c.tell.new.self }) stands callers port refl same.0, same.1);
    }
