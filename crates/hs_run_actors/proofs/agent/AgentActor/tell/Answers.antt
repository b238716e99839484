use Rattle.std.proofs.Common.{◌≡◌, List, [], sym, subst}
use Rattle.hs_run_actors.proofs.Prelude.{agent_actor_in, Told, Brings, PlainAgentActor, IsAgentActor, with_moved, working_agent_of, intakes_of}
use Rattle.hs_run_actors.proofs.Telling.{tellable, told_manned}
use Rattle.hs_run_actors.proofs.agent.AgentActor.tell.Goals as goal

pub returns-clause-manned : goal.returns-clause-manned
returns-clause-manned c = λ W work manned.
    let old = agent_actor_in c.self.inside in
    let here : IsAgentActor W work old = subst (λ (m : PlainAgentActor). IsAgentActor W work m) (sym c.self.view_is) manned in
    let may = tellable W work (intakes_of old.port) (working_agent_of old) here.stands c.crumbs_lead_below.ensures c.events_add_few.ensures c.steps_say_what_they_tell.ensures in
    let gone : [] ≡ c.hear.new.told.items = sym c.in_ok-hear.ensures.gone in (
      subst (λ (m : PlainAgentActor). IsAgentActor W (with_moved m.said work) (record old { said = c.hear.new.told.items })) c.self.view_is
          (subst (λ (l : List Told). IsAgentActor W (with_moved old.said work) (record old { said = l })) gone (told_manned W work old here)),
      subst (λ (m : PlainAgentActor). Brings W c.args.node.0 m.said c.args.coordinator.now c.hear.new.self) c.self.view_is (c.in_ok-hear.ensures.brings W may),
    )
