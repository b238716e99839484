use Rattle.std.proofs.Common.{◌≡◌, List, [], sym, subst}
use Rattle.hs_run_actors.proofs.Prelude.{closed_agent_in, Told, Brings, PlainClosedAgent, IsClosedAgent, with_moved}
use Rattle.hs_run_actors.specs.ClosedAgents.{closed_working_agent, closed_intakes}
use Rattle.hs_run_actors.proofs.Telling.{tellable}
use Rattle.hs_run_actors.proofs.Shutting.{told_shut}
use Rattle.hs_run_actors.proofs.closed.ClosedAgent.tell.Goals as goal

pub returns-clause-shut : goal.returns-clause-shut
returns-clause-shut c = λ W work all shut.
    let old = closed_agent_in c.self.inside in
    let here : IsClosedAgent W work all old = subst (λ (s : PlainClosedAgent). IsClosedAgent W work all s) (sym c.self.view_is) shut in
    let may = tellable W work (closed_intakes old) (closed_working_agent old) here.stands c.crumbs_lead_below.ensures c.events_add_few.ensures c.steps_say_what_they_tell.ensures in
    let gone : [] ≡ c.hear.new.told.items = sym c.in_ok-hear.ensures.gone in (
      subst (λ (s : PlainClosedAgent). IsClosedAgent W (with_moved s.said work) all (record old { said = c.hear.new.told.items })) c.self.view_is
          (subst (λ (l : List Told). IsClosedAgent W (with_moved old.said work) all (record old { said = l })) gone (told_shut W work all old here)),
      subst (λ (s : PlainClosedAgent). Brings W c.args.node.0 s.said c.args.coordinator.now c.hear.new.self) c.self.view_is (c.in_ok-hear.ensures.brings W may),
    )
