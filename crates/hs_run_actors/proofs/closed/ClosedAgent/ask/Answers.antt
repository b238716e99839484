use Rattle.std.proofs.Common.{List, sym, subst}
use Rattle.hs_run_actors.proofs.Prelude.{closed_agent_in, Ask, asks_for, PlainClosedAgent, IsClosedAgent, with_asks}
use Rattle.hs_run_actors.proofs.Telling.{these_askable}
use Rattle.hs_run_actors.proofs.Shutting.{asked_shut}
use Rattle.hs_run_actors.proofs.closed.ClosedAgent.ask.Goals as goal

pub returns-clause-shut : goal.returns-clause-shut
returns-clause-shut c = λ W work all shut askable.
    let old = closed_agent_in c.self.inside in
    let asks = c.args.coordinator.now.asks in
    let more = asks_for c.args.node.0 asks in
    let here : IsClosedAgent W work all old = subst (λ (s : PlainClosedAgent). IsClosedAgent W work all s) (sym c.self.view_is) shut in
    subst (λ (l : List Ask). IsClosedAgent W (with_asks more work) all (record old { asks = l })) (sym c.in_ok-ask.ensures) (asked_shut W work all old here more (these_askable W c.args.node.0 asks askable))
