use Rattle.std.proofs.Common.{sym, subst}
use Rattle.hs_run_actors.proofs.Prelude.{PlainClosedAgent, IsClosedAgent, closed_agent_in}
use Rattle.hs_run_actors.proofs.Shutting.{last_run, rest_pooled}
use Rattle.hs_run_actors.proofs.closed.ClosedAgent.finish.Goals as goal

pub close-tally-requires-clause-rest : goal.close-tally-requires-clause-rest
close-tally-requires-clause-rest c =
    let (W, work, all, shut, none) = c.requires.done in
    let here : IsClosedAgent W work all (closed_agent_in c.self.inside) = subst (λ (s : PlainClosedAgent). IsClosedAgent W work all s) (sym c.self.view_is) shut in
    rest_pooled W work all (closed_agent_in c.self.inside) here c.in_ok-finished.finished.rest.items (c.in_ok-finished.ensures.rest (last_run W work all (closed_agent_in c.self.inside) here) here.stands.works.is.follows)

pub returns-clause-book : goal.returns-clause-book
returns-clause-book c = λ W work all shut.
    let here : IsClosedAgent W work all (closed_agent_in c.self.inside) = subst (λ (s : PlainClosedAgent). IsClosedAgent W work all s) (sym c.self.view_is) shut in
    c.in_ok-finished.ensures.book (last_run W work all (closed_agent_in c.self.inside) here) here.stands.works.is.follows
