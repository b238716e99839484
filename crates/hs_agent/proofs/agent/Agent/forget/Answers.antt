use Rattle.std.proofs.Common.{IsSome, sym, ap, subst, ◌∙◌}
use Rattle.hs_agent.proofs.Prelude.{PlainAgent, Holds, StandsAt, point_of}
use Rattle.hs_agent.proofs.Following.{places_now}
use Rattle.hs_agent.proofs.agent.Agent.forget.Goals as goal

pub invariant_of-self : goal.invariant_of-self
invariant_of-self g c = λ out. c.self.invariant (subst IsSome c.forget.ensures.offered out)

pub returns-clause-settled : goal.returns-clause-settled
returns-clause-settled g c = λ run follows.
    let h : Holds c.self.inside.holdings (point_of run) = subst (λ (k : PlainAgent g.row.L.Denot). Holds k.kept (point_of run)) (sym c.self.view_is) follows.stands.chunks in
    c.forget.ensures.settled (point_of run) h

pub returns-clause-after : goal.returns-clause-after
returns-clause-after g c = λ run follows did.
    let stands : StandsAt c.self.inside.holdings c.self.inside.scheduler (point_of run) = subst (λ (k : PlainAgent g.row.L.Denot). StandsAt k.kept k.schedule (point_of run)) (sym c.self.view_is) follows.stands in
    record {
      working = ap (λ (k : PlainAgent g.row.L.Denot). k.spent) c.self.view_is ∙ follows.working;
      stands = record { chunks = c.forget.ensures.after (point_of run) stands.chunks did; shares = stands.shares; is_schedule = stands.is_schedule; nodes = stands.nodes };
      keeps = ap (λ (k : PlainAgent g.row.L.Denot). k.keeps) c.self.view_is ∙ follows.keeps;
      log = ap (λ (k : PlainAgent g.row.L.Denot). k.log) c.self.view_is ∙ follows.log;
      good = places_now c.lists_go_on.ensures c.args.self.now run follows;
    }
