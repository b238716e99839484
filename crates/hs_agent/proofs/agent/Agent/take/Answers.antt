use Rattle.std.proofs.Common.{sym, ap, subst, ◌∙◌}
use Rattle.hs_agent.proofs.Prelude.{PlainAgent, Holds, StandsAt, point_of}
use Rattle.hs_agent.proofs.Following.{follows-taken, places_now}
use Rattle.hs_agent.specs.Runs.{logged}
use Rattle.hs_agent.proofs.agent.Agent.take.Goals as goal

pub take_input-requires : goal.take_input-requires
take_input-requires g c =
    let run = c.requires.0 in
    let stands : StandsAt c.self.inside.holdings c.self.inside.scheduler (point_of run) = subst (λ (k : PlainAgent g.row.L.Denot). StandsAt k.kept k.schedule (point_of run)) (sym c.self.view_is) c.requires.1.stands in
    (point_of run, stands, c.requires.2, places_now c.lists_go_on.ensures c.args.self.now run c.requires.1)

pub returns-clause-told : goal.returns-clause-told
returns-clause-told g c = λ run follows.
    let h : Holds c.self.inside.holdings (point_of run) = subst (λ (k : PlainAgent g.row.L.Denot). Holds k.kept (point_of run)) (sym c.self.view_is) follows.stands.chunks in
    c.in_ok-told.ensures.told (point_of run) h

pub returns-clause-after : goal.returns-clause-after
returns-clause-after g c = λ run follows.
    let stands : StandsAt c.self.inside.holdings c.self.inside.scheduler (point_of run) = subst (λ (k : PlainAgent g.row.L.Denot). StandsAt k.kept k.schedule (point_of run)) (sym c.self.view_is) follows.stands in
    let next : PlainAgent g.row.L.Denot = record { kept = c.take_input.new.holdings; schedule = c.take_input.new.scheduler; log = c.note.new.log.items; keeps = c.self.inside.keeps; spent = c.self.inside.spent } in
    follows-taken c.args.self.now next run follows c.events_lead_on.ensures {g = g.L.Token} c.args.input
    (c.in_ok-told.ensures.after (point_of run) stands (places_now c.lists_go_on.ensures c.args.self.now run follows))
    (c.note.ensures.items ∙ (λ i. logged ((c.self.view_is i).keeps) ((c.in_ok-room_for.ensures.items ∙ ap (λ (k : PlainAgent g.row.L.Denot). k.log) c.self.view_is) i) (c.step_of-step.ensures i)))
    (ap (λ (k : PlainAgent g.row.L.Denot). k.keeps) c.self.view_is)
    (ap (λ (k : PlainAgent g.row.L.Denot). k.spent) c.self.view_is)
