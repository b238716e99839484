use Rattle.std.proofs.Common.{IsSome, sym, ap, subst, ◌∙◌}
use Rattle.hs_agent.proofs.Prelude.{PlainAgent, answered, point_of}
use Rattle.hs_agent.proofs.Following.{offered-some, follows-answered, one_place}
use Rattle.hs_agent.specs.Runs.{logged}
use Rattle.hs_agent.proofs.agent.Agent.gave.Goals as goal

pub answer-requires : goal.answer-requires
answer-requires g c =
    let known = c.requires (sym (ap (λ (k : PlainAgent g.row.L.Denot). k.spent) c.self.view_is) ∙ c.if-self.false) in
    subst (λ (k : PlainAgent g.row.L.Denot). IsSome k.kept.offered) (sym c.self.view_is) (offered-some c.args.self.now.kept (point_of known.0) known.1.stands.chunks known.2)

pub returns-clause-after : goal.returns-clause-after
returns-clause-after g c = λ run follows.
    let known = c.requires follows.working in
    let some : IsSome run.offered = subst IsSome (sym known.1.stands.chunks.offered ∙ follows.stands.chunks.offered) known.2 in
    let next : PlainAgent g.row.L.Denot = record { kept = c.answer.new.self; schedule = c.self.inside.scheduler; log = c.note.new.log.items; keeps = c.self.inside.keeps; spent = c.self.inside.spent } in
    follows-answered c.args.self.now next run follows c.events_lead_on.ensures (one_place c.lists_go_on.ensures c.args.self.now run follows) some {g = g.L.Token} c.args.given
    (c.answer.ensures ∙ (λ i. answered (c.answer_in-step.ensures.back i) (c.self.view_is i).kept))
    (ap (λ (k : PlainAgent g.row.L.Denot). k.schedule) c.self.view_is)
    (c.note.ensures.items ∙ (λ i. logged (c.self.view_is i).keeps (c.self.view_is i).log (c.answer_in-step.ensures.step i)))
    (ap (λ (k : PlainAgent g.row.L.Denot). k.keeps) c.self.view_is)
    (ap (λ (k : PlainAgent g.row.L.Denot). k.spent) c.self.view_is)
