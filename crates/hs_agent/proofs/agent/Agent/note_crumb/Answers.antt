use Rattle.std.proofs.Common.{append-nil, refl, sym, ap, subst, ◌∙◌, arith}
use Rattle.hs_records.specs.declared.journal.Step.TheVariants as steps
use Rattle.hs_agent.proofs.Prelude.{Input, PlainAgent, Holds, crumb_taken, Follows, StandsAt, point_of, state_of}
use Rattle.hs_agent.specs.declared.input.Input.TheVariants as inputs
use Rattle.hs_agent.specs.Tries.{after_crumb}
use Rattle.hs_agent.proofs.Following.{follows-taken, nothing-came, stands-then}
use Rattle.hs_agent.proofs.Unchanged.{crumb-shares}
use Rattle.hs_agent.specs.Runs.{logged}
use Rattle.hs_agent.proofs.agent.Agent.note_crumb.Goals as goal

pub take_crumb-requires-clause-node : goal.take_crumb-requires-clause-node
take_crumb-requires-clause-node g c = let few = c.requires.2 in let nodes = c.requires.1.stands.nodes in omega (arith, few, nodes)

pub returns-clause-told : goal.returns-clause-told
returns-clause-told g c = λ run follows.
    let h : Holds c.self.inside.holdings (point_of run) = subst (λ (k : PlainAgent g.row.L.Denot). Holds k.kept (point_of run)) (sym c.self.view_is) follows.stands.chunks in
    c.in_ok-told.ensures.told (point_of run) h

pub returns-clause-after : goal.returns-clause-after
returns-clause-after g c = λ run follows.
    let stands : StandsAt c.self.inside.holdings c.self.inside.scheduler (point_of run) = subst (λ (k : PlainAgent g.row.L.Denot). StandsAt k.kept k.schedule (point_of run)) (sym c.self.view_is) follows.stands in
    let next : PlainAgent g.row.L.Denot = record { kept = c.take_crumb.new.self; schedule = c.self.inside.scheduler; log = c.note.new.log.items; keeps = c.self.inside.keeps; spent = c.self.inside.spent } in
    let input : Input g.row.L.Denot g.L.Token = inputs.Crumb c.args.client c.args.crumb in
    subst (λ buffers. Follows next (record (after_crumb run c.args.client c.args.crumb) { buffers = buffers })) (append-nil run.buffers)
    (follows-taken c.args.self.now next run follows c.events_lead_on.ensures {g = g.L.Token} input
    (nothing-came c.take_crumb.new.self c.self.inside.scheduler (crumb_taken c.args.crumb (point_of run))
    (stands-then c.self.inside.holdings c.take_crumb.new.self c.self.inside.scheduler (point_of run) (crumb_taken c.args.crumb (point_of run)) stands refl (crumb-shares run.settings c.args.crumb (state_of run))
    (c.in_ok-told.ensures.after (point_of run) stands.chunks)))
    (c.note.ensures.items ∙ (λ i. logged ((c.self.view_is i).keeps) ((c.in_ok-room_for.ensures.items ∙ ap (λ (k : PlainAgent g.row.L.Denot). k.log) c.self.view_is) i) (steps.Crumb c.args.client)))
    (ap (λ (k : PlainAgent g.row.L.Denot). k.keeps) c.self.view_is)
    (ap (λ (k : PlainAgent g.row.L.Denot). k.spent) c.self.view_is))
