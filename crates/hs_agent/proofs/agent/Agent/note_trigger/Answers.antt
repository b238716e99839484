use Rattle.std.proofs.Common.{append-nil, refl, sym, ap, subst, ◌∙◌}
use Rattle.hs_records.specs.declared.journal.Step.TheVariants as steps
use Rattle.hs_agent.proofs.Prelude.{Input, PlainAgent, Holds, Follows, StandsAt, point_of, state_of}
use Rattle.hs_agent.specs.declared.input.Input.TheVariants as inputs
use Rattle.hs_agent.specs.Points.{trigger_taken}
use Rattle.hs_agent.specs.Tries.{after_trigger}
use Rattle.hs_agent.proofs.Following.{follows-taken, nothing-came, stands-then}
use Rattle.hs_agent.proofs.Unchanged.{trigger-shares}
use Rattle.hs_agent.specs.Runs.{logged}
use Rattle.hs_agent.proofs.agent.Agent.note_trigger.Goals as goal

pub take_trigger-requires : goal.take_trigger-requires
take_trigger-requires g c =
    let run = c.requires.0 in
    let h : Holds c.self.inside.holdings (point_of run) = subst (λ (k : PlainAgent g.row.L.Denot). Holds k.kept (point_of run)) (sym c.self.view_is) c.requires.1.stands.chunks in
    (point_of run, h, c.requires.2)

pub returns-clause-told : goal.returns-clause-told
returns-clause-told g c = λ run follows.
    let h : Holds c.self.inside.holdings (point_of run) = subst (λ (k : PlainAgent g.row.L.Denot). Holds k.kept (point_of run)) (sym c.self.view_is) follows.stands.chunks in
    c.in_ok-told.ensures.told (point_of run) h

pub returns-clause-after : goal.returns-clause-after
returns-clause-after g c = λ run follows.
    let trigger = c.args.trigger.now in
    let stands : StandsAt c.self.inside.holdings c.self.inside.scheduler (point_of run) = subst (λ (k : PlainAgent g.row.L.Denot). StandsAt k.kept k.schedule (point_of run)) (sym c.self.view_is) follows.stands in
    let next : PlainAgent g.row.L.Denot = record { kept = c.take_trigger.new.self; schedule = c.self.inside.scheduler; log = c.note.new.log.items; keeps = c.self.inside.keeps; spent = c.self.inside.spent } in
    let input : Input g.row.L.Denot g.L.Token = inputs.Trigger c.args.client trigger in
    subst (λ buffers. Follows next (record (after_trigger run c.args.client trigger) { buffers = buffers })) (append-nil run.buffers)
    (follows-taken c.args.self.now next run follows c.events_lead_on.ensures {g = g.L.Token} input
    (nothing-came c.take_trigger.new.self c.self.inside.scheduler (trigger_taken trigger (point_of run))
    (stands-then c.self.inside.holdings c.take_trigger.new.self c.self.inside.scheduler (point_of run) (trigger_taken trigger (point_of run)) stands refl (trigger-shares run.settings run.node trigger (state_of run))
    (c.in_ok-told.ensures.after (point_of run) stands.chunks)))
    (c.note.ensures.items ∙ (λ i. logged ((c.self.view_is i).keeps) ((c.in_ok-room_for.ensures.items ∙ ap (λ (k : PlainAgent g.row.L.Denot). k.log) c.self.view_is) i) (steps.Trigger c.args.client)))
    (ap (λ (k : PlainAgent g.row.L.Denot). k.keeps) c.self.view_is)
    (ap (λ (k : PlainAgent g.row.L.Denot). k.spent) c.self.view_is))
