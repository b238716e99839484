use Rattle.std.proofs.Common.{sym, ap, subst, ◌∙◌, append-nil}
use Rattle.hs_records.specs.declared.journal.Step.TheVariants as steps
use Rattle.hs_law_agent.specs.Turning as model
use Rattle.hs_agent.proofs.Prelude.{Input, PlainAgent, with_state, Follows, StandsAt, point_of, state_of}
use Rattle.hs_agent.specs.declared.input.Input.TheVariants as inputs
use Rattle.hs_agent.specs.Runs.{after_turn}
use Rattle.hs_agent.proofs.Following.{follows-taken, nothing-came, places_now}
use Rattle.hs_agent.specs.Runs.{logged}
use Rattle.hs_agent.proofs.agent.Agent.note_turn.Goals as goal

pub turn-requires : goal.turn-requires
turn-requires g c =
    let run = c.requires.0 in
    let stands : StandsAt c.self.inside.holdings c.self.inside.scheduler (point_of run) = subst (λ (k : PlainAgent g.row.L.Denot). StandsAt k.kept k.schedule (point_of run)) (sym c.self.view_is) c.requires.1.stands in
    (point_of run, stands, places_now c.lists_go_on.ensures c.args.self.now run c.requires.1)

pub returns : goal.returns
returns g c = λ run follows.
    let stands : StandsAt c.self.inside.holdings c.self.inside.scheduler (point_of run) = subst (λ (k : PlainAgent g.row.L.Denot). StandsAt k.kept k.schedule (point_of run)) (sym c.self.view_is) follows.stands in
    let next : PlainAgent g.row.L.Denot = record { kept = c.turn.new.holdings; schedule = c.turn.new.scheduler; log = c.note.new.log.items; keeps = c.self.inside.keeps; spent = c.self.inside.spent } in
    let input : Input g.row.L.Denot g.L.Token = inputs.Turn in
    subst (λ buffers. Follows next (record (after_turn run) { buffers = buffers })) (append-nil run.buffers)
    (follows-taken c.args.self.now next run follows c.events_lead_on.ensures {g = g.L.Token} input
    (nothing-came c.turn.new.holdings c.turn.new.scheduler (with_state (model.turn run.settings (state_of run)) (point_of run))
    (c.in_ok-turn.ensures (point_of run) stands (places_now c.lists_go_on.ensures c.args.self.now run follows)))
    (c.note.ensures.items ∙ (λ i. logged ((c.self.view_is i).keeps) ((c.in_ok-room_for.ensures.items ∙ ap (λ (k : PlainAgent g.row.L.Denot). k.log) c.self.view_is) i) (steps.Turn)))
    (ap (λ (k : PlainAgent g.row.L.Denot). k.keeps) c.self.view_is)
    (ap (λ (k : PlainAgent g.row.L.Denot). k.spent) c.self.view_is))
