use Rattle.std.proofs.Common.{◌≡◌, refl, sym, ap, subst, ◌∙◌}
use Rattle.hs_records.specs.declared.journal.Step.TheVariants as steps
use Rattle.hs_agent.proofs.Prelude.{Schedule, buffer_of, Input, PlainAgent, sheet_in, chunk_taken, StandsAt, point_of, state_of}
use Rattle.hs_agent.specs.declared.input.Input.TheVariants as inputs
use Rattle.hs_agent.proofs.Following.{follows-taken, stands-then}
use Rattle.hs_agent.proofs.Unchanged.{chunk-shares}
use Rattle.hs_agent.specs.Runs.{logged}
use Rattle.hs_agent.proofs.agent.Agent.note_chunk.Goals as goal

pub returns-clause-after : goal.returns-clause-after
returns-clause-after g c = λ run follows.
    let stands : StandsAt c.self.inside.holdings c.self.inside.scheduler (point_of run) = subst (λ (k : PlainAgent g.row.L.Denot). StandsAt k.kept k.schedule (point_of run)) (sym c.self.view_is) follows.stands in
    let next : PlainAgent g.row.L.Denot = record { kept = c.try_chunk.new.self; schedule = c.self.inside.scheduler; log = c.note.new.log.items; keeps = c.self.inside.keeps; spent = c.self.inside.spent } in
    let buffer = buffer_of {L = g.row.L.Denot} {g = g.L.Token} c.args.held in
    let input : Input g.row.L.Denot g.L.Token = inputs.Chunk c.args.client c.args.held in
    let size : c.args.held.chunk.size ≡ run.settings.size = c.requires.2.size ∙ ap (λ (s : Schedule). s.size) (sym c.requires.1.stands.shares ∙ follows.stands.shares) in
    follows-taken c.args.self.now next run follows c.events_lead_on.ensures {g = g.L.Token} input
    (stands-then c.self.inside.holdings c.try_chunk.new.self c.self.inside.scheduler (point_of run) (chunk_taken buffer (point_of run)) stands refl (chunk-shares run.settings (sheet_in buffer) (state_of run))
    (c.in_ok-try_chunk.ensures.ok (point_of run) stands.chunks size))
    (c.note.ensures.items ∙ (λ i. logged ((c.self.view_is i).keeps) ((c.room_for.ensures.items ∙ ap (λ (k : PlainAgent g.row.L.Denot). k.log) c.self.view_is) i) (steps.Chunk c.args.client)))
    (ap (λ (k : PlainAgent g.row.L.Denot). k.keeps) c.self.view_is)
    (ap (λ (k : PlainAgent g.row.L.Denot). k.spent) c.self.view_is)
