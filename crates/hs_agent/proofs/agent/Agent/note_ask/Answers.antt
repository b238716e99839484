use Rattle.std.proofs.Common.{[], ◌∷◌, ◌++◌, Some, append-nil, refl, sym, ap, subst, ◌∙◌}
use Rattle.hs_base.specs.declared.told.Why.TheVariants.{Answer}
use Rattle.hs_records.specs.declared.journal.Step.TheVariants as steps
use Rattle.hs_agent.proofs.Prelude.{Input, PlainAgent, Holds, Point, Follows, StandsAt, point_of, state_of, told_of, take_ask, with_state, claimed_for}
use Rattle.hs_agent.specs.declared.input.Input.TheVariants as inputs
use Rattle.hs_agent.specs.Tries.{after_ask}
use Rattle.hs_agent.proofs.Following.{follows-taken, nothing-came, stands-then}
use Rattle.hs_agent.proofs.Offered.{holds-rest}
use Rattle.hs_agent.proofs.Unchanged.{claim-shares}
use Rattle.hs_agent.specs.Runs.{logged}
use Rattle.hs_agent.proofs.agent.Agent.note_ask.Goals as goal

pub take_ask-requires : goal.take_ask-requires
take_ask-requires g c =
    let run = c.requires.0 in
    let h : Holds c.self.inside.holdings (point_of run) = subst (λ (k : PlainAgent g.row.L.Denot). Holds k.kept (point_of run)) (sym c.self.view_is) c.requires.1.stands.chunks in
    (point_of run, h, c.requires.2)

pub returns-clause-told : goal.returns-clause-told
returns-clause-told g c = λ run follows.
    let h : Holds c.self.inside.holdings (point_of run) = subst (λ (k : PlainAgent g.row.L.Denot). Holds k.kept (point_of run)) (sym c.self.view_is) follows.stands.chunks in
    ap Some (c.in_ok-told.ensures.told (point_of run) h)

pub returns-clause-after : goal.returns-clause-after
returns-clause-after g c = λ run follows.
    let ask = c.args.ask.now in
    let stands : StandsAt c.self.inside.holdings c.self.inside.scheduler (point_of run) = subst (λ (k : PlainAgent g.row.L.Denot). StandsAt k.kept k.schedule (point_of run)) (sym c.self.view_is) follows.stands in
    let after : PlainAgent g.row.L.Denot = record { kept = c.take_ask.new.self; schedule = c.self.inside.scheduler; log = c.note.new.log.items; keeps = c.self.inside.keeps; spent = c.self.inside.spent } in
    let input : Input g.row.L.Denot g.L.Token = inputs.Ask ask in
    let claimed : Point g.row.L.Denot = claimed_for ask (point_of run) in
    let said = claimed.state.said ++ told_of (state_of run).crumbs ask Answer ∷ [] in
    let next : Point g.row.L.Denot = with_state (take_ask run.settings ask (state_of run)) (point_of run) in
    subst (λ buffers. Follows after (record (after_ask run ask) { buffers = buffers })) (append-nil run.buffers)
    (follows-taken c.args.self.now after run follows c.events_lead_on.ensures {g = g.L.Token} input
    (nothing-came c.take_ask.new.self c.self.inside.scheduler next
    (stands-then c.self.inside.holdings c.take_ask.new.self c.self.inside.scheduler (point_of run) next stands refl (claim-shares run.settings ask (state_of run))
    (holds-rest c.take_ask.new.self claimed said claimed.state.given claimed.state.log claimed.state.shares (c.in_ok-told.ensures.after (point_of run) stands.chunks))))
    (c.note.ensures.items ∙ (λ i. logged ((c.self.view_is i).keeps) ((c.in_ok-room_for.ensures.items ∙ ap (λ (k : PlainAgent g.row.L.Denot). k.log) c.self.view_is) i) (steps.Ask)))
    (ap (λ (k : PlainAgent g.row.L.Denot). k.keeps) c.self.view_is)
    (ap (λ (k : PlainAgent g.row.L.Denot). k.spent) c.self.view_is))
