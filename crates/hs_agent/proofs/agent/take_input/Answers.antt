use Rattle.std.proofs.Common.{◌≡◌, [], ◌∷◌, ◌++◌, refl, sym, ap, subst, ◌∙◌}
use Rattle.hs_agent.proofs.Prelude.{OnOk, on_ok_weaker, buffer_of, Schedule, told_of, take_ask, Holds, Point, with_state, StandsAt, IsTakable, taken_in, sheet_in, chunk_taken, crumb_taken, claimed_for}
use Rattle.hs_base.specs.declared.told.Why.TheVariants.{Answer}
use Rattle.hs_agent.specs.declared.input.Input.TheVariants as inputs
use Rattle.hs_agent.specs.Points.{trigger_taken}
use Rattle.hs_agent.proofs.Offered.{holds-rest}
use Rattle.hs_agent.proofs.Unchanged.{chunk-shares, crumb-shares, trigger-shares, claim-shares}
use Rattle.hs_agent.proofs.Following.{stands-then, nothing-came}
use Rattle.hs_agent.proofs.agent.take_input.Goals as goal

pub returns-in_ok-take_chunk-in-Chunk-clause-after : goal.returns-in_ok-take_chunk-in-Chunk-clause-after
returns-in_ok-take_chunk-in-Chunk-clause-after g c = λ point stands places.
    let buffer = buffer_of {L = g.row.L.Denot} {g = g.L.Token} c.in-Chunk.held in
    let known : IsTakable {L = g.row.L.Denot} {g = g.L.Token} c.requires.0 (inputs.Chunk c.in-Chunk.client c.in-Chunk.held) = subst (λ input. IsTakable {L = g.row.L.Denot} {g = g.L.Token} c.requires.0 input) c.in-Chunk.is c.requires.2 in
    let size : c.in-Chunk.held.chunk.size ≡ point.settings.size = known.size ∙ ap (λ (s : Schedule). s.size) (sym c.requires.1.shares ∙ stands.shares) in
    subst (λ input. StandsAt c.take_chunk.new.self c.args.scheduler.now (taken_in {L = g.row.L.Denot} {g = g.L.Token} input point)) (sym c.in-Chunk.is)
    (stands-then c.args.holdings.now c.take_chunk.new.self c.args.scheduler.now point (chunk_taken buffer point) stands refl (chunk-shares point.settings (sheet_in buffer) point.state)
    (c.in_ok-take_chunk-in-Chunk.ensures point stands.chunks size))

pub returns-in-Crumb-clause-after : goal.returns-in-Crumb-clause-after
returns-in-Crumb-clause-after g c = λ point stands places.
    subst (λ input. OnOk c.take_crumb.result (StandsAt c.take_crumb.new.self c.args.scheduler.now (taken_in {L = g.row.L.Denot} {g = g.L.Token} input point))) (sym c.in-Crumb.is)
    (on_ok_weaker c.take_crumb.result
    (λ (holds : Holds c.take_crumb.new.self (crumb_taken c.in-Crumb.crumb point)).
    nothing-came c.take_crumb.new.self c.args.scheduler.now (crumb_taken c.in-Crumb.crumb point)
    (stands-then c.args.holdings.now c.take_crumb.new.self c.args.scheduler.now point (crumb_taken c.in-Crumb.crumb point) stands refl (crumb-shares point.settings c.in-Crumb.crumb point.state) holds))
    (c.take_crumb.ensures.after point stands.chunks))

pub returns-in-Trigger-clause-after : goal.returns-in-Trigger-clause-after
returns-in-Trigger-clause-after g c = λ point stands places.
    subst (λ input. OnOk c.take_trigger.result (StandsAt c.take_trigger.new.self c.args.scheduler.now (taken_in {L = g.row.L.Denot} {g = g.L.Token} input point))) (sym c.in-Trigger.is)
    (on_ok_weaker c.take_trigger.result
    (λ (holds : Holds c.take_trigger.new.self (trigger_taken c.in-Trigger.trigger point)).
    nothing-came c.take_trigger.new.self c.args.scheduler.now (trigger_taken c.in-Trigger.trigger point)
    (stands-then c.args.holdings.now c.take_trigger.new.self c.args.scheduler.now point (trigger_taken c.in-Trigger.trigger point) stands refl (trigger-shares point.settings point.node c.in-Trigger.trigger point.state) holds))
    (c.take_trigger.ensures.after point stands.chunks))

pub returns-in_ok-take_ask-in-Ask-clause-after : goal.returns-in_ok-take_ask-in-Ask-clause-after
returns-in_ok-take_ask-in-Ask-clause-after g c = λ point stands places.
    let claimed : Point g.row.L.Denot = claimed_for c.in-Ask.ask point in
    let said = claimed.state.said ++ told_of point.state.crumbs c.in-Ask.ask Answer ∷ [] in
    let h : Holds c.take_ask.new.self claimed = c.in_ok-take_ask-in-Ask.ensures.after point stands.chunks in
    let next : Point g.row.L.Denot = with_state (take_ask point.settings c.in-Ask.ask point.state) point in
    subst (λ input. StandsAt c.take_ask.new.self c.args.scheduler.now (taken_in {L = g.row.L.Denot} {g = g.L.Token} input point)) (sym c.in-Ask.is)
    (nothing-came c.take_ask.new.self c.args.scheduler.now next
    (stands-then c.args.holdings.now c.take_ask.new.self c.args.scheduler.now point next stands refl (claim-shares point.settings c.in-Ask.ask point.state)
    (holds-rest c.take_ask.new.self claimed said claimed.state.given claimed.state.log claimed.state.shares h)))
