use Rattle.std.proofs.Common.{◌≡◌, ◌≤◌, All, List, sym, ap, subst, ◌∙◌}
use Rattle.hs_agent.proofs.Prelude.{on_ok_weaker, Share, SendsEach, Schedule, IsSchedule, after_turn, Kept, Holds, with_state, SendsNext, costs_of}
use Rattle.hs_sched.specs.Turns.{sent_ids}
use Rattle.hs_law_agent.specs.Turning as model
use Rattle.hs_agent.proofs.Turned.{visited-once, costs-within, pins-distinct, shares-turned, sent-paged, holds-turned}
use Rattle.hs_agent.proofs.agent.turn.Goals as goal

pub turn-requires : goal.turn-requires
turn-requires g c =
    let point = c.requires.0 in
    let stands = c.requires.1 in
    let apart = pins-distinct c.args.holdings.now point stands.chunks c.requires.2 in
    let size : c.args.scheduler.now.size ≡ point.settings.size = ap (λ (s : Schedule). s.size) stands.shares in
    λ id below. subst (λ n. All (λ cost. cost ≤ n) (costs_of c.args.holdings.now id)) (sym size) (costs-within c.args.holdings.now point stands.chunks apart id)

pub report-requires : goal.report-requires
report-requires g c =
    let point = c.requires.0 in
    let stands = c.requires.1 in
    let apart = pins-distinct c.args.holdings.now point stands.chunks c.requires.2 in
    let rising = subst (λ (s : Schedule). IsSchedule s) stands.shares stands.is_schedule in
    sent-paged c.args.holdings.now point stands.chunks apart (visited-once c.args.holdings.now point stands.chunks point.state.shares rising.rising) c.turn.new.queues
    (subst (λ (s : Schedule). SendsEach SendsNext c.args.holdings.now (sent_ids s (costs_of c.args.holdings.now)) c.turn.new.queues) stands.shares c.turn.ensures.order)

pub returns : goal.returns
returns g c = λ point stands match.
    let apart = pins-distinct c.args.holdings.now point stands.chunks match in
    let rising = subst (λ (s : Schedule). IsSchedule s) stands.shares stands.is_schedule in
    let sends = subst (λ (s : Schedule). SendsEach SendsNext c.args.holdings.now (sent_ids s (costs_of c.args.holdings.now)) c.turn.new.queues) stands.shares c.turn.ensures.order in
    let held = holds-turned c.args.holdings.now point stands.chunks apart (visited-once c.args.holdings.now point stands.chunks point.state.shares rising.rising) c.turn.new.queues sends in
    on_ok_weaker c.report.result
    (λ now. record {
      chunks = subst (λ (k : Kept g.row.L.Denot). Holds k (with_state (model.turn point.settings point.state) point)) (sym now) held;
      shares =
          c.turn.ensures.deficits
          ∙ ap (λ (s : Schedule). after_turn s (costs_of c.args.holdings.now)) stands.shares
          ∙ ap (λ (shares : List Share). let s : Schedule = record { shares = shares; size = point.settings.size } in s) (shares-turned c.args.holdings.now point stands.chunks apart);
      is_schedule = c.turn.ensures.schedule;
      nodes = stands.nodes;
    })
    c.report.ensures
