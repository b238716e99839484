use Rattle.std.proofs.Common.{◌≡◌, ◌+◌, ◌≤◌, add-one, List, [], ◌∷◌, length, get_or, take, drop, fold, sym, ap, subst, ◌∙◌, arith}
use Rattle.std.proofs.lemmas.Option.{slice_get-get_or}
use Rattle.hs_agent.proofs.Prelude.{TraceId, AgentState, claim_unclaimed, with_state}
use Rattle.hs_base.proofs.Parts.{take_whole}
use Rattle.hs_agent.specs.Asking.{IsClaiming}
use Rattle.hs_agent.proofs.ClaimedAll.{fold-more}
use Rattle.hs_agent.proofs.Needed.{none-left, next-left}
use Rattle.hs_agent.proofs.holdings.claiming.claim_all.Goals as goal

pub claim_one-requires-clause-known : goal.claim_one-requires-clause-known
claim_one-requires-clause-known g c = let known = c.requires.known in (c.args.ask.now.laterals, known.0, known.1, known.2, known.3)

pub loop-place-init : goal.loop-place-init
loop-place-init g c =
    let traces = c.requires.traces in
    let fewer = c.claim_one.ensures.traces in
    let more_notes = c.claim_one.ensures.notes in
    let room = c.claim_one.ensures.room in (
      (λ kept pins point k. c.claim_one.ensures.after c.args.ask.now.laterals kept pins point k),
      omega (arith, traces, fewer),
      (λ keeps. let notes = c.requires.notes (sym c.claim_one.ensures.keeps ∙ keeps) in omega (arith, notes, more_notes, room)),
      c.claim_one.ensures.ready,
      c.claim_one.ensures.keeps,
    )

pub unreachable-requires : goal.unreachable-requires
unreachable-requires g c =
    let laterals = c.args.ask.now.laterals in
    let len = c.len-place-end.ensures.value in
    let below = c.loop-place-test.true in
    let lead = c.args.ask.now.group.lead in
    c.in_default.not-Some (get_or laterals c.loop-place.place lead) (c.get.ensures ∙ slice_get-get_or laterals c.loop-place.place lead (omega (arith, len, below)))

pub claim_one-requires-in-loop-place-clause-known : goal.claim_one-requires-in-loop-place-clause-known
claim_one-requires-in-loop-place-clause-known g c =
    let ask = c.args.ask.now in
    let known = c.requires.known in
    let now = with_state (fold (claim_unclaimed ask) (claim_unclaimed ask known.2.state ask.group.lead) (take c.loop-place.place ask.laterals)) known.2 in
    let next : drop c.loop-place.place ask.laterals ≡ c.in-Some.trace ∷ drop (c.loop-place.place + 1) ask.laterals = next-left ask.laterals c.loop-place.place c.in-Some.trace (sym c.get.ensures ∙ c.in-Some.is) in (
      drop (c.loop-place.place + 1) ask.laterals,
      known.0,
      known.1,
      now,
      subst (λ left. IsClaiming ask left known.0 known.1 c.loop-place.index c.loop-place.notes.items c.loop-place.claiming now) next
          (c.loop-place.invariant.0 known.0 known.1 known.2 known.3),
    )

pub loop-place-preserved : goal.loop-place-preserved
loop-place-preserved g c =
    let ask = c.args.ask.now in
    let traces = c.loop-place.invariant.1 in
    let fewer = c.claim_one-in-loop-place.ensures.traces in
    let more_notes = c.claim_one-in-loop-place.ensures.notes in
    let room = c.claim_one-in-loop-place.ensures.room in (
      (λ kept pins point k.
          let begun : AgentState = claim_unclaimed ask point.state ask.group.lead in
          let now = with_state (fold (claim_unclaimed ask) begun (take c.loop-place.place ask.laterals)) point in
          let found = sym c.get.ensures ∙ c.in-Some.is in
          let next : drop c.loop-place.place ask.laterals ≡ c.in-Some.trace ∷ drop (c.loop-place.place + 1) ask.laterals = next-left ask.laterals c.loop-place.place c.in-Some.trace found in
          let more : fold (claim_unclaimed ask) begun (take (c.loop-place.place + 1) ask.laterals) ≡ claim_unclaimed ask (fold (claim_unclaimed ask) begun (take c.loop-place.place ask.laterals)) c.in-Some.trace =
          ap (λ n. fold (claim_unclaimed ask) begun (take n ask.laterals)) (add-one c.loop-place.place)
          ∙ fold-more (claim_unclaimed ask) begun ask.laterals c.loop-place.place c.in-Some.trace found in
          subst (λ s. IsClaiming ask (drop (c.loop-place.place + 1) ask.laterals) kept pins c.claim_one-in-loop-place.new.index c.claim_one-in-loop-place.new.notes.items c.claim_one-in-loop-place.new.claiming (with_state s point)) (sym more)
          (c.claim_one-in-loop-place.ensures.after (drop (c.loop-place.place + 1) ask.laterals) kept pins now
          (subst (λ left. IsClaiming ask left kept pins c.loop-place.index c.loop-place.notes.items c.loop-place.claiming now) next (c.loop-place.invariant.0 kept pins point k)))),
      omega (arith, traces, fewer),
      (λ keeps. let notes = c.loop-place.invariant.2 (sym c.claim_one-in-loop-place.ensures.keeps ∙ keeps) in omega (arith, notes, more_notes, room)),
      c.claim_one-in-loop-place.ensures.ready ∙ c.loop-place.invariant.3,
      c.claim_one-in-loop-place.ensures.keeps ∙ c.loop-place.invariant.4,
    )

pub returns-clause-after : goal.returns-clause-after
returns-clause-after g c = λ kept pins point k.
    let ask = c.args.ask.now in
    let begun : AgentState = claim_unclaimed ask point.state ask.group.lead in
    let all : length ask.laterals ≤ c.loop-place.place = (let e = c.len-place-end.ensures.value in let over = c.loop-place-test.false in omega (arith, e, over)) in
    subst (λ (l : List TraceId). IsClaiming ask [] kept pins c.loop-place.index c.loop-place.notes.items c.loop-place.claiming (with_state (fold (claim_unclaimed ask) begun l) point)) (take_whole ask.laterals c.loop-place.place all)
    (subst (λ (left : List TraceId). IsClaiming ask left kept pins c.loop-place.index c.loop-place.notes.items c.loop-place.claiming (with_state (fold (claim_unclaimed ask) begun (take c.loop-place.place ask.laterals)) point))
    (none-left ask.laterals c.loop-place.place all) (c.loop-place.invariant.0 kept pins point k))
