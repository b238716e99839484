use Rattle.std.proofs.Common.{◌≡◌, ℕ, ◌+◌, ◌<◌, Bool, true, false, List, [], ◌∷◌, length, drop, get_or, refl, sym, ap, ◌∙◌, arith}
use Rattle.hs_check_follow.proofs.Prelude.{◌&&◌, OnTrue_at, drop_more, StampedEvent, answers_last, answers_through}
use Rattle.hs_check_follow.specs.declared.happened.NotedEvent.TheVariants as happenings
use Rattle.hs_check_follow.proofs.answers.answer_in_order.Goals as goal

-- one event more
next : (before timed : List StampedEvent) (i : ℕ) (d : StampedEvent) (whole b : Bool) → i < length timed → answers_last before (get_or timed i d).event ≡ b → answers_through before (drop i timed) ≡ whole
    → (b && answers_through (get_or timed i d ∷ before) (drop (i + 1) timed)) ≡ whole
next before timed i d whole b less is e =
    sym (ap (λ t. t && answers_through (get_or timed i d ∷ before) (drop (i + 1) timed)) is) ∙ sym (ap (answers_through before) (drop_more timed i d less)) ∙ e

pub loop-event-preserved : goal.loop-event-preserved
loop-event-preserved c =
    let (before, at, rest) = c.loop-event.invariant in
    let events = c.args.events.now in
    let i = c.loop-event.event-index in
    let d : StampedEvent = record { stamp = 0; event = happenings.Got 0 } in
    let went = c.in_ok-note.ensures before at in
    (get_or events i d ∷ before, OnTrue_at c.if-not-branch.false went.1, next before events i d _ true c.loop-event-test.true (sym went.0 ∙ c.if-not-branch.false) rest)

pub returns-then-not-branch : goal.returns-then-not-branch
returns-then-not-branch c =
    let (before, at, rest) = c.loop-event.invariant in
    let events = c.args.events.now in
    let i = c.loop-event.event-index in
    let d : StampedEvent = record { stamp = 0; event = happenings.Got 0 } in
    let went = c.in_ok-note.ensures before at in
    next before events i d _ false c.loop-event-test.true (sym went.0 ∙ c.if-not-branch.true) rest
