use Rattle.std.proofs.Common.{◌≡◌, ◌+◌, ◌-◌, true, false, sym, ap, arith, ◌∙◌}
use Rattle.hs_whole.specs.declared.answers.TheConstants.{MOST_LOOKS}
use Rattle.hs_whole.specs.Notes.{has_place, turned, looked}
use Rattle.hs_whole.proofs.Searching.{look_done, look_on, look_none}
use Rattle.hs_whole.proofs.notes.SegmentNotes.look.Goals as goal

pub loop-preserved : goal.loop-preserved
loop-preserved c =
    let none : has_place c.loop.self ≡ false = sym c.has_place.ensures ∙ c.if-has_place.false in
    ap (looked (MOST_LOOKS - (c.loop.counter + 1))) c.turn.ensures
    ∙ ap (λ n. looked n (turned c.loop.self)) (omega arith)
    ∙ sym (look_on (MOST_LOOKS - c.loop.counter) c.loop.self none (omega arith))
    ∙ c.loop.invariant

pub returns-then-has_place : goal.returns-then-has_place
returns-then-has_place c =
    let some : has_place c.loop.self ≡ true = sym c.has_place.ensures ∙ c.if-has_place.true in
    sym (look_done (MOST_LOOKS - c.loop.counter) c.loop.self some) ∙ c.loop.invariant

pub returns-after-loop : goal.returns-after-loop
returns-after-loop c = sym (look_none c.loop.self) ∙ ap (λ n. looked n c.loop.self) (omega arith) ∙ c.loop.invariant
