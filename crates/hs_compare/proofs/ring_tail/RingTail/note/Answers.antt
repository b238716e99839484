use Rattle.std.proofs.Common.{◌≡◌, ℕ, ◌+◌, ◌-◌, ◌++◌, List, [], ◌∷◌, false, drop, sym, ap, ap₂, ◌∙◌}
use Rattle.hs_compare.proofs.Prelude.{TracedRecord, alive, comes}
use Rattle.hs_compare.specs.Ringing.{is_among}
use Rattle.hs_compare.specs.RingTails.{ringing_of}
use Rattle.hs_compare.proofs.Tails.{ringing, comes_unnamed}
use Rattle.hs_compare.proofs.ring_tail.RingTail.note.Goals as goal

pub returns-clause-ok : goal.returns-clause-ok
returns-clause-ok c =
    let a = c.self.inside in
    let noted : TracedRecord = record { id = c.args.id; trace = c.args.trace } in
    let waiting = alive a.named.keys a.ring.items in
    let among : is_among a.named.keys c.args.trace ≡ false = sym c.is_in.ensures ∙ c.if-is_in.false in
    ap₂ (ringing a.room (alive a.named.keys c.join.new.ring.items) a.named.keys) c.make_room.ensures.items.0 c.make_room.ensures.items.1
    ∙ comes_unnamed (ringing_of a) noted (alive a.named.keys c.join.new.ring.items) among c.self.invariant.room.0
    (c.join.ensures.alive ∙ ap (λ (xs : List TracedRecord). xs ++ noted ∷ []) c.make_way-waiting.ensures.alive
    ∙ ap (λ (n : ℕ). drop (n + 1 - a.room) waiting ++ noted ∷ []) c.self.invariant.waiting)
    ∙ ap (comes noted) c.self.view_is
