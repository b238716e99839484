use Rattle.std.proofs.Common.{List, map, sym, ap, subst, ◌∙◌, arith}
use Rattle.hs_pins.proofs.Prelude.{Mark, pin_of, Remembers, HasPinned}
use Rattle.hs_pins.proofs.Leaving.{relieved-few, relieved-within, drops-few}
use Rattle.hs_pins.proofs.Remembering.{at_view, has_abandoned}
use Rattle.hs_pins.proofs.pins.Pins.abandon.Goals as goal

pub returns-then-pinned-self-clause-dropped : goal.returns-then-pinned-self-clause-dropped
returns-then-pinned-self-clause-dropped g c = λ memory h.
    let v = at_view _ c.args.self.now memory c.self.view_is h in
    ap (map pin_of) c.new.ensures.items
    ∙ sym (drops-few memory (let few = c.if-pinned-self.true in let is = c.chunks-pinned.ensures in let t = v.pinned.chunks.total in let m = v.most in omega (arith, few, is, t, m)))

pub returns-then-pinned-self-clause-after : goal.returns-then-pinned-self-clause-after
returns-then-pinned-self-clause-after g c = λ memory h.
    let v = at_view _ c.args.self.now memory c.self.view_is h in
    subst (Remembers c.args.self.now) (sym (relieved-few memory (let few = c.if-pinned-self.true in let is = c.chunks-pinned.ensures in let t = v.pinned.chunks.total in let m = v.most in omega (arith, few, is, t, m)))) h

pub returns-then-pinned-self-clause-within : goal.returns-then-pinned-self-clause-within
returns-then-pinned-self-clause-within g c = λ memory h. relieved-within memory

pub returns-in_err-dropped-clause-within : goal.returns-in_err-dropped-clause-within
returns-in_err-dropped-clause-within g c = λ memory h. relieved-within memory

pub returns-in_err-reserve-clause-within : goal.returns-in_err-reserve-clause-within
returns-in_err-reserve-clause-within g c = λ memory h. relieved-within memory

pub returns-clause-after : goal.returns-clause-after
returns-clause-after g c = λ memory h.
    let v = at_view _ c.args.self.now memory c.self.view_is h in
    has_abandoned _ c.args.self.now memory c.abandon_over.new.queues c.abandon_over.new.abandoned.keys c.self.view_is h
    (c.abandon_over.ensures.after memory v.most (subst (λ (marks : List Mark). HasPinned c.self.inside.queues marks memory) (sym c.reserve.ensures.keys) v.pinned))

pub returns-clause-within : goal.returns-clause-within
returns-clause-within g c = λ memory h. relieved-within memory
