use Rattle.std.proofs.Common.{◌≡◌, map, sym, ap, subst, ◌∙◌}
use Rattle.hs_pins.proofs.Prelude.{IsKept, Groups, buffer_of}
use Rattle.hs_pins.specs.Opening.{with_pile}
use Rattle.hs_pins.proofs.Opened.{rising_pile}
use Rattle.hs_pins.proofs.pinned.opened.Opened.close.Goals as goal

pub invariant_of-result : goal.invariant_of-result
invariant_of-result g c =
    let es = c.self.inside.groups.entries in
    let p = c.self.inside.priority in
    let pile = map buffer_of c.self.inside.pile.items in
    let put : c.put_pile.new.groups.entries ≡ with_pile es p pile = c.put_pile.ensures ∙ ap (with_pile es p) (c.from_deque.ensures ∙ ap (map (buffer_of {L = g.row.L.Denot} {g = g.L.Token})) c.shrink_to_fit.ensures.items) in
    subst (λ (gs : Groups g.row.L.Denot). IsKept gs c.self.inside.chunks) (sym put) (record { counted = c.self.invariant.counted; rising = rising_pile p es pile c.self.invariant.rising })
