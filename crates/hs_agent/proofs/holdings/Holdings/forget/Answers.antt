use Rattle.std.proofs.Common.{◌+◌, ◌≤◌, length}
use Rattle.hs_pins.specs.Remembered.{forgot}
use Rattle.std.specs.VecDeque.{deque_len, deque_capacity}
use Rattle.hs_pins.specs.PinsLayout.{KnowsThat}
use Rattle.std.proofs.Common.{refl, sym, subst, ◌∙◌}
use Rattle.hs_agent.proofs.Prelude.{Holds, kept_in}
use Rattle.hs_agent.proofs.Forgetting.{settled_too, holds_forgot}
use Rattle.hs_agent.proofs.holdings.Holdings.forget.Goals as goal

pub returns-clause-settled : goal.returns-clause-settled
returns-clause-settled g c = λ point known.
    let kept = kept_in {L = g.row.L.Denot} {g = g.L.Token} c.self.inside in
    let h : Holds kept point = subst (λ k. Holds k point) (sym c.self.view_is) known in
    sym c.if-not-did.false ∙ c.forget-did.ensures.settled h.memory h.remembers ∙ sym (settled_too kept point h c.args.group)

pub returns-then-not-did-clause-settled : goal.returns-then-not-did-clause-settled
returns-then-not-did-clause-settled g c = λ point known.
    let kept = kept_in {L = g.row.L.Denot} {g = g.L.Token} c.self.inside in
    let h : Holds kept point = subst (λ k. Holds k point) (sym c.self.view_is) known in
    sym c.if-not-did.true ∙ c.forget-did.ensures.settled h.memory h.remembers ∙ sym (settled_too kept point h c.args.group)

pub returns-clause-after : goal.returns-clause-after
returns-clause-after g c = λ point known did.
    let kept = kept_in {L = g.row.L.Denot} {g = g.L.Token} c.self.inside in
    let h : Holds kept point = subst (λ k. Holds k point) (sym c.self.view_is) known in
    holds_forgot kept point h c.args.group _ (c.forget-did.ensures.after h.memory h.remembers c.if-not-did.false) c.forget.ensures.items refl

pub invariant_of-self : goal.invariant_of-self
invariant_of-self g c = record {
  sent = subst (λ p. KnowsThat p (λ memory. deque_len c.self.inside.sent + length memory.pinned ≤ deque_capacity c.self.inside.sent)) (sym (c.forget-did.ensures.same c.if-not-did.true)) c.self.invariant.sent;
  hand = c.self.invariant.hand;
  claims = c.self.invariant.claims;
  pages = c.self.invariant.pages;
}

pub invariant_of-self-2 : goal.invariant_of-self-2
invariant_of-self-2 g c =
    let room = c.self.invariant.sent in
    record {
      sent = (forgot c.args.group room.0, c.forget-did.ensures.after room.0 room.1 c.if-not-did.false, room.2);
      hand = c.self.invariant.hand;
      claims = c.forget.ensures.keeps ∙ c.self.invariant.claims;
      pages = c.self.invariant.pages;
    }
