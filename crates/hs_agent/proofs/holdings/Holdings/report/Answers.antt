use Rattle.std.proofs.Common.{◌≡◌, ℕ, ◌∷◌, ◌++◌, [], List, length, map, All, IsSome, refl, sym, ap, ◌∙◌, subst, arith}
use Rattle.hs_agent.proofs.Prelude.{All-tail, Pin, sent_pin, Tagged, Kept, kept_in, let_go, let_go_all, page_in, reported, reported_going}
use Rattle.std.proofs.lemmas.List.{append-nil, nil_from_length}
use Rattle.std.proofs.lemmas.List.Elements.{All-head}
use Rattle.hs_agent.proofs.Going.{reported_first}
use Rattle.hs_agent.proofs.holdings.Holdings.report.Goals as goal

-- Where nothing was sent, nothing is reported.
none_reported : {L : Type 0} (kept : Kept L) → kept.sent ≡ [] → reported kept ≡ kept
none_reported {L} kept none =
    ap (λ (pins : List (Pin (Tagged L))). let_go_all (record kept { sent = []; pages = kept.pages ++ map page_in pins }) (map reported_going pins)) none
    ∙ ap (λ (pages : List (List ℕ)). record kept { sent = []; pages = pages }) (append-nil kept.pages)
    ∙ ap (λ (pins : List (Pin (Tagged L))). record kept { sent = pins }) (sym none)

pub append-requires : goal.append-requires
append-requires g c =
    let sent : c.loop-sent.self.sent ≡ sent_pin c.in-Some.sent ∷ map sent_pin c.pop_front.new.self.items = sym (ap (λ (k : Kept g.row.L.Denot). k.sent) c.self.view_is) ∙ ap (map sent_pin) c.in-Some.ensures.items in
    All-head (λ (pin : Pin (Tagged g.row.L.Denot)). IsSome pin.chunk.chunk.page) (sent_pin c.in-Some.sent) (map sent_pin c.pop_front.new.self.items)
    (subst (All (λ (pin : Pin (Tagged g.row.L.Denot)). IsSome pin.chunk.chunk.page)) sent c.loop-sent.invariant.1)

pub loop-sent-preserved : goal.loop-sent-preserved
loop-sent-preserved g c =
    let pin : Pin (Tagged g.row.L.Denot) = sent_pin c.in-Some.sent in
    let rest : List (Pin (Tagged g.row.L.Denot)) = map sent_pin c.pop_front.new.self.items in
    let sent : c.loop-sent.self.sent ≡ pin ∷ rest = sym (ap (λ (k : Kept g.row.L.Denot). k.sent) c.self.view_is) ∙ ap (map sent_pin) c.in-Some.ensures.items in
    let pages : c.append.new.self.items ≡ c.self.inside.pages.items ++ page_in pin ∷ [] = c.in_ok-append.ensures.ok in
    let next : c.let_go.new.self ≡ let_go (record c.loop-sent.self { sent = rest; pages = c.loop-sent.self.pages ++ page_in pin ∷ [] }) (reported_going pin) =
    c.in_ok-let_go.ensures
    ∙ ap (λ (ps : List (List ℕ)). let_go (record (kept_in {L = g.row.L.Denot} {g = g.L.Token} c.self.inside) { sent = rest; pages = ps }) (reported_going pin)) pages
    ∙ ap (λ (k : Kept g.row.L.Denot). let_go (record k { sent = rest; pages = k.pages ++ page_in pin ∷ [] }) (reported_going pin)) c.self.view_is in (
      reported_first c.loop-sent.self pin rest c.let_go.new.self sent next ∙ c.loop-sent.invariant.0,
      subst (All (λ (p : Pin (Tagged g.row.L.Denot)). IsSome p.chunk.chunk.page)) (sym (ap (λ (k : Kept g.row.L.Denot). k.sent) next))
          (All-tail (λ (p : Pin (Tagged g.row.L.Denot)). IsSome p.chunk.chunk.page) pin rest (subst (All (λ (p : Pin (Tagged g.row.L.Denot)). IsSome p.chunk.chunk.page)) sent c.loop-sent.invariant.1)),
    )

pub loop-sent-init : goal.loop-sent-init
loop-sent-init g c = (refl, c.requires)

pub loop-sent-smaller : goal.loop-sent-smaller
loop-sent-smaller g c =
    let sent : c.loop-sent.self.sent ≡ sent_pin c.in-Some.sent ∷ map sent_pin c.pop_front.new.self.items = sym (ap (λ (k : Kept g.row.L.Denot). k.sent) c.self.view_is) ∙ ap (map sent_pin) c.in-Some.ensures.items in
    omega (arith, ap length sent, ap (λ (k : Kept g.row.L.Denot). length k.sent) c.in_ok-let_go.ensures)

pub returns : goal.returns
returns g c =
    let empty : c.self.inside.sent.items ≡ [] = nil_from_length c.self.inside.sent.items (omega (arith, c.in_default.ensures.cases.0)) in
    let none : c.loop-sent.self.sent ≡ [] = sym (ap (λ (k : Kept g.row.L.Denot). k.sent) c.self.view_is) ∙ ap (map sent_pin) empty in
    ap (λ (pins : List (Pin (Tagged g.row.L.Denot))). record (kept_in {L = g.row.L.Denot} {g = g.L.Token} c.self.inside) { sent = pins }) (ap (map sent_pin) (sym c.in_default.ensures.items))
    ∙ c.self.view_is
    ∙ sym (none_reported c.loop-sent.self none)
    ∙ c.loop-sent.invariant.0

pub invariant_of-self : goal.invariant_of-self
invariant_of-self g c =
    let room = c.self.invariant.sent in
    let fits = room.2 in
    let len = c.in-Some.ensures.len in
    let capacity = c.in-Some.ensures.capacity in
    record {
      sent = (room.0, room.1, omega (arith, fits, len, capacity));
      hand = c.self.invariant.hand;
      claims = c.self.invariant.claims;
      pages = c.append.ensures.keeps ∙ c.self.invariant.pages;
    }

pub invariant_of-self-in-Some : goal.invariant_of-self-in-Some
invariant_of-self-in-Some g c =
    let room = c.self.invariant.sent in
    let fits = room.2 in
    let len = c.in-Some.ensures.len in
    let capacity = c.in-Some.ensures.capacity in
    record {
      sent = (room.0, room.1, omega (arith, fits, len, capacity));
      hand = c.self.invariant.hand;
      claims = c.self.invariant.claims;
      pages = c.append.ensures.keeps ∙ c.self.invariant.pages;
    }
