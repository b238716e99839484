use Rattle.std.proofs.Common.{◌≡◌, ◌≤◌, List, [], ◌++◌, true, length, map, sym, ap, subst, ◌∙◌, arith}
use Rattle.hs_base.specs.Rules.{is_declared}
use Rattle.hs_agent.proofs.Prelude.{option_map, option_to_list, Left, Out, Going, going_buffer, going_left, going_of, hand_of, pin_of, sent_pin, leaving, relieved, staying_few, drops, Remembers, claim_each, traces_of, Kept, Holds, Point, with_state, kept_in, abandoned_going, claimed_for}
use Rattle.hs_pins.specs.Opens.{restored}
use Rattle.hs_agent.specs.Asking.{IsClaiming}
use Rattle.hs_agent.specs.Trying.{lefts_noted}
use Rattle.hs_agent.proofs.Asking.{declared-too, asked-begun, asked-ends, pinned_few}
use Rattle.hs_agent.proofs.Emptying.{hand_more, lefts_more, let_go_parts}
use Rattle.hs_agent.proofs.Relieving.{holds-abandoned}
use Rattle.hs_agent.proofs.holdings.Holdings.claim.Goals as goal

pub open-requires-clause-declared : goal.open-requires-clause-declared
open-requires-clause-declared g c =
    let h : Holds (kept_in {L = g.row.L.Denot} {g = g.L.Token} c.self.inside) c.requires.0 = subst (λ k. Holds k c.requires.0) (sym c.self.view_is) c.requires.1 in
    (h.memory, h.remembers, (λ i. is_declared (h.pins.rules i) c.args.ask.now.group.trigger) ∙ c.requires.2)

pub open-requires-clause-few : goal.open-requires-clause-few
open-requires-clause-few g c =
    let h : Holds (kept_in {L = g.row.L.Denot} {g = g.L.Token} c.self.inside) c.requires.0 = subst (λ k. Holds k c.requires.0) (sym c.self.view_is) c.requires.1 in
    let few = h.few in
    let needs = c.chunks_needed-chunks.ensures in
    (h.memory, h.remembers, omega (arith, few, needs))

pub claim_all-requires-clause-known : goal.claim_all-requires-clause-known
claim_all-requires-clause-known g c =
    let ask = c.args.ask.now in
    let kept : Kept g.row.L.Denot = kept_in {L = g.row.L.Denot} {g = g.L.Token} c.self.inside in
    let h : Holds kept c.requires.0 = subst (λ k. Holds k c.requires.0) (sym c.self.view_is) c.requires.1 in
    let declared = c.requires.2 in
    let begun : IsClaiming ask (traces_of ask) kept c.open.new.self kept.index c.reserve.new.self.items c.in_ok-claiming.claiming c.requires.0 =
    subst (λ notes. IsClaiming ask (traces_of ask) kept c.open.new.self kept.index notes c.in_ok-claiming.claiming c.requires.0) (sym c.reserve.ensures.items)
    (asked-begun ask kept c.open.new.self c.in_ok-claiming.claiming c.requires.0 c.chunks_needed-chunks.result h c.in_ok-claiming.ensures.back c.in_ok-claiming.ensures.group c.in_ok-claiming.ensures.laterals declared
    c.in_ok-claiming.ensures.most (c.in_ok-claiming.ensures.ready h.memory h.remembers) c.in_ok-claiming.ensures.chunks c.chunks_needed-chunks.ensures) in
    (kept, c.open.new.self, c.requires.0, begun)

pub claim_all-requires-clause-notes : goal.claim_all-requires-clause-notes
claim_all-requires-clause-notes g c = λ keeps. let ok = c.in_ok-reserve.ensures.ok keeps in let len = c.len.ensures.value in omega (arith, ok, len)

pub close-gone-requires : goal.close-gone-requires
close-gone-requires g c =
    let point = c.requires.0 in
    let ask = c.args.ask.now in
    let kept : Kept g.row.L.Denot = kept_in {L = g.row.L.Denot} {g = g.L.Token} c.self.inside in
    let h : Holds kept point = subst (λ k. Holds k point) (sym c.self.view_is) c.requires.1 in
    let declared = c.requires.2 in
    let begun : IsClaiming ask (traces_of ask) kept c.open.new.self kept.index c.reserve.new.self.items c.in_ok-claiming.claiming point =
    subst (λ notes. IsClaiming ask (traces_of ask) kept c.open.new.self kept.index notes c.in_ok-claiming.claiming point) (sym c.reserve.ensures.items)
    (asked-begun ask kept c.open.new.self c.in_ok-claiming.claiming point c.chunks_needed-chunks.result h c.in_ok-claiming.ensures.back c.in_ok-claiming.ensures.group c.in_ok-claiming.ensures.laterals declared
    c.in_ok-claiming.ensures.most (c.in_ok-claiming.ensures.ready h.memory h.remembers) c.in_ok-claiming.ensures.chunks c.chunks_needed-chunks.ensures) in
    let next : Point g.row.L.Denot = with_state (claim_each ask point.state) point in
    let k : IsClaiming ask [] kept c.open.new.self c.claim_all.new.index c.claim_all.new.notes.items c.claim_all.new.claiming next = c.claim_all.ensures.after kept c.open.new.self point begun in
    asked-ends ask [] kept c.open.new.self c.claim_all.new.index c.claim_all.new.notes.items c.claim_all.new.claiming next k

pub drop_into-requires : goal.drop_into-requires
drop_into-requires g c =
    let point = c.requires.0 in
    let ask = c.args.ask.now in
    let kept : Kept g.row.L.Denot = kept_in {L = g.row.L.Denot} {g = g.L.Token} c.self.inside in
    let h : Holds kept point = subst (λ k. Holds k point) (sym c.self.view_is) c.requires.1 in
    let declared = c.requires.2 in
    let begun : IsClaiming ask (traces_of ask) kept c.open.new.self kept.index c.reserve.new.self.items c.in_ok-claiming.claiming point =
    subst (λ notes. IsClaiming ask (traces_of ask) kept c.open.new.self kept.index notes c.in_ok-claiming.claiming point) (sym c.reserve.ensures.items)
    (asked-begun ask kept c.open.new.self c.in_ok-claiming.claiming point c.chunks_needed-chunks.result h c.in_ok-claiming.ensures.back c.in_ok-claiming.ensures.group c.in_ok-claiming.ensures.laterals declared
    c.in_ok-claiming.ensures.most (c.in_ok-claiming.ensures.ready h.memory h.remembers) c.in_ok-claiming.ensures.chunks c.chunks_needed-chunks.ensures) in
    let next : Point g.row.L.Denot = with_state (claim_each ask point.state) point in
    let k : IsClaiming ask [] kept c.open.new.self c.claim_all.new.index c.claim_all.new.notes.items c.claim_all.new.claiming next = c.claim_all.ensures.after kept c.open.new.self point begun in
    let few = c.close-gone.ensures.few k.holds.memory k.holds.remembers in
    let pinned = pinned_few ask [] kept c.open.new.self c.claim_all.new.index c.claim_all.new.notes.items c.claim_all.new.claiming next k in
    let same = c.claim_all.ensures.ready in
    let ready = c.in_ok-claiming.ensures.ready h.memory h.remembers in
    let chunks = c.chunks.ensures h.memory h.remembers in
    let room = c.in_ok-reserve-3.ensures.ok in
    omega (arith, few, pinned, same, ready, chunks, room)

pub invariant_of-self-2 : goal.invariant_of-self-2
invariant_of-self-2 g c =
    let point = c.requires.0 in
    let ask = c.args.ask.now in
    let kept : Kept g.row.L.Denot = kept_in {L = g.row.L.Denot} {g = g.L.Token} c.self.inside in
    let h : Holds kept point = subst (λ k. Holds k point) (sym c.self.view_is) c.requires.1 in
    let declared = c.requires.2 in
    let begun : IsClaiming ask (traces_of ask) kept c.open.new.self kept.index c.reserve.new.self.items c.in_ok-claiming.claiming point =
    subst (λ notes. IsClaiming ask (traces_of ask) kept c.open.new.self kept.index notes c.in_ok-claiming.claiming point) (sym c.reserve.ensures.items)
    (asked-begun ask kept c.open.new.self c.in_ok-claiming.claiming point c.chunks_needed-chunks.result h c.in_ok-claiming.ensures.back c.in_ok-claiming.ensures.group c.in_ok-claiming.ensures.laterals declared
    c.in_ok-claiming.ensures.most (c.in_ok-claiming.ensures.ready h.memory h.remembers) c.in_ok-claiming.ensures.chunks c.chunks_needed-chunks.ensures) in
    let next : Point g.row.L.Denot = with_state (claim_each ask point.state) point in
    let k : IsClaiming ask [] kept c.open.new.self c.claim_all.new.index c.claim_all.new.notes.items c.claim_all.new.claiming next = c.claim_all.ensures.after kept c.open.new.self point begun in
    let few = c.close-gone.ensures.few k.holds.memory k.holds.remembers in
    let pinned = pinned_few ask [] kept c.open.new.self c.claim_all.new.index c.claim_all.new.notes.items c.claim_all.new.claiming next k in
    let same = c.claim_all.ensures.ready in
    let ready = c.in_ok-claiming.ensures.ready h.memory h.remembers in
    let chunks = c.chunks.ensures h.memory h.remembers in
    let sent = c.in_ok-reserve-2.ensures.ok in
    let room = c.in_ok-reserve-3.ensures.ok in
    let len = c.drop_into.ensures.len in
    let capacity = c.drop_into.ensures.capacity in
    let memory = k.holds.memory in
    let fewer : length (relieved memory).pinned ≤ length memory.pinned = staying_few (leaving memory.most memory.pinned) memory.pinned in
    record {
      sent = (relieved memory, c.close-gone.ensures.after memory k.holds.remembers, omega (arith, fewer, pinned, same, ready, chunks, sent));
      hand = λ out. omega (arith, few, pinned, same, ready, chunks, room, len, capacity);
      claims = c.claim_all.ensures.keeps ∙ c.reserve.ensures.keeps ∙ c.self.invariant.claims ∙ sym c.drop_into.ensures.keeps;
      pages = c.self.invariant.pages ∙ sym c.drop_into.ensures.keeps;
    }

pub returns-clause-after : goal.returns-clause-after
returns-clause-after g c = λ point known.
    let ask = c.args.ask.now in
    let kept : Kept g.row.L.Denot = kept_in {L = g.row.L.Denot} {g = g.L.Token} c.self.inside in
    let h : Holds kept point = subst (λ k. Holds k point) (sym c.self.view_is) known in
    let h0 : Holds kept c.requires.0 = subst (λ k. Holds k c.requires.0) (sym c.self.view_is) c.requires.1 in
    let declared : is_declared point.settings.triggers ask.group.trigger ≡ true =
    (λ i. is_declared (sym h.pins.rules i) ask.group.trigger) ∙ declared-too kept.pins h0.memory h.memory h0.remembers h.remembers ask ((λ i. is_declared (h0.pins.rules i) ask.group.trigger) ∙ c.requires.2) in
    let begun : IsClaiming ask (traces_of ask) kept c.open.new.self kept.index c.reserve.new.self.items c.in_ok-claiming.claiming point =
    subst (λ notes. IsClaiming ask (traces_of ask) kept c.open.new.self kept.index notes c.in_ok-claiming.claiming point) (sym c.reserve.ensures.items)
    (asked-begun ask kept c.open.new.self c.in_ok-claiming.claiming point c.chunks_needed-chunks.result h c.in_ok-claiming.ensures.back c.in_ok-claiming.ensures.group c.in_ok-claiming.ensures.laterals declared
    c.in_ok-claiming.ensures.most (c.in_ok-claiming.ensures.ready h.memory h.remembers) c.in_ok-claiming.ensures.chunks c.chunks_needed-chunks.ensures) in
    let next : Point g.row.L.Denot = with_state (claim_each ask point.state) point in
    let k : IsClaiming ask [] kept c.open.new.self c.claim_all.new.index c.claim_all.new.notes.items c.claim_all.new.claiming next = c.claim_all.ensures.after kept c.open.new.self point begun in
    let memory = k.holds.memory in
    let opened : Kept g.row.L.Denot = record kept { index = c.claim_all.new.index; claims = c.claim_all.new.notes.items; pins = restored c.open.new.self c.claim_all.new.claiming } in
    let goings : map abandoned_going (map pin_of c.close-gone.result.items) ≡ map abandoned_going (drops memory) = ap (map abandoned_going) (c.close-gone.ensures.gone memory k.holds.remembers) in
    let standings : c.drop_into.new.standings.items ≡ lefts_noted kept.standings (map abandoned_going (drops memory)) = c.drop_into.ensures.lefts ∙ ap (lefts_noted kept.standings) goings in
    let goes : List (Going g.row.L.Denot) = map abandoned_going (drops memory) in
    let out : List Left = option_to_list (option_map (λ (o : Out). o.left) c.self.inside.offered) in
    let now : map going_of c.drop_into.new.hand.items ≡ map going_of c.self.inside.hand.items ++ goes = c.drop_into.ensures.hand ∙ (λ i. map going_of (c.reserve-3.ensures.items i) ++ goings i) in
    let hand : hand_of c.drop_into.new.hand.items ≡ kept.hand ++ map going_buffer goes = hand_more (map going_of c.drop_into.new.hand.items) (map going_of c.self.inside.hand.items) goes now in
    let lefts : out ++ map going_left (map going_of c.drop_into.new.hand.items) ≡ kept.lefts ++ map going_left goes = lefts_more out (map going_of c.drop_into.new.hand.items) (map going_of c.self.inside.hand.items) goes now in
    subst (λ (kk : Kept g.row.L.Denot). Holds kk (claimed_for ask point))
    (let_go_parts (record opened { pins = c.close-gone.new.self }) (map abandoned_going (drops memory))
    ∙ (λ i. record opened { pins = c.close-gone.new.self; sent = map sent_pin (sym c.reserve-2.ensures.items i); standings = sym standings i; hand = sym hand i; lefts = sym lefts i; keeps = sym c.drop_into.ensures.keeps i }))
    (holds-abandoned opened c.close-gone.new.self next k.holds (c.close-gone.ensures.after memory k.holds.remembers))

pub invariant_of-self-in_err-reserve-2 : goal.invariant_of-self-in_err-reserve-2
invariant_of-self-in_err-reserve-2 g c =
    let room = c.self.invariant.sent in
    let fits = room.2 in
    let len = c.reserve-2.ensures.len in
    let capacity = c.reserve-2.ensures.capacity in
    record {
      sent = (room.0, room.1, omega (arith, fits, len, capacity));
      hand = c.self.invariant.hand;
      claims = c.reserve.ensures.keeps ∙ c.self.invariant.claims;
      pages = c.self.invariant.pages;
    }

pub invariant_of-self-in_err-reserve-3 : goal.invariant_of-self-in_err-reserve-3
invariant_of-self-in_err-reserve-3 g c =
    let room = c.self.invariant.sent in
    let fits = room.2 in
    let len = c.reserve-2.ensures.len in
    let capacity = c.reserve-2.ensures.capacity in
    let hand_len = c.reserve-3.ensures.len in
    let hand_capacity = c.reserve-3.ensures.capacity in
    record {
      sent = (room.0, room.1, omega (arith, fits, len, capacity));
      hand = λ out. let free = c.self.invariant.hand out in omega (arith, free, hand_len, hand_capacity);
      claims = c.reserve.ensures.keeps ∙ c.self.invariant.claims;
      pages = c.self.invariant.pages;
    }

pub invariant_of-self-in_err-claiming : goal.invariant_of-self-in_err-claiming
invariant_of-self-in_err-claiming g c =
    let room = c.self.invariant.sent in
    let fits = room.2 in
    let len = c.reserve-2.ensures.len in
    let capacity = c.reserve-2.ensures.capacity in
    let hand_len = c.reserve-3.ensures.len in
    let hand_capacity = c.reserve-3.ensures.capacity in
    record {
      sent = (room.0, subst (λ p. Remembers p room.0) (sym c.in_err-claiming.ensures.same) room.1, omega (arith, fits, len, capacity));
      hand = λ out. let free = c.self.invariant.hand out in omega (arith, free, hand_len, hand_capacity);
      claims = c.reserve.ensures.keeps ∙ c.self.invariant.claims;
      pages = c.self.invariant.pages;
    }
