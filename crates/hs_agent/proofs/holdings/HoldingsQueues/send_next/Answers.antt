use Rattle.std.proofs.Common.{◌≡◌, List, ◌∷◌, ◌++◌, [], length, map, None, slice_get, refl, sym, ap, subst, ◌∙◌, arith}
use Rattle.hs_agent.proofs.Prelude.{map-append, length-map, Pin, Tagged, used_bytes, pin_of, sent_pin, waiting, Remembers, Kept, id_of}
use Rattle.hs_pins.specs.Waiting.{taken}
use Rattle.hs_agent.proofs.Writing.{first-rest}
use Rattle.hs_agent.proofs.holdings.HoldingsQueues.send_next.Goals as goal

pub returns-clause-step : goal.returns-clause-step
returns-clause-step g c =
    let pins : c.self.inside.pins ≡ c.args.self.now.pins = ap (λ (k : Kept g.row.L.Denot). k.pins) c.self.view_is in
    record {
      moves =
          record {
            item = pin_of c.in-Some.dropped;
            taken =
                ap (λ p. waiting p c.args.trigger) (sym pins)
                ∙ first-rest (waiting c.self.inside.pins c.args.trigger) (waiting c.take_next.new.self c.args.trigger) (pin_of c.in-Some.dropped) c.in-Some.ensures.next c.in-Some.ensures.left;
            put =
                ap (map sent_pin) c.push_back_reserved.ensures.items
                ∙ map-append sent_pin c.self.inside.sent.items (c.sent_of.result ∷ [])
                ∙ (λ i. (c.self.view_is i).sent ++ c.sent_of.ensures i ∷ []);
            others = λ other ne. c.in-Some.ensures.others (id_of other) ne ∙ ap (λ p. waiting p (id_of other)) pins;
          };
      remembers = λ memory h. c.in-Some.ensures.after memory (subst (λ p. Remembers p memory) (sym pins) h);
      others = ap (λ (k : Kept g.row.L.Denot). record k { pins = c.take_next.new.self; sent = map sent_pin c.push_back_reserved.new.self.items }) c.self.view_is;
    }

pub returns-clause-others : goal.returns-clause-others
returns-clause-others g c = λ id ne.
    ap (map (λ (pin : Pin (Tagged g.row.L.Denot)). used_bytes pin.chunk)) (c.in-Some.ensures.others (id_of id) ne ∙ ap (λ (k : Kept g.row.L.Denot). waiting k.pins (id_of id)) c.self.view_is)

-- a list without a first is empty
none_waits : {A : Type 0} (xs : List A) → None ≡ slice_get xs 0 → length xs ≡ 0
none_waits [] e = refl
none_waits (x ∷ xs) e = cc

pub unreachable-requires : goal.unreachable-requires
unreachable-requires g c =
    let none = none_waits (waiting c.self.inside.pins c.args.trigger) c.in-None.ensures.next in
    let same = ap (λ (k : Kept g.row.L.Denot). length (waiting k.pins c.args.trigger)) c.self.view_is in
    let costs = length-map (waiting c.args.self.now.pins c.args.trigger) (λ (pin : Pin (Tagged g.row.L.Denot)). used_bytes pin.chunk) in
    let some = c.requires in
    omega (arith, none, same, costs, some)

pub invariant_of-self : goal.invariant_of-self
invariant_of-self g c =
    let room = c.self.invariant.sent in
    let fits = room.2 in
    let fewer = c.in-Some.ensures.fewer room.0 room.1 in
    let len = c.push_back_reserved.ensures.len in
    let capacity = c.push_back_reserved.ensures.capacity in
    record {
      sent = (taken room.0 c.args.trigger, c.in-Some.ensures.after room.0 room.1, omega (arith, fits, fewer, len, capacity));
      hand = c.self.invariant.hand;
      claims = c.self.invariant.claims;
      pages = c.self.invariant.pages;
    }
