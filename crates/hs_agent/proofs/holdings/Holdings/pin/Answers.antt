use Rattle.std.proofs.Common.{◌≡◌, List, [], ◌∷◌, ◌++◌, length, map, option_map, sym, ap, subst, ◌∙◌, arith, None, IsSome}
use Rattle.hs_agent.proofs.Prelude.{count_chunks, option_to_list, Left, Out, going_buffer, going_left, going_of, hand_of, buffer_of, ChunkNote, pin_of, arrived, Remembers, Kept, kept_in, sent_pin, Placed, placed_at, Going, abandoned_going, let_go_all, noted}
use Rattle.hs_pins.specs.Remembered.{claim_for}
use Rattle.hs_pins.specs.Receiving.{received, goes_with}
use Rattle.hs_pins.proofs.Receiving.{length-received}
use Rattle.hs_agent.specs.Trying.{lefts_noted}
use Rattle.hs_agent.proofs.Emptying.{hand_more, lefts_more, let_go_parts}
use Rattle.hs_agent.proofs.holdings.Holdings.pin.Goals as goal

pub receive-requires-clause-claimed : goal.receive-requires-clause-claimed
receive-requires-clause-claimed g c =
    (c.requires.0, subst (λ (k : Kept g.row.L.Denot). Remembers k.pins c.requires.0) (sym c.self.view_is) c.requires.1, subst (λ (p : Placed g.row.L.Denot). IsSome (claim_for c.requires.0.claims p)) (sym c.with_place.ensures) c.requires.2)

pub receive-requires-clause-few : goal.receive-requires-clause-few
receive-requires-clause-few g c =
    let remembers : Remembers c.self.inside.pins c.requires.0 = subst (λ (k : Kept g.row.L.Denot). Remembers k.pins c.requires.0) (sym c.self.view_is) c.requires.1 in
    let few = c.in-Some.ensures.few in
    let waiting = c.waiting-waiting.ensures c.requires.0 remembers in
    (c.requires.0, remembers, omega (arith, few, waiting))

pub drop_into-requires : goal.drop_into-requires
drop_into-requires g c =
    let memory = c.requires.0 in
    let remembers : Remembers c.self.inside.pins memory = subst (λ (k : Kept g.row.L.Denot). Remembers k.pins memory) (sym c.self.view_is) c.requires.1 in
    let few = c.in-Ok-receive.ensures.few memory remembers in
    let chunks = c.chunks.ensures memory remembers in
    let room = c.saturating_add-room.ensures in
    let reserved = c.in-Some.ensures.going in
    let fits = c.in-Some.ensures.few in
    let waiting = c.waiting-waiting.ensures memory remembers in
    omega (arith, few, chunks, room, reserved, fits, waiting)

pub invariant_of-self-in-Ok-receive : goal.invariant_of-self-in-Ok-receive
invariant_of-self-in-Ok-receive g c =
    let memory = c.requires.0 in
    let remembers : Remembers c.self.inside.pins memory = subst (λ (k : Kept g.row.L.Denot). Remembers k.pins memory) (sym c.self.view_is) c.requires.1 in
    let more = length-received memory (buffer_of c.with_place.result) in
    let few = c.in-Ok-receive.ensures.few memory remembers in
    let chunks = c.chunks.ensures memory remembers in
    let room = c.saturating_add-room.ensures in
    let fits = c.in-Some.ensures.few in
    let waiting = c.waiting-waiting.ensures memory remembers in
    let sent = c.in-Ok.ensures.ok in
    let reserved = c.in-Some.ensures.going in
    let len = c.drop_into.ensures.len in
    let capacity = c.drop_into.ensures.capacity in
    record {
      sent = (received memory (buffer_of c.with_place.result), c.in-Ok-receive.ensures.after memory remembers, omega (arith, more, chunks, room, sent, fits, waiting));
      hand = λ out. omega (arith, few, chunks, room, reserved, len, capacity, fits, waiting);
      claims = c.self.invariant.claims ∙ sym (c.drop_into.ensures.keeps ∙ c.push.ensures.keeps ∙ c.next_place.ensures.keeps);
      pages = c.self.invariant.pages ∙ sym (c.drop_into.ensures.keeps ∙ c.push.ensures.keeps ∙ c.next_place.ensures.keeps);
    }

pub returns-in-Ok-receive-clause-ok : goal.returns-in-Ok-receive-clause-ok
returns-in-Ok-receive-clause-ok g c = λ memory known.
    let kept = kept_in {L = g.row.L.Denot} {g = g.L.Token} c.self.inside in
    let remembers : Remembers c.self.inside.pins memory = subst (λ (k : Kept g.row.L.Denot). Remembers k.pins memory) (sym c.self.view_is) known in
    let buffer = buffer_of {L = g.row.L.Denot} {g = g.L.Token} c.args.held in
    let here : length kept.standings ≡ length c.args.self.now.standings = ap (λ (k : Kept g.row.L.Denot). length k.standings) c.self.view_is in
    let placed : buffer_of c.with_place.result ≡ placed_at (length kept.standings) buffer = c.with_place.ensures ∙ ap (λ n. placed_at n buffer) c.in-Some.ensures.place in
    let now : buffer_of c.with_place.result ≡ placed_at (length c.args.self.now.standings) buffer = placed ∙ ap (λ n. placed_at n buffer) here in
    let goes : List (Going g.row.L.Denot) = map abandoned_going (goes_with memory (placed_at (length kept.standings) buffer)) in
    let goings : map abandoned_going (map pin_of c.in-Ok-receive.gone.items) ≡ goes =
    ap (map abandoned_going) (c.in-Ok-receive.ensures.gone memory remembers ∙ ap (goes_with memory) placed) in
    let new : ChunkNote = record { client = c.args.header.client; page = c.args.header.page; left = None } in
    let standings : c.drop_into.new.standings.items ≡ lefts_noted (kept.standings ++ new ∷ []) goes =
    c.drop_into.ensures.lefts ∙ (λ i. lefts_noted ((c.push.ensures.items ∙ ap (λ (l : List ChunkNote). l ++ new ∷ []) c.next_place.ensures.standings) i) (goings i)) in
    let out : List Left = option_to_list (option_map (λ (o : Out). o.left) c.self.inside.offered) in
    let went : map going_of c.drop_into.new.hand.items ≡ map going_of c.self.inside.hand.items ++ goes = c.drop_into.ensures.hand ∙ (λ i. map going_of (c.next_place.ensures.hand i) ++ goings i) in
    let keeps : c.drop_into.new.standings.keeps ≡ kept.keeps = c.drop_into.ensures.keeps ∙ c.push.ensures.keeps ∙ c.next_place.ensures.keeps in
    let hand : hand_of c.drop_into.new.hand.items ≡ kept.hand ++ map going_buffer goes = hand_more (map going_of c.drop_into.new.hand.items) (map going_of c.self.inside.hand.items) goes went in
    let lefts : out ++ map going_left (map going_of c.drop_into.new.hand.items) ≡ kept.lefts ++ map going_left goes = lefts_more out (map going_of c.drop_into.new.hand.items) (map going_of c.self.inside.hand.items) goes went in
    let between = c.in-Ok-receive.ensures.between memory remembers in
    record {
      between = between.0;
      arrives = subst (λ (p : Placed g.row.L.Denot). Remembers between.0 (arrived memory p)) now between.1;
      remembers = subst (λ (p : Placed g.row.L.Denot). Remembers c.receive.new.self (received memory p)) now (c.in-Ok-receive.ensures.after memory remembers);
      gone =
          (λ i. record kept { pins = c.receive.new.self; sent = map sent_pin (c.reserve.ensures.items i); standings = standings i; hand = hand i; lefts = lefts i; keeps = keeps i })
          ∙ sym (let_go_parts (record (noted c.args.header kept) { pins = c.receive.new.self }) goes)
          ∙ ap (λ (k : Kept g.row.L.Denot). let_go_all (record (noted c.args.header k) { pins = c.receive.new.self }) (map abandoned_going (goes_with memory (placed_at (length k.standings) buffer)))) c.self.view_is;
    }

pub invariant_of-self : goal.invariant_of-self
invariant_of-self g c =
    let room = c.self.invariant.sent in
    let fits = room.2 in
    let len = c.reserve.ensures.len in
    let capacity = c.reserve.ensures.capacity in
    record {
      sent = (room.0, room.1, omega (arith, fits, len, capacity));
      hand = c.self.invariant.hand;
      claims = c.self.invariant.claims;
      pages = c.self.invariant.pages;
    }

pub invariant_of-self-2 : goal.invariant_of-self-2
invariant_of-self-2 g c =
    let room = c.self.invariant.sent in
    let fits = room.2 in
    let len = c.reserve.ensures.len in
    let capacity = c.reserve.ensures.capacity in
    record {
      sent = (room.0, room.1, omega (arith, fits, len, capacity));
      hand = c.self.invariant.hand;
      claims = c.self.invariant.claims;
      pages = c.self.invariant.pages;
    }

pub invariant_of-self-in_default-next_place : goal.invariant_of-self-in_default-next_place
invariant_of-self-in_default-next_place g c =
    let room = c.self.invariant.sent in
    let fits = room.2 in
    let len = c.reserve.ensures.len in
    let capacity = c.reserve.ensures.capacity in
    let hand_len = c.next_place.ensures.len in
    let hand_capacity = c.next_place.ensures.kept in
    record {
      sent = (room.0, room.1, omega (arith, fits, len, capacity));
      hand = λ out. let free = c.self.invariant.hand out in omega (arith, free, hand_len, hand_capacity);
      claims = c.self.invariant.claims ∙ sym c.next_place.ensures.keeps;
      pages = c.self.invariant.pages ∙ sym c.next_place.ensures.keeps;
    }

pub invariant_of-self-in-Err : goal.invariant_of-self-in-Err
invariant_of-self-in-Err g c =
    let room = c.self.invariant.sent in
    let fits = room.2 in
    let len = c.reserve.ensures.len in
    let capacity = c.reserve.ensures.capacity in
    let hand_len = c.next_place.ensures.len in
    let hand_capacity = c.next_place.ensures.kept in
    record {
      sent = (room.0, subst (λ p. Remembers p room.0) (sym c.in-Err.ensures.same) room.1, omega (arith, fits, len, capacity));
      hand = λ out. let free = c.self.invariant.hand out in omega (arith, free, hand_len, hand_capacity);
      claims = c.self.invariant.claims ∙ sym c.next_place.ensures.keeps;
      pages = c.self.invariant.pages ∙ sym c.next_place.ensures.keeps;
    }

pub returns-in-Ok-receive-clause-few : goal.returns-in-Ok-receive-clause-few
returns-in-Ok-receive-clause-few g c = λ memory known.
    let remembers : Remembers c.self.inside.pins memory = subst (λ (k : Kept g.row.L.Denot). Remembers k.pins memory) (sym c.self.view_is) known in
    let few = c.in-Some.ensures.few in
    let waiting = c.waiting-waiting.ensures memory remembers in
    let indexed = ap (λ (k : Kept g.row.L.Denot). count_chunks k.index.touched) c.self.view_is in
    omega (arith, few, waiting, indexed)
