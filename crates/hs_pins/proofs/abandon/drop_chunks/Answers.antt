use Rattle.std.proofs.Common.{◌≡◌, ℕ, ◌+◌, ◌≤◌, ◌<◌, List, [], ◌∷◌, ◌++◌, length, map, refl, sym, ap, ap₂, ◌∙◌, le_refl, le_trans, arith}
use Rattle.std.proofs.lemmas.Iterator.Adapters.{YieldsList-from_vec}
use Rattle.std.proofs.lemmas.Iterator.Consumers.{YieldsList-turn, YieldsList-end}
use Rattle.std.proofs.lemmas.List.{append_assoc, length-append, map-id}
use Rattle.hs_pins.proofs.Prelude.{append-nil, length-map, map-append, buffer_of, pin_for, pin_of}
use Rattle.hs_pins.proofs.abandon.drop_chunks.Goals as goal

-- One more was dropped behind others.
dropped_more : {A B C D : Type 0} (h : A → C) (k : B → C) (f : D → B) (old : List C) (xs xs' : List A) (x : A) (yielded : List D) (y : D) → xs' ≡ xs ++ x ∷ [] → h x ≡ k (f y) → map h xs ≡ old ++ map k (map f yielded)
    → map h xs' ≡ old ++ map k (map f (yielded ++ y ∷ []))
dropped_more h k f old xs xs' x yielded y pushed same is =
    ap (map h) pushed
    ∙ map-append h xs (x ∷ [])
    ∙ ap₂ (λ l z. l ++ z ∷ []) is same
    ∙ append_assoc old (map k (map f yielded)) (k (f y) ∷ [])
    ∙ ap (λ l. old ++ l) (sym (ap (map k) (map-append f yielded (y ∷ [])) ∙ map-append k (map f yielded) (f y ∷ [])))

-- There is room for it.
dropped_room : {A B C D : Type 0} (h : A → C) (k : B → C) (f : D → B) (old xs : List A) (yielded : List D) (all room : ℕ) → map h xs ≡ map h old ++ map k (map f yielded) → length yielded < all → length old + all ≤ room
    → length xs < room
dropped_room h k f old xs yielded all room is left fits =
    omega (arith, ap length is, length-append (map h old) (map k (map f yielded)), length-map xs h, length-map old h, length-map (map f yielded) k, length-map yielded f, left, fits)

pub loop-held-init : goal.loop-held-init
loop-held-init g c = (tt, tt, sym (append-nil (map (pin_of {L = g.row.L.Denot} {g = g.L.Token}) c.args.dropped.now.items)), c.requires, le_refl c.args.dropped.now.room)

pub push-requires : goal.push-requires
push-requires g c =
    let all = YieldsList-from_vec {s = c.into_iter-held-iterator.result} c.args.chunks.items (c.into_iter-held-iterator.ensures.into_iter_gives.0 ∙ c.into_vec-held-items.ensures.items)
    (c.into_iter-held-iterator.ensures.into_iter_gives.1 ∙ c.into_vec-held-items.result.ok.0 ∙ ap length c.into_vec-held-items.ensures.items) in
    let turn = YieldsList-turn all c.loop-held.yielded c.loop-held.held-iterator c.loop-held.yielded_by c.next.result c.next.new.self c.in-Some.held c.in-Some.is c.next.ensures.steps in
    dropped_room (pin_of {L = g.row.L.Denot} {g = g.L.Token}) (pin_for c.args.group) (buffer_of {L = g.row.L.Denot} {g = g.L.Token}) c.args.dropped.now.items c.loop-held.dropped.items c.loop-held.yielded
    (length c.args.chunks.items) c.loop-held.dropped.room c.loop-held.invariant.2 turn.0 c.loop-held.invariant.3

pub loop-held-preserved : goal.loop-held-preserved
loop-held-preserved g c = (
  tt,
  tt,
  dropped_more (pin_of {L = g.row.L.Denot} {g = g.L.Token}) (pin_for c.args.group) (buffer_of {L = g.row.L.Denot} {g = g.L.Token}) (map (pin_of {L = g.row.L.Denot} {g = g.L.Token}) c.args.dropped.now.items)
      c.loop-held.dropped.items c.push.new.self.items _ c.loop-held.yielded c.in-Some.held c.push.ensures.items refl c.loop-held.invariant.2,
  le_trans c.loop-held.invariant.3 c.push.ensures.room,
  le_trans c.loop-held.invariant.4 c.push.ensures.room,
)

pub returns : goal.returns
returns g c =
    let f = buffer_of {L = g.row.L.Denot} {g = g.L.Token} in
    let h = pin_of {L = g.row.L.Denot} {g = g.L.Token} in
    let all = YieldsList-from_vec {s = c.into_iter-held-iterator.result} c.args.chunks.items (c.into_iter-held-iterator.ensures.into_iter_gives.0 ∙ c.into_vec-held-items.ensures.items)
    (c.into_iter-held-iterator.ensures.into_iter_gives.1 ∙ c.into_vec-held-items.result.ok.0 ∙ ap length c.into_vec-held-items.ensures.items) in
    let done = YieldsList-end all c.loop-held.yielded c.loop-held.held-iterator c.loop-held.yielded_by c.next.result c.next.new.self c.in-None.is c.next.ensures.steps in
    record {
      items = c.loop-held.invariant.2 ∙ ap (λ l. map h c.args.dropped.now.items ++ map (pin_for c.args.group) (map f l)) (sym (map-id c.loop-held.yielded) ∙ done.0);
      room = c.loop-held.invariant.4;
    }
