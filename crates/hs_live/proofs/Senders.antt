-- Senders that go on, and what is seen of chunks with their leases.
use Rattle.std.proofs.Common.{◌≡◌, ℕ, ◌+◌, ◌<◌, ◌≤◌, List, [], ◌∷◌, ◌++◌, length, map, take, refl, sym, ap, ◌∙◌, inl, inr, arith, length-append}
use Rattle.hs_live.proofs.Prelude.{map-append, length-map, Outgoing, sent, IsBeginning, OneBegins, IsSameSender, Held, Buffer, buffer_of, Leased, Key, GoesOn, Flushes, outgoing}
use Rattle.std.proofs.Math.Seq.{take-length}
use Rattle.std.proofs.lemmas.List.{take-map}
use Rattle.hs_link.specs.Contents.{SeemsFull, HasPlaces, TakesPlaces}
use Rattle.hs_link.proofs.Lists.{beginning_short, beginning_trans}

module _ {T F : Type 0} where
  pub goes_same : (s : Outgoing T F) → GoesOn s s
  goes_same s = record { same = (refl, refl, refl, refl, refl); put = take-length s.put }

  pub goes_trans : (s t u : Outgoing T F) → GoesOn s t → GoesOn t u → GoesOn s u
  goes_trans s t u h k =
      record {
        same = (k.same.0 ∙ h.same.0, k.same.1 ∙ h.same.1, k.same.2 ∙ h.same.2, k.same.3 ∙ h.same.3, k.same.4 ∙ h.same.4);
        put = beginning_trans s.put t.put u.put h.put k.put;
      }

module _ {A B : Type 0} (f : A → B) where
  pub map_begins : (xs ys : List A) → IsBeginning xs ys → IsBeginning (map f xs) (map f ys)
  map_begins xs ys h = ap (λ n. take n (map f ys)) (length-map xs f) ∙ take-map f (length xs) ys ∙ ap (map f) h

  pub map_one_begins : (xs ys : List A) → OneBegins xs ys → OneBegins (map f xs) (map f ys)
  map_one_begins xs ys (inl h) = inl (map_begins xs ys h)
  map_one_begins xs ys (inr h) = inr (map_begins ys xs h)

  -- an item more at the end of two lists, seen one by one
  pub map_more : (put outbox put' outbox' : List A) (item : A) → put' ++ outbox' ≡ (put ++ outbox) ++ item ∷ [] → map f put' ++ map f outbox' ≡ (map f put ++ map f outbox) ++ f item ∷ []
  map_more put outbox put' outbox' item e =
      sym (map-append f put' outbox') ∙ ap (map f) e ∙ map-append f (put ++ outbox) (item ∷ []) ∙ ap (λ l. l ++ f item ∷ []) (map-append f put outbox)

  pub map_same : (put outbox put' outbox' : List A) → put' ++ outbox' ≡ put ++ outbox → map f put' ++ map f outbox' ≡ map f put ++ map f outbox
  map_same put outbox put' outbox' e = sym (map-append f put' outbox') ∙ ap (map f) e ∙ map-append f put outbox

-- ---- places

-- a place stays for what is still to be sent
pub places_left : {T F : Type 0} (used more : ℕ) (s t : Outgoing T F) → GoesOn s t → length (sent t) ≤ length (sent s) + used → HasPlaces (used + more) s → HasPlaces more t
places_left used more s t goes items places =
    let before = length-append s.put s.outbox in
    let now = length-append t.put t.outbox in
    let longer = beginning_short s.put t.put goes.put in
    (omega (arith, before, now, longer, items, places.0, goes.same.3), omega (arith, before, now, items, places.1))

pub takes_places : {T F : Type 0} (most : ℕ) (s t : Outgoing T F) → GoesOn s t → length (sent t) ≤ length (sent s) + most → TakesPlaces most s t
takes_places most s t goes items =
    let before = length-append s.put s.outbox in
    let now = length-append t.put t.outbox in
    let longer = beginning_short s.put t.put goes.put in
    (goes.same.3, omega (arith, before, now, longer, items), omega (arith, before, now, items))

-- one item was sent
pub takes_one : {T F : Type 0} (item : T) (s t : Outgoing T F) → IsSameSender s t → IsBeginning s.put t.put → sent t ≡ sent s ++ item ∷ [] → TakesPlaces 1 s t
takes_one item s t same put items = takes_places 1 s t (record { same = same; put = put }) (let all = ap length items in let one = length-append (sent s) (item ∷ []) in omega (arith, all, one))

-- what waits was put into the ring, as far as it took it
pub flushes : {T F : Type 0} (s t : Outgoing T F) → IsSameSender s t → sent t ≡ sent s → IsBeginning s.put t.put → (0 < length t.outbox → SeemsFull t) → Flushes s t
flushes s t same items put kept =
    let goes : GoesOn s t = record { same = same; put = put } in
    record { goes = goes; items = items; places = takes_places 0 s t goes (omega (arith, ap length items)); kept = kept }

-- ---- chunks with their leases

pub sends_buffer : {g : _} (old new : Outgoing (Held Leased g) Key) (held : Held Leased g) → sent new ≡ sent old ++ held ∷ [] → sent (outgoing new) ≡ sent (outgoing old) ++ buffer_of held ∷ []
sends_buffer old new held e = map_more buffer_of old.put old.outbox new.put new.outbox held e

pub keeps_buffers : {g : _} (old new : Outgoing (Held Leased g) Key) → sent new ≡ sent old → sent (outgoing new) ≡ sent (outgoing old)
keeps_buffers old new e = map_same buffer_of old.put old.outbox new.put new.outbox e

pub begins_buffers : {g : _} (old new : List (Held Leased g)) → IsBeginning old new → IsBeginning {T = Buffer Leased} (map buffer_of old) (map buffer_of new)
begins_buffers old new e = map_begins buffer_of old new e

pub flushes_buffers : {g : _} (old new : Outgoing (Held Leased g) Key) → IsSameSender old new → sent new ≡ sent old → IsBeginning old.put new.put → (0 < length new.outbox → SeemsFull new) → Flushes (outgoing old) (outgoing new)
flushes_buffers old new same items put kept =
    let outbox = length-map new.outbox buffer_of in
    let ring = length-map new.put buffer_of in
    flushes (outgoing old) (outgoing new) same (keeps_buffers old new items) (begins_buffers old.put new.put put) (λ some. let full = kept (omega (arith, some, outbox)) in omega (arith, full, ring))

-- they are as many where chunks are seen as buffers
pub places_held : {g : _} (more : ℕ) (s : Outgoing (Held Leased g) Key) → HasPlaces more (outgoing s) → HasPlaces more s
places_held more s places =
    let put = length-map s.put buffer_of in
    let outbox = length-map s.outbox buffer_of in
    (omega (arith, put, outbox, places.0), omega (arith, put, outbox, places.1))

pub places_seen : {g : _} (more : ℕ) (s : Outgoing (Held Leased g) Key) → HasPlaces more s → HasPlaces more (outgoing s)
places_seen more s places =
    let put = length-map s.put buffer_of in
    let outbox = length-map s.outbox buffer_of in
    (omega (arith, put, outbox, places.0), omega (arith, put, outbox, places.1))
