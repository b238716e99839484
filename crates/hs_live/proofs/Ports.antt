-- Receivers by the number of their client.
use Rattle.std.proofs.Common.{◌≡◌, ℕ, ◌<◌, List, [], ◌∷◌, ◌++◌, length, map, set, get_or, Option, Some, None, inl, inr, refl, sym, ap, ap₂, ◌∙◌, subst, length-set}
use Rattle.hs_live.proofs.Prelude.{map-append, length-map, same_Some, slice_get-map, slice_get_within, slice_get, option_map, lent, lent_is, lent_from, Held, Buffer, buffer_of, buffer_in, Outgoing, IsBeginning, OneBegins, Leased, Giving, Key, outgoing, incoming, IsEnd, IsMate, ReceivesAt, IsOf}
use Rattle.std.proofs.lemmas.List.{set-get_or}
use Rattle.std.specs.Prelude.{IfSome, IfNone}
use Rattle.hs_base.proofs.Places.{get_set_cases, map_set}
use Rattle.hs_link.specs.Contents.{Incoming, IsSameReceiver, Contains}
use Rattle.hs_live.specs.Live.{hears, is_told, MeetAt}
use Rattle.hs_live.specs.Calls.{AreOf}
use Rattle.hs_live.proofs.Senders.{map_begins, map_one_begins}

-- ---- a receiver that was lent

module _ {T F : Type 0} where
  pub received_at : (receivers now : List (Incoming T F)) (number : ℕ) (default r' : Incoming T F) (result : Option T) → now ≡ receivers → number < length receivers
      → IsSameReceiver (get_or now number default) r'
      → IfSome result (λ item. (r'.received ≡ (get_or now number default).received ++ item ∷ []) × OneBegins r'.received r'.told)
      → IfNone result ((r' ≡ get_or now number default) × IsBeginning (get_or now number default).told (get_or now number default).received)
      → ReceivesAt number receivers result (lent receivers now number r')
  received_at receivers now number default r' (Some item) same within is some none =
      (get_or now number default, r', lent_from receivers now number default same within, lent_is receivers now number r' same, is, some.0, some.1)
  received_at receivers now number default r' None same within is some none =
      let back : set receivers number (get_or now number default) ≡ receivers = ap (λ (l : List (Incoming T F)). set receivers number (get_or l number default)) same ∙ set-get_or receivers number default in
      (get_or now number default, lent_from receivers now number default same within, lent_is receivers now number r' same ∙ ap (λ r. set receivers number r) none.0 ∙ back, none.1)

  pub met_at : (receivers now : List (Incoming T F)) (number : ℕ) (default : Incoming T F) (s s₁ s₂ : Outgoing T F) (r₁ r₂ : Incoming T F) → now ≡ receivers → IsMate number receivers s
      → s₁ ≡ s → r₁ ≡ is_told (get_or now number default) s → Contains s (get_or now number default) × ((get_or now number default).key ≡ s.key) → r₂ ≡ r₁ → s₂ ≡ hears s₁ r₁
      → MeetAt number receivers s (lent receivers now number r₂) s₂
  met_at receivers now number default s s₁ s₂ r₁ r₂ same mate sender told contents receiver heard =
      let within : number < length receivers = slice_get_within receivers number mate.0 mate.1 in
      record {
        receiver = get_or now number default;
        end = lent_from receivers now number default same within;
        receivers_are = lent_is receivers now number r₂ same ∙ ap (λ r. set receivers number r) (receiver ∙ told);
        sender_is = heard ∙ ap₂ (λ o r. hears o r) sender told;
        contents = contents.0;
        keys = contents.1;
      }

  pub heard_room : (s s' : Outgoing T F) (r : Incoming T F) → s' ≡ hears s r → s'.room ≡ s.room
  heard_room s s' r e = ap (λ (o : Outgoing T F). o.room) e

-- ---- what is true of the receivers of a port

of_set : {T : Type 0} (giver : Giving) (receivers : List (Incoming T Key)) (number : ℕ) (r r' : Incoming T Key) → IsEnd number receivers r → r'.key ≡ r.key → AreOf giver receivers → AreOf giver (set receivers number r')
of_set {T} giver receivers number r r' end key are = λ other x found.
    elim (get_set_cases receivers number other r r' x end found) [
      | inl h ↦
          let same : x.key ≡ r.key = ap (λ (y : Incoming T Key). y.key) (sym h.1) ∙ key in
          let there : IsEnd other receivers r = ap (λ n. slice_get receivers n) (sym h.0) ∙ end in
          subst (λ (k : Key). IsOf giver other k) (sym same) (are other r there)
      | inr h ↦ are other x h.1
    ]

pub record StillOf {T : Type 0} (giver : Giving) (receivers receivers' : List (Incoming T Key)) : Type 0 where
  pub are : AreOf giver receivers'
  pub count : length receivers' ≡ length receivers

pub of_received : {T : Type 0} (giver : Giving) (receivers receivers' : List (Incoming T Key)) (number : ℕ) (item : Option T) → AreOf giver receivers → ReceivesAt number receivers item receivers' → StillOf giver receivers receivers'
of_received {T} giver receivers receivers' number (Some item) are h =
    record {
      are = subst (λ (l : List (Incoming T Key)). AreOf giver l) (sym h.3) (of_set giver receivers number h.0 h.1 h.2 h.4.1 are);
      count = ap length h.3 ∙ length-set receivers number h.1;
    }
of_received {T} giver receivers receivers' number None are h = record { are = subst (λ (l : List (Incoming T Key)). AreOf giver l) (sym h.2) are; count = ap length h.2 }

pub of_met : {T : Type 0} (giver giver' : Giving) (receivers receivers' : List (Incoming T Key)) (number : ℕ) (s s' : Outgoing T Key) → giver'.pool ≡ giver.pool → giver'.size ≡ giver.size → AreOf giver receivers → MeetAt number receivers s receivers' s'
    → StillOf giver' receivers receivers'
of_met {T} giver giver' receivers receivers' number s s' pool size are h =
    let told = is_told h.receiver s in
    let here : AreOf giver receivers' = subst (λ (l : List (Incoming T Key)). AreOf giver l) (sym h.receivers_are) (of_set giver receivers number h.receiver told h.end refl are) in
    record {
      are = λ other x found. let is = here other x found in record { pool = is.pool ∙ sym pool; size = is.size ∙ sym size; number_is = is.number_is };
      count = ap length h.receivers_are ∙ length-set receivers number told;
    }

-- ---- chunks are seen as buffers

pub end_buffers : {g : _} (receivers : List (Incoming (Held Leased g) Key)) (number : ℕ) (r : Incoming (Held Leased g) Key) → IsEnd number receivers r → IsEnd number (map incoming receivers) (incoming r)
end_buffers receivers number r end = slice_get-map incoming receivers number ∙ ap (option_map incoming) end

pub received_buffers : {g : _} (receivers receivers' : List (Incoming (Held Leased g) Key)) (number : ℕ) (item : Option (Held Leased g)) → ReceivesAt number receivers item receivers'
    → ReceivesAt number (map incoming receivers) (buffer_in item) (map incoming receivers')
received_buffers receivers receivers' number (Some item) h = (
  incoming h.0,
  incoming h.1,
  end_buffers receivers number h.0 h.2,
  ap (map incoming) h.3 ∙ map_set incoming receivers number h.1,
  (h.4.0, h.4.1, ap (map buffer_of) h.4.2),
  ap (map buffer_of) h.5 ∙ map-append buffer_of h.0.received (item ∷ []),
  map_one_begins buffer_of h.1.received h.1.told h.6,
)
received_buffers receivers receivers' number None h = (incoming h.0, end_buffers receivers number h.0 h.1, ap (map incoming) h.2, map_begins buffer_of h.0.told h.0.received h.3)

pub fact_of_buffers : {g : _} (giver : Giving) (receivers : List (Incoming (Held Leased g) Key)) (number : ℕ) (r : Incoming (Held Leased g) Key) → AreOf giver (map incoming receivers) → IsEnd number receivers r → IsOf giver number r.key
fact_of_buffers giver receivers number r are end = are number (incoming r) (end_buffers receivers number r end)

contains_buffers : {g : _} (s : Outgoing (Held Leased g) Key) (r : Incoming (Held Leased g) Key) → Contains s r → Contains (outgoing s) (incoming r)
contains_buffers s r h =
    let put : map buffer_of s.put ≡ map buffer_of r.received ++ map buffer_of h.0 = ap (map buffer_of) h.2 ∙ map-append buffer_of r.received h.0 in (
      map buffer_of h.0,
      sym (map-append buffer_of s.put s.outbox) ∙ ap (map buffer_of) h.1 ∙ map-append buffer_of r.received (h.0 ++ s.outbox) ∙ ap (λ l. map buffer_of r.received ++ l) (map-append buffer_of h.0 s.outbox),
      put,
    )

pub met_buffers : {g : _} (receivers receivers' : List (Incoming (Held Leased g) Key)) (number : ℕ) (s s' : Outgoing (Held Leased g) Key) → MeetAt number receivers s receivers' s'
    → MeetAt number (map incoming receivers) (outgoing s) (map incoming receivers') (outgoing s')
met_buffers receivers receivers' number s s' h =
    let count : length (map buffer_of h.receiver.received) ≡ length h.receiver.received = length-map h.receiver.received buffer_of in
    record {
      receiver = incoming h.receiver;
      end = end_buffers receivers number h.receiver h.end;
      receivers_are = ap (map incoming) h.receivers_are ∙ map_set incoming receivers number (is_told h.receiver s);
      sender_is = ap outgoing h.sender_is ∙ ap (λ n. let o : Outgoing (Buffer Leased) Key = record (outgoing s) { taken = n } in o) (sym count);
      contents = contains_buffers s h.receiver h.contents;
      keys = h.keys;
    }

-- a mate that is seen so is one
pub mate_of_buffers : {g : _} (receivers : List (Incoming (Held Leased g) Key)) (number : ℕ) (s : Outgoing (Held Leased g) Key) → IsMate number (map incoming receivers) (outgoing s) → IsMate number receivers s
mate_of_buffers receivers number s h = from (slice_get receivers number) refl
  where
    from : (found : Option _) → slice_get receivers number ≡ found → IsMate number receivers s
    from None none = let no : slice_get (map incoming receivers) number ≡ None = slice_get-map incoming receivers number ∙ ap (option_map incoming) none in absurd (let some = h.1 in cc)
    from (Some r) some =
        let same : incoming r ≡ h.0 = same_Some (incoming r) h.0 (sym (end_buffers receivers number r some) ∙ h.1) in
        (r, some, ap (λ (i : Incoming (Buffer Leased) Key). i.link) same ∙ h.2)
