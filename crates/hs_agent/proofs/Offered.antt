-- What is kept when the first of the hand was offered, and when the pool answered, is what the model says then.
use Rattle.std.proofs.Common.{◌≡◌, ◌≢◌, ℕ, ◌+◌, ◌<◌, suc, zero, eq-eqb, Bool, true, false, List, [], ◌∷◌, ◌++◌, length, map, Option, Some, None, slice_get, slice_set, refl, sym, ap, subst, ◌∙◌, arith}
use Rattle.hs_agent.proofs.Prelude.{AllByRecursion, option_map_or, option_and_then, option_to_list, length-map, slice_get_within, Told, Step, Result, Ok, Err, IfOk, OnOk, IfSome, all_weaker, all_append, all_front, all_back, all_and, one_if, Buffer, buffer_of, buffer_in, Share, AgentState, Taken, count_of, IsInOnePlace, Given, note, step_of_answer, give_back, after_gave, Placed, place_of, placed_at, Kept, Holds, Point, IsKept, with_state, waiting_chunks, HasPage, AreLeft, Left, ChunkNote, behind, unoffered, back_at, answered}
use Rattle.std.proofs.lemmas.List.{length-set}
use Rattle.std.specs.Prelude.{IfNone}
use Rattle.hs_words.specs.declared.token.Held.{Held}
use Rattle.hs_law_agent.specs.State.{GivenPlace}
use Rattle.hs_agent.specs.Offering.{Offers, gone}
use Rattle.hs_agent.proofs.Parted.{unoffered-out}
use Rattle.hs_agent.proofs.OwnPlaces.{apart_from_offered}

-- ---- a write in a list

pub get-other : {X : Type 0} (xs : List X) (i j : ℕ) (x : X) → i ≢ j → slice_get (slice_set xs i x) j ≡ slice_get xs j
get-other [] i j x other = refl
get-other (y ∷ ys) zero zero x other = absurd (other refl)
get-other (y ∷ ys) zero (suc j) x other = refl
get-other (y ∷ ys) (suc i) zero x other = refl
get-other (y ∷ ys) (suc i) (suc j) x other = get-other ys i j x (λ e. other (ap suc e))

get-in : {X : Type 0} (xs : List X) (i : ℕ) (x : X) → i < length xs → slice_get (slice_set xs i x) i ≡ Some x
get-in [] i x within = absurd (omega (arith, within))
get-in (z ∷ zs) zero x within = refl
get-in (z ∷ zs) (suc i) x within = get-in zs i x (omega (arith, within))

-- ---- what does not touch the chunks

-- messages, gives, steps and shares
abbrev pub with_rest : List Told → List GivenPlace → List Step → List Share → AgentState → AgentState
with_rest said given log shares state = record state { said = said; given = given; log = log; shares = shares }

module _ {L : Type 0} where
  -- another chunk came back
  kept-instead : (buffers : List (Buffer L)) (place : ℕ) (buffer : Buffer L) (placed : Placed L) → IsKept buffers placed × (place ≢ place_of placed) → IsKept (slice_set buffers place buffer) placed
  kept-instead buffers place buffer placed h = get-other buffers place (place_of placed) buffer h.1 ∙ h.0

  -- what is kept does not speak of them
  pub holds-rest : (kept : Kept L) (point : Point L) (said : List Told) (given : List GivenPlace) (log : List Step) (shares : List Share) → Holds kept point
      → Holds kept (with_state (with_rest said given log shares point.state) point)
  holds-rest kept point said given log shares h = record {
    node_is = h.node_is;
    memory = h.memory;
    remembers = h.remembers;
    pins = let p = h.pins in
        record {
          node_is = p.node_is;
          rules = p.rules;
          most = p.most;
          claims = p.claims;
          pinned = p.pinned;
          groups = p.groups;
          abandoned = p.abandoned;
          tried = p.tried;
          admitted = p.admitted;
        };
    index = let i = h.index in
        record {
          threshold = i.threshold;
          most = i.most;
          touched = record { traces = i.touched.traces; apart = i.touched.apart; free = i.touched.free; places = i.touched.places; count = i.touched.count; crumbs = i.touched.crumbs };
        };
    sent = h.sent;
    offered = h.offered;
    hand = h.hand;
    again = h.again;
    keeps = h.keeps;
    lefts = h.lefts;
    untouched = h.untouched;
    standings = h.standings;
    claims = h.claims;
    pages = h.pages;
    buffers = h.buffers;
    each = h.each;
    paged = h.paged;
    few = h.few;
    fits = h.fits;
    reported = h.reported;
  }

  -- the same with another hand, other buffers, and another chunk offered
  rehanded : (kept : Kept L) (point : Point L) (h : Holds kept point) (hand : List (Placed L)) (offered : Option ℕ) (again : Bool) (lefts : List Left) (buffers : List (Buffer L)) (places : List ℕ)
      → option_to_list offered ++ map place_of hand ≡ places → length buffers ≡ length point.buffers
      → AllByRecursion (IsKept buffers) (waiting_chunks kept h.memory.pinned ++ hand)
      → AreLeft kept.standings (option_to_list offered ++ map place_of hand) lefts
      → AllByRecursion (HasPage point.settings point.state.taken) (unoffered offered again hand)
      → Holds (record kept { hand = hand; offered = offered; again = again; lefts = lefts }) (record point { state = record point.state { hand = places }; buffers = buffers; offered = offered; again = again })
  rehanded kept point h hand offered again lefts buffers places is came each left untouched = record {
    node_is = h.node_is;
    memory = h.memory;
    remembers = h.remembers;
    pins = let p = h.pins in
        record {
          node_is = p.node_is;
          rules = p.rules;
          most = p.most;
          claims = p.claims;
          pinned = p.pinned;
          groups = p.groups;
          abandoned = p.abandoned;
          tried = p.tried;
          admitted = p.admitted;
        };
    index = let i = h.index in
        record {
          threshold = i.threshold;
          most = i.most;
          touched = record { traces = i.touched.traces; apart = i.touched.apart; free = i.touched.free; places = i.touched.places; count = i.touched.count; crumbs = i.touched.crumbs };
        };
    sent = h.sent;
    offered = refl;
    hand = is;
    again = refl;
    keeps = h.keeps;
    lefts = left;
    untouched = untouched;
    standings = h.standings;
    claims = h.claims;
    pages = h.pages;
    buffers = came ∙ h.buffers;
    each = each;
    paged = h.paged;
    few = h.few;
    fits = h.fits;
    reported = h.reported;
  }

  -- ---- an offer

  module _ (kept : Kept L) (point : Point L) (h : Holds kept point) (one : (place : ℕ) → IsInOnePlace point.state place) (none : point.offered ≡ None) where
    abbrev pub first_of : Option ℕ
    first_of = slice_get point.state.hand 0

    pub in_hand : map place_of kept.hand ≡ point.state.hand
    in_hand = ap (λ o. option_to_list o ++ map place_of kept.hand) (sym none) ∙ h.hand

    -- the hand is empty
    pub none_first : kept.hand ≡ [] → first_of ≡ None
    none_first e = ap (λ l. slice_get l 0) (sym in_hand) ∙ ap (λ (l : List (Placed L)). slice_get (map place_of l) 0) e

    module _ (buffer : Buffer L) (new : Kept L) (offers : Offers kept buffer new) where
      is_first : first_of ≡ Some (place_of offers.first)
      is_first = ap (λ l. slice_get l 0) (sym in_hand) ∙ ap (λ (l : List (Placed L)). slice_get (map place_of l) 0) offers.was

      first_kept : IsKept point.buffers offers.first
      first_kept = (all_back (IsKept point.buffers) (waiting_chunks kept h.memory.pinned) (offers.first ∷ new.hand) (subst (λ hand. AllByRecursion (IsKept point.buffers) (waiting_chunks kept h.memory.pinned ++ hand)) offers.was h.each)).0

      -- it is handed out as it came last
      pub as_it_came : Some buffer ≡ option_and_then (λ place. slice_get point.buffers place) first_of
      as_it_came =
          ap Some offers.handed ∙ sym first_kept ∙ sym (ap (option_and_then (λ place. slice_get point.buffers place)) is_first)

      pub holds-offered : Holds new (record point { offered = first_of })
      holds-offered =
          let p = place_of offers.first in
          let wait : List (Placed L) = waiting_chunks kept h.memory.pinned in
          let each : AllByRecursion (IsKept point.buffers) (wait ++ offers.first ∷ new.hand) = subst (λ hand. AllByRecursion (IsKept point.buffers) (wait ++ hand)) offers.was h.each in
          let others : AllByRecursion (IsKept point.buffers) (wait ++ new.hand) =
          all_append (IsKept point.buffers) wait new.hand (all_front (IsKept point.buffers) wait (offers.first ∷ new.hand) each)
          (all_back (IsKept point.buffers) wait (offers.first ∷ new.hand) each).1 in
          let places : option_to_list new.offered ++ map place_of new.hand ≡ option_to_list kept.offered ++ map place_of kept.hand =
          ap (λ o. option_to_list o ++ map place_of new.hand) offers.offered ∙ sym (ap (map place_of) offers.was) ∙ sym (ap (λ o. option_to_list o ++ map place_of kept.hand) (h.offered ∙ none)) in
          let never : AllByRecursion (HasPage point.settings point.state.taken) new.hand =
          unoffered-out (HasPage point.settings point.state.taken) p kept.again offers.first new.hand
          (subst (λ (hand : List (Placed L)). AllByRecursion (HasPage point.settings point.state.taken) (unoffered None kept.again hand)) offers.was
          (subst (λ o. AllByRecursion (HasPage point.settings point.state.taken) (unoffered o kept.again kept.hand)) (h.offered ∙ none) h.untouched)) in
          let made : Holds (record kept { hand = new.hand; offered = new.offered; again = kept.again; lefts = kept.lefts }) (record point { offered = new.offered; again = kept.again }) =
          rehanded kept point h new.hand new.offered kept.again kept.lefts point.buffers point.state.hand
          (ap (λ o. option_to_list o ++ map place_of new.hand) offers.offered ∙ sym (ap (map place_of) offers.was) ∙ in_hand)
          refl others
          (subst (λ ps. AreLeft kept.standings ps kept.lefts) (sym places) h.lefts)
          (subst (λ o. AllByRecursion (HasPage point.settings point.state.taken) (unoffered o kept.again new.hand)) (sym offers.offered) never) in
          subst (λ o. Holds new (record point { offered = o })) (offers.offered ∙ sym is_first)
          (subst (λ k. Holds k (record point { offered = new.offered })) (sym offers.others) (subst (λ a. Holds (record kept { hand = new.hand; offered = new.offered }) (record point { offered = new.offered; again = a })) h.again made))

  -- ---- an answer

  module _ (kept : Kept L) (point : Point L) (h : Holds kept point) (one : (place : ℕ) → IsInOnePlace point.state place) (place : ℕ) (out : point.offered ≡ Some place) where
    in_front : place ∷ map place_of kept.hand ≡ point.state.hand
    in_front = ap (λ o. option_to_list o ++ map place_of kept.hand) (sym out) ∙ h.hand

    -- it was taken
    pub below : place < length point.state.taken
    below = by (slice_get point.state.taken place) refl
      where
        by : (found : Option Taken) → slice_get point.state.taken place ≡ found → place < length point.state.taken
        by (Some chunk) e = slice_get_within point.state.taken place chunk e
        by None e =
            let part = one place in
            let hand = ap (λ l. count_of l place) (sym in_front) ∙ ap (λ b. one_if b + count_of (map place_of kept.hand) place) (eq-eqb place place refl) in
            let none = ap (λ o. one_if (option_map_or (λ (c : Taken). true) o false)) e in
            absurd (omega (arith, part, hand, none))

    -- the first of the hand was given
    abbrev pub after_given : ℕ → Point L
    after_given stamp = record point { state = after_gave point.state (Given stamp); offered = None; again = false }

    -- what is left behind it
    behind_it : AreLeft kept.standings (place ∷ map place_of kept.hand) kept.lefts
    behind_it = subst (λ o. AreLeft kept.standings (option_to_list o ++ map place_of kept.hand) kept.lefts) (h.offered ∙ out) h.lefts

    others_left : (marks : List ChunkNote) (p : ℕ) (places : List ℕ) (lefts : List Left) → AreLeft marks (p ∷ places) lefts → AreLeft marks places (behind lefts)
    others_left marks p places [] all = absurd all
    others_left marks p places (left ∷ lefts) all = all.2

    never : AllByRecursion (HasPage point.settings point.state.taken) kept.hand
    never = subst (λ o. AllByRecursion (HasPage point.settings point.state.taken) (unoffered o kept.again kept.hand)) (h.offered ∙ out) h.untouched

    pub holds-given : (stamp : ℕ) → Holds (answered None kept) (after_given stamp)
    holds-given stamp =
        let made : Holds (gone kept) (record point { state = record point.state { hand = map place_of kept.hand }; offered = None; again = false }) =
        rehanded kept point h kept.hand None false (behind kept.lefts) point.buffers (map place_of kept.hand) refl refl h.each
        (others_left kept.standings place (map place_of kept.hand) kept.lefts behind_it) never in
        subst (λ hand. Holds (gone kept) (record point { state = note (step_of_answer (Given stamp)) (give_back stamp hand point.state); offered = None; again = false })) in_front
        (holds-rest (gone kept) (record point { state = record point.state { hand = map place_of kept.hand }; offered = None; again = false }) point.state.said
        (point.state.given ++ record { place = place; stamp = stamp } ∷ []) (point.state.log ++ step_of_answer (Given stamp) ∷ []) point.state.shares made)

    -- it came back
    pub holds-back : (buffer : Buffer L) (step : Step)
        → Holds (answered (Some buffer) kept) (record point { state = note step point.state; buffers = slice_set point.buffers place buffer; offered = None; again = true })
    holds-back buffer step =
        let wait : List (Placed L) = waiting_chunks kept h.memory.pinned in
        let back : Placed L = placed_at place buffer in
        let P = λ (placed : Placed L). IsKept point.buffers placed × (place ≢ place_of placed) in
        let Q = IsKept (slice_set point.buffers place buffer) in
        let apart = apart_from_offered kept point h one place out in
        let both : AllByRecursion P (wait ++ kept.hand) = all_and (IsKept point.buffers) (λ (placed : Placed L). place ≢ place_of placed) (wait ++ kept.hand) h.each apart in
        let still : AllByRecursion Q (wait ++ kept.hand) = all_weaker P Q (kept-instead point.buffers place buffer) (wait ++ kept.hand) both in
        let here : Q back = get-in point.buffers place buffer (subst (λ n. place < n) (sym h.buffers) below) in
        let each : AllByRecursion Q (wait ++ back ∷ kept.hand) = all_append Q wait (back ∷ kept.hand) (all_front Q wait kept.hand still) (here, all_back Q wait kept.hand still) in
        let made : Holds (back_at kept place buffer) (record point { state = record point.state { hand = place ∷ map place_of kept.hand }; buffers = slice_set point.buffers place buffer; offered = None; again = true }) =
        rehanded kept point h (back ∷ kept.hand) None true kept.lefts (slice_set point.buffers place buffer) (place ∷ map place_of kept.hand) refl
        (length-set point.buffers place buffer) each behind_it never in
        let noted : Holds (back_at kept place buffer) (record point { state = note step (record point.state { hand = place ∷ map place_of kept.hand }); buffers = slice_set point.buffers place buffer; offered = None; again = true }) =
        holds-rest (back_at kept place buffer) _ point.state.said point.state.given (point.state.log ++ step ∷ []) point.state.shares made in
        subst (λ o. Holds (option_map_or (λ p. back_at kept p buffer) o kept) (record point { state = note step point.state; buffers = slice_set point.buffers place buffer; offered = None; again = true })) (sym (h.offered ∙ out))
        (subst (λ hand. Holds (back_at kept place buffer) (record point { state = note step (record point.state { hand = hand }); buffers = slice_set point.buffers place buffer; offered = None; again = true })) in_front noted)

-- ---- both outcomes of an offer

abbrev pub next_chunk : {L : Type 0} → Point L → Option (Buffer L)
next_chunk point = option_and_then (λ place. slice_get point.buffers place) (slice_get point.state.hand 0)

-- what an offer says of the first of the hand, and of an empty hand
abbrev pub SaysFirst : {L : Type 0} {g : _} {E : Type 0} → Kept L → Kept L → Result (Option (Held L g)) E → Type 0
SaysFirst old new result = IfOk result (λ first. IfSome first (λ held. Offers old (buffer_of held) new))

abbrev pub SaysNone : {L : Type 0} {g : _} {E : Type 0} → Kept L → Kept L → Result (Option (Held L g)) E → Type 0
SaysNone old new result = IfOk result (λ first. IfNone first ((old.hand ≡ []) × (new ≡ old)))

module _ {L : Type 0} (old new : Kept L) (point : Point L) (h : Holds old point) (one : (place : ℕ) → IsInOnePlace point.state place) (none : point.offered ≡ None) where
  pub offers-first : {g : _} {E : Type 0} → (result : Result (Option (Held L g)) E) → SaysFirst old new result → SaysNone old new result → IfOk result (λ first. buffer_in {L = L} {g = g} first ≡ next_chunk point)
  offers-first (Err e) some empty = tt
  offers-first (Ok None) some empty = sym (ap (option_and_then (λ place. slice_get point.buffers place)) (none_first old point h one none empty.0))
  offers-first {g} (Ok (Some held)) some empty = as_it_came old point h one none (buffer_of {L = L} {g = g} held) new some

  pub offers-holds : {g : _} {E : Type 0} → (result : Result (Option (Held L g)) E) → SaysFirst old new result → SaysNone old new result → OnOk result (Holds new (record point { offered = slice_get point.state.hand 0 }))
  offers-holds (Err e) some empty = tt
  offers-holds (Ok None) some empty =
      subst (λ o. Holds new (record point { offered = o })) (none ∙ sym (none_first old point h one none empty.0)) (subst (λ k. Holds k point) (sym empty.1) h)
  offers-holds {g} (Ok (Some held)) some empty = holds-offered old point h one none (buffer_of {L = L} {g = g} held) new some

  pub offers-empty : {g : _} {E : Type 0} → (result : Result (Option (Held L g)) E) → SaysNone old new result → IfOk result (λ first. IfNone first (point.state.hand ≡ []))
  offers-empty (Err e) empty = tt
  offers-empty (Ok None) empty = sym (in_hand old point h one none) ∙ ap (map place_of) empty.0
  offers-empty (Ok (Some held)) empty = tt

-- ---- how many are in the hand

-- while none is offered the hand is all of the model's hand
pub hand_counts : {L : Type 0} (kept : Kept L) (point : Point L) → Holds kept point → point.offered ≡ None → length kept.hand ≡ length point.state.hand
hand_counts kept point h none =
    sym (length-map kept.hand place_of) ∙ ap (λ (o : Option ℕ). length (option_to_list o ++ map place_of kept.hand)) (sym none) ∙ ap length h.hand
