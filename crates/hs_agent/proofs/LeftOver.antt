-- What is left at the end is what the model has left, each chunk as it came last.
use Rattle.std.proofs.Common.{◌≡◌, cond, List, [], ◌∷◌, ◌++◌, map, None, slice_get, refl, sym, ap, ◌∙◌}
use Rattle.hs_agent.proofs.Prelude.{ChunkStanding, Pinned, Reported, Evicted, Abandoned, standing_by, mark_of, left_of, fate_of, page_standing, Result, Ok, Err, IfOk, filter_map, flat_map, AllByRecursion, cons_option, option_to_list, map-append, all_append, all_front, all_back, chunks_left, Buffer, PlainAgentBook, Step, Taken, indexed_places, Placed, place_of, untagged, Kept, Holds, Point, IsKept, waiting_chunks}
use Rattle.hs_law_agent.specs.Standings.{Indexed}
use Rattle.hs_agent.specs.Leaving.{fate_by}
use Rattle.hs_agent.specs.Points.{book_kept, buffers_left}
use Rattle.hs_agent.proofs.OwnPlaces.{Traced, HasPlaces, have_places}

module _ {L : Type 0} (buffers : List (Buffer L)) where
  kept_untagged : (placeds : List (Placed L)) → AllByRecursion (IsKept buffers) placeds → map untagged placeds ≡ filter_map (slice_get buffers) (map place_of placeds)
  kept_untagged [] h = refl
  kept_untagged (placed ∷ placeds) h =
      ap (λ l. untagged placed ∷ l) (kept_untagged placeds h.1)
      ∙ ap (λ o. cons_option o (filter_map (slice_get buffers) (map place_of placeds))) (sym h.0)

places-left : {L : Type 0} → (taken : List Taken) (ts : List (Traced L)) → AllByRecursion (HasPlaces taken) ts → map place_of (chunks_left ts) ≡ flat_map (indexed_places taken) (map (λ (t : Traced L). t.trace) ts)
places-left taken [] h = refl
places-left taken (t ∷ ts) h =
    map-append place_of t.noted.chunks (chunks_left ts) ∙ (λ i. h.0 i ++ places-left taken ts h.1 i)

-- what follows from an answer
pub if_ok-then : {A E : Type 0} {P Q : A → Type 0} (r : Result A E) → ((x : A) → P x → Q x) → IfOk r P → IfOk r Q
if_ok-then (Ok x) f p = f x p
if_ok-then (Err e) f p = tt

-- the book of what is kept, with this log
abbrev pub book_in : {L : Type 0} → List Step → Kept L → PlainAgentBook
book_in log kept = record { node = record { 0 = kept.node }; log = log; standings = cond kept.keeps (map standing_by kept.standings) []; claims = cond kept.keeps kept.claims []; sent = cond kept.keeps kept.pages [] }

same_fate : (standing : ChunkStanding) → fate_by (left_of standing) ≡ fate_of standing
same_fate Indexed = refl
same_fate (Pinned group) = refl
same_fate (Reported group) = refl
same_fate (Evicted chunks traces) = refl
same_fate (Abandoned group) = refl

standings-noted : (taken : List Taken) → map standing_by (map mark_of taken) ≡ map page_standing taken
standings-noted [] = refl
standings-noted (chunk ∷ taken) = (λ i. record { client = chunk.sheet.header.client; page = chunk.sheet.header.page; fate = same_fate chunk.standing i } ∷ standings-noted taken i)

module _ {L : Type 0} (kept : Kept L) (point : Point L) (h : Holds kept point) where
  pub book_left : (log : List Step) → book_in log kept ≡ record (book_kept point.keeps point.node point.state) { log = log }
  book_left log i = record { node = record { 0 = h.node_is i }; log = log; standings = cond (h.keeps i) ((ap (map standing_by) h.standings ∙ standings-noted point.state.taken) i) []; claims = cond (h.keeps i) (h.claims i) []; sent = cond (h.keeps i) (h.pages i) [] }

  each_left : AllByRecursion (IsKept point.buffers) (chunks_left kept.index.touched ++ kept.hand)
  each_left =
      let P = IsKept point.buffers in
      let wait = all_front P (waiting_chunks kept h.memory.pinned) kept.hand h.each in
      all_append P (chunks_left kept.index.touched) kept.hand (all_front P (chunks_left kept.index.touched) _ wait) (all_back P (waiting_chunks kept h.memory.pinned) kept.hand h.each)

  pub buffers_are_left : point.offered ≡ None → map untagged (chunks_left kept.index.touched ++ kept.hand) ≡ buffers_left point
  buffers_are_left none =
      kept_untagged point.buffers (chunks_left kept.index.touched ++ kept.hand) each_left
      ∙ ap (filter_map (slice_get point.buffers))
      (map-append place_of (chunks_left kept.index.touched) kept.hand
      ∙ (λ i.
      (places-left point.state.taken kept.index.touched (have_places kept point h) ∙ ap (flat_map (indexed_places point.state.taken)) (sym h.index.touched.traces)) i
      ++ (ap (λ o. option_to_list o ++ map place_of kept.hand) (sym none) ∙ h.hand) i))
