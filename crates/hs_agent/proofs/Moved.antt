-- What stays of chunks of which some stand anew: their pages, and where they do not care how these stand, what passes a test.
use Rattle.std.proofs.Common.{◌≡◌, ℕ, ◌+◌, ◌≤◌, suc, Bool, true, false, cond, ◌&&◌, List, [], ◌∷◌, length, map, filter, Option, Some, None, slice_get, refl, sym, ap, subst, ◌∙◌, arith}
use Rattle.hs_agent.proofs.Prelude.{filter_map, cons_option, option_map, length-map, slice_get-map, TraceId, same_trace, PlainSettings, Sheet, page_bytes, used_of, moved_from, moved, is_among, places_from, indexed_places, indexed_count, is_indexed, is_indexed_of, trace_of, Taken, ChunkStanding, bytes_at, HasPage, Placed, place_of}

abbrev pub sheets : List Taken → List Sheet
sheets taken = map (λ (t : Taken). t.sheet) taken

sheets-moved_from : (k : ℕ) (places : List ℕ) (change : ChunkStanding → ChunkStanding) (taken : List Taken) → sheets (moved_from k places change taken) ≡ sheets taken
sheets-moved_from k places change [] = refl
sheets-moved_from k places change (t ∷ ts) = by (is_among places k) (sheets-moved_from (suc k) places change ts)
  where
    by : (b : Bool) → sheets (moved_from (suc k) places change ts) ≡ sheets ts → sheets (cond b (record t { standing = change t.standing }) t ∷ moved_from (suc k) places change ts) ≡ sheets (t ∷ ts)
    by true rest = ap (λ l. t.sheet ∷ l) rest
    by false rest = ap (λ l. t.sheet ∷ l) rest

-- each chunk keeps its page
pub sheets-moved : (places : List ℕ) (change : ChunkStanding → ChunkStanding) (taken : List Taken) → sheets (moved places change taken) ≡ sheets taken
sheets-moved places change taken = sheets-moved_from 0 places change taken

-- ---- what follows from the pages alone

module _ (old new : List Taken) (same : sheets new ≡ sheets old) where
  pub length-same : length new ≡ length old
  length-same = sym (length-map new (λ (t : Taken). t.sheet)) ∙ ap length same ∙ length-map old (λ (t : Taken). t.sheet)

  sheet_at : (place : ℕ) → option_map (λ (t : Taken). t.sheet) (slice_get new place) ≡ option_map (λ (t : Taken). t.sheet) (slice_get old place)
  sheet_at place = sym (slice_get-map (λ (t : Taken). t.sheet) new place) ∙ ap (λ l. slice_get l place) same ∙ slice_get-map (λ (t : Taken). t.sheet) old place

  bytes-same : (place : ℕ) → bytes_at new place ≡ bytes_at old place
  bytes-same place = by (slice_get new place) (slice_get old place) (sheet_at place)
    where
      by : (a b : Option Taken) → option_map (λ (t : Taken). t.sheet) a ≡ option_map (λ (t : Taken). t.sheet) b → option_map (λ (t : Taken). page_bytes t.sheet) a ≡ option_map (λ (t : Taken). page_bytes t.sheet) b
      by None None e = refl
      by (Some a) None e = cc
      by None (Some b) e = cc
      by (Some a) (Some b) e = let s : a.sheet ≡ b.sheet = cc in ap (λ s. Some (page_bytes s)) s

  pub pages-same : (places : List ℕ) → filter_map (bytes_at new) places ≡ filter_map (bytes_at old) places
  pages-same [] = refl
  pages-same (place ∷ places) = ap (λ o. cons_option o (filter_map (bytes_at new) places)) (bytes-same place) ∙ ap (cons_option (bytes_at old place)) (pages-same places)

  -- a chunk with its page has it still
  pub has_page-same : {L : Type 0} → (settings : PlainSettings) (placed : Placed L) → HasPage settings old placed → HasPage settings new placed
  has_page-same settings placed h = by (slice_get new (place_of placed)) refl (sheet_at (place_of placed) ∙ ap (option_map (λ (t : Taken). t.sheet)) h.at)
    where
      by : (found : Option Taken) → slice_get new (place_of placed) ≡ found → option_map (λ (t : Taken). t.sheet) found ≡ Some h.chunk.sheet → HasPage settings new placed
      by None e f = cc
      by (Some t) e f = let s : h.chunk.sheet ≡ t.sheet = cc in
          record { chunk = t; at = e; page = h.page ∙ ap Some s; size = subst (λ s. used_of s ≤ settings.size) s h.size }

-- ---- a test that the moved chunks pass as before

abbrev PassAlike : (Taken → Bool) → (ChunkStanding → ChunkStanding) → List ℕ → ℕ → List Taken → Type 0
PassAlike test change places k taken = (i : ℕ) (t : Taken) → slice_get taken i ≡ Some t → is_among places (k + i) ≡ true → test (record t { standing = change t.standing }) ≡ test t

module _ (test : Taken → Bool) (change : ChunkStanding → ChunkStanding) (places : List ℕ) where
  places-alike : (k : ℕ) (taken : List Taken) → PassAlike test change places k taken → places_from k test (moved_from k places change taken) ≡ places_from k test taken
  places-alike k [] alike = refl
  places-alike k (t ∷ ts) alike =
      ap (λ b. cond b (k ∷ places_from (suc k) test (moved_from (suc k) places change ts)) (places_from (suc k) test (moved_from (suc k) places change ts))) (by (is_among places k) refl)
      ∙ ap (λ l. cond (test t) (k ∷ l) l) (places-alike (suc k) ts (λ i u at among. alike (suc i) u at (ap (is_among places) (let e : k + suc i ≡ suc k + i = omega arith in e) ∙ among)))
    where
      by : (b : Bool) → is_among places k ≡ b → test (cond b (record t { standing = change t.standing }) t) ≡ test t
      by true e = alike 0 t refl (ap (is_among places) (let e : k + 0 ≡ k = omega arith in e) ∙ e)
      by false e = refl

length-places : (test : Taken → Bool) (k : ℕ) (taken : List Taken) → length (places_from k test taken) ≡ length (filter test taken)
length-places test k [] = refl
length-places test k (t ∷ ts) = by (test t) (length-places test (suc k) ts)
  where
    by : (b : Bool) → length (places_from (suc k) test ts) ≡ length (filter test ts) → length (cond b (k ∷ places_from (suc k) test ts) (places_from (suc k) test ts)) ≡ length (cond b (t ∷ filter test ts) (filter test ts))
    by true rest = ap suc rest
    by false rest = rest

-- what is indexed stays so, where no indexed chunk moves and no moved one is indexed
pub record MovesUnindexed (places : List ℕ) (change : ChunkStanding → ChunkStanding) (taken : List Taken) : Type 0 where
  pub alike : (i : ℕ) (t : Taken) → slice_get taken i ≡ Some t → is_among places i ≡ true → is_indexed (change t.standing) ≡ is_indexed t.standing

module _ (places : List ℕ) (change : ChunkStanding → ChunkStanding) (taken : List Taken) (moves : MovesUnindexed places change taken) where
  pub indexed-moved : (trace : TraceId) → indexed_places (moved places change taken) trace ≡ indexed_places taken trace
  indexed-moved trace =
      places-alike (is_indexed_of trace) change places 0 taken
      (λ i t at among. ap (λ b. b && same_trace trace (trace_of t)) (moves.alike i t at (ap (is_among places) (let e : i ≡ 0 + i = omega arith in e) ∙ among)))

  pub count-moved : indexed_count (moved places change taken) ≡ indexed_count taken
  count-moved =
      sym (length-places (λ (t : Taken). is_indexed t.standing) 0 (moved places change taken))
      ∙ ap length (places-alike (λ (t : Taken). is_indexed t.standing) change places 0 taken (λ i t at among. moves.alike i t at (ap (is_among places) (let e : i ≡ 0 + i = omega arith in e) ∙ among)))
      ∙ length-places (λ (t : Taken). is_indexed t.standing) 0 taken
