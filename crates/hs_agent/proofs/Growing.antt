-- What stays where a chunk more was taken.
use Rattle.std.proofs.Common.{◌≡◌, ℕ, ◌<◌, List, [], ◌∷◌, ◌++◌, length, Option, Some, None, slice_get, refl, ap, ◌∙◌}
use Rattle.hs_agent.proofs.Prelude.{filter_map, AllByRecursion, cons_option, option_map, option_and_then, Left, Group, ChunkNote, PlainSettings, page_bytes, Buffer, Taken, pinning_group, pinned_for, bytes_at, Placed, place_of, IsKept, HasPage, with_left}
use Rattle.hs_base.proofs.Places.{get_front, get_front_same}
use Rattle.hs_agent.proofs.NotedFates.{with_left-later}

pub is_kept-front : {L : Type 0} (buffers others : List (Buffer L)) (placed : Placed L) → IsKept buffers placed → IsKept (buffers ++ others) placed
is_kept-front buffers others placed came = get_front buffers others (place_of placed) _ came

pub has_page-front : {L : Type 0} → (settings : PlainSettings) (taken more : List Taken) (placed : Placed L) → HasPage settings taken placed → HasPage settings (taken ++ more) placed
has_page-front settings taken more placed h = record { chunk = h.chunk; at = get_front taken more (place_of placed) h.chunk h.at; page = h.page; size = h.size }

pub pages-front : (taken more : List Taken) (reported : List ℕ) → AllByRecursion (λ (place : ℕ). place < length taken) reported → filter_map (bytes_at (taken ++ more)) reported ≡ filter_map (bytes_at taken) reported
pages-front taken more [] h = refl
pages-front taken more (place ∷ reported) h =
    ap (λ o. cons_option (option_map (λ (chunk : Taken). page_bytes chunk.sheet) o) (filter_map (bytes_at (taken ++ more)) reported)) (get_front_same taken more place h.0)
    ∙ ap (cons_option (bytes_at taken place)) (pages-front taken more reported h.1)

pub pinned_for-front : (taken more : List Taken) (place : ℕ) (group : Group) → pinned_for taken place ≡ Some group → pinned_for (taken ++ more) place ≡ Some group
pinned_for-front taken more place group e = by (slice_get taken place) refl e
  where
    by : (o : Option Taken) → slice_get taken place ≡ o → option_and_then (λ (t : Taken). pinning_group t.standing) o ≡ Some group → pinned_for (taken ++ more) place ≡ Some group
    by None at f = cc
    by (Some t) at f = ap (option_and_then (λ (t : Taken). pinning_group t.standing)) (get_front taken more place t at) ∙ f

-- the fate of the last one is noted
pub with_left-last : (left : Option Left) (standings : List ChunkNote) (last : ChunkNote) → with_left (length standings) left (standings ++ last ∷ []) ≡ standings ++ record last { left = left } ∷ []
with_left-last left [] last = refl
with_left-last left (first ∷ standings) last = with_left-later (length standings) left first (standings ++ last ∷ []) ∙ ap (λ l. first ∷ l) (with_left-last left standings last)
