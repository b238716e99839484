-- That noting the fates of chunks one after another is standing them anew.
use Rattle.std.proofs.Common.{◌≡◌, ℕ, ◌+◌, ◌<◌, zero, suc, Bool, true, false, cond, ◌||◌, List, [], ◌∷◌, map, fold, Option, Some, None, slice_get, slice_set, nat_eq, eq-eqb, refl, sym, ap, ◌∙◌, arith}
use Rattle.hs_agent.proofs.Prelude.{option_map_or, ne_eqb, Left, ChunkNote, moved_from, moved, is_among, Taken, ChunkStanding, mark_of, left_of, with_left}

-- the first standing stays where a later one changes
pub with_left-later : (place : ℕ) (left : Option Left) (first : ChunkNote) (standings : List ChunkNote) → with_left (suc place) left (first ∷ standings) ≡ first ∷ with_left place left standings
with_left-later place left first standings = by (slice_get standings place)
  where
    by : (found : Option ChunkNote)
        → option_map_or (λ (standing : ChunkNote). first ∷ slice_set standings place (record standing { left = left })) found (first ∷ standings)
        ≡ first ∷ option_map_or (λ (standing : ChunkNote). slice_set standings place (record standing { left = left })) found standings
    by None = refl
    by (Some standing) = refl

module _ (stands : ChunkStanding) where
  abbrev change : ChunkStanding → ChunkStanding
  change _ = stands

  -- a place before all of these chunks moves none of them
  earlier : (place k : ℕ) (taken : List Taken) → place < k → moved_from k (place ∷ []) change taken ≡ taken
  earlier place k [] below = refl
  earlier place k (t ∷ ts) below =
      ap (λ b. cond (b || false) (record t { standing = stands }) t ∷ moved_from (suc k) (place ∷ []) change ts) (ne_eqb place k (λ e. absurd (omega (arith, e, below))))
      ∙ ap (λ l. t ∷ l) (earlier place (suc k) ts (omega arith))

  moved_one_from : (k p : ℕ) (taken : List Taken) → map mark_of (moved_from k ((k + p) ∷ []) change taken) ≡ with_left p (left_of stands) (map mark_of taken)
  moved_one_from k p [] = refl
  moved_one_from k zero (t ∷ ts) =
      ap (λ b. map mark_of (cond (b || false) (record t { standing = stands }) t ∷ moved_from (suc k) ((k + 0) ∷ []) change ts)) (eq-eqb (k + 0) k (omega arith))
      ∙ ap (λ l. mark_of (record t { standing = stands }) ∷ map mark_of l) (earlier (k + 0) (suc k) ts (omega arith))
  moved_one_from k (suc p) (t ∷ ts) =
      ap (λ b. map mark_of (cond (b || false) (record t { standing = stands }) t ∷ moved_from (suc k) ((k + suc p) ∷ []) change ts)) (ne_eqb (k + suc p) k (λ e. absurd (omega (arith, e))))
      ∙ ap (λ n. mark_of t ∷ map mark_of (moved_from (suc k) (n ∷ []) change ts)) (let e : k + suc p ≡ suc k + p = omega arith in e)
      ∙ ap (λ l. mark_of t ∷ l) (moved_one_from (suc k) p ts)
      ∙ sym (with_left-later p (left_of stands) (mark_of t) (map mark_of ts))

  pub moved_one : (place : ℕ) (taken : List Taken) → map mark_of (moved (place ∷ []) change taken) ≡ with_left place (left_of stands) (map mark_of taken)
  moved_one place taken = ap (λ n. map mark_of (moved (n ∷ []) change taken)) (let e : place ≡ 0 + place = omega arith in e) ∙ moved_one_from 0 place taken

  -- one place, and then the others
  moved_more_from : (k place : ℕ) (places : List ℕ) (taken : List Taken) → moved_from k (place ∷ places) change taken ≡ moved_from k places change (moved_from k (place ∷ []) change taken)
  moved_more_from k place places [] = refl
  moved_more_from k place places (t ∷ ts) = by (nat_eq place k) (is_among places k) (moved_more_from (suc k) place places ts)
    where
      by : (first later : Bool) → moved_from (suc k) (place ∷ places) change ts ≡ moved_from (suc k) places change (moved_from (suc k) (place ∷ []) change ts)
          → cond (first || later) (record t { standing = stands }) t ∷ moved_from (suc k) (place ∷ places) change ts
          ≡ cond later (record (cond (first || false) (record t { standing = stands }) t) { standing = stands }) (cond (first || false) (record t { standing = stands }) t) ∷ moved_from (suc k) places change (moved_from (suc k) (place ∷ []) change ts)
      by true true rest = ap (λ l. record t { standing = stands } ∷ l) rest
      by true false rest = ap (λ l. record t { standing = stands } ∷ l) rest
      by false true rest = ap (λ l. record t { standing = stands } ∷ l) rest
      by false false rest = ap (λ l. t ∷ l) rest

  moved_none : (k : ℕ) (taken : List Taken) → moved_from k [] change taken ≡ taken
  moved_none k [] = refl
  moved_none k (t ∷ ts) = ap (λ l. t ∷ l) (moved_none (suc k) ts)

  -- the fates noted at these places, one after another
  pub fates-moved : (places : List ℕ) (taken : List Taken)
      → fold (λ standings place. with_left place (left_of stands) standings) (map mark_of taken) places ≡ map mark_of (moved places change taken)
  fates-moved [] taken = ap (map mark_of) (sym (moved_none 0 taken))
  fates-moved (place ∷ places) taken =
      ap (λ standings. fold (λ ss p. with_left p (left_of stands) ss) standings places) (sym (moved_one place taken))
      ∙ fates-moved places (moved (place ∷ []) change taken)
      ∙ ap (map mark_of) (sym (moved_more_from 0 place places taken))
