-- That what the index lets go, and what it keeps, is what the model does.
use Rattle.std.proofs.Common.{◌≡◌, ℕ, ◌+◌, ◌≤◌, Bool, true, false, cond, ◌||◌, List, [], ◌∷◌, ◌++◌, length, map, fold, Some, nat_lt, refl, sym, ap, subst, ◌∙◌, arith, append-nil}
use Rattle.hs_agent.proofs.Prelude.{find, AllByRecursion, option_map_or, append_assoc, map-append, length-map, fold-append, sum_by-cons, map-map, all_append, all_front, all_back, TraceId, Group, ChunkNote, PlainSettings, Indexed, Leaving, chunk_count, count_chunks, chunks_left, kept, evicted, is_of, nothing, Claim, indexed_places, indexed_count, pinned_for, Evicted, AgentState, evicted_of, mark_of, left_of, same_trace-refl, Tagged, Placed, place_of, IsIndexed, with_left}
use Rattle.hs_index.specs.Index.{leaving, is_over}
use Rattle.hs_law_agent.specs.Evicting as model
use Rattle.hs_agent.proofs.Indexing.{indexed-evicted}
use Rattle.hs_agent.proofs.Moved.{sheets, sheets-moved}
use Rattle.hs_agent.proofs.Moving.{pinned_for-leaving}
use Rattle.hs_agent.proofs.NotedFates.{fates-moved}

abbrev Traced : Type 0 → Type 0
Traced L = Indexed (Tagged L)

abbrev traces_of : {L : Type 0} → List (Traced L) → List TraceId
traces_of {L} ts = map (λ (t : Traced L). t.trace) ts

-- the fate of a chunk that leaves is noted
abbrev pub note_leaving : {L : Type 0} → List ChunkNote → Leaving (Tagged L) → List ChunkNote
note_leaving standings l = with_left (place_of l.buffer) (Some (evicted_of l.chunks l.traces)) standings

noted_of_trace : {L : Type 0} → (chunks traces : ℕ) (standings : List ChunkNote) (buffers : List (Placed L))
    → fold note_leaving standings (map (leaving chunks traces) buffers) ≡ fold (λ ss place. with_left place (Some (evicted_of chunks traces)) ss) standings (map place_of buffers)
noted_of_trace chunks traces standings [] = refl
noted_of_trace chunks traces standings (b ∷ bs) = noted_of_trace chunks traces (note_leaving standings (leaving chunks traces b)) bs

module _ (settings : PlainSettings) (claims : List Claim) where
  abbrev stay : {L : Type 0} → List (Traced L) → List (Traced L)
  stay ts = kept settings.threshold settings.traces ts

  abbrev go : {L : Type 0} → List (Traced L) → List (Leaving (Tagged L))
  go ts = evicted settings.threshold settings.traces ts

  abbrev over : {L : Type 0} → List (Traced L) → Bool
  over ts = is_over settings.threshold settings.traces ts

  -- what an eviction leaves in the model, where these traces were indexed
  pub record HasEvicted {L : Type 0} (old new : AgentState) (ts : List (Traced L)) : Type 0 where
    pub indexed : IsIndexed claims new (stay ts)
    pub hand : new.hand ≡ old.hand ++ map (λ (l : Leaving (Tagged L)). place_of l.buffer) (go ts)
    pub noted : fold note_leaving (map mark_of old.taken) (go ts) ≡ map mark_of new.taken
    pub pages : sheets new.taken ≡ sheets old.taken
    pub pinned : (place : ℕ) (group : Group) → pinned_for old.taken place ≡ Some group → pinned_for new.taken place ≡ Some group
    pub others : new ≡ record old { taken = new.taken; touched = new.touched; crumbs = new.crumbs; hand = new.hand }

  over_same : {L : Type 0} → (ts : List (Traced L)) (state : AgentState) → IsIndexed claims state ts → model.is_over settings state ≡ over ts
  over_same {L} ts state i =
      ap (λ n. nat_lt settings.threshold n || nat_lt settings.traces (length state.touched)) i.count
      ∙ ap (λ n. nat_lt settings.threshold (count_chunks ts) || nat_lt settings.traces n) (ap length i.traces ∙ length-map ts (λ (t : Traced L). t.trace))

  nobody : {L : Type 0} → (ts : List (Traced L)) (state : AgentState) → stay ts ≡ ts → go ts ≡ [] → IsIndexed claims state ts → HasEvicted state state ts
  nobody {L} ts state stays none i = record {
    indexed = subst (IsIndexed claims state) (sym stays) i;
    hand = sym (append-nil state.hand) ∙ ap (λ l. state.hand ++ map (λ (l' : Leaving (Tagged L)). place_of l'.buffer) l) (sym none);
    noted = ap (fold note_leaving (map mark_of state.taken)) none;
    pages = refl;
    pinned = λ place group e. e;
    others = refl;
  }

  -- the first trace goes, and then others
  one_more : {L : Type 0} → (t : Traced L) (ts : List (Traced L)) (state new : AgentState) → IsIndexed claims state (t ∷ ts) → over (t ∷ ts) ≡ true
      → HasEvicted (model.evict_trace t.trace (traces_of ts) state) new ts → HasEvicted state new (t ∷ ts)
  one_more {L} t ts state new i o more =
      let n = count_chunks (t ∷ ts) in
      let m = length (t ∷ ts) in
      let stays : stay (t ∷ ts) ≡ stay ts = ap (λ b. cond b (stay ts) (t ∷ ts)) o in
      let goes : go (t ∷ ts) ≡ map (leaving n m) t.noted.chunks ++ go ts = ap (λ b. cond b (map (leaving n m) t.noted.chunks ++ go ts) []) o in
      let own : map place_of t.noted.chunks ≡ indexed_places state.taken t.trace =
      ap (λ b. map place_of (option_map_or (λ (u : Traced L). u.noted) (cond b (Some t) (find (is_of t.trace) ts)) nothing).chunks) (sym (same_trace-refl t.trace)) ∙ i.places t.trace in
      let counts : (λ (a b : ℕ). fold (λ ss place. with_left place (Some (evicted_of a b)) ss) (map mark_of state.taken) (indexed_places state.taken t.trace)) n m
      ≡ fold (λ ss place. with_left place (left_of (Evicted (indexed_count state.taken) (length state.touched))) ss) (map mark_of state.taken) (indexed_places state.taken t.trace) =
      λ k. fold (λ ss place. with_left place (Some (evicted_of (sym i.count k) (sym (ap length i.traces ∙ length-map (t ∷ ts) (λ (u : Traced L). u.trace)) k))) ss) (map mark_of state.taken) (indexed_places state.taken t.trace) in
      record {
        indexed = subst (IsIndexed claims new) (sym stays) more.indexed;
        hand =
            more.hand
            ∙ ap (λ l. (state.hand ++ l) ++ map (λ (l' : Leaving (Tagged L)). place_of l'.buffer) (go ts)) (sym own)
            ∙ append_assoc state.hand (map place_of t.noted.chunks) (map (λ (l' : Leaving (Tagged L)). place_of l'.buffer) (go ts))
            ∙ ap (λ l. state.hand ++ l)
            (sym (ap (map (λ (l' : Leaving (Tagged L)). place_of l'.buffer)) goes
            ∙ map-append (λ (l' : Leaving (Tagged L)). place_of l'.buffer) (map (leaving n m) t.noted.chunks) (go ts)
            ∙ ap (λ l. l ++ map (λ (l' : Leaving (Tagged L)). place_of l'.buffer) (go ts)) (map-map (λ (l' : Leaving (Tagged L)). place_of l'.buffer) (leaving n m) t.noted.chunks)));
        noted =
            ap (fold note_leaving (map mark_of state.taken)) goes
            ∙ fold-append note_leaving (map mark_of state.taken) (map (leaving n m) t.noted.chunks) (go ts)
            ∙ ap (λ ss. fold note_leaving ss (go ts))
            (noted_of_trace n m (map mark_of state.taken) t.noted.chunks
            ∙ ap (fold (λ ss place. with_left place (Some (evicted_of n m)) ss) (map mark_of state.taken)) own
            ∙ counts
            ∙ fates-moved (Evicted (indexed_count state.taken) (length state.touched)) (indexed_places state.taken t.trace) state.taken)
            ∙ more.noted;
        pages = more.pages ∙ sheets-moved (indexed_places state.taken t.trace) (λ _. Evicted (indexed_count state.taken) (length state.touched)) state.taken;
        pinned = λ place group e. more.pinned place group (pinned_for-leaving t.trace (λ _. Evicted (indexed_count state.taken) (length state.touched)) state.taken place group e);
        others = more.others;
      }

  evicts_from : {L : Type 0} → (ts : List (Traced L)) (state : AgentState) → IsIndexed claims state ts → HasEvicted state (model.evict_from settings (traces_of ts) state) ts
  evicts_from [] state i = nobody [] state refl refl i
  evicts_from (t ∷ ts) state i =
      by (over (t ∷ ts)) refl (over_same (t ∷ ts) state i) (evicts_from ts (model.evict_trace t.trace (traces_of ts) state) (indexed-evicted claims t ts state i))
    where
      by : (b : Bool) → over (t ∷ ts) ≡ b → model.is_over settings state ≡ over (t ∷ ts)
          → HasEvicted (model.evict_trace t.trace (traces_of ts) state) (model.evict_from settings (traces_of ts) (model.evict_trace t.trace (traces_of ts) state)) ts
          → HasEvicted state (model.evict_from settings (traces_of (t ∷ ts)) state) (t ∷ ts)
      by true e same more =
          subst (λ b. HasEvicted state (cond b (model.evict_from settings (traces_of ts) (model.evict_trace t.trace (traces_of ts) state)) state) (t ∷ ts)) (sym (same ∙ e)) (one_more t ts state _ i e more)
      by false e same more =
          subst (λ b. HasEvicted state (cond b (model.evict_from settings (traces_of ts) (model.evict_trace t.trace (traces_of ts) state)) state) (t ∷ ts)) (sym (same ∙ e))
          (nobody (t ∷ ts) state (ap (λ b. cond b (stay ts) (t ∷ ts)) e) (ap (λ b. cond b (map (leaving (count_chunks (t ∷ ts)) (length (t ∷ ts))) t.noted.chunks ++ go ts) []) e) i)

  -- an eviction is the same in the model and in the index
  pub same_evicted : {L : Type 0} → (state : AgentState) (ts : List (Traced L)) → IsIndexed claims state ts → HasEvicted state (model.evict settings state) ts
  same_evicted state ts i = subst (λ traces. HasEvicted state (model.evict_from settings traces state) ts) (sym i.traces) (evicts_from ts state i)

-- ---- which chunks stay and which go

module _ {L : Type 0} (P : Placed L → Type 0) (threshold most : ℕ) where
  pub all-kept : (ts : List (Traced L)) → AllByRecursion P (chunks_left ts) → AllByRecursion P (chunks_left (kept threshold most ts))
  all-kept [] h = tt
  all-kept (t ∷ ts) h = by (is_over threshold most (t ∷ ts)) (all-kept ts (all_back P t.noted.chunks (chunks_left ts) h))
    where
      by : (b : Bool) → AllByRecursion P (chunks_left (kept threshold most ts)) → AllByRecursion P (chunks_left (cond b (kept threshold most ts) (t ∷ ts)))
      by true rest = rest
      by false rest = h

  all-leaving : (chunks traces : ℕ) (buffers : List (Placed L)) → AllByRecursion P buffers → AllByRecursion P (map (λ (l : Leaving (Tagged L)). l.buffer) (map (leaving chunks traces) buffers))
  all-leaving chunks traces [] h = tt
  all-leaving chunks traces (b ∷ bs) h = (h.0, all-leaving chunks traces bs h.1)

  pub all-evicted : (ts : List (Traced L)) → AllByRecursion P (chunks_left ts) → AllByRecursion P (map (λ (l : Leaving (Tagged L)). l.buffer) (evicted threshold most ts))
  all-evicted [] h = tt
  all-evicted (t ∷ ts) h = by (is_over threshold most (t ∷ ts)) (all-evicted ts (all_back P t.noted.chunks (chunks_left ts) h))
    where
      by : (b : Bool) → AllByRecursion P (map (λ (l : Leaving (Tagged L)). l.buffer) (evicted threshold most ts))
          → AllByRecursion P (map (λ (l : Leaving (Tagged L)). l.buffer) (cond b (map (leaving (count_chunks (t ∷ ts)) (length (t ∷ ts))) t.noted.chunks ++ evicted threshold most ts) []))
      by true rest =
          subst (AllByRecursion P) (sym (map-append (λ (l : Leaving (Tagged L)). l.buffer) (map (leaving (count_chunks (t ∷ ts)) (length (t ∷ ts))) t.noted.chunks) (evicted threshold most ts)))
          (all_append P (map (λ (l : Leaving (Tagged L)). l.buffer) (map (leaving (count_chunks (t ∷ ts)) (length (t ∷ ts))) t.noted.chunks)) (map (λ (l : Leaving (Tagged L)). l.buffer) (evicted threshold most ts))
          (all-leaving (count_chunks (t ∷ ts)) (length (t ∷ ts)) t.noted.chunks (all_front P t.noted.chunks (chunks_left ts) h)) rest)
      by false rest = tt

pub count-kept : {L : Type 0} → (threshold most : ℕ) (ts : List (Traced L)) → count_chunks (kept threshold most ts) ≤ count_chunks ts
count-kept threshold most [] = omega arith
count-kept {L} threshold most (t ∷ ts) = by (is_over threshold most (t ∷ ts)) (count-kept threshold most ts) (sum_by-cons (λ (u : Traced L). chunk_count u.noted) t ts)
  where
    by : (b : Bool) → count_chunks (kept threshold most ts) ≤ count_chunks ts → count_chunks (t ∷ ts) ≡ chunk_count t.noted + count_chunks ts → count_chunks (cond b (kept threshold most ts) (t ∷ ts)) ≤ count_chunks (t ∷ ts)
    by true rest whole = omega (arith, rest, whole)
    by false rest whole = omega arith
