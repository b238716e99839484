-- What the model reports at once, it reports one by one.
use Rattle.std.proofs.Common.{◌≡◌, ℕ, ◌+◌, ◌<◌, zero, suc, Bool, true, false, cond, not, ◌||◌, List, [], ◌∷◌, filter, fold, Some, slice_get, nat_eq, refl, sym, ap, ◌∙◌, arith, append-nil}
use Rattle.hs_agent.proofs.Prelude.{append_assoc, ne_eqb, Taken, ChunkStanding, Pinned, Reported, Evicted, Abandoned, is_among, is_indexed, moved_from, moved, AgentState, report, reported_standing}
use Rattle.hs_law_agent.specs.Standings.{Indexed}
use Rattle.hs_agent.proofs.Moved.{MovesUnindexed}

abbrev pub report_one : AgentState → ℕ → AgentState
report_one state place = report (place ∷ []) state

abbrev pub report_each : AgentState → List ℕ → AgentState
report_each state places = fold report_one state places

-- ---- the chunks stand anew one after another

twice : (standing : ChunkStanding) → reported_standing (reported_standing standing) ≡ reported_standing standing
twice Indexed = refl
twice (Pinned g) = refl
twice (Reported g) = refl
twice (Evicted chunks traces) = refl
twice (Abandoned g) = refl

more_from : (k place : ℕ) (places : List ℕ) (taken : List Taken) → moved_from k (place ∷ places) reported_standing taken ≡ moved_from k places reported_standing (moved_from k (place ∷ []) reported_standing taken)
more_from k place places [] = refl
more_from k place places (t ∷ ts) = by (nat_eq place k) (is_among places k) (more_from (suc k) place places ts)
  where
    by : (first later : Bool) → moved_from (suc k) (place ∷ places) reported_standing ts ≡ moved_from (suc k) places reported_standing (moved_from (suc k) (place ∷ []) reported_standing ts)
        → cond (first || later) (record t { standing = reported_standing t.standing }) t ∷ moved_from (suc k) (place ∷ places) reported_standing ts
        ≡ cond later (record (cond (first || false) (record t { standing = reported_standing t.standing }) t) { standing = reported_standing (cond (first || false) (record t { standing = reported_standing t.standing }) t).standing }) (cond (first || false) (record t { standing = reported_standing t.standing }) t)
        ∷ moved_from (suc k) places reported_standing (moved_from (suc k) (place ∷ []) reported_standing ts)
    by true true rest = (λ i. record t { standing = sym (twice t.standing) i } ∷ rest i)
    by true false rest = ap (λ l. record t { standing = reported_standing t.standing } ∷ l) rest
    by false true rest = ap (λ l. record t { standing = reported_standing t.standing } ∷ l) rest
    by false false rest = ap (λ l. t ∷ l) rest

none_from : (k : ℕ) (taken : List Taken) → moved_from k [] reported_standing taken ≡ taken
none_from k [] = refl
none_from k (t ∷ ts) = ap (λ l. t ∷ l) (none_from (suc k) ts)

all_from : {A : Type 0} (xs : List A) → filter (λ x. true) xs ≡ xs
all_from [] = refl
all_from (x ∷ xs) = ap (λ l. x ∷ l) (all_from xs)

fewer_left : (place : ℕ) (places pinned : List ℕ) → filter (λ q. not (is_among (place ∷ places) q)) pinned ≡ filter (λ q. not (is_among places q)) (filter (λ q. not (is_among (place ∷ []) q)) pinned)
fewer_left place places [] = refl
fewer_left place places (q ∷ pinned) = by (nat_eq place q) (is_among places q) refl (fewer_left place places pinned)
  where
    by : (first later : Bool) → is_among places q ≡ later → filter (λ q. not (is_among (place ∷ places) q)) pinned ≡ filter (λ q. not (is_among places q)) (filter (λ q. not (is_among (place ∷ []) q)) pinned)
        → cond (not (first || later)) (q ∷ filter (λ q. not (is_among (place ∷ places) q)) pinned) (filter (λ q. not (is_among (place ∷ places) q)) pinned)
        ≡ filter (λ q. not (is_among places q)) (cond (not (first || false)) (q ∷ filter (λ q. not (is_among (place ∷ []) q)) pinned) (filter (λ q. not (is_among (place ∷ []) q)) pinned))
    by true later e rest = rest
    by false true e rest =
        rest ∙ sym (ap (λ b. cond (not b) (q ∷ filter (λ q. not (is_among places q)) (filter (λ q. not (is_among (place ∷ []) q)) pinned)) (filter (λ q. not (is_among places q)) (filter (λ q. not (is_among (place ∷ []) q)) pinned))) e)
    by false false e rest =
        ap (λ l. q ∷ l) rest ∙ sym (ap (λ b. cond (not b) (q ∷ filter (λ q. not (is_among places q)) (filter (λ q. not (is_among (place ∷ []) q)) pinned)) (filter (λ q. not (is_among places q)) (filter (λ q. not (is_among (place ∷ []) q)) pinned))) e)

none_reported : (state : AgentState) → report [] state ≡ state
none_reported state = λ i. record state {
  taken = none_from 0 state.taken i;
  pinned = all_from state.pinned i;
  hand = append-nil state.hand i;
  reported = append-nil state.reported i;
}

one_reported : (place : ℕ) (places : List ℕ) (state : AgentState) → report (place ∷ places) state ≡ report places (report_one state place)
one_reported place places state = λ i. record state {
  taken = more_from 0 place places state.taken i;
  pinned = fewer_left place places state.pinned i;
  hand = sym (append_assoc state.hand (place ∷ []) places) i;
  reported = sym (append_assoc state.reported (place ∷ []) places) i;
}

pub report-each : (places : List ℕ) (state : AgentState) → report places state ≡ report_each state places
report-each [] state = none_reported state
report-each (place ∷ places) state = one_reported place places state ∙ report-each places (report_one state place)

-- ---- what is indexed stays

unindexed : (standing : ChunkStanding) → is_indexed (reported_standing standing) ≡ is_indexed standing
unindexed Indexed = refl
unindexed (Pinned g) = refl
unindexed (Reported g) = refl
unindexed (Evicted chunks traces) = refl
unindexed (Abandoned g) = refl

pub reports_unindexed : (places : List ℕ) (taken : List Taken) → MovesUnindexed places reported_standing taken
reports_unindexed places taken = record { alike = λ i t at among. unindexed t.standing }

-- ---- one chunk, whose standing is known

outside_from : (change : ChunkStanding → ChunkStanding) (place k : ℕ) (taken : List Taken) → place < k → moved_from k (place ∷ []) change taken ≡ taken
outside_from change place k [] below = refl
outside_from change place k (t ∷ ts) below =
    ap (λ b. cond (b || false) (record t { standing = change t.standing }) t ∷ moved_from (suc k) (place ∷ []) change ts) (ne_eqb place k (λ e. absurd (omega (arith, e, below))))
    ∙ ap (λ l. t ∷ l) (outside_from change place (suc k) ts (omega arith))

module _ (change : ChunkStanding → ChunkStanding) (stands : ChunkStanding) where
  alike_from : (k i : ℕ) (taken : List Taken) (t : Taken) → slice_get taken i ≡ Some t → change t.standing ≡ stands
      → moved_from k ((k + i) ∷ []) change taken ≡ moved_from k ((k + i) ∷ []) (λ _. stands) taken
  alike_from k i [] t at e = cc
  alike_from k zero (u ∷ ts) t at e =
      let same : u ≡ t = cc in
      (λ j. cond (is_among ((k + 0) ∷ []) k) (record u { standing = (ap (λ (v : Taken). change v.standing) same ∙ e) j }) u ∷ moved_from (suc k) ((k + 0) ∷ []) change ts)
      ∙ ap (λ l. cond (is_among ((k + 0) ∷ []) k) (record u { standing = stands }) u ∷ l)
      (outside_from change (k + 0) (suc k) ts (omega arith) ∙ sym (outside_from (λ _. stands) (k + 0) (suc k) ts (omega arith)))
  alike_from k (suc i) (u ∷ ts) t at e =
      let apart = ne_eqb (k + suc i) k (λ f. absurd (omega (arith, f))) in
      let next : k + suc i ≡ suc k + i = omega arith in
      ap (λ b. cond (b || false) (record u { standing = change u.standing }) u ∷ moved_from (suc k) ((k + suc i) ∷ []) change ts) apart
      ∙ ap (λ n. u ∷ moved_from (suc k) (n ∷ []) change ts) next
      ∙ ap (λ l. u ∷ l) (alike_from (suc k) i ts t at e)
      ∙ ap (λ n. u ∷ moved_from (suc k) (n ∷ []) (λ _. stands) ts) (sym next)
      ∙ sym (ap (λ b. cond (b || false) (record u { standing = stands }) u ∷ moved_from (suc k) ((k + suc i) ∷ []) (λ _. stands) ts) apart)

  -- a chunk stands anew, however that is said
  pub moved_one-alike : (place : ℕ) (taken : List Taken) (t : Taken) → slice_get taken place ≡ Some t → change t.standing ≡ stands → moved (place ∷ []) change taken ≡ moved (place ∷ []) (λ _. stands) taken
  moved_one-alike place taken t at e =
      ap (λ n. moved (n ∷ []) change taken) (let z : place ≡ 0 + place = omega arith in z)
      ∙ alike_from 0 place taken t at e
      ∙ ap (λ n. moved (n ∷ []) (λ _. stands) taken) (let z : 0 + place ≡ place = omega arith in z)
