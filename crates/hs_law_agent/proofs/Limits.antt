-- After each event no more is indexed and pinned than may be.
use Rattle.std.proofs.Common.{◌≡◌, ℕ, zero, suc, ◌+◌, ◌<◌, ◌≤◌, Bool, true, false, cond, not, ◌||◌, List, [], ◌∷◌, ◌++◌, length, take, refl, sym, ap, ◌∙◌, arith, inl, inr, Option, Some, None, subst, true≢false}
use Rattle.hs_law_agent.proofs.Prelude.{◌==◌, filter, nat_lt, option_map_or, AllByRecursion, list_any, cons_option, ltb-true, ltb-false, eq-eqb, or_parts, or_cases, or_right, all_push, one_if, filter_few, TraceId, Ask, Crumb, Group, Trigger, same_trace, PlainSettings, Share, count_sent, Sheet, ChunkStanding, Indexed, Pinned, Reported, Evicted, Abandoned, Taken, same_group, trace_of, is_indexed, is_pinned, is_pinned_to, is_indexed_of, is_pinned_for, indexed_places, indexed_count, pinned_for, pinning_group, stands, is_among, moved_from, moved, AgentState, ClaimedTrace, start, claim_of, is_abandoned, without_trace, touch, is_over, evict_trace, evict_from, evict, claim_trace, traces_of, claim_each, pinned_groups, next_to_go, abandon_group, abandon_within, abandon, order_of, costs_of, reported_standing, visit, has_crumb, Input, Chunk, Crumbed, Triggered, Asked, Turn, Answered, Given, Missed, Unread, AgentEvent, Took, Gave, with_indexed, with_pinned, with_abandoned, pin_chunk, with_touched, tell_late, late_crumb, admits, group_of, claim_for, note_trigger, count_admitted, admit, take_input, give_back, take_answer, after_event, after_from, count_of, count_traces, PlacesMatch, MatchNextToGo}
use Rattle.std.specs.Prelude.{filter_map}
use Rattle.std.proofs.lemmas.Bool.{le-ltb, or_from, or_left, and_cases}
use Rattle.hs_law_agent.specs.Laws.{IsNextToGo, IsWithin, LimitsHold}
use Rattle.hs_law_agent.proofs.Counts.{counted_one}
use Rattle.hs_law_agent.proofs.Traces.{same_trace-refl, same_trace-sym, traces-without, traces-touch}
use Rattle.hs_law_agent.proofs.Traversal.{IsKept, evict_loop, abandon_loop, visit_loop, claim_loop, kept_claims, kept_event}
use Rattle.hs_law_agent.proofs.Placed.{match_kept, match_start}
use Rattle.hs_law_agent.proofs.Claims.{all_moved, among_places}
use Rattle.hs_law_agent.proofs.Least.{the_least_goes}

-- ---- the traces of indexed chunks are touched

abbrev pub IsTouched : List TraceId → Taken → Type 0
IsTouched touched c = is_indexed c.standing ≡ true → 1 ≤ count_traces touched (trace_of c)

abbrev pub AreTouched : AgentState → Type 0
AreTouched s = AllByRecursion (IsTouched s.touched) s.taken

all_changed : (P Q : Taken → Type 0) (taken : List Taken) → AllByRecursion P taken → ((c : Taken) → P c → Q c) → AllByRecursion Q taken
all_changed P Q [] all h = tt
all_changed P Q (c ∷ taken) all h = (h c all.0, all_changed P Q taken all.1 h)

-- an indexed chunk that is not of the trace that leaves
of_another : (trace : TraceId) (c : Taken) → is_indexed_of trace c ≡ false → is_indexed c.standing ≡ true → same_trace trace (trace_of c) ≡ false
of_another trace c e is = elim (and_cases _ _ e) [ inl not_so ↦ absurd (true≢false (sym is ∙ not_so)) | inr differs ↦ differs ]

pub touched_evicts : (trace : TraceId) (later : List TraceId) (s : AgentState) → s.touched ≡ trace ∷ later → AreTouched s → AreTouched (evict_trace trace later s)
touched_evicts trace later s e m =
    all_moved (IsTouched s.touched) (IsTouched later) (λ _. Evicted (indexed_count s.taken) (length s.touched)) (indexed_places s.taken trace) 0 s.taken m
    (λ p c at h. let z : 0 + p ≡ p = omega arith in here c h (is_among (indexed_places s.taken trace) (0 + p)) (rw z (among_places (is_indexed_of trace) s.taken p c at)))
  where
    here : (c : Taken) → IsTouched s.touched c → (b : Bool) → b ≡ is_indexed_of trace c → IsTouched later (cond b (record c { standing = Evicted (indexed_count s.taken) (length s.touched) }) c)
    here c h true f = λ is. absurd (true≢false (sym is))
    here c h false f = λ is.
        let other = same_trace-sym trace (trace_of c) false (of_another trace c (sym f) is) in
        let old = h is in
        let parts : count_traces s.touched (trace_of c) ≡ cond (same_trace (trace_of c) trace) 1 0 + count_traces later (trace_of c) = ap (λ ts. count_traces ts (trace_of c)) e in
        let less = rw other at parts in omega arith

touched_claims : (ask : Ask) (trace : TraceId) (s : AgentState) → AreTouched s → AreTouched (claim_trace ask trace s)
touched_claims ask trace s m =
    all_moved (IsTouched s.touched) (IsTouched (without_trace trace s.touched)) (λ _. Pinned ask.group) (indexed_places s.taken trace) 0 s.taken m
    (λ p c at h. let z : 0 + p ≡ p = omega arith in here c h (is_among (indexed_places s.taken trace) (0 + p)) (rw z (among_places (is_indexed_of trace) s.taken p c at)))
  where
    here : (c : Taken) → IsTouched s.touched c → (b : Bool) → b ≡ is_indexed_of trace c → IsTouched (without_trace trace s.touched) (cond b (record c { standing = Pinned ask.group }) c)
    here c h true f = λ is. absurd (true≢false (sym is))
    here c h false f = λ is.
        let other = of_another trace c (sym f) is in
        let old = h is in
        let left : count_traces (without_trace trace s.touched) (trace_of c) ≡ count_traces s.touched (trace_of c) = traces-without trace s.touched (trace_of c) ∙ (rw other refl) in omega arith

touched_moved : (change : ChunkStanding → ChunkStanding) → ((u : ChunkStanding) → is_indexed (change u) ≡ true → is_indexed u ≡ true) → (places : List ℕ) (s : AgentState) → AreTouched s
    → AllByRecursion (IsTouched s.touched) (moved places change s.taken)
touched_moved change only places s m =
    all_moved (IsTouched s.touched) (IsTouched s.touched) change places 0 s.taken m
    (λ p c at h. elim (is_among places (0 + p)) as (λ b. IsTouched s.touched (cond b (record c { standing = change c.standing }) c)) [ true ↦ (λ is. h (only c.standing is)) | false ↦ h ])

pub reported_indexed : (u : ChunkStanding) → is_indexed (reported_standing u) ≡ true → is_indexed u ≡ true
reported_indexed Indexed e = e
reported_indexed (Pinned g) e = absurd (true≢false (sym e))
reported_indexed (Reported g) e = absurd (true≢false (sym e))
reported_indexed (Evicted a b) e = absurd (true≢false (sym e))
reported_indexed (Abandoned g) e = absurd (true≢false (sym e))

touched_touch : (t : TraceId) (s : AgentState) → AreTouched s → AllByRecursion (IsTouched (touch t s.touched)) s.taken
touched_touch t s m = all_changed (IsTouched s.touched) (IsTouched (touch t s.touched)) s.taken m (λ c h is. go c (same_trace t (trace_of c)) (traces-touch t s.touched (trace_of c)) (h is))
  where
    go : (c : Taken) (b : Bool) → count_traces (touch t s.touched) (trace_of c) ≡ cond b 1 (count_traces s.touched (trace_of c)) → 1 ≤ count_traces s.touched (trace_of c) → 1 ≤ count_traces (touch t s.touched) (trace_of c)
    go c true e h = omega arith
    go c false e h = omega arith

touched_new : (t : TraceId) (touched : List TraceId) → 1 ≤ count_traces (touch t touched) t
touched_new t touched = let e : count_traces (touch t touched) t ≡ 1 = traces-touch t touched t ∙ (rw (same_trace-refl t) refl) in omega arith

pub touched_kept : (settings : PlainSettings) (node : ℕ) → IsKept settings node AreTouched
touched_kept settings node =
    record {
      evicts = λ trace later s e over m. touched_evicts trace later s e m;
      claims = λ ask trace s free m. touched_claims ask trace s m;
      abandons = λ group s chosen m. touched_moved (λ _. Abandoned group) (λ u e. absurd (true≢false (sym e))) (filter (is_pinned_for s.taken group) s.pinned) s m;
      visits = λ s share m. touched_moved reported_standing reported_indexed (take (count_sent settings.size share (costs_of s share.trigger.0)) (order_of s share.trigger.0)) s m;
      shares = λ shares s m. m;
      indexes = λ sheet s free m. all_push (IsTouched (touch sheet.header.trace s.touched)) s.taken _ (touched_touch sheet.header.trace s m) (λ is. touched_new sheet.header.trace s.touched);
      drops = λ sheet claim s had gone m. all_push (IsTouched s.touched) s.taken _ m (λ is. absurd (true≢false (sym is)));
      pins = λ sheet claim s had m. all_push (IsTouched s.touched) s.taken _ m (λ is. absurd (true≢false (sym is)));
      touches = λ crumb s free m. touched_touch crumb.trace s m;
      tells = λ crumb claim s had new m. m;
      tries = λ trigger s m. m;
      counts = λ s m. m;
      says = λ told s m. m;
      notes = λ step s m. m;
      gives = λ stamp place hand s e m. m;
    }

-- ---- after an eviction

none_indexed : (taken : List Taken) → AllByRecursion (IsTouched []) taken → indexed_count taken ≡ 0
none_indexed [] all = refl
none_indexed (c ∷ taken) all = go (is_indexed c.standing) refl (none_indexed taken all.1)
  where
    go : (b : Bool) → is_indexed c.standing ≡ b → indexed_count taken ≡ 0 → length (cond b (c ∷ filter (λ (chunk : Taken). is_indexed chunk.standing) taken) (filter (λ (chunk : Taken). is_indexed chunk.standing) taken)) ≡ 0
    go true e ih = let bad = all.0 e in absurd (omega arith)
    go false e ih = ih

pub nothing_over : (settings : PlainSettings) (s : AgentState) → s.touched ≡ [] → AreTouched s → is_over settings s ≡ false
nothing_over settings s e m =
    let none : indexed_count s.taken ≡ 0 = none_indexed s.taken (subst (λ ts. AllByRecursion (IsTouched ts) s.taken) e m) in
    let empty : length s.touched ≡ 0 = ap length e in
    or_from _ _ (le-ltb settings.threshold (indexed_count s.taken) (omega arith)) (le-ltb settings.traces (length s.touched) (omega arith))

evicted_within : (settings : PlainSettings) (node : ℕ) (traces : List TraceId) (s : AgentState) → s.touched ≡ traces → AreTouched s → is_over settings (evict_from settings traces s) ≡ false
evicted_within settings node [] s e m = nothing_over settings s e m
evicted_within settings node (trace ∷ later) s e m = go (is_over settings s) refl (evicted_within settings node later (evict_trace trace later s) refl (touched_evicts trace later s e m))
  where
    go : (b : Bool) → is_over settings s ≡ b → is_over settings (evict_from settings later (evict_trace trace later s)) ≡ false
        → is_over settings (cond b (evict_from settings later (evict_trace trace later s)) s) ≡ false
    go true f next = next
    go false f next = f

-- ---- after abandoning

-- a pinned place is pinned for its group
pub pinned_to : (group h : Group) (u : ChunkStanding) → pinning_group u ≡ Some h → is_pinned_to group u ≡ same_group group h
pinned_to group h Indexed e = absurd cc
pinned_to group h (Pinned g) e = let same : g ≡ h = cc in ap (same_group group) same
pinned_to group h (Reported g) e = absurd cc
pinned_to group h (Evicted a b) e = absurd cc
pinned_to group h (Abandoned g) e = absurd cc

pub pinned_for-group : (taken : List Taken) (p : ℕ) (group h : Group) → pinned_for taken p ≡ Some h → is_pinned_for taken group p ≡ same_group group h
pinned_for-group [] p group h e = absurd cc
pinned_for-group (c ∷ taken) zero group h e = pinned_to group h c.standing e
pinned_for-group (c ∷ taken) (suc p) group h e = pinned_for-group taken p group h e

pub has_group : (taken : List Taken) (p : ℕ) → stands is_pinned taken p ≡ true → (h : Group) × (pinned_for taken p ≡ Some h)
has_group [] p e = absurd (true≢false (sym e))
has_group (c ∷ taken) zero e = go c.standing e
  where
    go : (u : ChunkStanding) → is_pinned u ≡ true → (h : Group) × (pinning_group u ≡ Some h)
    go Indexed e = absurd (true≢false (sym e))
    go (Pinned g) e = (g, refl)
    go (Reported g) e = absurd (true≢false (sym e))
    go (Evicted a b) e = absurd (true≢false (sym e))
    go (Abandoned g) e = absurd (true≢false (sym e))
has_group (c ∷ taken) (suc p) e = has_group taken p e

-- a group with a pinned chunk is that of a pinned place
pinned_place : (taken : List Taken) (places : List ℕ) (group : Group) → list_any (same_group group) (filter_map (pinned_for taken) places) ≡ true → list_any (is_pinned_for taken group) places ≡ true
pinned_place taken [] group e = absurd (true≢false (sym e))
pinned_place taken (p ∷ places) group e = go (pinned_for taken p) refl e (pinned_place taken places group)
  where
    go : (o : Option Group) → pinned_for taken p ≡ o → list_any (same_group group) (cons_option o (filter_map (pinned_for taken) places)) ≡ true
        → (list_any (same_group group) (filter_map (pinned_for taken) places) ≡ true → list_any (is_pinned_for taken group) places ≡ true)
        → (is_pinned_for taken group p || list_any (is_pinned_for taken group) places) ≡ true
    go None f e next = or_right _ _ (next e)
    go (Some h) f e next = elim (or_cases _ _ e) [ inl here ↦ or_left _ _ (pinned_for-group taken p group h f ∙ here) | inr there ↦ or_right _ _ (next there) ]

shorter : (f : ℕ → Bool) (xs : List ℕ) → list_any f xs ≡ true → suc (length (filter (λ x. not (f x)) xs)) ≤ length xs
shorter f [] e = absurd (true≢false (sym e))
shorter f (x ∷ xs) e = go (f x) e (shorter f xs) (filter_few (λ y. not (f y)) xs)
  where
    go : (b : Bool) → (b || list_any f xs) ≡ true → (list_any f xs ≡ true → suc (length (filter (λ y. not (f y)) xs)) ≤ length xs) → length (filter (λ y. not (f y)) xs) ≤ length xs
        → suc (length (cond (not b) (x ∷ filter (λ y. not (f y)) xs) (filter (λ y. not (f y)) xs))) ≤ suc (length xs)
    go true e next few = omega arith
    go false e next few = let h = next e in omega arith

-- where a chunk is pinned, some group has it
pub no_groups : (s : AgentState) → PlacesMatch s → pinned_groups s ≡ [] → s.pinned ≡ []
no_groups s m e = go s.pinned refl e
  where
    go : (places : List ℕ) → s.pinned ≡ places → filter_map (pinned_for s.taken) places ≡ [] → s.pinned ≡ []
    go [] f e = f
    go (p ∷ places) f e =
        let count : count_of s.pinned p ≡ one_if (stands is_pinned s.taken p) = m.pinned_each p in
        let first : count_of s.pinned p ≡ cond (p == p) 1 0 + count_of places p = ap (λ ps. count_of ps p) f in
        let more = rw (eq-eqb p p refl) at first in
        let some = has_group s.taken p (counted_one (stands is_pinned s.taken p) (omega arith)) in
        let none : cons_option (Some some.0) (filter_map (pinned_for s.taken) places) ≡ [] = subst (λ o. cons_option o (filter_map (pinned_for s.taken) places) ≡ []) some.1 e in
        absurd cc

-- a group that goes takes a place at least
pub few_after : (settings : PlainSettings) (place : ℕ) (places : List ℕ) (s : AgentState) (group : Group) → length s.pinned ≤ length (place ∷ places) + settings.pins → IsNextToGo (pinned_groups s) group
    → length (abandon_group group s).pinned ≤ length places + settings.pins
few_after settings place places s group few next = let fewer = shorter (is_pinned_for s.taken group) s.pinned (pinned_place s.taken s.pinned group next.among) in omega arith

-- what the rest of the places leaves
abbrev Shrinks : PlainSettings → List ℕ → Type 0
Shrinks settings places = (u : AgentState) → PlacesMatch u → length u.pinned ≤ length places + settings.pins → length (abandon_within settings places u).pinned ≤ settings.pins

shrink_chosen : (settings : PlainSettings) (place : ℕ) (places : List ℕ) (s : AgentState) → PlacesMatch s → length s.pinned ≤ length (place ∷ places) + settings.pins → Shrinks settings places → settings.pins < length s.pinned
    → (o : Option Group) → next_to_go (pinned_groups s) ≡ o → MatchNextToGo (pinned_groups s) o → length (option_map_or (λ group. abandon_within settings places (abandon_group group s)) o s).pinned ≤ settings.pins
shrink_chosen settings place places s m few rest many None f e = let none = no_groups s m e in let zero_long : length s.pinned ≡ 0 = ap length none in absurd (omega arith)
shrink_chosen settings place places s m few rest many (Some group) f next =
    rest (abandon_group group s) ((match_kept settings 0).abandons group s f m) (few_after settings place places s group few next)

shrink_if : (settings : PlainSettings) (place : ℕ) (places : List ℕ) (s : AgentState) → PlacesMatch s → length s.pinned ≤ length (place ∷ places) + settings.pins → Shrinks settings places
    → (b : Bool) → nat_lt settings.pins (length s.pinned) ≡ b
    → length (cond b (option_map_or (λ group. abandon_within settings places (abandon_group group s)) (next_to_go (pinned_groups s)) s) s).pinned ≤ settings.pins
shrink_if settings place places s m few rest true f = shrink_chosen settings place places s m few rest (ltb-true _ _ f) (next_to_go (pinned_groups s)) refl (the_least_goes (pinned_groups s))
shrink_if settings place places s m few rest false f = ltb-false _ _ f

abandoned_within : (settings : PlainSettings) (places : List ℕ) → Shrinks settings places
abandoned_within settings [] s m few = omega arith
abandoned_within settings (place ∷ places) s m few = shrink_if settings place places s m few (abandoned_within settings places) (nat_lt settings.pins (length s.pinned)) refl

pub few_pinned : (settings : PlainSettings) (s : AgentState) → PlacesMatch s → length (abandon settings s).pinned ≤ settings.pins
few_pinned settings s m = abandoned_within settings s.pinned s m (omega arith)

-- ---- what the steps leave within the limits

pub indexed_moved : (change : ChunkStanding → ChunkStanding) → ((u : ChunkStanding) → is_indexed (change u) ≡ true → is_indexed u ≡ true) → (places : List ℕ) (k : ℕ) (taken : List Taken)
    → indexed_count (moved_from k places change taken) ≤ indexed_count taken
indexed_moved change only places k [] = omega arith
indexed_moved change only places k (c ∷ taken) =
    elim (is_among places k) as (λ b. indexed_count (cond b (record c { standing = change c.standing }) c ∷ moved_from (suc k) places change taken) ≤ indexed_count (c ∷ taken))
    [ true ↦ go (is_indexed (change c.standing)) (is_indexed c.standing) refl refl (indexed_moved change only places (suc k) taken) | false ↦ same (is_indexed c.standing) (indexed_moved change only places (suc k) taken) ]
  where
    go : (a b : Bool) → is_indexed (change c.standing) ≡ a → is_indexed c.standing ≡ b → indexed_count (moved_from (suc k) places change taken) ≤ indexed_count taken
        → length (cond a (record c { standing = change c.standing } ∷ filter (λ (chunk : Taken). is_indexed chunk.standing) (moved_from (suc k) places change taken)) (filter (λ (chunk : Taken). is_indexed chunk.standing) (moved_from (suc k) places change taken)))
        ≤ length (cond b (c ∷ filter (λ (chunk : Taken). is_indexed chunk.standing) taken) (filter (λ (chunk : Taken). is_indexed chunk.standing) taken))
    go true true e f h = omega arith
    go true false e f h = absurd (true≢false (sym (only c.standing e) ∙ f))
    go false true e f h = omega arith
    go false false e f h = omega arith

    same : (b : Bool) → indexed_count (moved_from (suc k) places change taken) ≤ indexed_count taken
        → length (cond b (c ∷ filter (λ (chunk : Taken). is_indexed chunk.standing) (moved_from (suc k) places change taken)) (filter (λ (chunk : Taken). is_indexed chunk.standing) (moved_from (suc k) places change taken)))
        ≤ length (cond b (c ∷ filter (λ (chunk : Taken). is_indexed chunk.standing) taken) (filter (λ (chunk : Taken). is_indexed chunk.standing) taken))
    same true h = omega arith
    same false h = omega arith

pub indexed_more : (taken : List Taken) (c : Taken) → is_indexed c.standing ≡ false → indexed_count (taken ++ c ∷ []) ≡ indexed_count taken
indexed_more [] c e = rw e refl
indexed_more (x ∷ taken) c e =
    elim (is_indexed x.standing)
    as (λ b. length (cond b (x ∷ filter (λ (chunk : Taken). is_indexed chunk.standing) (taken ++ c ∷ [])) (filter (λ (chunk : Taken). is_indexed chunk.standing) (taken ++ c ∷ [])))
    ≡ length (cond b (x ∷ filter (λ (chunk : Taken). is_indexed chunk.standing) taken) (filter (λ (chunk : Taken). is_indexed chunk.standing) taken)))
    [ true ↦ ap suc (indexed_more taken c e) | false ↦ indexed_more taken c e ]

fewer_traces : (t : TraceId) (traces : List TraceId) → length (without_trace t traces) ≤ length traces
fewer_traces t [] = omega arith
fewer_traces t (u ∷ traces) =
    elim (not (same_trace t u)) as (λ b. length (cond b (u ∷ without_trace t traces) (without_trace t traces)) ≤ length (u ∷ traces))
    [ true ↦ omega (arith, fewer_traces t traces) | false ↦ omega (arith, fewer_traces t traces) ]

-- the index is within its limits
record IsIndexWithin (settings : PlainSettings) (s : AgentState) : Type 0 where
  chunks : indexed_count s.taken ≤ settings.threshold
  traces : length s.touched ≤ settings.traces

-- what every step keeps, and the limits
pub record IsFull (settings : PlainSettings) (s : AgentState) : Type 0 where
  pub places : PlacesMatch s
  pub touched : AreTouched s
  pub within : IsWithin settings s

module _ (settings : PlainSettings) (node : ℕ) where
  index_within : (s : AgentState) → is_over settings s ≡ false → IsIndexWithin settings s
  index_within s e = let both = or_parts _ _ e in record { chunks = ltb-false settings.threshold (indexed_count s.taken) both.0; traces = ltb-false settings.traces (length s.touched) both.1 }

  claims_within : (ask : Ask) (trace : TraceId) (s : AgentState) → IsIndexWithin settings s → IsIndexWithin settings (claim_trace ask trace s)
  claims_within ask trace s w =
      record {
        chunks = let le = indexed_moved (λ _. Pinned ask.group) (λ u e. absurd (true≢false (sym e))) (indexed_places s.taken trace) 0 s.taken in let old = w.chunks in omega arith;
        traces = let le = fewer_traces trace s.touched in let old = w.traces in omega arith;
      }

  abandons_within : (group : Group) (s : AgentState) → IsIndexWithin settings s → IsIndexWithin settings (abandon_group group s)
  abandons_within group s w =
      record {
        chunks = let le = indexed_moved (λ _. Abandoned group) (λ u e. absurd (true≢false (sym e))) (filter (is_pinned_for s.taken group) s.pinned) 0 s.taken in let old = w.chunks in omega arith;
        traces = w.traces;
      }

  visits_within : (s : AgentState) (share : Share) → IsWithin settings s → IsWithin settings (visit settings s share)
  visits_within s share w =
      let sent = take (count_sent settings.size share (costs_of s share.trigger.0)) (order_of s share.trigger.0) in
      record {
        chunks = let le = indexed_moved reported_standing reported_indexed sent 0 s.taken in let old = w.chunks in omega arith;
        traces = w.traces;
        pins = let le = filter_few (λ place. not (is_among sent place)) s.pinned in let old = w.pins in omega arith;
      }

  -- after an eviction
  evict_within : (s : AgentState) → AreTouched s → length s.pinned ≤ settings.pins → IsWithin settings (evict settings s)
  evict_within s m few =
      let w = index_within (evict settings s) (evicted_within settings node s.touched s refl m) in
      record { chunks = w.chunks; traces = w.traces; pins = evict_loop settings (λ u. length u.pinned ≤ settings.pins) (λ trace later u e over p. p) s.touched s refl few }

  -- after groups were abandoned
  abandon_within_limits : (s : AgentState) → PlacesMatch s → IsIndexWithin settings s → IsWithin settings (abandon settings s)
  abandon_within_limits s m w =
      let v = abandon_loop settings (IsIndexWithin settings) (λ group u e p. abandons_within group u p) s.pinned s w in
      record { chunks = v.chunks; traces = v.traces; pins = few_pinned settings s m }

  of_within : (s : AgentState) → IsWithin settings s → IsIndexWithin settings s
  of_within s w = record { chunks = w.chunks; traces = w.traces }

  pin_within : (sheet : Sheet) (claim : ClaimedTrace) (s : AgentState) → claim_of s.claims sheet.header.trace ≡ Some claim → IsFull settings s → (b : Bool)
      → IsWithin settings (cond b (with_abandoned sheet claim.group s) (abandon settings (with_pinned sheet claim.group s)))
  pin_within sheet claim s had f true =
      record { chunks = let e = indexed_more s.taken (record { sheet = sheet; standing = Abandoned claim.group }) refl in let old = f.within.chunks in omega arith; traces = f.within.traces; pins = f.within.pins }
  pin_within sheet claim s had f false =
      abandon_within_limits (with_pinned sheet claim.group s) ((match_kept settings node).pins sheet claim s had f.places)
      (record { chunks = let e = indexed_more s.taken (record { sheet = sheet; standing = Pinned claim.group }) refl in let old = f.within.chunks in omega arith; traces = f.within.traces })

  chunk_within : (sheet : Sheet) (s : AgentState) → IsFull settings s → (o : Option ClaimedTrace) → claim_of s.claims sheet.header.trace ≡ o
      → IsWithin settings (option_map_or (λ (claim : ClaimedTrace). pin_chunk settings sheet claim.group s) o (evict settings (with_indexed sheet s)))
  chunk_within sheet s f None e = evict_within (with_indexed sheet s) ((touched_kept settings node).indexes sheet s e f.touched) f.within.pins
  chunk_within sheet s f (Some claim) e = pin_within sheet claim s e f (is_abandoned s.abandoned claim.group)

  crumb_within : (crumb : Crumb) (s : AgentState) → IsFull settings s → (o : Option ClaimedTrace) → claim_of s.claims crumb.trace ≡ o
      → IsWithin settings (option_map_or (λ claim. late_crumb crumb claim s) o (evict settings (with_touched crumb s)))
  crumb_within crumb s f None e = evict_within (with_touched crumb s) ((touched_kept settings node).touches crumb s e f.touched) f.within.pins
  crumb_within crumb s f (Some claim) e =
      elim (has_crumb s.crumbs crumb) as (λ b. IsWithin settings (cond b s (tell_late crumb claim s)))
      [ true ↦ f.within | false ↦ record { chunks = f.within.chunks; traces = f.within.traces; pins = f.within.pins } ]

  claim_for_within : (ask : Ask) (s : AgentState) → PlacesMatch s → IsIndexWithin settings s → IsWithin settings (claim_for settings ask s)
  claim_for_within ask s m w =
      abandon_within_limits (claim_each ask s) (kept_claims settings node PlacesMatch (match_kept settings node) ask (traces_of ask) s m)
      (claim_loop (IsIndexWithin settings) (λ ask trace u free p. claims_within ask trace u p) ask (traces_of ask) s w)

  trigger_within : (trigger : Trigger) (s : AgentState) → IsFull settings s → (b : Bool) → IsWithin settings (cond b (admit settings node trigger (note_trigger trigger s)) (note_trigger trigger s))
  trigger_within trigger s f true =
      let w = claim_for_within (group_of node s trigger) (count_admitted (note_trigger trigger s)) f.places (record { chunks = f.within.chunks; traces = f.within.traces }) in
      record { chunks = w.chunks; traces = w.traces; pins = w.pins }
  trigger_within trigger s f false = record { chunks = f.within.chunks; traces = f.within.traces; pins = f.within.pins }

  input_within : (s : AgentState) (input : Input) → IsFull settings s → IsWithin settings (take_input settings node s input)
  input_within s (Chunk client sheet) f = chunk_within sheet s f (claim_of s.claims sheet.header.trace) refl
  input_within s (Crumbed client crumb) f = crumb_within crumb s f (claim_of s.claims crumb.trace) refl
  input_within s (Triggered client trigger) f = trigger_within trigger s f (admits settings s.tried trigger)
  input_within s (Asked ask) f = let w = claim_for_within ask s f.places (of_within s f.within) in record { chunks = w.chunks; traces = w.traces; pins = w.pins }
  input_within s Turn f = let w = visit_loop settings (IsWithin settings) visits_within s.shares s f.within in record { chunks = w.chunks; traces = w.traces; pins = w.pins }

  answer_within : (s : AgentState) (answer : Answered) → IsWithin settings s → IsWithin settings (take_answer s answer)
  answer_within s (Given stamp) w = go s.hand
    where
      go : (hand : List ℕ) → IsWithin settings (give_back stamp hand s)
      go [] = w
      go (place ∷ hand) = record { chunks = w.chunks; traces = w.traces; pins = w.pins }
  answer_within s (Missed stamp) w = w
  answer_within s Unread w = w

  event_within : (s : AgentState) (event : AgentEvent) → IsFull settings s → IsWithin settings (after_event settings node s event)
  event_within s (Took input) f = let w = input_within s input f in record { chunks = w.chunks; traces = w.traces; pins = w.pins }
  event_within s (Gave answer) f = let w = answer_within s answer f.within in record { chunks = w.chunks; traces = w.traces; pins = w.pins }

  pub full_from : (s : AgentState) (events : List AgentEvent) → IsFull settings s → IsFull settings (after_from settings node s events)
  full_from s [] f = f
  full_from s (event ∷ events) f =
      full_from (after_event settings node s event) events (record {
        places = kept_event settings node PlacesMatch (match_kept settings node) s event f.places;
        touched = kept_event settings node AreTouched (touched_kept settings node) s event f.touched;
        within = event_within s event f;
      })

pub limits_hold : LimitsHold
limits_hold settings node events =
    (full_from settings node (start settings) events (record { places = match_start settings; touched = tt; within = record { chunks = omega arith; traces = omega arith; pins = omega arith } })).within
