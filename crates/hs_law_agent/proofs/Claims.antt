-- A trace is claimed once, and its chunks stand for the group that did.
use Rattle.std.proofs.Common.{◌≡◌, ℕ, suc, ◌+◌, ◌≤◌, Bool, true, false, cond, List, [], ◌∷◌, ◌++◌, length, take, map, refl, sym, ap, ◌∙◌, arith, Some, subst, true≢false, append_assoc, append-nil}
use Rattle.hs_law_agent.proofs.Prelude.{filter, slice_get, option_map, option_map_or, AllByRecursion, map-append, all_push, one_if, TraceId, Ask, Group, same_trace, PlainSettings, count_sent, ChunkStanding, Indexed, Pinned, Reported, Evicted, Abandoned, Taken, trace_of, is_indexed, is_pinned_to, is_indexed_of, is_pinned_for, indexed_places, indexed_count, places_from, passes, is_among, moved_from, AgentState, ClaimedTrace, start, claim_of, is_claimed, evict_trace, claim_trace, abandon_group, order_of, costs_of, reported_standing, report, after, count_of, count_traces, claimed_traces, claiming_group, StandsByClaim}
use Rattle.std.specs.Prelude.{◌&&◌}
use Rattle.hs_pins.proofs.Order.{same_group-true}
use Rattle.hs_law_agent.specs.Laws.{AllStandByClaim, IsClaimedOrTouched, TracesAreClaimedOnce, ClaimsHoldForGood, ChunksStandByTheirClaim}
use Rattle.hs_law_agent.proofs.Counts.{count-filter, among_counted, not_among_counted, places_counted_at}
use Rattle.hs_law_agent.proofs.Traces.{same_trace-refl, same_trace-true, traces-append, traces-without, traces-touch, unclaimed-counted, claim_of-none, claiming-append, claiming-new, claimed-append, same_trace-sym}
use Rattle.hs_law_agent.proofs.Traversal.{IsKept, kept_after, kept_from}

-- ---- claimed once

claimed_more : (claims : List ClaimedTrace) (new : ClaimedTrace) (u : TraceId)
    → count_traces (map (λ (c : ClaimedTrace). c.trace) (claims ++ new ∷ [])) u ≡ count_traces (map (λ (c : ClaimedTrace). c.trace) claims) u + count_traces (new.trace ∷ []) u
claimed_more claims new u = ap (λ ts. count_traces ts u) (map-append (λ (c : ClaimedTrace). c.trace) claims (new ∷ [])) ∙ traces-append (map (λ (c : ClaimedTrace). c.trace) claims) (new.trace ∷ []) u

abbrev pub Apart : AgentState → Type 0
Apart s = (t : TraceId) → IsClaimedOrTouched s t

apart_claims : (ask : Ask) (trace : TraceId) (s : AgentState) → is_claimed s.claims trace ≡ false → Apart s → Apart (claim_trace ask trace s)
apart_claims ask trace s free m u =
    let more = claimed_more s.claims (record { trace = trace; group = ask.group; laterals = ask.laterals }) u in
    let old : count_traces (claimed_traces s) u + count_traces s.touched u ≤ 1 = m u in
    let left = traces-without trace s.touched u in
    go (same_trace trace u) (same_trace u trace) refl refl more old left
  where
    go : (b c : Bool) → same_trace trace u ≡ b → same_trace u trace ≡ c
        → count_traces (claimed_traces (claim_trace ask trace s)) u ≡ count_traces (claimed_traces s) u + (cond (same_trace u trace) 1 0 + 0)
        → count_traces (claimed_traces s) u + count_traces s.touched u ≤ 1
        → count_traces (claim_trace ask trace s).touched u ≡ cond (same_trace trace u) 0 (count_traces s.touched u)
        → count_traces (claimed_traces (claim_trace ask trace s)) u + count_traces (claim_trace ask trace s).touched u ≤ 1
    go true true e f more old left =
        let none : count_traces (claimed_traces s) u ≡ 0 = subst (λ v. count_traces (claimed_traces s) v ≡ 0) (same_trace-true trace u e) (unclaimed-counted s.claims trace free) in
        let m2 = rw f at more in
        let l2 = rw e at left in omega arith
    go false false e f more old left = let m2 = rw f at more in let l2 = rw e at left in omega arith
    go true false e f more old left = absurd (true≢false (sym (same_trace-refl u) ∙ subst (λ v. same_trace u v ≡ false) (same_trace-true trace u e) f))
    go false true e f more old left = absurd (true≢false (sym (same_trace-refl u) ∙ subst (λ v. same_trace v u ≡ false) (sym (same_trace-true u trace f)) e))

apart_touch : (t : TraceId) (s : AgentState) (touched : List TraceId) → is_claimed s.claims t ≡ false → Apart s
    → (u : TraceId) → count_traces touched u ≡ cond (same_trace t u) 1 (count_traces s.touched u) → count_traces (claimed_traces s) u + count_traces touched u ≤ 1
apart_touch t s touched free m u e = go (same_trace t u) refl e (m u)
  where
    go : (b : Bool) → same_trace t u ≡ b → count_traces touched u ≡ cond b 1 (count_traces s.touched u) → count_traces (claimed_traces s) u + count_traces s.touched u ≤ 1
        → count_traces (claimed_traces s) u + count_traces touched u ≤ 1
    go true f e old = let none : count_traces (claimed_traces s) u ≡ 0 = subst (λ v. count_traces (claimed_traces s) v ≡ 0) (same_trace-true t u f) (unclaimed-counted s.claims t free) in omega arith
    go false f e old = omega arith

apart_evicts : (trace : TraceId) (later : List TraceId) (s : AgentState) → s.touched ≡ trace ∷ later → Apart s → Apart (evict_trace trace later s)
apart_evicts trace later s e m u =
    let old : count_traces (claimed_traces s) u + count_traces s.touched u ≤ 1 = m u in
    let parts : count_traces s.touched u ≡ cond (same_trace u trace) 1 0 + count_traces later u = ap (λ ts. count_traces ts u) e in
    omega arith

pub apart_kept : (settings : PlainSettings) (node : ℕ) → IsKept settings node Apart
apart_kept settings node =
    record {
      evicts = λ trace later s e over m. apart_evicts trace later s e m;
      claims = λ ask trace s free m. apart_claims ask trace s free m;
      abandons = λ group s chosen m. m;
      visits = λ s share m. m;
      shares = λ shares s m. m;
      indexes = λ sheet s free m u. apart_touch sheet.header.trace s _ (claim_of-none s.claims sheet.header.trace free) m u (traces-touch sheet.header.trace s.touched u);
      drops = λ sheet claim s had gone m. m;
      pins = λ sheet claim s had m. m;
      touches = λ crumb s free m u. apart_touch crumb.trace s _ (claim_of-none s.claims crumb.trace free) m u (traces-touch crumb.trace s.touched u);
      tells = λ crumb claim s had new m. m;
      tries = λ trigger s m. m;
      counts = λ s m. m;
      says = λ told s m. m;
      notes = λ step s m. m;
      gives = λ stamp place hand s e m. m;
    }

pub apart_start : (settings : PlainSettings) → Apart (start settings)
apart_start settings t = omega arith

pub traces_are_claimed_once : TracesAreClaimedOnce
traces_are_claimed_once settings node events = kept_after settings node Apart (apart_kept settings node) (apart_start settings) events

-- ---- claims hold for good

abbrev Adds : List ClaimedTrace → AgentState → Type 0
Adds old s = (more : List ClaimedTrace) × (s.claims ≡ old ++ more)

adds_kept : (settings : PlainSettings) (node : ℕ) (old : List ClaimedTrace) → IsKept settings node (Adds old)
adds_kept settings node old =
    record {
      evicts = λ trace later s e over m. m;
      claims = λ ask trace s free m. (m.0 ++ record { trace = trace; group = ask.group; laterals = ask.laterals } ∷ [], rw (m.1) (append_assoc old m.0 _));
      abandons = λ group s chosen m. m;
      visits = λ s share m. m;
      shares = λ shares s m. m;
      indexes = λ sheet s free m. m;
      drops = λ sheet claim s had gone m. m;
      pins = λ sheet claim s had m. m;
      touches = λ crumb s free m. m;
      tells = λ crumb claim s had new m. m;
      tries = λ trigger s m. m;
      counts = λ s m. m;
      says = λ told s m. m;
      notes = λ step s m. m;
      gives = λ stamp place hand s e m. m;
    }

pub claims_hold_for_good : ClaimsHoldForGood
claims_hold_for_good settings node events later =
    kept_from settings node (Adds (after settings node events).claims) (adds_kept settings node (after settings node events).claims) (after settings node events) later ([], sym (append-nil (after settings node events).claims))

-- ---- standings follow claims

-- the chunks that move pass a test of their own, and those that stay another
pub all_moved : (P Q : Taken → Type 0) (change : ChunkStanding → ChunkStanding) (places : List ℕ) (k : ℕ) (taken : List Taken) → AllByRecursion P taken
    → ((p : ℕ) (c : Taken) → slice_get taken p ≡ Some c → P c → Q (cond (is_among places (k + p)) (record c { standing = change c.standing }) c))
    → AllByRecursion Q (moved_from k places change taken)
all_moved P Q change places k [] all h = tt
all_moved P Q change places k (c ∷ taken) all h =
    let z : k + 0 ≡ k = omega arith in
    (rw z at (h 0 c refl all.0), all_moved P Q change places (suc k) taken all.1 (λ p d e m. let n : k + suc p ≡ suc k + p = omega arith in rw n at (h (suc p) d e m)))

-- a place is among those of a test exactly where its chunk passes it
pub among_places : (test : Taken → Bool) (taken : List Taken) (p : ℕ) (c : Taken) → slice_get taken p ≡ Some c → is_among (places_from 0 test taken) p ≡ test c
among_places test taken p c e =
    let count = places_counted_at test taken p in
    let is : passes test taken p ≡ test c = ap (λ o. option_map_or test o false) e in
    let both : count_of (places_from 0 test taken) p ≡ one_if (test c) = count ∙ ap one_if is in
    go (is_among (places_from 0 test taken) p) (test c) refl refl both
  where
    go : (a b : Bool) → is_among (places_from 0 test taken) p ≡ a → test c ≡ b → count_of (places_from 0 test taken) p ≡ one_if (test c) → a ≡ b
    go true true f g h = refl
    go false false f g h = refl
    go true false f g h = let n = among_counted (places_from 0 test taken) p f in let z : one_if (test c) ≡ 0 = rw g refl in absurd (omega arith)
    go false true f g h = let n = not_among_counted (places_from 0 test taken) p f in let z : one_if (test c) ≡ 1 = rw g refl in absurd (omega arith)

stays_reported : (claims : List ClaimedTrace) (t : TraceId) (s : ChunkStanding) → StandsByClaim claims t s → StandsByClaim claims t (reported_standing s)
stays_reported claims t Indexed h = h
stays_reported claims t (Pinned g) h = h
stays_reported claims t (Reported g) h = h
stays_reported claims t (Evicted a b) h = h
stays_reported claims t (Abandoned g) h = h

goes_abandoned : (claims : List ClaimedTrace) (t : TraceId) (group : Group) (s : ChunkStanding) → is_pinned_to group s ≡ true → StandsByClaim claims t s → StandsByClaim claims t (Abandoned group)
goes_abandoned claims t group Indexed e h = absurd (true≢false (sym e))
goes_abandoned claims t group (Pinned g) e h = h ∙ ap Some (sym (same_group-true group g e))
goes_abandoned claims t group (Reported g) e h = absurd (true≢false (sym e))
goes_abandoned claims t group (Evicted a b) e h = absurd (true≢false (sym e))
goes_abandoned claims t group (Abandoned g) e h = absurd (true≢false (sym e))

-- a chunk as it stands once its trace or another was claimed
claimed_standing : (claims : List ClaimedTrace) (new : ClaimedTrace) (c : Taken) → StandsByClaim claims (trace_of c) c.standing
    → (b : Bool) → is_indexed_of new.trace c ≡ b → StandsByClaim (claims ++ new ∷ []) (trace_of c) (cond b (Pinned new.group) c.standing)
claimed_standing claims new c h b e = go c.standing b e h
  where
    go : (s : ChunkStanding) (b : Bool) → (is_indexed s && same_trace new.trace (trace_of c)) ≡ b → StandsByClaim claims (trace_of c) s
        → StandsByClaim (claims ++ new ∷ []) (trace_of c) (cond b (Pinned new.group) s)
    go Indexed true e h = claiming-new claims new (trace_of c) h (same_trace-sym new.trace (trace_of c) true e)
    go Indexed false e h = claimed-append claims new (trace_of c) h (same_trace-sym new.trace (trace_of c) false e)
    go (Pinned g) true e h = absurd (true≢false (sym e))
    go (Pinned g) false e h = claiming-append claims (new ∷ []) (trace_of c) g h
    go (Reported g) true e h = absurd (true≢false (sym e))
    go (Reported g) false e h = claiming-append claims (new ∷ []) (trace_of c) g h
    go (Evicted x y) true e h = absurd (true≢false (sym e))
    go (Evicted x y) false e h = tt
    go (Abandoned g) true e h = absurd (true≢false (sym e))
    go (Abandoned g) false e h = claiming-append claims (new ∷ []) (trace_of c) g h

abbrev pub ByClaim : AgentState → Type 0
ByClaim s = AllStandByClaim s.claims s.taken

abbrev Stands : List ClaimedTrace → Taken → Type 0
Stands claims c = StandsByClaim claims (trace_of c) c.standing

by_claim_evicts : (trace : TraceId) (later : List TraceId) (s : AgentState) → ByClaim s → ByClaim (evict_trace trace later s)
by_claim_evicts trace later s m =
    all_moved (Stands s.claims) (Stands s.claims) (λ _. Evicted (indexed_count s.taken) (length s.touched)) (indexed_places s.taken trace) 0 s.taken m
    (λ p c e h. elim (is_among (indexed_places s.taken trace) (0 + p)) as (λ b. Stands s.claims (cond b (record c { standing = Evicted (indexed_count s.taken) (length s.touched) }) c)) [ true ↦ tt | false ↦ h ])

by_claim_claims : (ask : Ask) (trace : TraceId) (s : AgentState) → ByClaim s → ByClaim (claim_trace ask trace s)
by_claim_claims ask trace s m =
    let new : ClaimedTrace = record { trace = trace; group = ask.group; laterals = ask.laterals } in
    all_moved (Stands s.claims) (Stands (s.claims ++ new ∷ [])) (λ _. Pinned ask.group) (indexed_places s.taken trace) 0 s.taken m
    (λ p c e h.
    let z : 0 + p ≡ p = omega arith in
    let among : is_among (indexed_places s.taken trace) (0 + p) ≡ is_indexed_of trace c = rw z (among_places (is_indexed_of trace) s.taken p c e) in
    here new c h (is_among (indexed_places s.taken trace) (0 + p)) among)
  where
    here : (new : ClaimedTrace) (c : Taken) → Stands s.claims c → (b : Bool) → b ≡ is_indexed_of new.trace c → Stands (s.claims ++ new ∷ []) (cond b (record c { standing = Pinned new.group }) c)
    here new c h true e = claimed_standing s.claims new c h true (sym e)
    here new c h false e = claimed_standing s.claims new c h false (sym e)

by_claim_abandons : (group : Group) (s : AgentState) → ByClaim s → ByClaim (abandon_group group s)
by_claim_abandons group s m =
    let places = filter (is_pinned_for s.taken group) s.pinned in
    all_moved (Stands s.claims) (Stands s.claims) (λ _. Abandoned group) places 0 s.taken m
    (λ p c e h. let z : 0 + p ≡ p = omega arith in here p c e h (is_among places (0 + p)) (rw z refl))
  where
    here : (p : ℕ) (c : Taken) → slice_get s.taken p ≡ Some c → Stands s.claims c → (b : Bool) → is_among (filter (is_pinned_for s.taken group) s.pinned) p ≡ b
        → Stands s.claims (cond b (record c { standing = Abandoned group }) c)
    here p c e h false f = h
    here p c e h true f =
        let n = among_counted (filter (is_pinned_for s.taken group) s.pinned) p f in
        let count = count-filter (is_pinned_for s.taken group) s.pinned p in
        let is : is_pinned_for s.taken group p ≡ is_pinned_to group c.standing = ap (λ o. option_map_or (λ (chunk : Taken). is_pinned_to group chunk.standing) o false) e in
        goes_abandoned s.claims (trace_of c) group c.standing (sym is ∙ pinned_here (is_pinned_for s.taken group p) n count) h
      where
        pinned_here : (b : Bool) → 1 ≤ count_of (filter (is_pinned_for s.taken group) s.pinned) p → count_of (filter (is_pinned_for s.taken group) s.pinned) p ≡ cond b (count_of s.pinned p) 0 → b ≡ true
        pinned_here true n count = refl
        pinned_here false n count = absurd (omega arith)

by_claim_report : (places : List ℕ) (s : AgentState) → ByClaim s → ByClaim (report places s)
by_claim_report places s m =
    all_moved (Stands s.claims) (Stands s.claims) reported_standing places 0 s.taken m
    (λ p c e h. elim (is_among places (0 + p)) as (λ b. Stands s.claims (cond b (record c { standing = reported_standing c.standing }) c)) [ true ↦ stays_reported s.claims (trace_of c) c.standing h | false ↦ h ])

claiming_from : (claims : List ClaimedTrace) (t : TraceId) (claim : ClaimedTrace) → claim_of claims t ≡ Some claim → claiming_group claims t ≡ Some claim.group
claiming_from claims t claim e = ap (λ o. option_map (λ (c : ClaimedTrace). c.group) o) e

pub by_claim_kept : (settings : PlainSettings) (node : ℕ) → IsKept settings node ByClaim
by_claim_kept settings node =
    record {
      evicts = λ trace later s e over m. by_claim_evicts trace later s m;
      claims = λ ask trace s free m. by_claim_claims ask trace s m;
      abandons = λ group s chosen m. by_claim_abandons group s m;
      visits = λ s share m. by_claim_report (take (count_sent settings.size share (costs_of s share.trigger.0)) (order_of s share.trigger.0)) s m;
      shares = λ shares s m. m;
      indexes = λ sheet s free m. all_push (Stands s.claims) s.taken _ m (claim_of-none s.claims sheet.header.trace free);
      drops = λ sheet claim s had gone m. all_push (Stands s.claims) s.taken _ m (claiming_from s.claims sheet.header.trace claim had);
      pins = λ sheet claim s had m. all_push (Stands s.claims) s.taken _ m (claiming_from s.claims sheet.header.trace claim had);
      touches = λ crumb s free m. m;
      tells = λ crumb claim s had new m. m;
      tries = λ trigger s m. m;
      counts = λ s m. m;
      says = λ told s m. m;
      notes = λ step s m. m;
      gives = λ stamp place hand s e m. m;
    }

pub chunks_stand_by_their_claim : ChunksStandByTheirClaim
chunks_stand_by_their_claim settings node events = kept_after settings node ByClaim (by_claim_kept settings node) tt events
