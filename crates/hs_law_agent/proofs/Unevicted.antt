-- No chunk of a claimed trace is evicted.
use Rattle.std.proofs.Common.{◌≡◌, ℕ, ◌+◌, ◌<◌, ◌≤◌, Bool, true, false, cond, List, [], ◌∷◌, ◌++◌, length, take, filter, refl, sym, ap, ◌∙◌, arith, inl, inr, subst, true≢false}
use Rattle.hs_law_agent.proofs.Prelude.{one_if, TraceId, same_trace, PlainSettings, count_sent, ChunkStanding, Pinned, Evicted, Abandoned, Taken, trace_of, is_indexed, is_pinned, is_indexed_of, is_of_trace, is_pinned_for, indexed_places, passes, stands, is_among, moved, AgentState, is_claimed, evict_trace, order_of, costs_of, reported_standing, after, count_of, count_traces, claimed_traces, PlacesMatch}
use Rattle.std.proofs.lemmas.Bool.{cases_lt, and_right}
use Rattle.hs_law_agent.specs.Standings.{is_evicted}
use Rattle.hs_law_agent.specs.Laws.{NothingClaimedIsEvicted}
use Rattle.hs_law_agent.proofs.Counts.{among_counted, passes_too, passes_moved_at, passes_before, passes_past, places_counted_at, count-filter-le}
use Rattle.hs_law_agent.proofs.Traces.{same_trace-refl, same_trace-true, claimed-counted, claimed-stays}
use Rattle.hs_law_agent.proofs.Traversal.{IsKept, kept_event}
use Rattle.hs_law_agent.proofs.Placed.{AreSome, Turns, moved_counted, indexed_some, indexed_only, pinned_only, match_kept, visit_few}
use Rattle.hs_law_agent.proofs.Partition.{lists_have_their_chunks}
use Rattle.hs_law_agent.proofs.Claims.{Apart, apart_kept, traces_are_claimed_once}

pub record Unevicted (p : ℕ) (t : TraceId) (b : Bool) (s : AgentState) : Type 0 where
  pub of_trace : is_of_trace s.taken t p ≡ true
  pub claimed : is_claimed s.claims t ≡ true
  pub apart : Apart s
  pub places : PlacesMatch s
  pub same : stands is_evicted s.taken p ≡ b

-- a chunk's trace stays
pub of_moved : (change : ChunkStanding → ChunkStanding) (places : List ℕ) (taken : List Taken) (t : TraceId) (p : ℕ) → is_of_trace (moved places change taken) t p ≡ is_of_trace taken t p
of_moved change places taken t p = passes_moved_at (λ c. same_trace t (trace_of c)) change places taken p ∙ go (is_among places p)
  where
    go : (b : Bool) → cond b (is_of_trace taken t p) (is_of_trace taken t p) ≡ is_of_trace taken t p
    go true = refl
    go false = refl

pub passed_within : (test : Taken → Bool) (taken : List Taken) (p : ℕ) → passes test taken p ≡ true → p < length taken
passed_within test taken p e = elim (cases_lt p (length taken)) [ inl h ↦ h | inr h ↦ absurd (true≢false (sym e ∙ passes_past test taken p h)) ]

of_more : (taken : List Taken) (c : Taken) (t : TraceId) (p : ℕ) → is_of_trace taken t p ≡ true → is_of_trace (taken ++ c ∷ []) t p ≡ true
of_more taken c t p e = passes_before _ taken (c ∷ []) p (passed_within _ taken p e) ∙ e

evicted_more : (taken : List Taken) (c : Taken) (t : TraceId) (p : ℕ) → is_of_trace taken t p ≡ true → stands is_evicted (taken ++ c ∷ []) p ≡ stands is_evicted taken p
evicted_more taken c t p e = passes_before _ taken (c ∷ []) p (passed_within _ taken p e)

one-injective : (a b : Bool) → one_if a ≡ one_if b → a ≡ b
one-injective true true e = refl
one-injective false false e = refl
one-injective true false e = absurd (omega arith)
one-injective false true e = absurd (omega arith)

-- what moves by no eviction
not_evicted : (from : ChunkStanding → Bool) (change : ChunkStanding → ChunkStanding) → Turns from is_evicted change false false → (taken : List Taken) (places : List ℕ) → AreSome from taken places
    → (p : ℕ) → stands is_evicted (moved places change taken) p ≡ stands is_evicted taken p
not_evicted from change turns taken places some p =
    let n = moved_counted from is_evicted change false false turns taken places some p in
    one-injective _ _ (omega arith)

pinned_some : (s : AgentState) (places : List ℕ) → ((p : ℕ) → count_of places p ≤ count_of s.pinned p) → PlacesMatch s → AreSome is_pinned s.taken places
pinned_some s places few m p = let le = few p in let each : count_of s.pinned p ≡ one_if (stands is_pinned s.taken p) = m.pinned_each p in omega arith

-- a claimed trace is not the one that goes
another_goes : (trace t : TraceId) (later : List TraceId) (s : AgentState) → s.touched ≡ trace ∷ later → is_claimed s.claims t ≡ true → Apart s → same_trace trace t ≡ false
another_goes trace t later s e claimed apart = go (same_trace trace t) refl
  where
    go : (b : Bool) → same_trace trace t ≡ b → b ≡ false
    go false f = refl
    go true f =
        let most : count_traces (claimed_traces s) t + count_traces s.touched t ≤ 1 = apart t in
        let least = claimed-counted s.claims t claimed in
        let first : count_traces s.touched t ≡ cond (same_trace t trace) 1 0 + count_traces later t = ap (λ ts. count_traces ts t) e in
        let is : same_trace t trace ≡ true = subst (λ v. same_trace v trace ≡ true) (same_trace-true trace t f) (same_trace-refl trace) in
        let one_first = rw is at first in absurd (omega arith)

same_evicts : (trace t : TraceId) (later : List TraceId) (s : AgentState) (p : ℕ) → s.touched ≡ trace ∷ later → is_of_trace s.taken t p ≡ true → is_claimed s.claims t ≡ true → Apart s
    → stands is_evicted (evict_trace trace later s).taken p ≡ stands is_evicted s.taken p
same_evicts trace t later s p e of claimed apart =
    let other = another_goes trace t later s e claimed apart in
    let none : passes (is_indexed_of trace) s.taken p ≡ false =
    passes_too (λ c. same_trace t (trace_of c)) (is_indexed_of trace) false
    (λ c f. and_right _ _ (subst (λ v. same_trace trace v ≡ false) (same_trace-true t (trace_of c) f) other)) s.taken p of in
    let count : count_of (indexed_places s.taken trace) p ≡ 0 = places_counted_at (is_indexed_of trace) s.taken p ∙ ap one_if none in
    passes_moved_at (λ c. is_evicted c.standing) (λ _. Evicted _ _) (indexed_places s.taken trace) s.taken p ∙ go (is_among (indexed_places s.taken trace) p) refl count
  where
    go : (b : Bool) → is_among (indexed_places s.taken trace) p ≡ b → count_of (indexed_places s.taken trace) p ≡ 0 → cond b (stands (λ _. true) s.taken p) (stands is_evicted s.taken p) ≡ stands is_evicted s.taken p
    go true f count = let n = among_counted (indexed_places s.taken trace) p f in absurd (omega arith)
    go false f count = refl

pub unevicted_kept : (settings : PlainSettings) (node p : ℕ) (t : TraceId) (b : Bool) → IsKept settings node (Unevicted p t b)
unevicted_kept settings node p t b =
    let apart = apart_kept settings node in
    let places = match_kept settings node in
    record {
      evicts = λ trace later s e over m. record {
        of_trace = of_moved _ (indexed_places s.taken trace) s.taken t p ∙ m.of_trace;
        claimed = m.claimed;
        apart = apart.evicts trace later s e over m.apart;
        places = places.evicts trace later s e over m.places;
        same = same_evicts trace t later s p e m.of_trace m.claimed m.apart ∙ m.same;
      };
      claims = λ ask trace s free m. record {
        of_trace = of_moved _ (indexed_places s.taken trace) s.taken t p ∙ m.of_trace;
        claimed = claimed-stays s.claims _ t m.claimed;
        apart = apart.claims ask trace s free m.apart;
        places = places.claims ask trace s free m.places;
        same =
            not_evicted is_indexed (λ _. Pinned ask.group) (λ u e. indexed_only (λ u. (is_evicted u ≡ false) × (false ≡ false)) (refl, refl) u e) s.taken (indexed_places s.taken trace) (indexed_some s.taken trace) p
            ∙ m.same;
      };
      abandons = λ group s chosen m. record {
        of_trace = of_moved _ (filter (is_pinned_for s.taken group) s.pinned) s.taken t p ∙ m.of_trace;
        claimed = m.claimed;
        apart = apart.abandons group s chosen m.apart;
        places = places.abandons group s chosen m.places;
        same =
            not_evicted is_pinned (λ _. Abandoned group) (λ u e. pinned_only (λ u. (is_evicted u ≡ false) × (false ≡ false)) (λ g. (refl, refl)) u e) s.taken (filter (is_pinned_for s.taken group) s.pinned)
            (pinned_some s (filter (is_pinned_for s.taken group) s.pinned) (count-filter-le (is_pinned_for s.taken group) s.pinned) m.places) p
            ∙ m.same;
      };
      visits = λ s share m.
          let sent = take (count_sent settings.size share (costs_of s share.trigger.0)) (order_of s share.trigger.0) in
          record {
            of_trace = of_moved reported_standing sent s.taken t p ∙ m.of_trace;
            claimed = m.claimed;
            apart = apart.visits s share m.apart;
            places = places.visits s share m.places;
            same =
                not_evicted is_pinned reported_standing (λ u e. pinned_only (λ u. (is_evicted u ≡ false) × (is_evicted (reported_standing u) ≡ false)) (λ g. (refl, refl)) u e) s.taken sent
                (pinned_some s sent (visit_few settings s share) m.places) p
                ∙ m.same;
          };
      shares = λ shares s m. record { of_trace = m.of_trace; claimed = m.claimed; apart = m.apart; places = m.places; same = m.same };
      indexes = λ sheet s free m. record {
        of_trace = of_more s.taken _ t p m.of_trace;
        claimed = m.claimed;
        apart = apart.indexes sheet s free m.apart;
        places = places.indexes sheet s free m.places;
        same = evicted_more s.taken _ t p m.of_trace ∙ m.same;
      };
      drops = λ sheet claim s had gone m. record {
        of_trace = of_more s.taken _ t p m.of_trace;
        claimed = m.claimed;
        apart = apart.drops sheet claim s had gone m.apart;
        places = places.drops sheet claim s had gone m.places;
        same = evicted_more s.taken _ t p m.of_trace ∙ m.same;
      };
      pins = λ sheet claim s had m. record {
        of_trace = of_more s.taken _ t p m.of_trace;
        claimed = m.claimed;
        apart = apart.pins sheet claim s had m.apart;
        places = places.pins sheet claim s had m.places;
        same = evicted_more s.taken _ t p m.of_trace ∙ m.same;
      };
      touches = λ crumb s free m. record { of_trace = m.of_trace; claimed = m.claimed; apart = apart.touches crumb s free m.apart; places = m.places; same = m.same };
      tells = λ crumb claim s had new m. record { of_trace = m.of_trace; claimed = m.claimed; apart = m.apart; places = m.places; same = m.same };
      tries = λ trigger s m. record { of_trace = m.of_trace; claimed = m.claimed; apart = m.apart; places = m.places; same = m.same };
      counts = λ s m. record { of_trace = m.of_trace; claimed = m.claimed; apart = m.apart; places = m.places; same = m.same };
      says = λ told s m. record { of_trace = m.of_trace; claimed = m.claimed; apart = m.apart; places = m.places; same = m.same };
      notes = λ step s m. record { of_trace = m.of_trace; claimed = m.claimed; apart = m.apart; places = m.places; same = m.same };
      gives = λ stamp place hand s e m. record { of_trace = m.of_trace; claimed = m.claimed; apart = m.apart; places = places.gives stamp place hand s e m.places; same = m.same };
    }

pub nothing_claimed_is_evicted : NothingClaimedIsEvicted
nothing_claimed_is_evicted settings node events event p t of claimed =
    let s = after settings node events in
    (kept_event settings node (Unevicted p t (stands is_evicted s.taken p)) (unevicted_kept settings node p t (stands is_evicted s.taken p)) s event
    (record { of_trace = of; claimed = claimed; apart = traces_are_claimed_once settings node events; places = lists_have_their_chunks settings node events; same = refl })).same
