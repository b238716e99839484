-- What holds in a life: each act leads from a good state to a good one.
use Rattle.std.proofs.Common.{◌≡◌, ℕ, ◌+◌, ◌≤◌, Bool, true, false, cond, not, ◌||◌, List, [], ◌∷◌, ◌++◌, map, refl, sym, ap, ◌∙◌, arith, Option, Some, None, subst, true≢false}
use Rattle.hs_law_agent.proofs.Prelude.{filter, fold, slice_get, option_map, option_map_or, option_and_then, cons_option, list_any, AllByRecursion, or_parts, eqb-true, ◌==◌, one_if, TraceId, Group, same_trace, same_group, PlainSettings, ChunkStanding, Indexed, Pinned, Reported, Evicted, Abandoned, Taken, trace_of, is_pinned, pinned_for, pinning_group, stands, pinned_groups, AgentState, ClaimedTrace, start, claim_of, is_claimed, AgentEvent, after_event, after_from, count_of, count_traces, claimed_traces, claiming_group, PlacesMatch}
use Rattle.std.specs.Prelude.{filter_map}
use Rattle.hs_base.proofs.Alls.{all_at, all_by_place}
use Rattle.hs_law_agent.specs.Standings.{is_evicted}
use Rattle.hs_law_agent.specs.Laws.{AllWereOver, IsInOnePlace, IsWithin}
use Rattle.hs_law_agent.specs.Lives.{is_of_group, claims_without, forget_group, is_settled, forget, Act, Does, Forgets, after_act, life_from, HeldByClaim, IsGood, GoesOnWell, LivesGoOnWell, EvictsNoClaimed, NothingClaimedGoes, Keeps, ClaimsStand, EventsLeadOn, ListsLast, ListsGoOn}
use Rattle.hs_law_agent.proofs.Traces.{claiming-append}
use Rattle.hs_law_agent.proofs.Traversal.{IsKept, kept_event, kept_from}
use Rattle.hs_law_agent.proofs.Placed.{match_kept, match_start}
use Rattle.hs_law_agent.proofs.Partition.{in_one_place}
use Rattle.hs_law_agent.proofs.Claims.{Apart, apart_kept, apart_start}
use Rattle.hs_law_agent.proofs.Limits.{AreTouched, touched_kept, IsFull, full_from}
use Rattle.hs_law_agent.proofs.WereOver.{over_kept}
use Rattle.hs_law_agent.proofs.Unevicted.{Unevicted, unevicted_kept}
use Rattle.hs_law_agent.proofs.Whiles.{goes_on}
use Rattle.hs_law_agent.proofs.Held.{Held, Holds, held_kept}
use Rattle.hs_law_agent.proofs.Ordered.{InOrder, in_order_kept}

-- ---- what is left of the claims

none_left : (q : ClaimedTrace → Bool) (claims : List ClaimedTrace) (t : TraceId) → is_claimed claims t ≡ false → is_claimed (filter q claims) t ≡ false
none_left q [] t e = refl
none_left q (c ∷ claims) t e = let both = or_parts (same_trace t c.trace) (is_claimed claims t) e in go (q c) both.0 (none_left q claims t both.1)
  where
    go : (b : Bool) → same_trace t c.trace ≡ false → is_claimed (filter q claims) t ≡ false → is_claimed (cond b (c ∷ filter q claims) (filter q claims)) t ≡ false
    go true differs rest = rw differs rest
    go false differs rest = rest

few_left : (q : ClaimedTrace → Bool) (claims : List ClaimedTrace) (t : TraceId) → count_traces (map (λ (c : ClaimedTrace). c.trace) (filter q claims)) t ≤ count_traces (map (λ (c : ClaimedTrace). c.trace) claims) t
few_left q [] t = omega arith
few_left q (c ∷ claims) t = go (q c) (few_left q claims t)
  where
    go : (b : Bool) → count_traces (map (λ (c : ClaimedTrace). c.trace) (filter q claims)) t ≤ count_traces (map (λ (c : ClaimedTrace). c.trace) claims) t
        → count_traces (map (λ (c : ClaimedTrace). c.trace) (cond b (c ∷ filter q claims) (filter q claims))) t ≤ cond (same_trace t c.trace) 1 0 + count_traces (map (λ (c : ClaimedTrace). c.trace) claims) t
    go true rest = omega (arith, rest)
    go false rest = omega (arith, rest)

pub claiming_left : (group : Group) (claims : List ClaimedTrace) (t : TraceId) (g : Group) → same_group group g ≡ false → claiming_group claims t ≡ Some g → claiming_group (claims_without group claims) t ≡ Some g
claiming_left group [] t g other e = absurd cc
claiming_left group (c ∷ claims) t g other e = go (same_trace t c.trace) (same_group group c.group) refl refl e (claiming_left group claims t g other)
  where
    go : (b d : Bool) → same_trace t c.trace ≡ b → same_group group c.group ≡ d → option_map (λ (claim : ClaimedTrace). claim.group) (cond b (Some c) (claim_of claims t)) ≡ Some g
        → (claiming_group claims t ≡ Some g → claiming_group (claims_without group claims) t ≡ Some g)
        → claiming_group (cond (not d) (c ∷ claims_without group claims) (claims_without group claims)) t ≡ Some g
    go true true f k e next = let same : c.group ≡ g = cc in absurd (true≢false (sym k ∙ subst (λ (h : Group). same_group group h ≡ false) (sym same) other))
    go true false f k e next = rw f e
    go false true f k e next = next e
    go false false f k e next = rw f (next e)

-- ---- what is pinned

-- a group that is found at one of these places is among those of all
group_there : (f : ℕ → Option Group) (test : Group → Bool) (places : List ℕ) (p : ℕ) (g : Group) → 1 ≤ count_of places p → f p ≡ Some g → list_any test (filter_map f places) ≡ false → test g ≡ false
group_there f test [] p g few at none = absurd (omega arith)
group_there f test (q ∷ places) p g few at none = go (f q) (q == p) refl refl few none (group_there f test places p g)
  where
    none_some : None ≡ Some g → ⊥
    none_some h = cc

    some_same : (h : Group) → Some h ≡ Some g → h ≡ g
    some_same h i = cc

    go : (o : Option Group) (b : Bool) → f q ≡ o → (q == p) ≡ b → 1 ≤ cond b 1 0 + count_of places p → list_any test (cons_option o (filter_map f places)) ≡ false
        → (1 ≤ count_of places p → f p ≡ Some g → list_any test (filter_map f places) ≡ false → test g ≡ false) → test g ≡ false
    go None true e same few none next = let is : q ≡ p = eqb-true q p same in absurd (none_some (sym e ∙ ap f is ∙ at))
    go None false e same few none next = next (omega (arith, few)) at none
    go (Some h) true e same few none next =
        let is : q ≡ p = eqb-true q p same in
        subst (λ (x : Group). test x ≡ false) (some_same h (sym e ∙ ap f is ∙ at)) (or_parts (test h) (list_any test (filter_map f places)) none).0
    go (Some h) false e same few none next = next (omega (arith, few)) at (or_parts (test h) (list_any test (filter_map f places)) none).1

not-true : (b : Bool) → not b ≡ true → b ≡ false
not-true true e = absurd (true≢false (sym e))
not-true false e = refl

-- a pinned chunk is for a group that is not settled
other_group : (group : Group) (s : AgentState) → is_settled group s ≡ true → PlacesMatch s → (p : ℕ) (c : Taken) (g : Group) → slice_get s.taken p ≡ Some c → c.standing ≡ Pinned g → same_group group g ≡ false
other_group group s settled places p c g at is =
    let stood : stands is_pinned s.taken p ≡ true = ap (λ o. option_map_or (λ (d : Taken). is_pinned d.standing) o false) at ∙ ap is_pinned is in
    let for_g : pinned_for s.taken p ≡ Some g = ap (λ o. option_and_then (λ (d : Taken). pinning_group d.standing) o) at ∙ ap pinning_group is in
    let each : count_of s.pinned p ≡ one_if (stands is_pinned s.taken p) = places.pinned_each p in
    let once : one_if (stands is_pinned s.taken p) ≡ 1 = ap one_if stood in
    group_there (pinned_for s.taken) (same_group group) s.pinned p g (omega arith) for_g (not-true _ settled)

held_forgets : (group : Group) (s : AgentState) → is_settled group s ≡ true → PlacesMatch s → Held s → Held (forget_group group s)
held_forgets group s settled places held =
    all_by_place (Holds (claims_without group s.claims)) s.taken (λ p c at. go p c at c.standing refl (all_at (Holds s.claims) s.taken p c held at))
  where
    go : (p : ℕ) (c : Taken) → slice_get s.taken p ≡ Some c → (u : ChunkStanding) → c.standing ≡ u → HeldByClaim s.claims (trace_of c) c.standing → HeldByClaim (claims_without group s.claims) (trace_of c) c.standing
    go p c at u is h = subst (λ (v : ChunkStanding). HeldByClaim (claims_without group s.claims) (trace_of c) v) (sym is) (by u is (subst (λ (v : ChunkStanding). HeldByClaim s.claims (trace_of c) v) is h))
      where
        by : (u : ChunkStanding) → c.standing ≡ u → HeldByClaim s.claims (trace_of c) u → HeldByClaim (claims_without group s.claims) (trace_of c) u
        by Indexed is h = none_left (λ claim. not (is_of_group group claim)) s.claims (trace_of c) h
        by (Pinned g) is h = claiming_left group s.claims (trace_of c) g (other_group group s settled places p c g at is) h
        by (Reported g) is h = tt
        by (Evicted a b) is h = tt
        by (Abandoned g) is h = tt

-- ---- acts

module _ (settings : PlainSettings) (node : ℕ) where
  abbrev Over : AgentState → Type 0
  Over s = AllWereOver settings s.taken

  good_event : (s : AgentState) (event : AgentEvent) → IsGood settings s → IsGood settings (after_event settings node s event)
  good_event s event g =
      let places = kept_event settings node PlacesMatch (match_kept settings node) s event g.places in
      let order = kept_event settings node InOrder (in_order_kept settings node) s event (record { places = g.places; held = g.held; rising = g.rising; ahead = g.ahead }) in
      record {
        places = places;
        partition = λ p. in_one_place (after_event settings node s event) p places;
        once = kept_event settings node Apart (apart_kept settings node) s event g.once;
        held = kept_event settings node Held (held_kept settings node) s event g.held;
        touched = kept_event settings node AreTouched (touched_kept settings node) s event g.touched;
        within = (full_from settings node s (event ∷ []) (record { places = g.places; touched = g.touched; within = g.within })).within;
        over = kept_event settings node Over (over_kept settings node) s event g.over;
        rising = order.rising;
        ahead = order.ahead;
      }

  good_forgets : (group : Group) (s : AgentState) → is_settled group s ≡ true → IsGood settings s → IsGood settings (forget_group group s)
  good_forgets group s settled g = record {
    places = g.places;
    partition = g.partition;
    once = λ t. let few = few_left (λ claim. not (is_of_group group claim)) s.claims t in let old : count_traces (claimed_traces s) t + count_traces s.touched t ≤ 1 = g.once t in omega arith;
    held = held_forgets group s settled g.places g.held;
    touched = g.touched;
    within = record { chunks = g.within.chunks; traces = g.within.traces; pins = g.within.pins };
    over = g.over;
    rising = g.rising;
    ahead = g.ahead;
  }

  good_forget : (group : Group) (s : AgentState) → IsGood settings s → (b : Bool) → is_settled group s ≡ b → IsGood settings (cond b (forget_group group s) s)
  good_forget group s g true e = good_forgets group s e g
  good_forget group s g false e = g

  good_act : (s : AgentState) (act : Act) → IsGood settings s → IsGood settings (after_act settings node s act)
  good_act s (Does event) g = good_event s event g
  good_act s (Forgets group) g = good_forget group s g (is_settled group s) refl

  good_start : IsGood settings (start settings)
  good_start = record {
    places = match_start settings;
    partition = λ p. in_one_place (start settings) p (match_start settings);
    once = apart_start settings;
    held = tt;
    touched = tt;
    within = record { chunks = omega arith; traces = omega arith; pins = omega arith };
    over = tt;
    rising = λ t. tt;
    ahead = λ t p q few of is ofq. absurd (omega arith);
  }

  -- ---- claims

  abbrev Stays : TraceId → Group → AgentState → Type 0
  Stays t g s = claiming_group s.claims t ≡ Some g

  stays_kept : (t : TraceId) (g : Group) → IsKept settings node (Stays t g)
  stays_kept t g = record {
    evicts = λ trace later s e over m. m;
    claims = λ ask trace s free m. claiming-append s.claims _ t g m;
    abandons = λ group s chosen m. m;
    visits = λ s share m. m;
    shares = λ shares s m. m;
    indexes = λ sheet s free m. m;
    drops = λ sheet claim s had gone m. m;
    pins = λ sheet claim s had m. m;
    touches = λ crumb s free m. m;
    tells = λ crumb claim s had new m. m;
    tries = λ trigger s m. m;
    counts = λ s m. m;
    says = λ told s m. m;
    notes = λ step s m. m;
    gives = λ stamp place hand s e m. m;
  }

  stays_forget : (t : TraceId) (g other : Group) (s : AgentState) → same_group other g ≡ false → Stays t g s → (b : Bool) → Stays t g (cond b (forget_group other s) s)
  stays_forget t g other s differs m true = claiming_left other s.claims t g differs m
  stays_forget t g other s differs m false = m

  claims_stand : (acts : List Act) (s : AgentState) (t : TraceId) (g : Group) → AllByRecursion (Keeps g) acts → Stays t g s → Stays t g (life_from settings node s acts)
  claims_stand [] s t g keeps m = m
  claims_stand (Does event ∷ acts) s t g keeps m = claims_stand acts (after_event settings node s event) t g keeps.1 (kept_event settings node (Stays t g) (stays_kept t g) s event m)
  claims_stand (Forgets other ∷ acts) s t g keeps m = claims_stand acts (forget other s) t g keeps.1 (stays_forget t g other s keeps.0 m (is_settled other s))

pub lives_go_on_well : LivesGoOnWell
lives_go_on_well settings node = record { begins = good_start settings node; goes_on = good_act settings node }

forget_taken : (group : Group) (s : AgentState) (b : Bool) → (cond b (forget_group group s) s).taken ≡ s.taken
forget_taken group s true = refl
forget_taken group s false = refl

pub nothing_claimed_goes : NothingClaimedGoes
nothing_claimed_goes settings node s g = record {
  events = λ event p t of claimed.
      (kept_event settings node (Unevicted p t (stands is_evicted s.taken p)) (unevicted_kept settings node p t (stands is_evicted s.taken p)) s event
      (record { of_trace = of; claimed = claimed; apart = g.once; places = g.places; same = refl })).same;
  forgets = λ group. forget_taken group s (is_settled group s);
}

pub claims_stand_until_forgotten : ClaimsStand
claims_stand_until_forgotten settings node s acts t g keeps m = claims_stand settings node acts s t g keeps m

pub events_lead_on : EventsLeadOn
events_lead_on settings node s events later = goes_on settings node s events later

forget_places : (group : Group) (s : AgentState) → PlacesMatch s → (b : Bool) → PlacesMatch (cond b (forget_group group s) s)
forget_places group s m true = m
forget_places group s m false = m

pub lists_go_on : ListsGoOn
lists_go_on settings node s m = record {
  events = λ events. kept_from settings node PlacesMatch (match_kept settings node) s events m;
  forgets = λ group. forget_places group s m (is_settled group s);
  partition = λ p. in_one_place s p m;
}
