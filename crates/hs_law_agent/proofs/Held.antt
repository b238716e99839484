-- Each step leaves an indexed chunk with a trace that nobody claims, and a pinned one with a trace that its group claims.
use Rattle.std.proofs.Common.{◌≡◌, ℕ, ◌+◌, Bool, true, false, cond, List, [], ◌∷◌, ◌++◌, length, take, refl, sym, ap, ◌∙◌, arith, Some, true≢false}
use Rattle.hs_law_agent.proofs.Prelude.{filter, slice_get, AllByRecursion, all_push, TraceId, Ask, Group, same_trace, PlainSettings, count_sent, ChunkStanding, Indexed, Pinned, Reported, Evicted, Abandoned, Taken, trace_of, is_indexed, is_indexed_of, is_pinned_for, indexed_places, indexed_count, is_among, AgentState, ClaimedTrace, claim_of, is_claimed, evict_trace, claim_trace, abandon_group, order_of, costs_of, reported_standing, report, claiming_group}
use Rattle.std.specs.Prelude.{◌&&◌}
use Rattle.std.specs.Option.{option_map}
use Rattle.hs_law_agent.specs.Lives.{HeldByClaim, AllHeldByClaim}
use Rattle.hs_law_agent.proofs.Traces.{claim_of-none, claiming-append, claiming-new, claimed-append, same_trace-sym}
use Rattle.hs_law_agent.proofs.Traversal.{IsKept}
use Rattle.hs_law_agent.proofs.Claims.{all_moved, among_places}

abbrev pub Held : AgentState → Type 0
Held s = AllHeldByClaim s.claims s.taken

abbrev pub Holds : List ClaimedTrace → Taken → Type 0
Holds claims c = HeldByClaim claims (trace_of c) c.standing

reports_held : (claims : List ClaimedTrace) (t : TraceId) (s : ChunkStanding) → HeldByClaim claims t s → HeldByClaim claims t (reported_standing s)
reports_held claims t Indexed h = h
reports_held claims t (Pinned g) h = tt
reports_held claims t (Reported g) h = tt
reports_held claims t (Evicted a b) h = tt
reports_held claims t (Abandoned g) h = tt

-- a chunk as it stands once its trace or another was claimed
claimed_held : (claims : List ClaimedTrace) (new : ClaimedTrace) (c : Taken) → HeldByClaim claims (trace_of c) c.standing
    → (b : Bool) → is_indexed_of new.trace c ≡ b → HeldByClaim (claims ++ new ∷ []) (trace_of c) (cond b (Pinned new.group) c.standing)
claimed_held claims new c h b e = go c.standing b e h
  where
    go : (s : ChunkStanding) (b : Bool) → (is_indexed s && same_trace new.trace (trace_of c)) ≡ b → HeldByClaim claims (trace_of c) s
        → HeldByClaim (claims ++ new ∷ []) (trace_of c) (cond b (Pinned new.group) s)
    go Indexed true e h = claiming-new claims new (trace_of c) h (same_trace-sym new.trace (trace_of c) true e)
    go Indexed false e h = claimed-append claims new (trace_of c) h (same_trace-sym new.trace (trace_of c) false e)
    go (Pinned g) true e h = absurd (true≢false (sym e))
    go (Pinned g) false e h = claiming-append claims (new ∷ []) (trace_of c) g h
    go (Reported g) true e h = absurd (true≢false (sym e))
    go (Reported g) false e h = tt
    go (Evicted x y) true e h = absurd (true≢false (sym e))
    go (Evicted x y) false e h = tt
    go (Abandoned g) true e h = absurd (true≢false (sym e))
    go (Abandoned g) false e h = tt

held_evicts : (trace : TraceId) (later : List TraceId) (s : AgentState) → Held s → Held (evict_trace trace later s)
held_evicts trace later s m =
    all_moved (Holds s.claims) (Holds s.claims) (λ _. Evicted (indexed_count s.taken) (length s.touched)) (indexed_places s.taken trace) 0 s.taken m
    (λ p c e h. elim (is_among (indexed_places s.taken trace) (0 + p)) as (λ b. Holds s.claims (cond b (record c { standing = Evicted (indexed_count s.taken) (length s.touched) }) c)) [ true ↦ tt | false ↦ h ])

held_claims : (ask : Ask) (trace : TraceId) (s : AgentState) → Held s → Held (claim_trace ask trace s)
held_claims ask trace s m =
    let new : ClaimedTrace = record { trace = trace; group = ask.group; laterals = ask.laterals } in
    all_moved (Holds s.claims) (Holds (s.claims ++ new ∷ [])) (λ _. Pinned ask.group) (indexed_places s.taken trace) 0 s.taken m
    (λ p c e h.
    let z : 0 + p ≡ p = omega arith in
    let among : is_among (indexed_places s.taken trace) (0 + p) ≡ is_indexed_of trace c = rw z (among_places (is_indexed_of trace) s.taken p c e) in
    here new c h (is_among (indexed_places s.taken trace) (0 + p)) among)
  where
    here : (new : ClaimedTrace) (c : Taken) → Holds s.claims c → (b : Bool) → b ≡ is_indexed_of new.trace c → Holds (s.claims ++ new ∷ []) (cond b (record c { standing = Pinned new.group }) c)
    here new c h true e = claimed_held s.claims new c h true (sym e)
    here new c h false e = claimed_held s.claims new c h false (sym e)

held_abandons : (group : Group) (s : AgentState) → Held s → Held (abandon_group group s)
held_abandons group s m =
    all_moved (Holds s.claims) (Holds s.claims) (λ _. Abandoned group) (filter (is_pinned_for s.taken group) s.pinned) 0 s.taken m
    (λ p c e h. elim (is_among (filter (is_pinned_for s.taken group) s.pinned) (0 + p)) as (λ b. Holds s.claims (cond b (record c { standing = Abandoned group }) c)) [ true ↦ tt | false ↦ h ])

held_report : (places : List ℕ) (s : AgentState) → Held s → Held (report places s)
held_report places s m =
    all_moved (Holds s.claims) (Holds s.claims) reported_standing places 0 s.taken m
    (λ p c e h. elim (is_among places (0 + p)) as (λ b. Holds s.claims (cond b (record c { standing = reported_standing c.standing }) c)) [ true ↦ reports_held s.claims (trace_of c) c.standing h | false ↦ h ])

claiming_from : (claims : List ClaimedTrace) (t : TraceId) (claim : ClaimedTrace) → claim_of claims t ≡ Some claim → claiming_group claims t ≡ Some claim.group
claiming_from claims t claim e = ap (λ o. option_map (λ (c : ClaimedTrace). c.group) o) e

pub held_kept : (settings : PlainSettings) (node : ℕ) → IsKept settings node Held
held_kept settings node =
    record {
      evicts = λ trace later s e over m. held_evicts trace later s m;
      claims = λ ask trace s free m. held_claims ask trace s m;
      abandons = λ group s chosen m. held_abandons group s m;
      visits = λ s share m. held_report (take (count_sent settings.size share (costs_of s share.trigger.0)) (order_of s share.trigger.0)) s m;
      shares = λ shares s m. m;
      indexes = λ sheet s free m. all_push (Holds s.claims) s.taken _ m (claim_of-none s.claims sheet.header.trace free);
      drops = λ sheet claim s had gone m. all_push (Holds s.claims) s.taken _ m tt;
      pins = λ sheet claim s had m. all_push (Holds s.claims) s.taken _ m (claiming_from s.claims sheet.header.trace claim had);
      touches = λ crumb s free m. m;
      tells = λ crumb claim s had new m. m;
      tries = λ trigger s m. m;
      counts = λ s m. m;
      says = λ told s m. m;
      notes = λ step s m. m;
      gives = λ stamp place hand s e m. m;
    }
