-- What the index keeps is what the model has indexed: where a trace is touched, where it leaves, and where it is claimed.
use Rattle.std.proofs.Common.{◌≡◌, ℕ, ◌+◌, suc, Bool, true, false, cond, not, ◌||◌, ◌&&◌, List, [], ◌∷◌, ◌++◌, length, map, filter, Some, None, nat_eq, eq-eqb, refl, sym, ap, ◌∙◌, arith, append-nil}
use Rattle.hs_agent.proofs.Prelude.{find, AllByRecursion, list_any, option_map_or, or-true, eqb-true, true≢false, map-append, length-map, length-append, sum_by-cons, ne_eqb, by_answer, all_weaker, all_append, TraceId, NodeSet, Ask, Crumb, has_node, has-no_nodes, has-with_node, same_trace, Sheet, PlainIndexedTrace, Indexed, is_of, nothing, noted_of, others, touch, with_chunk, chunk_count, count_chunks, Claim, claim_of, is_claim_of, moved, places_from, indexed_places, indexed_count, is_indexed, is_indexed_of, trace_of, Taken, ChunkStanding, Pinned, Evicted, PlainSettings, AgentState, start, evict_trace, claim_trace, has_crumb, same_crumb, with_crumb, with_indexed, with_touched, same_trace-true, same_trace-refl, Tagged, Placed, place_of, AreApart, IsIndexed, crumbs_known}
use Rattle.std.specs.Option.{option_or}
use Rattle.std.proofs.lemmas.Bool.{not-true}
use Rattle.std.proofs.lemmas.List.Elements.{filter-append}
use Rattle.std.proofs.lemmas.List.Folds.{find-append}
use Rattle.std.proofs.lemmas.List.Sums.{sum_by_push}
use Rattle.hs_base.proofs.Options.{option_or_none}
use Rattle.hs_index.specs.Index.{is_other}
use Rattle.hs_index.specs.Index as index
use Rattle.hs_law_agent.specs.Standings.{Indexed as IsIn}
use Rattle.hs_law_agent.specs.State.{without_trace, without_crumbs}
use Rattle.hs_law_agent.specs.Evicting as model
use Rattle.hs_agent.proofs.Alls.{all-passing, all-filter}
use Rattle.hs_agent.proofs.Moving.{places-other, places-gone, count-left}

-- ---- traces

pub same_swap : (a b : TraceId) → same_trace a b ≡ same_trace b a
same_swap a b = by_answer (nat_eq a.0 b.0)
    (λ y. y ∙ sym (eq-eqb b.0 a.0 (sym (eqb-true a.0 b.0 y))))
    (λ n. n ∙ sym (ne_eqb b.0 a.0 (λ e. absurd (true≢false (sym (eq-eqb a.0 b.0 (sym e)) ∙ n)))))

abbrev Traced : Type 0 → Type 0
Traced L = Indexed (Tagged L)

-- ---- without a trace

module _ (gone : TraceId) where
  others-cons : {L : Type 0} → (t : Traced L) (ts : List (Traced L)) (b : Bool) → is_of gone t ≡ b → others gone (t ∷ ts) ≡ cond (not b) (t ∷ others gone ts) (others gone ts)
  others-cons t ts b e = ap (λ (c : Bool). cond (not c) (t ∷ others gone ts) (others gone ts)) e

  pub find-others : {L : Type 0} → (u : TraceId) → same_trace gone u ≡ false → (ts : List (Traced L)) → find (is_of u) (others gone ts) ≡ find (is_of u) ts
  find-others u apart [] = refl
  find-others u apart (t ∷ ts) =
      by_answer (is_of gone t)
      (λ y. ap (find (is_of u)) (others-cons t ts true y)
      ∙ find-others u apart ts
      ∙ sym (ap (λ b. cond b (Some t) (find (is_of u) ts)) (ap (same_trace u) (sym (same_trace-true gone t.trace y)) ∙ same_swap u gone ∙ apart)))
      (λ n. ap (find (is_of u)) (others-cons t ts false n) ∙ ap (cond (is_of u t) (Some t)) (find-others u apart ts))

  pub find-gone : {L : Type 0} → (ts : List (Traced L)) → find (is_of gone) (others gone ts) ≡ None
  find-gone [] = refl
  find-gone (t ∷ ts) =
      by_answer (is_of gone t)
      (λ y. ap (find (is_of gone)) (others-cons t ts true y) ∙ find-gone ts)
      (λ n. ap (find (is_of gone)) (others-cons t ts false n) ∙ ap (λ b. cond b (Some t) (find (is_of gone) (others gone ts))) n ∙ find-gone ts)

  pub noted-others : {L : Type 0} → (u : TraceId) → same_trace gone u ≡ false → (ts : List (Traced L)) → noted_of u (others gone ts) ≡ noted_of u ts
  noted-others {L} u apart ts = ap (λ o. option_map_or (λ (t : Traced L). t.noted) o nothing) (find-others u apart ts)

  pub noted-gone : {L : Type 0} → (ts : List (Traced L)) → noted_of gone (others gone ts) ≡ nothing
  noted-gone {L} ts = ap (λ o. option_map_or (λ (t : Traced L). t.noted) o nothing) (find-gone ts)

  -- where the trace is not there all stay
  pub others-all : {L : Type 0} → (ts : List (Traced L)) → AllByRecursion (λ (t : Traced L). same_trace gone t.trace ≡ false) ts → others gone ts ≡ ts
  others-all [] h = refl
  others-all (t ∷ ts) h = others-cons t ts false h.0 ∙ ap (λ l. t ∷ l) (others-all ts h.1)

  pub traces-others : {L : Type 0} → (ts : List (Traced L)) → map (λ (t : Traced L). t.trace) (others gone ts) ≡ without_trace gone (map (λ (t : Traced L). t.trace) ts)
  traces-others [] = refl
  traces-others {L} (t ∷ ts) = by (is_of gone t) (traces-others ts)
    where
      by : (b : Bool) → map (λ (t : Traced L). t.trace) (others gone ts) ≡ without_trace gone (map (λ (t : Traced L). t.trace) ts)
          → map (λ (t : Traced L). t.trace) (cond (not b) (t ∷ others gone ts) (others gone ts)) ≡ cond (not b) (t.trace ∷ without_trace gone (map (λ (t : Traced L). t.trace) ts)) (without_trace gone (map (λ (t : Traced L). t.trace) ts))
      by true rest = rest
      by false rest = ap (λ l. t.trace ∷ l) rest

  pub others-differ : {L : Type 0} → (ts : List (Traced L)) → AllByRecursion (λ (t : Traced L). same_trace gone t.trace ≡ false) (others gone ts)
  others-differ [] = tt
  others-differ {L} (t ∷ ts) = by (is_of gone t) refl (others-differ ts)
    where
      by : (b : Bool) → is_of gone t ≡ b → AllByRecursion (λ (t : Traced L). same_trace gone t.trace ≡ false) (others gone ts) → AllByRecursion (λ (t : Traced L). same_trace gone t.trace ≡ false) (cond (not b) (t ∷ others gone ts) (others gone ts))
      by true e rest = rest
      by false e rest = (e, rest)

  pub apart-others : {L : Type 0} → (ts : List (Traced L)) → AreApart ts → AreApart (others gone ts)
  apart-others [] h = tt
  apart-others {L} (t ∷ ts) h = by (is_of gone t) (apart-others ts h.1)
    where
      by : (b : Bool) → AreApart (others gone ts) → AreApart (cond (not b) (t ∷ others gone ts) (others gone ts))
      by true rest = rest
      by false rest = (all-filter (is_other gone) (λ (u : Traced L). same_trace t.trace u.trace ≡ false) ts h.0, rest)

  pub count-others : {L : Type 0} → (ts : List (Traced L)) → AreApart ts → count_chunks (others gone ts) + length (noted_of gone ts).chunks ≡ count_chunks ts
  count-others [] h = refl
  count-others {L} (t ∷ ts) h =
      by_answer (is_of gone t)
      (λ y.
      let is : others gone (t ∷ ts) ≡ ts = others-cons t ts true y ∙ others-all ts (all_weaker (λ (u : Traced L). same_trace t.trace u.trace ≡ false) (λ (u : Traced L). same_trace gone u.trace ≡ false) (λ u n. ap (λ w. same_trace w u.trace) (same_trace-true gone t.trace y) ∙ n) ts h.0) in
      let mine : noted_of gone (t ∷ ts) ≡ t.noted = ap (λ b. option_map_or (λ (t : Traced L). t.noted) (cond b (Some t) (find (is_of gone) ts)) nothing) y in
      let own = ap (λ (n : PlainIndexedTrace (Tagged L)). length n.chunks) mine in
      let rest = ap count_chunks is in
      let whole = sum_by-cons (λ (u : Traced L). chunk_count u.noted) t ts in
      omega (arith, own, rest, whole))
      (λ n.
      let is : others gone (t ∷ ts) ≡ t ∷ others gone ts = others-cons t ts false n in
      let mine : noted_of gone (t ∷ ts) ≡ noted_of gone ts = ap (λ b. option_map_or (λ (t : Traced L). t.noted) (cond b (Some t) (find (is_of gone) ts)) nothing) n in
      let own = ap (λ (n : PlainIndexedTrace (Tagged L)). length n.chunks) mine in
      let rest = ap count_chunks is in
      let whole = sum_by-cons (λ (u : Traced L). chunk_count u.noted) t ts in
      let left = sum_by-cons (λ (u : Traced L). chunk_count u.noted) t (others gone ts) in
      let more = count-others ts h.1 in
      omega (arith, own, rest, whole, left, more))

  -- the chunks of the other traces, where those of this one stand anew
  pub places-without : {L : Type 0} → (stands : ChunkStanding) → is_indexed stands ≡ false → (taken : List Taken) (ts : List (Traced L))
      → ((u : TraceId) → map place_of (noted_of u ts).chunks ≡ indexed_places taken u)
      → (u : TraceId) → map place_of (noted_of u (others gone ts)).chunks ≡ indexed_places (moved (indexed_places taken gone) (λ _. stands) taken) u
  places-without {L} stands out taken ts h u =
      by_answer (same_trace gone u)
      (λ y.
      let e = same_trace-true gone u y in
      ap (λ w. map place_of (noted_of w (others gone ts)).chunks) (sym e)
      ∙ ap (λ (n : PlainIndexedTrace (Tagged L)). map place_of n.chunks) (noted-gone ts)
      ∙ sym (places-gone gone stands out taken)
      ∙ ap (indexed_places (moved (indexed_places taken gone) (λ _. stands) taken)) e)
      (λ n. ap (λ (x : PlainIndexedTrace (Tagged L)). map place_of x.chunks) (noted-others u n ts) ∙ h u ∙ sym (places-other gone stands out taken u n))

  -- and how many these are
  pub count-without : {L : Type 0} → (stands : ChunkStanding) → is_indexed stands ≡ false → (taken : List Taken) (ts : List (Traced L)) → AreApart ts
      → map place_of (noted_of gone ts).chunks ≡ indexed_places taken gone → indexed_count taken ≡ count_chunks ts
      → indexed_count (moved (indexed_places taken gone) (λ _. stands) taken) ≡ count_chunks (others gone ts)
  count-without stands out taken ts apart own count =
      let less = count-left gone stands out taken in
      let mine : length (noted_of gone ts).chunks ≡ length (indexed_places taken gone) = sym (length-map (noted_of gone ts).chunks place_of) ∙ ap length own in
      let all = count-others ts apart in
      omega (arith, less, mine, all, count)

-- ---- a trace that is touched

module _ {L : Type 0} (trace : TraceId) (noted : PlainIndexedTrace (Tagged L)) where
  abbrev last : Traced L
  last = record { trace = trace; noted = noted }

  pub noted-touched : (ts : List (Traced L)) → noted_of trace (touch trace noted ts) ≡ noted
  noted-touched ts =
      ap (λ o. option_map_or (λ (t : Traced L). t.noted) o nothing)
      (find-append (is_of trace) (others trace ts) (last ∷ [])
      ∙ ap (λ o. option_or o (find (is_of trace) (last ∷ []))) (find-gone trace ts)
      ∙ ap (λ b. cond b (Some last) None) (same_trace-refl trace))

  pub noted-untouched : (u : TraceId) → same_trace trace u ≡ false → (ts : List (Traced L)) → noted_of u (touch trace noted ts) ≡ noted_of u ts
  noted-untouched u apart ts =
      ap (λ o. option_map_or (λ (t : Traced L). t.noted) o nothing)
      (find-append (is_of u) (others trace ts) (last ∷ [])
      ∙ ap (λ b. option_or (find (is_of u) (others trace ts)) (cond b (Some last) None)) (same_swap u trace ∙ apart)
      ∙ option_or_none (find (is_of u) (others trace ts))
      ∙ find-others trace u apart ts)

  apart-push : (ts : List (Traced L)) → AllByRecursion (λ (t : Traced L). same_trace trace t.trace ≡ false) ts → AreApart ts → AreApart (ts ++ last ∷ [])
  apart-push [] h a = (tt, tt)
  apart-push (t ∷ ts) h a = (all_append (λ (u : Traced L). same_trace t.trace u.trace ≡ false) ts (last ∷ []) a.0 (same_swap t.trace trace ∙ h.0, tt), apart-push ts h.1 a.1)

  pub apart-touched : (ts : List (Traced L)) → AreApart ts → AreApart (touch trace noted ts)
  apart-touched ts a = apart-push (others trace ts) (others-differ trace ts) (apart-others trace ts a)

  pub traces-touched : (ts : List (Traced L)) → model.touch trace (map (λ (t : Traced L). t.trace) ts) ≡ map (λ (t : Traced L). t.trace) (touch trace noted ts)
  traces-touched ts = ap (λ l. l ++ trace ∷ []) (sym (traces-others trace ts)) ∙ sym (map-append (λ (t : Traced L). t.trace) (others trace ts) (last ∷ []))

  pub free-touched : (claims : List Claim) (ts : List (Traced L)) → claim_of claims trace ≡ None → AllByRecursion (λ (t : Traced L). claim_of claims t.trace ≡ None) ts
      → AllByRecursion (λ (t : Traced L). claim_of claims t.trace ≡ None) (touch trace noted ts)
  free-touched claims ts free all =
      all_append (λ (t : Traced L). claim_of claims t.trace ≡ None) (others trace ts) (last ∷ []) (all-filter (is_other trace) (λ (t : Traced L). claim_of claims t.trace ≡ None) ts all) (free, tt)

  pub count-touched : (ts : List (Traced L)) → AreApart ts → count_chunks (touch trace noted ts) + length (noted_of trace ts).chunks ≡ count_chunks ts + length noted.chunks
  count-touched ts a =
      let push = sum_by_push (λ (u : Traced L). chunk_count u.noted) (others trace ts) last in
      let rest = count-others trace ts a in
      omega (arith, push, rest)

-- ---- crumbs

abbrev crumb_to : TraceId → ℕ → Crumb
crumb_to trace node = record { trace = trace; node = record { 0 = node } }

-- the crumbs of other traces
pub crumbs-other : (gone u : TraceId) → same_trace gone u ≡ false → (n : ℕ) (crumbs : List Crumb) → has_crumb (without_crumbs gone crumbs) (crumb_to u n) ≡ has_crumb crumbs (crumb_to u n)
crumbs-other gone u apart n [] = refl
crumbs-other gone u apart n (c ∷ cs) =
    by_answer (same_trace gone c.trace)
    (λ y. ap (λ b. has_crumb (cond (not b) (c ∷ without_crumbs gone cs) (without_crumbs gone cs)) (crumb_to u n)) y
    ∙ crumbs-other gone u apart n cs
    ∙ sym (ap (λ b. (b && nat_eq n c.node.0) || has_crumb cs (crumb_to u n)) (ap (same_trace u) (sym (same_trace-true gone c.trace y)) ∙ same_swap u gone ∙ apart)))
    (λ no. ap (λ b. has_crumb (cond (not b) (c ∷ without_crumbs gone cs) (without_crumbs gone cs)) (crumb_to u n)) no
    ∙ ap (λ r. same_crumb (crumb_to u n) c || r) (crumbs-other gone u apart n cs))

pub crumbs-gone : (gone : TraceId) (n : ℕ) (crumbs : List Crumb) → has_crumb (without_crumbs gone crumbs) (crumb_to gone n) ≡ false
crumbs-gone gone n [] = refl
crumbs-gone gone n (c ∷ cs) =
    by_answer (same_trace gone c.trace)
    (λ y. ap (λ b. has_crumb (cond (not b) (c ∷ without_crumbs gone cs) (without_crumbs gone cs)) (crumb_to gone n)) y ∙ crumbs-gone gone n cs)
    (λ no. ap (λ b. has_crumb (cond (not b) (c ∷ without_crumbs gone cs) (without_crumbs gone cs)) (crumb_to gone n)) no
    ∙ ap (λ b. (b && nat_eq n c.node.0) || has_crumb (without_crumbs gone cs) (crumb_to gone n)) no
    ∙ crumbs-gone gone n cs)

-- what is known of an unclaimed trace's crumbs
pub known-free : {L : Type 0} → (claims : List Claim) (ts : List (Traced L)) (u : TraceId) → claim_of claims u ≡ None → crumbs_known claims ts u ≡ (noted_of u ts).crumbs
known-free claims ts u free = ap (λ o. option_map_or (λ (claim : Claim). claim.crumbs) o (noted_of u ts).crumbs) free

known-others : {L : Type 0} → (claims : List Claim) (ts us : List (Traced L)) (u : TraceId) → noted_of u us ≡ noted_of u ts → crumbs_known claims us u ≡ crumbs_known claims ts u
known-others {L} claims ts us u e = ap (λ (x : PlainIndexedTrace (Tagged L)). option_map_or (λ (claim : Claim). claim.crumbs) (claim_of claims u) x.crumbs) e

-- ---- the first trace goes

pub indexed-evicted : {L : Type 0} → (claims : List Claim) (t : Traced L) (ts : List (Traced L)) (state : AgentState) → IsIndexed claims state (t ∷ ts)
    → IsIndexed claims (evict_trace t.trace (map (λ (u : Traced L). u.trace) ts) state) ts
indexed-evicted {L} claims t ts state i =
    let first : others t.trace (t ∷ ts) ≡ ts = others-cons t.trace t ts true (same_trace-refl t.trace) ∙ others-all t.trace ts i.apart.0 in
    record {
      traces = refl;
      apart = i.apart.1;
      free = i.free.1;
      places = λ u.
          ap (λ l. map place_of (noted_of u l).chunks) (sym first)
          ∙ places-without t.trace (Evicted (indexed_count state.taken) (length state.touched)) refl state.taken (t ∷ ts) i.places u;
      count = count-without t.trace (Evicted (indexed_count state.taken) (length state.touched)) refl state.taken (t ∷ ts) i.apart (i.places t.trace) i.count ∙ ap count_chunks first;
      crumbs = λ u n.
          by_answer (same_trace t.trace u)
          (λ y.
          let e = same_trace-true t.trace u y in
          ap (λ w. has_crumb (without_crumbs t.trace state.crumbs) (crumb_to w n)) (sym e)
          ∙ crumbs-gone t.trace n state.crumbs
          ∙ sym (ap (λ (s : NodeSet). has_node s n) (ap (crumbs_known claims ts) (sym e) ∙ known-free claims ts t.trace i.free.0 ∙ ap (λ l. (noted_of t.trace l).crumbs) (sym first) ∙ ap (λ (x : PlainIndexedTrace (Tagged L)). x.crumbs) (noted-gone t.trace (t ∷ ts))) ∙ has-no_nodes n))
          (λ no. crumbs-other t.trace u no n state.crumbs
          ∙ i.crumbs u n
          ∙ sym (ap (λ (s : NodeSet). has_node s n) (known-others claims (t ∷ ts) ts u (ap (noted_of u) (sym first) ∙ noted-others t.trace u no (t ∷ ts)))));
    }

-- ---- a trace is claimed

pub claim-append : (claims : List Claim) (new : Claim) (u : TraceId) → claim_of (claims ++ new ∷ []) u ≡ option_or (claim_of claims u) (cond (same_trace u new.trace) (Some new) None)
claim-append claims new u = find-append (is_claim_of u) claims (new ∷ [])

pub indexed-claimed : {L : Type 0} → (claims : List Claim) (ask : Ask) (trace : TraceId) (ts : List (Traced L)) (state : AgentState) → claim_of claims trace ≡ None → IsIndexed claims state ts
    → IsIndexed (claims ++ record { trace = trace; group = ask.group; laterals = ask.laterals; crumbs = (noted_of trace ts).crumbs } ∷ []) (claim_trace ask trace state) (others trace ts)
indexed-claimed {L} claims ask trace ts state free i =
    let new : Claim = record { trace = trace; group = ask.group; laterals = ask.laterals; crumbs = (noted_of trace ts).crumbs } in
    let elsewhere : (u : TraceId) → same_trace trace u ≡ false → claim_of (claims ++ new ∷ []) u ≡ claim_of claims u =
    λ u n. claim-append claims new u ∙ ap (λ b. option_or (claim_of claims u) (cond b (Some new) None)) (same_swap u trace ∙ n) ∙ option_or_none (claim_of claims u) in
    record {
      traces = ap (without_trace trace) i.traces ∙ sym (traces-others trace ts);
      apart = apart-others trace ts i.apart;
      free = all-passing (is_other trace) (λ (t : Traced L). claim_of claims t.trace ≡ None) (λ (t : Traced L). claim_of (claims ++ new ∷ []) t.trace ≡ None)
          (λ t e f. elsewhere t.trace (not-true (same_trace trace t.trace) e) ∙ f) ts i.free;
      places = places-without trace (Pinned ask.group) refl state.taken ts i.places;
      count = count-without trace (Pinned ask.group) refl state.taken ts i.apart (i.places trace) i.count;
      crumbs = λ u n.
          i.crumbs u n
          ∙ ap (λ (s : NodeSet). has_node s n)
          (by_answer (same_trace trace u)
          (λ y.
          let e = same_trace-true trace u y in
          ap (crumbs_known claims ts) (sym e)
          ∙ known-free claims ts trace free
          ∙ sym (ap (crumbs_known (claims ++ new ∷ []) (others trace ts)) (sym e)
          ∙ ap (λ o. option_map_or (λ (claim : Claim). claim.crumbs) o (noted_of trace (others trace ts)).crumbs)
          (claim-append claims new trace ∙ ap (λ o. option_or o (cond (same_trace trace trace) (Some new) None)) free ∙ ap (λ b. cond b (Some new) None) (same_trace-refl trace))))
          (λ no. sym (ap (λ o. option_map_or (λ (claim : Claim). claim.crumbs) o (noted_of u (others trace ts)).crumbs) (elsewhere u no) ∙ known-others claims ts (others trace ts) u (noted-others trace u no ts))));
    }

-- ---- a chunk or a crumb touches an unclaimed trace

places-append : (trace : TraceId) (k : ℕ) (taken : List Taken) (chunk : Taken)
    → places_from k (is_indexed_of trace) (taken ++ chunk ∷ []) ≡ places_from k (is_indexed_of trace) taken ++ cond (is_indexed_of trace chunk) ((k + length taken) ∷ []) []
places-append trace k [] chunk = ap (λ n. cond (is_indexed_of trace chunk) (n ∷ []) []) (let e : k ≡ k + 0 = omega arith in e)
places-append trace k (t ∷ ts) chunk =
    ap (λ l. cond (is_indexed_of trace t) (k ∷ l) l) (places-append trace (suc k) ts chunk ∙ ap (λ n. places_from (suc k) (is_indexed_of trace) ts ++ cond (is_indexed_of trace chunk) (n ∷ []) []) (let e : suc k + length ts ≡ k + suc (length ts) = omega arith in e))
    ∙ by (is_indexed_of trace t)
  where
    by : (b : Bool) → cond b (k ∷ (places_from (suc k) (is_indexed_of trace) ts ++ cond (is_indexed_of trace chunk) ((k + suc (length ts)) ∷ []) [])) (places_from (suc k) (is_indexed_of trace) ts ++ cond (is_indexed_of trace chunk) ((k + suc (length ts)) ∷ []) [])
        ≡ cond b (k ∷ places_from (suc k) (is_indexed_of trace) ts) (places_from (suc k) (is_indexed_of trace) ts) ++ cond (is_indexed_of trace chunk) ((k + suc (length ts)) ∷ []) []
    by true = refl
    by false = refl

-- the indexed places of a trace with a chunk more
pub places-more : (trace : TraceId) (taken : List Taken) (chunk : Taken) → indexed_places (taken ++ chunk ∷ []) trace ≡ indexed_places taken trace ++ cond (is_indexed_of trace chunk) (length taken ∷ []) []
places-more trace taken chunk = places-append trace 0 taken chunk ∙ ap (λ n. indexed_places taken trace ++ cond (is_indexed_of trace chunk) (n ∷ []) []) (let e : 0 + length taken ≡ length taken = omega arith in e)

pub count-more : (taken : List Taken) (chunk : Taken) → indexed_count (taken ++ chunk ∷ []) ≡ indexed_count taken + length (cond (is_indexed chunk.standing) (chunk ∷ []) [])
count-more taken chunk = ap length (filter-append (λ (c : Taken). is_indexed c.standing) taken (chunk ∷ [])) ∙ length-append (filter (λ (c : Taken). is_indexed c.standing) taken) (cond (is_indexed chunk.standing) (chunk ∷ []) [])

-- a chunk more that is not indexed
pub indexed-more : {L : Type 0} → (claims : List Claim) (state : AgentState) (ts : List (Traced L)) (new : Taken) (after : AgentState) → is_indexed new.standing ≡ false
    → after.taken ≡ state.taken ++ new ∷ [] → after.touched ≡ state.touched → after.crumbs ≡ state.crumbs → IsIndexed claims state ts → IsIndexed claims after ts
indexed-more claims state ts new after out taken touched crumbs i =
    record {
      traces = touched ∙ i.traces;
      apart = i.apart;
      free = i.free;
      places = λ u.
          i.places u
          ∙ sym (ap (λ l. indexed_places l u) taken
          ∙ places-more u state.taken new
          ∙ ap (λ b. indexed_places state.taken u ++ cond (b && same_trace u (trace_of new)) (length state.taken ∷ []) []) out
          ∙ append-nil (indexed_places state.taken u));
      count =
          let now = ap indexed_count taken in
          let more = count-more state.taken new in
          let none = ap (λ b. length (cond b (new ∷ []) [])) out in
          let was = i.count in
          omega (arith, now, more, none, was);
      crumbs = λ u n. ap (λ cs. has_crumb cs (crumb_to u n)) crumbs ∙ i.crumbs u n;
    }

-- a chunk more of an unclaimed trace is indexed
pub indexed-arrived : {L : Type 0} → (claims : List Claim) (sheet : Sheet) (placed : Placed L) (ts : List (Traced L)) (state : AgentState) → claim_of claims sheet.header.trace ≡ None → place_of placed ≡ length state.taken
    → IsIndexed claims state ts → IsIndexed claims (with_indexed sheet state) (touch sheet.header.trace (with_chunk (noted_of sheet.header.trace ts) placed) ts)
indexed-arrived {L} claims sheet placed ts state free at i =
    let trace = sheet.header.trace in
    let noted = with_chunk (noted_of trace ts) placed in
    let new : Taken = record { sheet = sheet; standing = IsIn } in
    record {
      traces = ap (model.touch trace) i.traces ∙ traces-touched trace noted ts;
      apart = apart-touched trace noted ts i.apart;
      free = free-touched trace noted claims ts free i.free;
      places = λ u.
          by_answer (same_trace trace u)
          (λ y.
          let e = same_trace-true trace u y in
          ap (λ w. map place_of (noted_of w (touch trace noted ts)).chunks) (sym e)
          ∙ ap (λ (x : PlainIndexedTrace (Tagged L)). map place_of x.chunks) (noted-touched trace noted ts)
          ∙ map-append place_of (noted_of trace ts).chunks (placed ∷ [])
          ∙ ap (λ l. l ++ place_of placed ∷ []) (i.places trace)
          ∙ ap (λ p. indexed_places state.taken trace ++ p ∷ []) at
          ∙ sym (ap (indexed_places (state.taken ++ new ∷ [])) (sym e)
          ∙ places-more trace state.taken new
          ∙ ap (λ b. indexed_places state.taken trace ++ cond b (length state.taken ∷ []) []) (same_trace-refl trace)))
          (λ no.
          ap (λ (x : PlainIndexedTrace (Tagged L)). map place_of x.chunks) (noted-untouched trace noted u no ts)
          ∙ i.places u
          ∙ sym (places-more u state.taken new
          ∙ ap (λ b. indexed_places state.taken u ++ cond b (length state.taken ∷ []) []) (same_swap u trace ∙ no)
          ∙ append-nil (indexed_places state.taken u)));
      count =
          let more = count-more state.taken new in
          let was = i.count in
          let touched = count-touched trace noted ts i.apart in
          let one = length-append (noted_of trace ts).chunks (placed ∷ []) in
          omega (arith, more, was, touched, one);
      crumbs = λ u n.
          i.crumbs u n
          ∙ ap (λ (s : NodeSet). has_node s n)
          (by_answer (same_trace trace u)
          (λ y.
          let e = same_trace-true trace u y in
          ap (crumbs_known claims ts) (sym e)
          ∙ known-free claims ts trace free
          ∙ sym (ap (λ (x : PlainIndexedTrace (Tagged L)). x.crumbs) (noted-touched trace noted ts))
          ∙ sym (known-free claims (touch trace noted ts) trace free)
          ∙ ap (crumbs_known claims (touch trace noted ts)) e)
          (λ no. sym (known-others claims ts (touch trace noted ts) u (noted-untouched trace noted u no ts))));
    }

pub any-append : {X : Type 0} (p : X → Bool) (xs : List X) (x : X) → list_any p (xs ++ x ∷ []) ≡ (list_any p xs || p x)
any-append p [] x = by (p x)
  where
    by : (b : Bool) → (b || false) ≡ b
    by true = refl
    by false = refl
any-append p (y ∷ xs) x = ap (λ b. p y || b) (any-append p xs x) ∙ by (p y) (list_any p xs) (p x)
  where
    by : (a b c : Bool) → (a || (b || c)) ≡ ((a || b) || c)
    by true b c = refl
    by false b c = refl

-- a crumb that is remembered
pub crumbs-remembered : (crumbs : List Crumb) (crumb other : Crumb) → has_crumb (with_crumb crumbs crumb) other ≡ (has_crumb crumbs other || same_crumb other crumb)
crumbs-remembered crumbs crumb other =
    by_answer (has_crumb crumbs crumb)
    (λ y. ap (λ b. has_crumb (cond b crumbs (crumbs ++ crumb ∷ [])) other) y
    ∙ by_answer (same_crumb other crumb)
    (λ s. there other s y ∙ sym (ap (λ b. has_crumb crumbs other || b) s ∙ or-true (has_crumb crumbs other)))
    (λ s. sym (ap (λ b. has_crumb crumbs other || b) s ∙ or-false' (has_crumb crumbs other))))
    (λ n. ap (λ b. has_crumb (cond b crumbs (crumbs ++ crumb ∷ [])) other) n ∙ any-append (same_crumb other) crumbs crumb)
  where
    or-false' : (b : Bool) → (b || false) ≡ b
    or-false' true = refl
    or-false' false = refl

    parts : (a b : Bool) → (a && b) ≡ true → (a ≡ true) × (b ≡ true)
    parts true true e = (refl, refl)
    parts true false e = absurd (true≢false (sym e))
    parts false b e = absurd (true≢false (sym e))

    there : (other : Crumb) → same_crumb other crumb ≡ true → has_crumb crumbs crumb ≡ true → has_crumb crumbs other ≡ true
    there other s y =
        let p = parts (same_trace other.trace crumb.trace) (nat_eq other.node.0 crumb.node.0) s in
        let t : other.trace.0 ≡ crumb.trace.0 = eqb-true other.trace.0 crumb.trace.0 p.0 in
        let n : other.node.0 ≡ crumb.node.0 = eqb-true other.node.0 crumb.node.0 p.1 in
        (λ i. has_crumb crumbs (record { trace = record { 0 = t i }; node = record { 0 = n i } })) ∙ y

-- a crumb of an unclaimed trace
pub indexed-crumbed : {L : Type 0} → (claims : List Claim) (crumb : Crumb) (ts : List (Traced L)) (state : AgentState) → claim_of claims crumb.trace ≡ None
    → IsIndexed claims state ts → IsIndexed claims (with_touched crumb state) (touch crumb.trace (index.with_crumb (noted_of crumb.trace ts) crumb.node) ts)
indexed-crumbed {L} claims crumb ts state free i =
    let trace = crumb.trace in
    let noted = index.with_crumb (noted_of trace ts) crumb.node in
    record {
      traces = ap (model.touch trace) i.traces ∙ traces-touched trace noted ts;
      apart = apart-touched trace noted ts i.apart;
      free = free-touched trace noted claims ts free i.free;
      places = λ u.
          by_answer (same_trace trace u)
          (λ y.
          let e = same_trace-true trace u y in
          ap (λ w. map place_of (noted_of w (touch trace noted ts)).chunks) (sym e)
          ∙ ap (λ (x : PlainIndexedTrace (Tagged L)). map place_of x.chunks) (noted-touched trace noted ts)
          ∙ i.places trace
          ∙ ap (indexed_places state.taken) e)
          (λ no. ap (λ (x : PlainIndexedTrace (Tagged L)). map place_of x.chunks) (noted-untouched trace noted u no ts) ∙ i.places u);
      count =
          let was = i.count in
          let touched = count-touched trace noted ts i.apart in
          omega (arith, was, touched);
      crumbs = λ u n.
          crumbs-remembered state.crumbs crumb (crumb_to u n)
          ∙ ap (λ b. b || (same_trace u trace && nat_eq n crumb.node.0)) (i.crumbs u n)
          ∙ by_answer (same_trace trace u)
          (λ y.
          let e = same_trace-true trace u y in
          ap (λ w. has_node (crumbs_known claims ts w) n || (same_trace w trace && nat_eq n crumb.node.0)) (sym e)
          ∙ ap (λ b. has_node (crumbs_known claims ts trace) n || (b && nat_eq n crumb.node.0)) (same_trace-refl trace)
          ∙ ap (λ (s : NodeSet). has_node s n || nat_eq n crumb.node.0) (known-free claims ts trace free)
          ∙ sym (has-with_node (noted_of trace ts).crumbs crumb.node n)
          ∙ ap (λ (s : NodeSet). has_node s n) (sym (ap (λ (x : PlainIndexedTrace (Tagged L)). x.crumbs) (noted-touched trace noted ts)) ∙ sym (known-free claims (touch trace noted ts) trace free) ∙ ap (crumbs_known claims (touch trace noted ts)) e))
          (λ no.
          ap (λ b. has_node (crumbs_known claims ts u) n || (b && nat_eq n crumb.node.0)) (same_swap u trace ∙ no)
          ∙ or-false (has_node (crumbs_known claims ts u) n)
          ∙ ap (λ (s : NodeSet). has_node s n) (sym (known-others claims ts (touch trace noted ts) u (noted-untouched trace noted u no ts))));
    }
  where
    or-false : (b : Bool) → (b || false) ≡ b
    or-false true = refl
    or-false false = refl

-- ---- nothing

pub indexed-start : {L : Type 0} (settings : PlainSettings) → IsIndexed {L = L} [] (start settings) []
indexed-start settings = record { traces = refl; apart = tt; free = tt; places = λ u. refl; count = refl; crumbs = λ u n. sym (has-no_nodes n) }
