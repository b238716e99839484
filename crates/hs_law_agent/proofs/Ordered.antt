-- The pages of a trace are reported in the order of arrival, since one group pins them in that order.
use Rattle.std.proofs.Common.{◌≡◌, ℕ, zero, suc, ◌+◌, ◌<◌, ◌≤◌, Bool, true, false, cond, not, List, [], ◌∷◌, ◌++◌, length, take, refl, sym, ap, ◌∙◌, arith, inl, inr, Option, Some, None, subst, true≢false, append_assoc, append-nil}
use Rattle.hs_law_agent.proofs.Prelude.{◌⊎◌, ◌==◌, ◌||◌, filter, slice_get, option_map, option_map_or, option_and_then, AllByRecursion, cases_Bool, and_parts, eqb-true, tied_itself, is_le, one_if, one_few, filter_none, filter_all, TraceId, Ask, Group, same_trace, PlainSettings, count_sent, Sheet, ChunkStanding, Indexed, Pinned, Reported, Evicted, Abandoned, Taken, trace_of, is_indexed, is_pinned, is_reported, is_indexed_of, is_of_trace, is_pinned_for, indexed_places, passes, stands, pinned_for, pinning_group, is_among, moved, AgentState, ClaimedTrace, claim_of, is_claimed, claim_trace, abandon_group, is_pinned_under, place_is_no_greater, put_before, by_priority, order_of, costs_of, reported_standing, report, with_pinned, after, count_of, claiming_group, StandsByClaim, PlacesMatch, AreRising}
use Rattle.hs_base.proofs.Alls.{all_at}
use Rattle.hs_law_agent.specs.Laws.{ReportedInOrder}
use Rattle.hs_base.proofs.Alls.{all_append}
use Rattle.hs_law_agent.proofs.Counts.{count-append, counted_one, passes_before, places_counted_at, passes_too, passes_moved_at}
use Rattle.hs_law_agent.proofs.Traces.{same_trace-true}
use Rattle.hs_law_agent.proofs.Traversal.{IsKept, kept_after}
use Rattle.hs_law_agent.proofs.Placed.{match_kept, match_start, count-by_priority, count-order}
use Rattle.hs_law_agent.specs.Lives.{HeldByClaim}
use Rattle.hs_law_agent.proofs.Held.{Held, held_kept}
use Rattle.hs_law_agent.proofs.Limits.{reported_indexed}
use Rattle.hs_law_agent.proofs.Placed.{visit_few}
use Rattle.std.proofs.lemmas.Bool.{cases_lt}
use Rattle.hs_law_agent.proofs.Unevicted.{of_moved, passed_within}
use Rattle.hs_law_agent.proofs.Least.{group_order}
use Rattle.hs_law_agent.proofs.Rising.{filter-append, filter_same, filter_swap, all_counted, counted_filtered, rising_filtered, rising_left, rising_front, rising_push, places_rising, front_and_rest}

-- ---- chunks at places

chunk_at : (test : Taken → Bool) (taken : List Taken) (p : ℕ) → passes test taken p ≡ true → (c : Taken) × (slice_get taken p ≡ Some c) × (test c ≡ true)
chunk_at test [] p e = absurd (true≢false (sym e))
chunk_at test (c ∷ taken) zero e = (c, refl, e)
chunk_at test (c ∷ taken) (suc p) e = chunk_at test taken p e

passes_there : (test : Taken → Bool) (taken : List Taken) (p : ℕ) (c : Taken) → slice_get taken p ≡ Some c → passes test taken p ≡ test c
passes_there test taken p c e = ap (λ o. option_map_or test o false) e

unclaimed_group : (claims : List ClaimedTrace) (t : TraceId) → is_claimed claims t ≡ false → claiming_group claims t ≡ None
unclaimed_group [] t e = refl
unclaimed_group (c ∷ claims) t e = go (same_trace t c.trace) e (unclaimed_group claims t)
  where
    go : (b : Bool) → (b || is_claimed claims t) ≡ false → (is_claimed claims t ≡ false → claiming_group claims t ≡ None)
        → option_map (λ (claim : ClaimedTrace). claim.group) (cond b (Some c) (claim_of claims t)) ≡ None
    go true e next = absurd (true≢false e)
    go false e next = next e

pub record InOrder (s : AgentState) : Type 0 where
  pub places : PlacesMatch s
  pub held : Held s
  pub rising : (t : TraceId) → AreRising (filter (is_of_trace s.taken t) (s.reported ++ s.pinned))
  -- what is indexed of a trace came behind all that was reported of it
  pub ahead : (t : TraceId) (p q : ℕ) → 1 ≤ count_of s.reported p → is_of_trace s.taken t p ≡ true → stands is_indexed s.taken q ≡ true → is_of_trace s.taken t q ≡ true → p < q

-- what is pinned of a trace is so for the group that claims it
abbrev IsFor : List ClaimedTrace → TraceId → ChunkStanding → Group → Type 0
IsFor claims t u h = (pinning_group u ≡ Some h) × (claiming_group claims t ≡ Some h)

pinned_is_for : (claims : List ClaimedTrace) (t : TraceId) (u : ChunkStanding) → is_pinned u ≡ true → HeldByClaim claims t u → (h : Group) × IsFor claims t u h
pinned_is_for claims t Indexed e m = absurd (true≢false (sym e))
pinned_is_for claims t (Pinned g) e m = (g, (refl, m))
pinned_is_for claims t (Reported g) e m = absurd (true≢false (sym e))
pinned_is_for claims t (Evicted a b) e m = absurd (true≢false (sym e))
pinned_is_for claims t (Abandoned g) e m = absurd (true≢false (sym e))

indexed_is_free : (claims : List ClaimedTrace) (t : TraceId) (u : ChunkStanding) → is_indexed u ≡ true → HeldByClaim claims t u → is_claimed claims t ≡ false
indexed_is_free claims t Indexed e m = m
indexed_is_free claims t (Pinned g) e m = absurd (true≢false (sym e))
indexed_is_free claims t (Reported g) e m = absurd (true≢false (sym e))
indexed_is_free claims t (Evicted a b) e m = absurd (true≢false (sym e))
indexed_is_free claims t (Abandoned g) e m = absurd (true≢false (sym e))

module _ (s : AgentState) (m : InOrder s) where
  pinned_stands : (p : ℕ) → 1 ≤ count_of s.pinned p → stands is_pinned s.taken p ≡ true
  pinned_stands p few = let each : count_of s.pinned p ≡ one_if (stands is_pinned s.taken p) = m.places.pinned_each p in counted_one (stands is_pinned s.taken p) (omega arith)

  reported_stands : (p : ℕ) → 1 ≤ count_of s.reported p → stands is_reported s.taken p ≡ true
  reported_stands p few = let each : count_of s.reported p ≡ one_if (stands is_reported s.taken p) = m.places.reported_each p in counted_one (stands is_reported s.taken p) (omega arith)

  pinned_of : (t : TraceId) (p : ℕ) → 1 ≤ count_of s.pinned p → is_of_trace s.taken t p ≡ true → (h : Group) × (pinned_for s.taken p ≡ Some h) × (claiming_group s.claims t ≡ Some h)
  pinned_of t p few of =
      let at = chunk_at (λ c. is_pinned c.standing) s.taken p (pinned_stands p few) in
      let same : t ≡ trace_of at.0 = same_trace-true t (trace_of at.0) (sym (passes_there (λ c. same_trace t (trace_of c)) s.taken p at.0 at.1) ∙ of) in
      let by = all_at (λ (c : Taken). HeldByClaim s.claims (trace_of c) c.standing) s.taken p at.0 m.held at.1 in
      let is = pinned_is_for s.claims (trace_of at.0) at.0.standing at.2 by in
      let for : pinned_for s.taken p ≡ pinning_group at.0.standing = ap (λ o. option_and_then (λ (chunk : Taken). pinning_group chunk.standing) o) at.1 in
      (is.0, for ∙ is.1.0, subst (λ v. claiming_group s.claims v ≡ Some is.0) (sym same) is.1.1)

  indexed_of : (t : TraceId) (p : ℕ) → stands is_indexed s.taken p ≡ true → is_of_trace s.taken t p ≡ true → is_claimed s.claims t ≡ false
  indexed_of t p is of =
      let at = chunk_at (λ c. is_indexed c.standing) s.taken p is in
      let same : t ≡ trace_of at.0 = same_trace-true t (trace_of at.0) (sym (passes_there (λ c. same_trace t (trace_of c)) s.taken p at.0 at.1) ∙ of) in
      let by = all_at (λ (c : Taken). HeldByClaim s.claims (trace_of c) c.standing) s.taken p at.0 m.held at.1 in
      subst (λ v. is_claimed s.claims v ≡ false) (sym same) (indexed_is_free s.claims (trace_of at.0) at.0.standing at.2 by)

  -- a place in either list is one of the chunks
  within : (p : ℕ) → 1 ≤ count_of (s.reported ++ s.pinned) p → p < length s.taken
  within p few =
      elim (cases_few (count_of s.reported p) (count_of s.pinned p) (let e = count-append s.reported s.pinned p in omega arith)) [
        | inl h ↦ passed_within (λ c. is_reported c.standing) s.taken p (reported_stands p h)
        | inr h ↦ passed_within (λ c. is_pinned c.standing) s.taken p (pinned_stands p h)
      ]
    where
      cases_few : (a b : ℕ) → 1 ≤ a + b → (1 ≤ a) ⊎ (1 ≤ b)
      cases_few zero b h = inr (omega arith)
      cases_few (suc a) b h = inl (omega arith)

  -- nothing of an unclaimed trace is pinned
  none_of : (t : TraceId) → is_claimed s.claims t ≡ false → filter (is_of_trace s.taken t) s.pinned ≡ []
  none_of t free = filter_none (is_of_trace s.taken t) s.pinned (all_counted (λ p. is_of_trace s.taken t p ≡ false) s.pinned (λ p few. go p few (is_of_trace s.taken t p) refl))
    where
      go : (p : ℕ) → 1 ≤ count_of s.pinned p → (b : Bool) → is_of_trace s.taken t p ≡ b → b ≡ false
      go p few false e = refl
      go p few true e = let no_group = unclaimed_group s.claims t free in let is = pinned_of t p few e in let f = is.2 in absurd cc

-- ---- the order of what waits

-- a pinned place is pinned under the id of its group
pinned_under : (taken : List Taken) (p id : ℕ) (h : Group) → pinned_for taken p ≡ Some h → stands (is_pinned_under id) taken p ≡ (h.trigger.0 == id)
pinned_under [] p id h e = absurd cc
pinned_under (c ∷ taken) zero id h e = go c.standing e
  where
    go : (u : ChunkStanding) → pinning_group u ≡ Some h → is_pinned_under id u ≡ (h.trigger.0 == id)
    go Indexed e = absurd cc
    go (Pinned g) e = let same : g ≡ h = cc in ap (λ (k : Group). k.trigger.0 == id) same
    go (Reported g) e = absurd cc
    go (Evicted a b) e = absurd cc
    go (Abandoned g) e = absurd cc
pinned_under (c ∷ taken) (suc p) id h e = pinned_under taken p id h e

-- places of one group stand in either order
of_one_group : (taken : List Taken) (p q : ℕ) (h : Group) → pinned_for taken p ≡ Some h → pinned_for taken q ≡ Some h → place_is_no_greater taken p q ≡ true
of_one_group taken p q h e f = rw (e, f) (ap is_le (tied_itself group_order h))

-- Putting a place before the others keeps the order of those of a kind, if they are of equal priority.
stable_put : (f : ℕ → Bool) (taken : List Taken) (x : ℕ) (xs : List ℕ) → AllByRecursion (λ y. f x ≡ true → f y ≡ true → place_is_no_greater taken y x ≡ true) xs
    → filter f (put_before taken x xs) ≡ filter f (x ∷ xs)
stable_put f taken x [] all = refl
stable_put f taken x (y ∷ ys) all = go (place_is_no_greater taken y x) refl (stable_put f taken x ys all.1)
  where
    here : (a b : Bool) → f x ≡ a → f y ≡ b → place_is_no_greater taken y x ≡ false → filter f (put_before taken x ys) ≡ cond a (x ∷ filter f ys) (filter f ys)
        → cond b (y ∷ filter f (put_before taken x ys)) (filter f (put_before taken x ys)) ≡ cond a (x ∷ cond b (y ∷ filter f ys) (filter f ys)) (cond b (y ∷ filter f ys) (filter f ys))
    here true true e g low ih = absurd (true≢false (sym (all.0 e g) ∙ low))
    here true false e g low ih = ih
    here false true e g low ih = ap (λ zs. y ∷ zs) ih
    here false false e g low ih = ih

    go : (b : Bool) → place_is_no_greater taken y x ≡ b → filter f (put_before taken x ys) ≡ filter f (x ∷ ys) → filter f (cond b (x ∷ y ∷ ys) (y ∷ put_before taken x ys)) ≡ filter f (x ∷ y ∷ ys)
    go true e ih = refl
    go false e ih = here (f x) (f y) refl refl e ih

-- the places of a kind stay in their order, if they are of one group
stable : (f : ℕ → Bool) (taken : List Taken) (h : Group) (xs : List ℕ) → AllByRecursion (λ x. f x ≡ true → pinned_for taken x ≡ Some h) xs → filter f (by_priority taken xs) ≡ filter f xs
stable f taken h [] all = refl
stable f taken h (x ∷ xs) all =
    stable_put f taken x (by_priority taken xs)
    (all_counted (λ y. f x ≡ true → f y ≡ true → place_is_no_greater taken y x ≡ true) (by_priority taken xs)
    (λ y few fx fy. of_one_group taken y x h (at_counted xs y (let e = count-by_priority taken xs y in omega arith) all.1 fy) (all.0 fx)))
    ∙ ap (λ zs. cond (f x) (x ∷ zs) zs) (stable f taken h xs all.1)
  where
    at_counted : (ys : List ℕ) (y : ℕ) → 1 ≤ count_of ys y → AllByRecursion (λ x. f x ≡ true → pinned_for taken x ≡ Some h) ys → f y ≡ true → pinned_for taken y ≡ Some h
    at_counted [] y few all e = absurd (omega arith)
    at_counted (z ∷ ys) y few all e =
        elim (cases_Bool (z == y)) [
          | inl same ↦ let zy : z ≡ y = eqb-true z y same in subst (λ v. f v ≡ true → pinned_for taken v ≡ Some h) zy all.0 e
          | inr differ ↦ let less : 1 ≤ 0 + count_of ys y = rw differ at few in at_counted ys y (omega arith) all.1 e
        ]

-- ---- steps

-- traces of places are the same once chunks moved
of_all_moved : (change : ChunkStanding → ChunkStanding) (places : List ℕ) (taken : List Taken) (t : TraceId) (xs : List ℕ) → filter (is_of_trace (moved places change taken) t) xs ≡ filter (is_of_trace taken t) xs
of_all_moved change places taken t xs = filter_same _ _ xs (all_counted _ xs (λ p few. of_moved change places taken t p))

rising_moved : (change : ChunkStanding → ChunkStanding) (places : List ℕ) (taken : List Taken) (t : TraceId) (xs : List ℕ) → AreRising (filter (is_of_trace taken t) xs) → AreRising (filter (is_of_trace (moved places change taken) t) xs)
rising_moved change places taken t xs r = subst AreRising (sym (of_all_moved change places taken t xs)) r

rising_join : (xs ys : List ℕ) → AreRising xs → AreRising ys → AllByRecursion (λ x. AllByRecursion (λ y. x < y) ys) xs → AreRising (xs ++ ys)
rising_join [] ys r q h = q
rising_join (x ∷ xs) ys r q h = (all_append (λ y. x < y) xs ys r.0 h.0, rising_join xs ys r.1 q h.1)

rising_claims : (ask : Ask) (trace : TraceId) (s : AgentState) → is_claimed s.claims trace ≡ false → (m : InOrder s) → (t : TraceId)
    → AreRising (filter (is_of_trace (claim_trace ask trace s).taken t) (s.reported ++ (s.pinned ++ indexed_places s.taken trace)))
rising_claims ask trace s free m t =
    rising_moved (λ _. Pinned ask.group) (indexed_places s.taken trace) s.taken t (s.reported ++ (s.pinned ++ indexed_places s.taken trace))
    (subst (λ xs. AreRising (filter (is_of_trace s.taken t) xs)) (append_assoc s.reported s.pinned (indexed_places s.taken trace))
    (subst AreRising (sym (filter-append (is_of_trace s.taken t) (s.reported ++ s.pinned) (indexed_places s.taken trace))) (go (same_trace t trace) refl)))
  where
    of_place : (p : ℕ) → 1 ≤ count_of (indexed_places s.taken trace) p → is_of_trace s.taken t p ≡ same_trace t trace
    of_place p few =
        let count : count_of (indexed_places s.taken trace) p ≡ one_if (passes (is_indexed_of trace) s.taken p) = places_counted_at (is_indexed_of trace) s.taken p in
        let at = chunk_at (is_indexed_of trace) s.taken p (counted_one (passes (is_indexed_of trace) s.taken p) (omega arith)) in
        let same : trace ≡ trace_of at.0 = same_trace-true trace (trace_of at.0) (and_parts (is_indexed at.0.standing) (same_trace trace (trace_of at.0)) at.2).1 in
        passes_there (λ c. same_trace t (trace_of c)) s.taken p at.0 at.1 ∙ ap (λ v. same_trace t v) (sym same)

    indexed_place : (p : ℕ) → 1 ≤ count_of (indexed_places s.taken trace) p → stands is_indexed s.taken p ≡ true
    indexed_place p few =
        let count : count_of (indexed_places s.taken trace) p ≡ one_if (passes (is_indexed_of trace) s.taken p) = places_counted_at (is_indexed_of trace) s.taken p in
        passes_too (is_indexed_of trace) (λ c. is_indexed c.standing) true (λ c e. (and_parts (is_indexed c.standing) (same_trace trace (trace_of c)) e).0) s.taken p (counted_one (passes (is_indexed_of trace) s.taken p) (omega arith))

    go : (b : Bool) → same_trace t trace ≡ b → AreRising (filter (is_of_trace s.taken t) (s.reported ++ s.pinned) ++ filter (is_of_trace s.taken t) (indexed_places s.taken trace))
    go true e =
        let f = is_of_trace s.taken t in
        let none = none_of s m t (subst (λ v. is_claimed s.claims v ≡ false) (sym (same_trace-true t trace e)) free) in
        let front : filter f (s.reported ++ s.pinned) ≡ filter f s.reported = filter-append f s.reported s.pinned ∙ ap (λ xs. filter f s.reported ++ xs) none ∙ append-nil (filter f s.reported) in
        subst (λ xs. AreRising (xs ++ filter f (indexed_places s.taken trace))) (sym front)
        (rising_join (filter f s.reported) (filter f (indexed_places s.taken trace)) (subst AreRising front (m.rising t)) (rising_filtered f (indexed_places s.taken trace) (places_rising 0 (is_indexed_of trace) s.taken))
        (all_counted (λ p. AllByRecursion (λ q. p < q) (filter f (indexed_places s.taken trace))) (filter f s.reported)
        (λ p few. let mine = counted_filtered f s.reported p few in
        all_counted (λ q. p < q) (filter f (indexed_places s.taken trace)) (λ q more. let other = counted_filtered f (indexed_places s.taken trace) q more in m.ahead t p q mine.1 mine.0 (indexed_place q other.1) other.0))))
    go false e =
        let none : filter (is_of_trace s.taken t) (indexed_places s.taken trace) ≡ [] =
        filter_none (is_of_trace s.taken t) (indexed_places s.taken trace) (all_counted (λ p. is_of_trace s.taken t p ≡ false) (indexed_places s.taken trace) (λ p few. of_place p few ∙ e))
        in
        subst (λ xs. AreRising (filter (is_of_trace s.taken t) (s.reported ++ s.pinned) ++ xs)) (sym none) (subst AreRising (sym (append-nil (filter (is_of_trace s.taken t) (s.reported ++ s.pinned)))) (m.rising t))

rising_abandons : (group : Group) (s : AgentState) → (m : InOrder s) → (t : TraceId) → AreRising (filter (is_of_trace (abandon_group group s).taken t) (s.reported ++ (abandon_group group s).pinned))
rising_abandons group s m t =
    let f = is_of_trace s.taken t in
    let g = λ (p : ℕ). not (is_pinned_for s.taken group p) in
    rising_moved (λ _. Abandoned group) (filter (is_pinned_for s.taken group) s.pinned) s.taken t (s.reported ++ filter g s.pinned)
    (subst AreRising (sym (filter-append f s.reported (filter g s.pinned) ∙ ap (λ xs. filter f s.reported ++ xs) (filter_swap f g s.pinned)))
    (rising_left g (filter f s.reported) (filter f s.pinned) (subst AreRising (filter-append f s.reported s.pinned) (m.rising t))))

-- of what waits for an id, the places of a trace are those that are pinned, in their order, or none
order_of_trace : (s : AgentState) (m : InOrder s) (id : ℕ) (t : TraceId)
    → (filter (is_of_trace s.taken t) (order_of s id) ≡ filter (is_of_trace s.taken t) s.pinned) ⊎ (filter (is_of_trace s.taken t) (order_of s id) ≡ [])
order_of_trace s m id t = go (claiming_group s.claims t) refl
  where
    waiting : List ℕ
    waiting = filter (stands (is_pinned_under id) s.taken) s.pinned

    pinned_as : (h : Group) → claiming_group s.claims t ≡ Some h → (p : ℕ) → 1 ≤ count_of s.pinned p → is_of_trace s.taken t p ≡ true → pinned_for s.taken p ≡ Some h
    pinned_as h e p few of = let is = pinned_of s m t p few of in let a = is.1 in let b = is.2 in cc

    one_group : (h : Group) → claiming_group s.claims t ≡ Some h → filter (is_of_trace s.taken t) (order_of s id) ≡ filter (stands (is_pinned_under id) s.taken) (filter (is_of_trace s.taken t) s.pinned)
    one_group h e =
        stable (is_of_trace s.taken t) s.taken h (filter (stands (is_pinned_under id) s.taken) s.pinned)
        (all_counted (λ p. is_of_trace s.taken t p ≡ true → pinned_for s.taken p ≡ Some h) (filter (stands (is_pinned_under id) s.taken) s.pinned)
        (λ p few of. pinned_as h e p (counted_filtered (stands (is_pinned_under id) s.taken) s.pinned p few).1 of))
        ∙ filter_swap (is_of_trace s.taken t) (stands (is_pinned_under id) s.taken) s.pinned

    all_under : (h : Group) → claiming_group s.claims t ≡ Some h → (b : Bool) → (h.trigger.0 == id) ≡ b → AllByRecursion (λ p. stands (is_pinned_under id) s.taken p ≡ b) (filter (is_of_trace s.taken t) s.pinned)
    all_under h e b f =
        all_counted (λ p. stands (is_pinned_under id) s.taken p ≡ b) (filter (is_of_trace s.taken t) s.pinned)
        (λ p few. let both = counted_filtered (is_of_trace s.taken t) s.pinned p few in pinned_under s.taken p id h (pinned_as h e p both.1 both.0) ∙ f)

    under : (h : Group) → claiming_group s.claims t ≡ Some h → (b : Bool) → (h.trigger.0 == id) ≡ b
        → (filter (is_of_trace s.taken t) (order_of s id) ≡ filter (is_of_trace s.taken t) s.pinned) ⊎ (filter (is_of_trace s.taken t) (order_of s id) ≡ [])
    under h e true f = inl (one_group h e ∙ filter_all (stands (is_pinned_under id) s.taken) (filter (is_of_trace s.taken t) s.pinned) (all_under h e true f))
    under h e false f = inr (one_group h e ∙ filter_none (stands (is_pinned_under id) s.taken) (filter (is_of_trace s.taken t) s.pinned) (all_under h e false f))

    go : (o : Option Group) → claiming_group s.claims t ≡ o → (filter (is_of_trace s.taken t) (order_of s id) ≡ filter (is_of_trace s.taken t) s.pinned) ⊎ (filter (is_of_trace s.taken t) (order_of s id) ≡ [])
    go None e =
        inr (filter_none (is_of_trace s.taken t) (order_of s id) (all_counted (λ p. is_of_trace s.taken t p ≡ false) (order_of s id)
        (λ p few. nothing p (let le = count-order s id p in omega arith) (is_of_trace s.taken t p) refl)))
      where
        nothing : (p : ℕ) → 1 ≤ count_of s.pinned p → (b : Bool) → is_of_trace s.taken t p ≡ b → b ≡ false
        nothing p few false f = refl
        nothing p few true f = let is = pinned_of s m t p few f in let a = is.2 in absurd cc
    go (Some h) e = under h e (h.trigger.0 == id) refl

rising_reports : (n id : ℕ) (s : AgentState) → (m : InOrder s) → (t : TraceId)
    → AreRising (filter (is_of_trace (report (take n (order_of s id)) s).taken t) ((s.reported ++ take n (order_of s id)) ++ (report (take n (order_of s id)) s).pinned))
rising_reports n id s m t =
    let f = is_of_trace s.taken t in
    let sent = take n (order_of s id) in
    let left = filter (λ p. not (is_among sent p)) s.pinned in
    let once : (p : ℕ) → count_of (order_of s id) p ≤ 1 = λ p. let le = count-order s id p in let each : count_of s.pinned p ≡ one_if (stands is_pinned s.taken p) = m.places.pinned_each p in let most = one_few (stands is_pinned s.taken p) in omega arith in
    let same : filter f sent ++ filter f left ≡ filter f s.pinned = front_and_rest f n (order_of s id) s.pinned once (order_of_trace s m id t) in
    let whole : filter f ((s.reported ++ sent) ++ left) ≡ filter f (s.reported ++ s.pinned) =
    ap (filter f) (append_assoc s.reported sent left) ∙ filter-append f s.reported (sent ++ left) ∙ ap (λ xs. filter f s.reported ++ xs) (filter-append f sent left ∙ same) ∙ sym (filter-append f s.reported s.pinned)
    in
    rising_moved reported_standing sent s.taken t ((s.reported ++ sent) ++ left) (subst AreRising (sym whole) (m.rising t))

-- the traces of earlier places are the same once a chunk came
of_all_more : (s : AgentState) (m : InOrder s) (c : Taken) (t : TraceId) → filter (is_of_trace (s.taken ++ c ∷ []) t) (s.reported ++ s.pinned) ≡ filter (is_of_trace s.taken t) (s.reported ++ s.pinned)
of_all_more s m c t =
    filter_same _ _ (s.reported ++ s.pinned) (all_counted (λ p. is_of_trace (s.taken ++ c ∷ []) t p ≡ is_of_trace s.taken t p) (s.reported ++ s.pinned)
    (λ p few. passes_before (λ d. same_trace t (trace_of d)) s.taken (c ∷ []) p (within s m p few)))

rising_more : (s : AgentState) (m : InOrder s) (c : Taken) (t : TraceId) → AreRising (filter (is_of_trace (s.taken ++ c ∷ []) t) (s.reported ++ s.pinned))
rising_more s m c t = subst AreRising (sym (of_all_more s m c t)) (m.rising t)

rising_pins : (sheet : Sheet) (group : Group) (s : AgentState) → (m : InOrder s) → (t : TraceId)
    → AreRising (filter (is_of_trace (with_pinned sheet group s).taken t) (s.reported ++ (s.pinned ++ length s.taken ∷ [])))
rising_pins sheet group s m t =
    let c : Taken = record { sheet = sheet; standing = Pinned group } in
    let f = is_of_trace (s.taken ++ c ∷ []) t in
    subst (λ xs. AreRising (filter f xs)) (append_assoc s.reported s.pinned (length s.taken ∷ []))
    (subst AreRising (sym (filter-append f (s.reported ++ s.pinned) (length s.taken ∷ [])))
    (elim (f (length s.taken)) as (λ b. AreRising (filter f (s.reported ++ s.pinned) ++ cond b (length s.taken ∷ []) [])) [
      | true ↦
          rising_push (filter f (s.reported ++ s.pinned)) (length s.taken) (rising_more s m c t)
          (all_counted (λ p. p < length s.taken) (filter f (s.reported ++ s.pinned)) (λ p few. within s m p (counted_filtered f (s.reported ++ s.pinned) p few).1))
      | false ↦ subst AreRising (sym (append-nil (filter f (s.reported ++ s.pinned)))) (rising_more s m c t)
    ]))

-- ---- what is indexed is behind what was reported

still_indexed : (change : ChunkStanding → ChunkStanding) → ((u : ChunkStanding) → is_indexed (change u) ≡ true → is_indexed u ≡ true) → (places : List ℕ) (taken : List Taken) (q : ℕ)
    → stands is_indexed (moved places change taken) q ≡ true → stands is_indexed taken q ≡ true
still_indexed change only places taken q e = go (is_among places q) (sym (passes_moved_at (λ c. is_indexed c.standing) change places taken q) ∙ e)
  where
    go : (b : Bool) → cond b (passes (λ c. is_indexed (change c.standing)) taken q) (stands is_indexed taken q) ≡ true → stands is_indexed taken q ≡ true
    go true h = passes_too (λ c. is_indexed (change c.standing)) (λ c. is_indexed c.standing) true (λ c. only c.standing) taken q h
    go false h = h

abbrev Ahead : List Taken → List ℕ → Type 0
Ahead taken reported = (t : TraceId) (p q : ℕ) → 1 ≤ count_of reported p → is_of_trace taken t p ≡ true → stands is_indexed taken q ≡ true → is_of_trace taken t q ≡ true → p < q

ahead_moved : (change : ChunkStanding → ChunkStanding) → ((u : ChunkStanding) → is_indexed (change u) ≡ true → is_indexed u ≡ true) → (places : List ℕ) (taken : List Taken) (reported : List ℕ) → Ahead taken reported → Ahead (moved places change taken) reported
ahead_moved change only places taken reported m t p q few of is ofq =
    m t p q few (sym (of_moved change places taken t p) ∙ of) (still_indexed change only places taken q is) (sym (of_moved change places taken t q) ∙ ofq)

ahead_more : (s : AgentState) → InOrder s → (c : Taken) → Ahead (s.taken ++ c ∷ []) s.reported
ahead_more s m c t p q few of is ofq =
    let low : p < length s.taken = within s m p (let both = count-append s.reported s.pinned p in omega arith) in
    elim (cases_lt q (length s.taken)) [
      | inl below ↦
          m.ahead t p q few (sym (passes_before (λ d. same_trace t (trace_of d)) s.taken (c ∷ []) p low) ∙ of)
          (sym (passes_before (λ d. is_indexed d.standing) s.taken (c ∷ []) q below) ∙ is) (sym (passes_before (λ d. same_trace t (trace_of d)) s.taken (c ∷ []) q below) ∙ ofq)
      | inr above ↦ omega arith
    ]

ahead_reports : (places : List ℕ) (s : AgentState) → InOrder s → ((p : ℕ) → count_of places p ≤ count_of s.pinned p) → Ahead (report places s).taken (report places s).reported
ahead_reports places s m sent t p q few of is ofq =
    let of' : is_of_trace s.taken t p ≡ true = sym (of_moved reported_standing places s.taken t p) ∙ of in
    let is' : stands is_indexed s.taken q ≡ true = still_indexed reported_standing reported_indexed places s.taken q is in
    let ofq' : is_of_trace s.taken t q ≡ true = sym (of_moved reported_standing places s.taken t q) ∙ ofq in
    go of' is' ofq' (count_of s.reported p) refl (count-append s.reported places p)
  where
    go : is_of_trace s.taken t p ≡ true → stands is_indexed s.taken q ≡ true → is_of_trace s.taken t q ≡ true → (n : ℕ) → count_of s.reported p ≡ n → count_of (s.reported ++ places) p ≡ count_of s.reported p + count_of places p → p < q
    go of' is' ofq' zero e both =
        let some : 1 ≤ count_of places p = omega (arith, few, both, e) in
        let le = sent p in
        let pinned = pinned_of s m t p (omega (arith, some, le)) of' in
        let free = unclaimed_group s.claims t (indexed_of s m t q is' ofq') in
        let claimed = pinned.2 in absurd cc
    go of' is' ofq' (suc n) e both = m.ahead t p q (omega (arith, e)) of' is' ofq'

no_index : (u : ChunkStanding) → false ≡ true → is_indexed u ≡ true
no_index u e = absurd (true≢false (sym e))

pub in_order_kept : (settings : PlainSettings) (node : ℕ) → IsKept settings node InOrder
in_order_kept settings node =
    let places = match_kept settings node in
    let claims = held_kept settings node in
    record {
      evicts = λ trace later s e over m. record {
        places = places.evicts trace later s e over m.places;
        held = claims.evicts trace later s e over m.held;
        rising = λ t. rising_moved _ (indexed_places s.taken trace) s.taken t (s.reported ++ s.pinned) (m.rising t);
        ahead = ahead_moved (λ _. Evicted _ _) no_index (indexed_places s.taken trace) s.taken s.reported m.ahead;
      };
      claims = λ ask trace s free m. record {
        places = places.claims ask trace s free m.places;
        held = claims.claims ask trace s free m.held;
        rising = rising_claims ask trace s free m;
        ahead = ahead_moved (λ _. Pinned ask.group) no_index (indexed_places s.taken trace) s.taken s.reported m.ahead;
      };
      abandons = λ group s chosen m. record {
        places = places.abandons group s chosen m.places;
        held = claims.abandons group s chosen m.held;
        rising = rising_abandons group s m;
        ahead = ahead_moved (λ _. Abandoned group) no_index (filter (is_pinned_for s.taken group) s.pinned) s.taken s.reported m.ahead;
      };
      visits = λ s share m. record {
        places = places.visits s share m.places;
        held = claims.visits s share m.held;
        rising = rising_reports (count_sent settings.size share (costs_of s share.trigger.0)) share.trigger.0 s m;
        ahead = ahead_reports (take (count_sent settings.size share (costs_of s share.trigger.0)) (order_of s share.trigger.0)) s m (visit_few settings s share);
      };
      shares = λ shares s m. record { places = m.places; held = m.held; rising = m.rising; ahead = m.ahead };
      indexes = λ sheet s free m. record {
        places = places.indexes sheet s free m.places;
        held = claims.indexes sheet s free m.held;
        rising = rising_more s m _;
        ahead = ahead_more s m _;
      };
      drops = λ sheet claim s had gone m. record {
        places = places.drops sheet claim s had gone m.places;
        held = claims.drops sheet claim s had gone m.held;
        rising = rising_more s m _;
        ahead = ahead_more s m _;
      };
      pins = λ sheet claim s had m. record {
        places = places.pins sheet claim s had m.places;
        held = claims.pins sheet claim s had m.held;
        rising = rising_pins sheet claim.group s m;
        ahead = ahead_more s m _;
      };
      touches = λ crumb s free m. record { places = m.places; held = m.held; rising = m.rising; ahead = m.ahead };
      tells = λ crumb claim s had new m. record { places = m.places; held = m.held; rising = m.rising; ahead = m.ahead };
      tries = λ trigger s m. record { places = m.places; held = m.held; rising = m.rising; ahead = m.ahead };
      counts = λ s m. record { places = m.places; held = m.held; rising = m.rising; ahead = m.ahead };
      says = λ told s m. record { places = m.places; held = m.held; rising = m.rising; ahead = m.ahead };
      notes = λ step s m. record { places = m.places; held = m.held; rising = m.rising; ahead = m.ahead };
      gives = λ stamp place hand s e m. record { places = places.gives stamp place hand s e m.places; held = m.held; rising = m.rising; ahead = m.ahead };
    }

pub reported_in_order : ReportedInOrder
reported_in_order settings node events t =
    let m = kept_after settings node InOrder (in_order_kept settings node) (record { places = match_start settings; held = tt; rising = λ t. tt; ahead = λ t p q few of is ofq. absurd (omega arith) }) events in
    let s = after settings node events in
    let f = is_of_trace s.taken t in
    rising_front (filter f s.reported) (filter f s.pinned) (subst AreRising (filter-append f s.reported s.pinned) (m.rising t))
