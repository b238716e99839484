-- What an agent has to bear: chunks that are indexed or pinned, claims and admitted triggers. A chunk adds one to bear at most; all
-- else adds none. Claims are only for the group that was admitted or asked for.
use Rattle.std.proofs.Common.{◌≡◌, ℕ, suc, ◌+◌, ◌≤◌, Bool, true, false, ◌&&◌, cond, List, [], ◌∷◌, ◌++◌, length, refl, sym, ap, ◌∙◌, arith, Option, Some, None, filter, take, fold, slice_get, not, length-append}
use Rattle.hs_law_agent.proofs.Prelude.{option_map_or, filter_few, TraceId, Ask, Crumb, Group, same_trace, PlainSettings, Sheet, Indexed, Pinned, Evicted, Abandoned, Taken, is_indexed, is_indexed_of, is_pinned_for, is_among, indexed_count, indexed_places, places_from, moved_from, trace_of, AgentState, ClaimedTrace, claim_of, is_claimed, is_abandoned, evict, claim_trace, claim_unclaimed, traces_of, claim_each, abandon, order_of, costs_of, reported_standing, visit, Share, count_sent, has_crumb, Input, Chunk, Crumbed, Triggered, Asked, Turn, Answered, Given, Missed, Unread, Took, with_indexed, with_abandoned, with_pinned, pin_chunk, with_touched, tell_late, late_crumb, admits, group_of, claim_for, note_trigger, count_admitted, admit, take_input, give_back, take_answer, borne, brought_by}
use Rattle.hs_law_agent.specs.Laws.{claimed_by, admitted_by, shares_by, AllPass, IsPassed, EventsAddFew}
use Rattle.hs_law_agent.proofs.Traversal.{evict_loop, abandon_loop, visit_loop}
use Rattle.hs_law_agent.proofs.Limits.{indexed_moved, indexed_more, reported_indexed}
use Rattle.hs_law_agent.proofs.Claims.{among_places}

-- ---- what a claim moves

places_counted : (k : ℕ) (test : Taken → Bool) (taken : List Taken) → length (places_from k test taken) ≡ length (filter test taken)
places_counted k test [] = refl
places_counted k test (c ∷ taken) = either (test c) (places_counted (suc k) test taken)
  where
    either : (b : Bool) → length (places_from (suc k) test taken) ≡ length (filter test taken) → length (cond b (k ∷ places_from (suc k) test taken) (places_from (suc k) test taken)) ≡ length (cond b (c ∷ filter test taken) (filter test taken))
    either true h = ap suc h
    either false h = h

abbrev indexed_of : List Taken → List Taken
indexed_of taken = filter (λ (chunk : Taken). is_indexed chunk.standing) taken

module _ (trace : TraceId) (group : Group) (places : List ℕ) where
  -- what is moved is no longer indexed
  moved_case : (c : Taken) (taken : List Taken) (k : ℕ) (a b d : Bool) → is_among places k ≡ a → is_indexed_of trace c ≡ b → is_indexed c.standing ≡ d → a ≡ b
      → indexed_count (moved_from (suc k) places (λ _. Pinned group) taken) + length (filter (is_indexed_of trace) taken) ≡ indexed_count taken
      → indexed_count (moved_from k places (λ _. Pinned group) (c ∷ taken)) + length (filter (is_indexed_of trace) (c ∷ taken)) ≡ indexed_count (c ∷ taken)
  moved_case c taken k true true true e f g same h =
      let a : indexed_count (moved_from k places (λ _. Pinned group) (c ∷ taken)) ≡ indexed_count (moved_from (suc k) places (λ _. Pinned group) taken) =
      ap (λ b. indexed_count (cond b (record c { standing = Pinned group }) c ∷ moved_from (suc k) places (λ _. Pinned group) taken)) e
      in
      let b : length (filter (is_indexed_of trace) (c ∷ taken)) ≡ suc (length (filter (is_indexed_of trace) taken)) = ap (λ b. length (cond b (c ∷ filter (is_indexed_of trace) taken) (filter (is_indexed_of trace) taken))) f in
      let d : indexed_count (c ∷ taken) ≡ suc (indexed_count taken) = ap (λ b. length (cond b (c ∷ indexed_of taken) (indexed_of taken))) g in
      omega (arith, a, b, d, h)
  moved_case c taken k true true false e f g same h =
      let never : false ≡ true = sym (ap (λ b. b && same_trace trace (trace_of c)) g) ∙ f in absurd cc
  moved_case c taken k false false d e f g same h =
      let a : indexed_count (moved_from k places (λ _. Pinned group) (c ∷ taken)) ≡ indexed_count (c ∷ moved_from (suc k) places (λ _. Pinned group) taken) =
      ap (λ b. indexed_count (cond b (record c { standing = Pinned group }) c ∷ moved_from (suc k) places (λ _. Pinned group) taken)) e
      in
      let b : length (filter (is_indexed_of trace) (c ∷ taken)) ≡ length (filter (is_indexed_of trace) taken) = ap (λ b. length (cond b (c ∷ filter (is_indexed_of trace) taken) (filter (is_indexed_of trace) taken))) f in
      stays (is_indexed c.standing) a b
    where
      stays : (d : Bool) → indexed_count (moved_from k places (λ _. Pinned group) (c ∷ taken)) ≡ length (cond d (c ∷ indexed_of (moved_from (suc k) places (λ _. Pinned group) taken)) (indexed_of (moved_from (suc k) places (λ _. Pinned group) taken)))
          → length (filter (is_indexed_of trace) (c ∷ taken)) ≡ length (filter (is_indexed_of trace) taken)
          → indexed_count (moved_from k places (λ _. Pinned group) (c ∷ taken)) + length (filter (is_indexed_of trace) (c ∷ taken)) ≡ length (cond d (c ∷ indexed_of taken) (indexed_of taken))
      stays true a b = omega (arith, a, b, h)
      stays false a b = omega (arith, a, b, h)
  moved_case c taken k true false d e f g same h = absurd cc
  moved_case c taken k false true d e f g same h = absurd cc

  moved_counted : (k : ℕ) (taken : List Taken) → ((i : ℕ) (c : Taken) → slice_get taken i ≡ Some c → is_among places (k + i) ≡ is_indexed_of trace c)
      → indexed_count (moved_from k places (λ _. Pinned group) taken) + length (filter (is_indexed_of trace) taken) ≡ indexed_count taken
  moved_counted k [] agree = omega arith
  moved_counted k (c ∷ taken) agree =
      let here : k + 0 ≡ k = omega arith in
      moved_case c taken k (is_among places k) (is_indexed_of trace c) (is_indexed c.standing) refl refl refl (ap (is_among places) (sym here) ∙ agree 0 c refl)
      (moved_counted (suc k) taken (λ i d at. let there : suc k + i ≡ k + suc i = omega arith in ap (is_among places) there ∙ agree (suc i) d at))

claim_counted : (ask : Ask) (trace : TraceId) (s : AgentState) → indexed_count (claim_trace ask trace s).taken + length (claim_trace ask trace s).pinned ≡ indexed_count s.taken + length s.pinned
claim_counted ask trace s =
    let moved_all = moved_counted trace ask.group (indexed_places s.taken trace) 0 s.taken (λ i c at. let z : 0 + i ≡ i = omega arith in ap (is_among (indexed_places s.taken trace)) z ∙ among_places (is_indexed_of trace) s.taken i c at) in
    let places = places_counted 0 (is_indexed_of trace) s.taken in
    let both = length-append s.pinned (indexed_places s.taken trace) in
    omega (arith, moved_all, places, both)

-- ---- through a step

module _ (most : ℕ) (test : Group → Bool) (admitted : ℕ) (shares : List Share) where
  record Bears (u : AgentState) : Type 0 where
    few : indexed_count u.taken + length u.pinned ≤ most
    own : AllPass test u.claims
    count : u.admitted ≡ admitted
    same : u.shares ≡ shares

  never_indexed : {A : Type 0} (u : A) → false ≡ true → ⊥
  never_indexed u e = absurd cc

  module _ (settings : PlainSettings) where
    evict_bears : (u : AgentState) → Bears u → Bears (evict settings u)
    evict_bears u h =
        evict_loop settings Bears
        (λ trace later v f over p.
        let less = indexed_moved (λ _. Evicted (indexed_count v.taken) (length v.touched)) (λ s e. let never : false ≡ true = e in absurd cc) (indexed_places v.taken trace) 0 v.taken in
        let few = p.few in
        record { few = omega (arith, less, few); own = p.own; count = p.count; same = p.same }) u.touched u refl h

    abandon_bears : (u : AgentState) → Bears u → Bears (abandon settings u)
    abandon_bears u h =
        abandon_loop settings Bears
        (λ group v f p.
        let less = indexed_moved (λ _. Abandoned group) (λ s e. let never : false ≡ true = e in absurd cc) (filter (is_pinned_for v.taken group) v.pinned) 0 v.taken in
        let pins = filter_few (λ place. not (is_pinned_for v.taken group place)) v.pinned in
        let few = p.few in
        record { few = omega (arith, less, pins, few); own = p.own; count = p.count; same = p.same }) u.pinned u h

    all_more : (claims : List ClaimedTrace) (claim : ClaimedTrace) → AllPass test claims → test claim.group ≡ true → AllPass test (claims ++ claim ∷ [])
    all_more [] claim all h = (h, tt)
    all_more (c ∷ claims) claim all h = (all.0, all_more claims claim all.1 h)

    claim_for_bears : (ask : Ask) (u : AgentState) → test ask.group ≡ true → Bears u → Bears (claim_for settings ask u)
    claim_for_bears ask u own h = abandon_bears (claim_each ask u) (all_claims (traces_of ask) u h)
      where
        one_claim : (v : AgentState) (trace : TraceId) → Bears v → Bears (claim_trace ask trace v)
        one_claim v trace p =
            let same = claim_counted ask trace v in
            let few = p.few in
            record { few = omega (arith, same, few); own = all_more v.claims (record { trace = trace; group = ask.group; laterals = ask.laterals }) p.own own; count = p.count; same = p.same }

        claim_case : (v : AgentState) (trace : TraceId) (b : Bool) → Bears v → Bears (cond b v (claim_trace ask trace v))
        claim_case v trace true p = p
        claim_case v trace false p = one_claim v trace p

        all_claims : (traces : List TraceId) (v : AgentState) → Bears v → Bears (fold (claim_unclaimed ask) v traces)
        all_claims [] v p = p
        all_claims (trace ∷ traces) v p = all_claims traces (claim_unclaimed ask v trace) (claim_case v trace (is_claimed v.claims trace) p)

    turn_bears : (u : AgentState) → Bears u → Bears (fold (visit settings) u u.shares)
    turn_bears u h =
        let v =
        visit_loop settings Bears
        (λ w share p.
        let places = take (count_sent settings.size share (costs_of w share.trigger.0)) (order_of w share.trigger.0) in
        let less = indexed_moved reported_standing reported_indexed places 0 w.taken in
        let pins = filter_few (λ place. not (is_among places place)) w.pinned in
        let few = p.few in
        record { few = omega (arith, less, pins, few); own = p.own; count = p.count; same = p.same }) u.shares u h
        in
        v

    crumb_bears : (node : ℕ) (crumb : Crumb) (u : AgentState) → Bears u → Bears (take_input settings node u (Crumbed 0 crumb))
    crumb_bears node crumb u h = claimed (claim_of u.claims crumb.trace)
      where
        late : (claim : ClaimedTrace) (b : Bool) → Bears (cond b u (tell_late crumb claim u))
        late claim true = h
        late claim false = record { few = h.few; own = h.own; count = h.count; same = h.same }

        claimed : (o : Option ClaimedTrace) → Bears (option_map_or (λ claim. late_crumb crumb claim u) o (evict settings (with_touched crumb u)))
        claimed None = evict_bears (with_touched crumb u) (record { few = h.few; own = h.own; count = h.count; same = h.same })
        claimed (Some claim) = late claim (has_crumb u.crumbs crumb)

    ask_bears : (node : ℕ) (ask : Ask) (u : AgentState) → test ask.group ≡ true → Bears u → Bears (take_input settings node u (Asked ask))
    ask_bears node ask u own h = let c = claim_for_bears ask u own h in record { few = c.few; own = c.own; count = c.count; same = c.same }

-- a chunk more is one more
indexed_one : (taken : List Taken) (c : Taken) → indexed_count (taken ++ c ∷ []) ≤ indexed_count taken + 1
indexed_one [] c = either (is_indexed c.standing)
  where
    either : (b : Bool) → length (cond b (c ∷ []) []) ≤ 0 + 1
    either true = omega arith
    either false = omega arith
indexed_one (x ∷ taken) c = either (is_indexed x.standing) (indexed_one taken c)
  where
    either : (b : Bool) → indexed_count (taken ++ c ∷ []) ≤ indexed_count taken + 1 → length (cond b (x ∷ indexed_of (taken ++ c ∷ [])) (indexed_of (taken ++ c ∷ []))) ≤ length (cond b (x ∷ indexed_of taken) (indexed_of taken)) + 1
    either true h = omega (arith, h)
    either false h = h

module _ (settings : PlainSettings) (node : ℕ) (s : AgentState) (test : Group → Bool) (own : AllPass test s.claims) where
  stays : Bears (borne s) test s.admitted s.shares s
  stays = record { few = omega arith; own = own; count = refl; same = refl }

  chunk_bears : (sheet : Sheet) → Bears (borne s + 1) test s.admitted s.shares (take_input settings node s (Chunk 0 sheet))
  chunk_bears sheet = claimed (claim_of s.claims sheet.header.trace)
    where
      pinned : (claim : ClaimedTrace) (b : Bool) → Bears (borne s + 1) test s.admitted s.shares (cond b (with_abandoned sheet claim.group s) (abandon settings (with_pinned sheet claim.group s)))
      pinned claim true =
          let same = indexed_more s.taken (record { sheet = sheet; standing = Abandoned claim.group }) refl in record { few = omega (arith, same); own = own; count = refl; same = refl }
      pinned claim false =
          let same = indexed_more s.taken (record { sheet = sheet; standing = Pinned claim.group }) refl in
          let both = length-append s.pinned (length s.taken ∷ []) in
          abandon_bears (borne s + 1) test s.admitted s.shares settings (with_pinned sheet claim.group s) (record { few = omega (arith, same, both); own = own; count = refl; same = refl })

      claimed : (o : Option ClaimedTrace) → Bears (borne s + 1) test s.admitted s.shares (option_map_or (λ (claim : ClaimedTrace). pin_chunk settings sheet claim.group s) o (evict settings (with_indexed sheet s)))
      claimed None =
          let more = indexed_one s.taken (record { sheet = sheet; standing = Indexed }) in
          evict_bears (borne s + 1) test s.admitted s.shares settings (with_indexed sheet s) (record { few = omega (arith, more); own = own; count = refl; same = refl })
      claimed (Some claim) = pinned claim (is_abandoned s.abandoned claim.group)

  input_bears : (input : Input) → IsPassed test (claimed_by settings node s input) → Bears (borne s + length (brought_by (Took input))) test (s.admitted + admitted_by settings s input) (shares_by settings s input) (take_input settings node s input)
  input_bears (Chunk client sheet) passed = let h = chunk_bears sheet in let zeroth : s.admitted ≡ s.admitted + 0 = omega arith in record { few = h.few; own = h.own; count = h.count ∙ zeroth; same = h.same }
  input_bears (Crumbed client crumb) passed =
      let h = crumb_bears (borne s) test s.admitted s.shares settings node crumb s stays in
      let zeroth : s.admitted ≡ s.admitted + 0 = omega arith in
      let few = h.few in
      record { few = omega (arith, few); own = h.own; count = h.count ∙ zeroth; same = h.same }
  input_bears (Triggered client trigger) passed = either (admits settings s.tried trigger) passed
    where
      noted : (u : AgentState) → Bears (borne s) test s.admitted s.shares u → Bears (borne s + 0) test (s.admitted + 0) s.shares u
      noted u h = let few = h.few in let zeroth : s.admitted ≡ s.admitted + 0 = omega arith in record { few = omega (arith, few); own = h.own; count = h.count ∙ zeroth; same = h.same }

      either : (b : Bool) → IsPassed test (cond b (Some (group_of node s trigger).group) None)
          → Bears (borne s + 0) test (s.admitted + cond b 1 0) s.shares (cond b (admit settings node trigger (note_trigger trigger s)) (note_trigger trigger s))
      either true p =
          let c =
          claim_for_bears (borne s + 0) test (s.admitted + 1) s.shares settings (group_of node (note_trigger trigger s) trigger) (count_admitted (note_trigger trigger s)) p (record { few = omega arith; own = own; count = refl; same = refl })
          in
          record { few = c.few; own = c.own; count = c.count; same = c.same }
      either false p = let zeroth : s.admitted ≡ s.admitted + 0 = omega arith in record { few = omega arith; own = own; count = zeroth; same = refl }
  input_bears (Asked ask) passed =
      let h = ask_bears (borne s) test s.admitted s.shares settings node ask s passed stays in
      let zeroth : s.admitted ≡ s.admitted + 0 = omega arith in
      let few = h.few in
      record { few = omega (arith, few); own = h.own; count = h.count ∙ zeroth; same = h.same }
  input_bears Turn passed =
      let h = turn_bears (borne s) test s.admitted s.shares settings s stays in
      let zeroth : s.admitted ≡ s.admitted + 0 = omega arith in
      let few = h.few in
      record { few = omega (arith, few); own = h.own; count = h.count ∙ zeroth; same = refl }

-- the test that all groups pass
any_group : Group → Bool
any_group group = true

module _ (s : AgentState) where
  given_borne : (stamp : ℕ) (hand : List ℕ) → borne (give_back stamp hand s) ≤ borne s
  given_borne stamp [] = omega arith
  given_borne stamp (place ∷ hand) = omega arith

  given_claims : (stamp : ℕ) (hand : List ℕ) → (give_back stamp hand s).claims ≡ s.claims
  given_claims stamp [] = refl
  given_claims stamp (place ∷ hand) = refl

  given_admitted : (stamp : ℕ) (hand : List ℕ) → (give_back stamp hand s).admitted ≡ s.admitted
  given_admitted stamp [] = refl
  given_admitted stamp (place ∷ hand) = refl

  answer_borne : (answer : Answered) → borne (take_answer s answer) ≤ borne s
  answer_borne (Given stamp) = given_borne stamp s.hand
  answer_borne (Missed stamp) = omega arith
  answer_borne Unread = omega arith

  answer_claims : (answer : Answered) → (take_answer s answer).claims ≡ s.claims
  answer_claims (Given stamp) = given_claims stamp s.hand
  answer_claims (Missed stamp) = refl
  answer_claims Unread = refl

  answer_admitted : (answer : Answered) → (take_answer s answer).admitted ≡ s.admitted
  answer_admitted (Given stamp) = given_admitted stamp s.hand
  answer_admitted (Missed stamp) = refl
  answer_admitted Unread = refl

  given_shares : (stamp : ℕ) (hand : List ℕ) → (give_back stamp hand s).shares ≡ s.shares
  given_shares stamp [] = refl
  given_shares stamp (place ∷ hand) = refl

  pub answer_shares : (answer : Answered) → (take_answer s answer).shares ≡ s.shares
  answer_shares (Given stamp) = given_shares stamp s.hand
  answer_shares (Missed stamp) = refl
  answer_shares Unread = refl

  all_any : (claims : List ClaimedTrace) → AllPass any_group claims
  unfolding any_group
  all_any [] = tt
  all_any (claim ∷ claims) = (refl, all_any claims)

  any_passed : (o : Option Group) → IsPassed any_group o
  unfolding any_group
  any_passed None = tt
  any_passed (Some group) = refl

pub events_add_few : EventsAddFew
events_add_few settings node s =
    record {
      load = λ input. (input_bears settings node s any_group (all_any s s.claims) input (any_passed s (claimed_by settings node s input))).few;
      offered = answer_borne s;
      claims = λ test input own passed. (input_bears settings node s test own input passed).own;
      kept = answer_claims s;
      admitted = λ input. (input_bears settings node s any_group (all_any s s.claims) input (any_passed s (claimed_by settings node s input))).count;
      counted = answer_admitted s;
      shares = λ input. (input_bears settings node s any_group (all_any s s.claims) input (any_passed s (claimed_by settings node s input))).same;
      shared = answer_shares s;
    }
