-- Each step leaves every list with its chunks, each once.
use Rattle.std.proofs.Common.{◌≡◌, ℕ, ◌+◌, ◌≤◌, Bool, true, false, cond, not, List, [], ◌∷◌, ◌++◌, length, take, map, refl, sym, ap, ◌∙◌, arith, inl, inr}
use Rattle.hs_law_agent.proofs.Prelude.{◌==◌, filter, cases_Bool, true≢false, and_parts, map-append, one_if, one_few, TraceId, Group, Ask, PlainSettings, Share, count_sent, Sheet, ChunkStanding, Indexed, Pinned, Reported, Evicted, Abandoned, Taken, is_indexed, is_pinned, is_reported, is_let_go, is_indexed_of, is_pinned_for, indexed_places, passes, stands, is_among, moved, AgentState, GivenPlace, start, evict_trace, claim_trace, abandon_group, is_pinned_under, place_is_no_greater, put_before, by_priority, order_of, costs_of, reported_standing, report, visit, with_indexed, with_abandoned, with_pinned, give_place, count_of, given_places, PlacesMatch}
use Rattle.hs_base.proofs.Counts.{one_le}
use Rattle.hs_law_agent.proofs.Traversal.{IsKept}
use Rattle.hs_law_agent.specs.Laws.{ListsEach, ArePlaced}
use Rattle.hs_law_agent.proofs.Counts.{count-append, count-filter, count-take, among_counted, not_among_counted, counted_one, passes_too, passes_moved_at, passes_more, places_counted_at, count-split, count-filter-le}

-- these places are of chunks that stand so, each once at most
abbrev pub AreSome : (ChunkStanding → Bool) → List Taken → List ℕ → Type 0
AreSome from taken places = (p : ℕ) → count_of places p ≤ one_if (stands from taken p)

-- each chunk that moves answers the test so before, and so afterwards
abbrev pub Turns : (from test : ChunkStanding → Bool) → (ChunkStanding → ChunkStanding) → Bool → Bool → Type 0
Turns from test change before after = (s : ChunkStanding) → from s ≡ true → (test s ≡ before) × (test (change s) ≡ after)

moved_out : (b : Bool) (n : ℕ) → n ≡ 0 → cond b n 0 ≡ 0
moved_out true n h = h
moved_out false n h = refl

moved_once : (b : Bool) (n : ℕ) → n ≡ 1 → cond b n 0 ≡ one_if b
moved_once true n h = h
moved_once false n h = refl

pub moved_counted : (from test : ChunkStanding → Bool) (change : ChunkStanding → ChunkStanding) (before after : Bool) → Turns from test change before after
    → (taken : List Taken) (places : List ℕ) → AreSome from taken places
    → (p : ℕ) → one_if (stands test (moved places change taken) p) + cond before (count_of places p) 0 ≡ one_if (stands test taken p) + cond after (count_of places p) 0
moved_counted from test change before after turns taken places some p =
    elim (cases_Bool (is_among places p)) [
      | inl here ↦
          let most : one_if (stands from taken p) ≤ 1 = one_few (stands from taken p) in
          let least : 1 ≤ count_of places p = among_counted places p here in
          let mine : count_of places p ≤ one_if (stands from taken p) = some p in
          let is : stands from taken p ≡ true = counted_one (stands from taken p) (omega arith) in
          let once : count_of places p ≡ 1 = omega arith in
          let old : stands test taken p ≡ before = passes_too (λ c. from c.standing) (λ c. test c.standing) before (λ c e. (turns c.standing e).0) taken p is in
          let new : stands (λ s. test (change s)) taken p ≡ after = passes_too (λ c. from c.standing) (λ c. test (change c.standing)) after (λ c e. (turns c.standing e).1) taken p is in
          let at : stands test (moved places change taken) p ≡ cond (is_among places p) (stands (λ s. test (change s)) taken p) (stands test taken p) = passes_moved_at (λ c. test c.standing) change places taken p in
          let now : stands test (moved places change taken) p ≡ after = at ∙ (rw here new) in
          rw (now, old) (omega (arith, moved_once before (count_of places p) once, moved_once after (count_of places p) once))
      | inr absent ↦
          let none : count_of places p ≡ 0 = not_among_counted places p absent in
          let at : stands test (moved places change taken) p ≡ cond (is_among places p) (stands (λ s. test (change s)) taken p) (stands test taken p) = passes_moved_at (λ c. test c.standing) change places taken p in
          let now : stands test (moved places change taken) p ≡ stands test taken p = at ∙ (rw absent refl) in
          rw now (omega (arith, moved_out before (count_of places p) none, moved_out after (count_of places p) none))
    ]

-- What moves leaves its list or joins it, and no other list changes.
lists_moved : (from test : ChunkStanding → Bool) (change : ChunkStanding → ChunkStanding) (before after : Bool) → Turns from test change before after
    → (taken : List Taken) (places : List ℕ) → AreSome from taken places → (xs ys : List ℕ) → ListsEach test taken xs
    → ((p : ℕ) → count_of ys p + cond before (count_of places p) 0 ≡ count_of xs p + cond after (count_of places p) 0)
    → ListsEach test (moved places change taken) ys
lists_moved from test change before after turns taken places some xs ys each counts p =
    let now = moved_counted from test change before after turns taken places some p in
    let old : count_of xs p ≡ one_if (stands test taken p) = each p in
    let both : count_of ys p + cond before (count_of places p) 0 ≡ count_of xs p + cond after (count_of places p) 0 = counts p in
    let goal : count_of ys p ≡ one_if (stands test (moved places change taken) p) = omega arith in goal

pub indexed_only : (P : ChunkStanding → Type 0) → P Indexed → (s : ChunkStanding) → is_indexed s ≡ true → P s
indexed_only P h Indexed e = h
indexed_only P h (Pinned g) e = absurd (true≢false (sym e))
indexed_only P h (Reported g) e = absurd (true≢false (sym e))
indexed_only P h (Evicted a b) e = absurd (true≢false (sym e))
indexed_only P h (Abandoned g) e = absurd (true≢false (sym e))

pub pinned_only : (P : ChunkStanding → Type 0) → ((g : Group) → P (Pinned g)) → (s : ChunkStanding) → is_pinned s ≡ true → P s
pinned_only P h Indexed e = absurd (true≢false (sym e))
pinned_only P h (Pinned g) e = h g
pinned_only P h (Reported g) e = absurd (true≢false (sym e))
pinned_only P h (Evicted a b) e = absurd (true≢false (sym e))
pinned_only P h (Abandoned g) e = absurd (true≢false (sym e))

pub indexed_some : (taken : List Taken) (trace : TraceId) → AreSome is_indexed taken (indexed_places taken trace)
indexed_some taken trace p =
    rw (places_counted_at (is_indexed_of trace) taken p)
    (one_le (passes (is_indexed_of trace) taken p) (stands is_indexed taken p)
    (passes_too (is_indexed_of trace) (λ c. is_indexed c.standing) true (λ c e. (and_parts _ _ e).0) taken p))

-- ---- the moves

module _ (taken : List Taken) (places pinned reported given hand : List ℕ) where
  -- indexed chunks that are evicted
  placed_evicted : (chunks traces : ℕ) → AreSome is_indexed taken places → ArePlaced taken pinned reported (given ++ hand)
      → ArePlaced (moved places (λ _. Evicted chunks traces) taken) pinned reported (given ++ (hand ++ places))
  placed_evicted chunks traces some m =
      record {
        pinned_each = lists_moved is_indexed is_pinned (λ _. Evicted chunks traces) false false (λ s e. indexed_only (λ s. (is_pinned s ≡ false) × (false ≡ false)) (refl, refl) s e) taken places some pinned pinned m.pinned_each (λ p. refl);
        reported_each = lists_moved is_indexed is_reported (λ _. Evicted chunks traces) false false (λ s e. indexed_only (λ s. (is_reported s ≡ false) × (false ≡ false)) (refl, refl) s e) taken places some reported reported m.reported_each (λ p. refl);
        gone_each =
            lists_moved is_indexed is_let_go (λ _. Evicted chunks traces) false true (λ s e. indexed_only (λ s. (is_let_go s ≡ false) × (true ≡ true)) (refl, refl) s e) taken places some (given ++ hand) (given ++ (hand ++ places)) m.gone_each
            (λ p. rw (count-append given (hand ++ places) p, count-append hand places p, count-append given hand p) (omega arith));
      }

  -- indexed chunks that are pinned
  placed_pinned : (group : Group) → AreSome is_indexed taken places → ArePlaced taken pinned reported (given ++ hand)
      → ArePlaced (moved places (λ _. Pinned group) taken) (pinned ++ places) reported (given ++ hand)
  placed_pinned group some m =
      record {
        pinned_each = lists_moved is_indexed is_pinned (λ _. Pinned group) false true (λ s e. indexed_only (λ s. (is_pinned s ≡ false) × (true ≡ true)) (refl, refl) s e) taken places some pinned (pinned ++ places) m.pinned_each
            (λ p. rw (count-append pinned places p) (omega arith));
        reported_each = lists_moved is_indexed is_reported (λ _. Pinned group) false false (λ s e. indexed_only (λ s. (is_reported s ≡ false) × (false ≡ false)) (refl, refl) s e) taken places some reported reported m.reported_each (λ p. refl);
        gone_each = lists_moved is_indexed is_let_go (λ _. Pinned group) false false (λ s e. indexed_only (λ s. (is_let_go s ≡ false) × (false ≡ false)) (refl, refl) s e) taken places some (given ++ hand) (given ++ hand) m.gone_each (λ p. refl);
      }

  -- pinned chunks that are abandoned
  placed_abandoned : (group : Group) (rest : List ℕ) → AreSome is_pinned taken places → ((p : ℕ) → count_of rest p + count_of places p ≡ count_of pinned p)
      → ArePlaced taken pinned reported (given ++ hand)
      → ArePlaced (moved places (λ _. Abandoned group) taken) rest reported (given ++ (hand ++ places))
  placed_abandoned group rest some parts m =
      record {
        pinned_each = lists_moved is_pinned is_pinned (λ _. Abandoned group) true false (λ s e. (e, refl)) taken places some pinned rest m.pinned_each (λ p. omega (arith, parts p));
        reported_each = lists_moved is_pinned is_reported (λ _. Abandoned group) false false (λ s e. pinned_only (λ s. (is_reported s ≡ false) × (false ≡ false)) (λ g. (refl, refl)) s e) taken places some reported reported m.reported_each (λ p. refl);
        gone_each =
            lists_moved is_pinned is_let_go (λ _. Abandoned group) false true (λ s e. pinned_only (λ s. (is_let_go s ≡ false) × (true ≡ true)) (λ g. (refl, refl)) s e) taken places some (given ++ hand) (given ++ (hand ++ places)) m.gone_each
            (λ p. rw (count-append given (hand ++ places) p, count-append hand places p, count-append given hand p) (omega arith));
      }

  -- pinned chunks that are reported
  placed_reported : (rest : List ℕ) → AreSome is_pinned taken places → ((p : ℕ) → count_of rest p + count_of places p ≡ count_of pinned p)
      → ArePlaced taken pinned reported (given ++ hand)
      → ArePlaced (moved places reported_standing taken) rest (reported ++ places) (given ++ (hand ++ places))
  placed_reported rest some parts m =
      record {
        pinned_each = lists_moved is_pinned is_pinned reported_standing true false (λ s e. pinned_only (λ s. (is_pinned s ≡ true) × (is_pinned (reported_standing s) ≡ false)) (λ g. (refl, refl)) s e) taken places some pinned rest m.pinned_each (λ p. omega (arith, parts p));
        reported_each = lists_moved is_pinned is_reported reported_standing false true (λ s e. pinned_only (λ s. (is_reported s ≡ false) × (is_reported (reported_standing s) ≡ true)) (λ g. (refl, refl)) s e) taken places some reported (reported ++ places) m.reported_each
            (λ p. rw (count-append reported places p) (omega arith));
        gone_each =
            lists_moved is_pinned is_let_go reported_standing false true (λ s e. pinned_only (λ s. (is_let_go s ≡ false) × (is_let_go (reported_standing s) ≡ true)) (λ g. (refl, refl)) s e) taken places some (given ++ hand) (given ++ (hand ++ places)) m.gone_each
            (λ p. rw (count-append given (hand ++ places) p, count-append hand places p, count-append given hand p) (omega arith));
      }

-- a chunk that comes
lists_more : (test : ChunkStanding → Bool) (taken : List Taken) (sheet : Sheet) (standing : ChunkStanding) (xs ys : List ℕ) → ListsEach test taken xs
    → ((p : ℕ) → count_of ys p ≡ count_of xs p + cond (test standing) (count_of (length taken ∷ []) p) 0)
    → ListsEach test (taken ++ record { sheet = sheet; standing = standing } ∷ []) ys
lists_more test taken sheet standing xs ys each counts p =
    let more = passes_more (λ c. test c.standing) taken (record { sheet = sheet; standing = standing }) p in
    let old : count_of xs p ≡ one_if (stands test taken p) = each p in
    let e : count_of ys p ≡ count_of xs p + cond (test standing) (count_of (length taken ∷ []) p) 0 = counts p in
    let goal : count_of ys p ≡ one_if (stands test (taken ++ record { sheet = sheet; standing = standing } ∷ []) p) = omega arith in goal

-- ---- steps

pub match_evict_trace : (trace : TraceId) (later : List TraceId) (s : AgentState) → PlacesMatch s → PlacesMatch (evict_trace trace later s)
match_evict_trace trace later s m = placed_evicted s.taken (indexed_places s.taken trace) s.pinned s.reported (given_places s) s.hand _ _ (indexed_some s.taken trace) m

pub match_claim_trace : (ask : Ask) (trace : TraceId) (s : AgentState) → PlacesMatch s → PlacesMatch (claim_trace ask trace s)
match_claim_trace ask trace s m = placed_pinned s.taken (indexed_places s.taken trace) s.pinned s.reported (given_places s) s.hand ask.group (indexed_some s.taken trace) m

pub match_abandon_group : (group : Group) (s : AgentState) → PlacesMatch s → PlacesMatch (abandon_group group s)
match_abandon_group group s m =
    placed_abandoned s.taken (filter (is_pinned_for s.taken group) s.pinned) s.pinned s.reported (given_places s) s.hand group (filter (λ place. not (is_pinned_for s.taken group place)) s.pinned)
    (λ p. let le = count-filter-le (is_pinned_for s.taken group) s.pinned p in let each : count_of s.pinned p ≡ one_if (stands is_pinned s.taken p) = m.pinned_each p in omega arith)
    (count-split (is_pinned_for s.taken group) s.pinned) m

pub match_report : (places : List ℕ) (s : AgentState) → ((p : ℕ) → count_of places p ≤ count_of s.pinned p) → PlacesMatch s → PlacesMatch (report places s)
match_report places s few m =
    placed_reported s.taken places s.pinned s.reported (given_places s) s.hand (filter (λ place. not (is_among places place)) s.pinned)
    (λ p. let le = few p in let each : count_of s.pinned p ≡ one_if (stands is_pinned s.taken p) = m.pinned_each p in omega arith)
    parts m
  where
    parts : (p : ℕ) → count_of (filter (λ place. not (is_among places place)) s.pinned) p + count_of places p ≡ count_of s.pinned p
    parts p =
        let le : count_of places p ≤ count_of s.pinned p = few p in
        let each : count_of s.pinned p ≡ one_if (stands is_pinned s.taken p) = m.pinned_each p in
        let most : one_if (stands is_pinned s.taken p) ≤ 1 = one_few (stands is_pinned s.taken p) in
        let left : count_of (filter (λ place. not (is_among places place)) s.pinned) p ≡ cond (not (is_among places p)) (count_of s.pinned p) 0 = count-filter (λ place. not (is_among places place)) s.pinned p in
        elim (cases_Bool (is_among places p)) [
          | inl here ↦ let least = among_counted places p here in let gone : count_of (filter (λ place. not (is_among places place)) s.pinned) p ≡ 0 = left ∙ (rw here refl) in omega arith
          | inr absent ↦ let none = not_among_counted places p absent in let kept : count_of (filter (λ place. not (is_among places place)) s.pinned) p ≡ count_of s.pinned p = left ∙ (rw absent refl) in omega arith
        ]

-- ---- turns

count-put : (taken : List Taken) (x : ℕ) (xs : List ℕ) (p : ℕ) → count_of (put_before taken x xs) p ≡ count_of (x ∷ xs) p
count-put taken x [] p = refl
count-put taken x (y ∷ ys) p =
    elim (place_is_no_greater taken y x) as (λ b. count_of (cond b (x ∷ y ∷ ys) (y ∷ put_before taken x ys)) p ≡ count_of (x ∷ y ∷ ys) p)
    [ true ↦ refl | false ↦ omega (arith, count-put taken x ys p) ]

pub count-by_priority : (taken : List Taken) (xs : List ℕ) (p : ℕ) → count_of (by_priority taken xs) p ≡ count_of xs p
count-by_priority taken [] p = refl
count-by_priority taken (x ∷ xs) p = count-put taken x (by_priority taken xs) p ∙ ap (λ n. cond (x == p) 1 0 + n) (count-by_priority taken xs p)

pub count-order : (s : AgentState) (id p : ℕ) → count_of (order_of s id) p ≤ count_of s.pinned p
count-order s id p =
    let le : count_of (filter (stands (is_pinned_under id) s.taken) s.pinned) p ≤ count_of s.pinned p = count-filter-le (stands (is_pinned_under id) s.taken) s.pinned p in
    let e : count_of (order_of s id) p ≡ count_of (filter (stands (is_pinned_under id) s.taken) s.pinned) p = count-by_priority s.taken (filter (stands (is_pinned_under id) s.taken) s.pinned) p in
    omega arith

pub visit_few : (settings : PlainSettings) (s : AgentState) (share : Share) (p : ℕ)
    → count_of (take (count_sent settings.size share (costs_of s share.trigger.0)) (order_of s share.trigger.0)) p ≤ count_of s.pinned p
visit_few settings s share p =
    let le = count-take (count_sent settings.size share (costs_of s share.trigger.0)) (order_of s share.trigger.0) p in
    let less = count-order s share.trigger.0 p in
    omega arith

pub match_visit : (settings : PlainSettings) (s : AgentState) (share : Share) → PlacesMatch s → PlacesMatch (visit settings s share)
match_visit settings s share m = match_report (take (count_sent settings.size share (costs_of s share.trigger.0)) (order_of s share.trigger.0)) s (visit_few settings s share) m

-- ---- what comes

match_indexed : (sheet : Sheet) (s : AgentState) → PlacesMatch s → PlacesMatch (with_indexed sheet s)
match_indexed sheet s m =
    record {
      pinned_each = lists_more is_pinned s.taken sheet Indexed s.pinned s.pinned m.pinned_each (λ p. omega arith);
      reported_each = lists_more is_reported s.taken sheet Indexed s.reported s.reported m.reported_each (λ p. omega arith);
      gone_each = lists_more is_let_go s.taken sheet Indexed (given_places s ++ s.hand) (given_places s ++ s.hand) m.gone_each (λ p. omega arith);
    }

match_dropped : (sheet : Sheet) (group : Group) (s : AgentState) → PlacesMatch s → PlacesMatch (with_abandoned sheet group s)
match_dropped sheet group s m =
    record {
      pinned_each = lists_more is_pinned s.taken sheet (Abandoned group) s.pinned s.pinned m.pinned_each (λ p. omega arith);
      reported_each = lists_more is_reported s.taken sheet (Abandoned group) s.reported s.reported m.reported_each (λ p. omega arith);
      gone_each = lists_more is_let_go s.taken sheet (Abandoned group) (given_places s ++ s.hand) (given_places s ++ (s.hand ++ length s.taken ∷ [])) m.gone_each
          (λ p. rw (count-append (given_places s) (s.hand ++ length s.taken ∷ []) p, count-append s.hand (length s.taken ∷ []) p, count-append (given_places s) s.hand p) (omega arith));
    }

match_pinned : (sheet : Sheet) (group : Group) (s : AgentState) → PlacesMatch s → PlacesMatch (with_pinned sheet group s)
match_pinned sheet group s m =
    record {
      pinned_each = lists_more is_pinned s.taken sheet (Pinned group) s.pinned (s.pinned ++ length s.taken ∷ []) m.pinned_each (λ p. rw (count-append s.pinned (length s.taken ∷ []) p) refl);
      reported_each = lists_more is_reported s.taken sheet (Pinned group) s.reported s.reported m.reported_each (λ p. omega arith);
      gone_each = lists_more is_let_go s.taken sheet (Pinned group) (given_places s ++ s.hand) (given_places s ++ s.hand) m.gone_each (λ p. omega arith);
    }

-- the places of the buffers given back, with one more
given_more : (s : AgentState) (stamp place : ℕ) (p : ℕ) → count_of (map (λ (g : GivenPlace). g.place) (s.given ++ record { place = place; stamp = stamp } ∷ [])) p ≡ count_of (given_places s) p + count_of (place ∷ []) p
given_more s stamp place p =
    ap (λ places. count_of places p) (map-append (λ (g : GivenPlace). g.place) s.given (record { place = place; stamp = stamp } ∷ [])) ∙ count-append (given_places s) (place ∷ []) p

match_give : (stamp place : ℕ) (hand : List ℕ) (s : AgentState) → s.hand ≡ place ∷ hand → PlacesMatch s → PlacesMatch (give_place stamp place hand s)
match_give stamp place hand s e m =
    record {
      pinned_each = m.pinned_each;
      reported_each = m.reported_each;
      gone_each =
          λ p. let old : count_of (given_places s ++ s.hand) p ≡ one_if (stands is_let_go s.taken p) = m.gone_each p in
          let split : count_of (given_places s ++ s.hand) p ≡ count_of (given_places s) p + count_of s.hand p = count-append (given_places s) s.hand p in
          let first : count_of s.hand p ≡ count_of (place ∷ hand) p = ap (λ places. count_of places p) e in
          let more = given_more s stamp place p in
          let parts = count-append (map (λ (g : GivenPlace). g.place) (s.given ++ record { place = place; stamp = stamp } ∷ [])) hand p in
          let goal : count_of (map (λ (g : GivenPlace). g.place) (s.given ++ record { place = place; stamp = stamp } ∷ []) ++ hand) p ≡ one_if (stands is_let_go s.taken p) = omega arith in
          goal;
    }

pub match_start : (settings : PlainSettings) → PlacesMatch (start settings)
match_start settings = record { pinned_each = λ p. refl; reported_each = λ p. refl; gone_each = λ p. refl }

pub match_kept : (settings : PlainSettings) (node : ℕ) → IsKept settings node PlacesMatch
match_kept settings node =
    record {
      evicts = λ trace later s e over m. match_evict_trace trace later s m;
      claims = λ ask trace s free m. match_claim_trace ask trace s m;
      abandons = λ group s chosen m. match_abandon_group group s m;
      visits = λ s share m. match_visit settings s share m;
      shares = λ shares s m. m;
      indexes = λ sheet s free m. match_indexed sheet s m;
      drops = λ sheet claim s had gone m. match_dropped sheet claim.group s m;
      pins = λ sheet claim s had m. match_pinned sheet claim.group s m;
      touches = λ crumb s free m. m;
      tells = λ crumb claim s had new m. m;
      tries = λ trigger s m. m;
      counts = λ s m. m;
      says = λ told s m. m;
      notes = λ step s m. m;
      gives = λ stamp place hand s e m. match_give stamp place hand s e m;
    }
