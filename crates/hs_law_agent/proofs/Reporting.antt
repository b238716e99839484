-- A turn reports a chunk where it can: one that is pinned for a trigger id with a share whose budget pays for it.
use Rattle.std.proofs.Common.{◌≡◌, ℕ, zero, suc, ◌+◌, ◌<◌, ◌≤◌, Bool, true, false, cond, not, List, [], ◌∷◌, length, refl, sym, ap, subst, ◌∙◌, arith, Some, None, map, filter, take, fold, slice_get, eqb, eqb-true, eq-eqb, leb, le-leb}
use Rattle.hs_law_agent.proofs.Prelude.{◌||◌, AllByRecursion, one_if, filter_few, PlainSettings, Share, count_sent, is_among, stands, AgentState, is_pinned_under, order_of, used_at, costs_of, reported_standing, report, visit, count_of, borne}
use Rattle.std.specs.List.{prefix_len, scan}
use Rattle.hs_records.specs.Fronts.{count_within}
use Rattle.hs_sched.specs.Visits.{budget_of}
use Rattle.hs_law_agent.specs.Laws.{TurnsReport}
use Rattle.hs_law_agent.proofs.Apart.{visits_are_apart}
use Rattle.hs_law_agent.proofs.Limits.{indexed_moved, reported_indexed}
use Rattle.hs_law_agent.proofs.Placed.{count-by_priority, count-order}

-- ---- lists

count_kept : (f : ℕ → Bool) (xs : List ℕ) (i p : ℕ) → slice_get xs i ≡ Some p → f p ≡ true → 1 ≤ count_of (filter f xs) p
count_kept f [] i p h e = let never : None ≡ Some p = h in absurd cc
count_kept f (x ∷ xs) zero p h e =
    let same : x ≡ p = cc in
    let kept : count_of (filter f (x ∷ xs)) p ≡ count_of (x ∷ filter f xs) p = ap (λ b. count_of (cond b (x ∷ filter f xs) (filter f xs)) p) (ap f same ∙ e) in
    let here = ap one_if (eq-eqb x p same) in
    omega (arith, kept, here)
count_kept f (x ∷ xs) (suc i) p h e = either (f x) (count_kept f xs i p h e)
  where
    either : (b : Bool) → 1 ≤ count_of (filter f xs) p → 1 ≤ count_of (cond b (x ∷ filter f xs) (filter f xs)) p
    either true h = omega (arith, h)
    either false h = h

gone_case : (q : ℕ → Bool) (p x : ℕ) (xs : List ℕ) (b c : Bool) → eqb x p ≡ b → q x ≡ c → 1 ≤ one_if b + count_of xs p → q p ≡ false → (1 ≤ count_of xs p → length (filter q xs) < length xs)
    → length (cond c (x ∷ filter q xs) (filter q xs)) < suc (length xs)
gone_case q p x xs true true e f some gone on = let never : true ≡ false = sym f ∙ ap q (eqb-true x p e) ∙ gone in absurd cc
gone_case q p x xs true false e f some gone on = let few = filter_few q xs in omega (arith, few)
gone_case q p x xs false true e f some gone on = let rest = on (omega (arith, some)) in omega (arith, rest)
gone_case q p x xs false false e f some gone on = let rest = on (omega (arith, some)) in omega (arith, rest)

one_gone : (q : ℕ → Bool) (p : ℕ) (xs : List ℕ) → 1 ≤ count_of xs p → q p ≡ false → length (filter q xs) < length xs
one_gone q p [] some gone = absurd (omega (arith, some))
one_gone q p (x ∷ xs) some gone = gone_case q p x xs (eqb x p) (q x) refl refl some gone (λ some. one_gone q p xs some gone)

-- ---- a visit

pays_one : (budget c : ℕ) (cs : List ℕ) → c ≤ budget → 1 ≤ count_within budget (c ∷ cs)
pays_one budget c cs low =
    let zeroth : 0 + c ≡ c = omega arith in
    let paid : leb (0 + c) budget ≡ true = le-leb (0 + c) budget (omega (arith, low)) in
    paid_case (leb (0 + c) budget) paid (prefix_len (λ total. leb total budget) (scan ◌+◌ ◌+◌ (0 + c) cs))
  where
    paid_case : (b : Bool) → b ≡ true → (n : ℕ) → 1 ≤ cond b (1 + n) 0
    paid_case true e n = omega arith
    paid_case false e n = let never : false ≡ true = e in absurd cc

module _ (settings : PlainSettings) where
  no_more : (u : AgentState) (share : Share) → borne (visit settings u share) ≤ borne u
  no_more u share =
      let places = take (count_sent settings.size share (costs_of u share.trigger.0)) (order_of u share.trigger.0) in
      let less = indexed_moved reported_standing reported_indexed places 0 u.taken in
      let pins = filter_few (λ place. not (is_among places place)) u.pinned in
      omega (arith, less, pins)

  none_more : (shares : List Share) (u : AgentState) → borne (fold (visit settings) u shares) ≤ borne u
  none_more [] u = omega arith
  none_more (share ∷ shares) u = let first = no_more u share in let rest = none_more shares (visit settings u share) in omega (arith, first, rest)

  among_first : (p : ℕ) (places : List ℕ) → is_among (p ∷ places) p ≡ true
  among_first p places = ap (λ b. b || is_among places p) (eq-eqb p p refl)

  reports_one : (u : AgentState) (share : Share) (p : ℕ) (ps : List ℕ) → order_of u share.trigger.0 ≡ p ∷ ps → used_at u.taken p ≤ budget_of settings.size share → borne (visit settings u share) < borne u
  reports_one u share p ps order cheap =
      let costs : costs_of u share.trigger.0 ≡ used_at u.taken p ∷ map (used_at u.taken) ps = ap (map (used_at u.taken)) order in
      let some : 1 ≤ count_sent settings.size share (costs_of u share.trigger.0) =
      subst (λ (cs : List ℕ). 1 ≤ count_within (budget_of settings.size share) cs) (sym costs) (pays_one (budget_of settings.size share) (used_at u.taken p) (map (used_at u.taken) ps) cheap)
      in
      let counted = count-order u share.trigger.0 p in
      let own = ap (λ (ps : List ℕ). count_of ps p) order in
      let here = ap one_if (eq-eqb p p refl) in
      sent_case (count_sent settings.size share (costs_of u share.trigger.0)) some (omega (arith, counted, own, here))
    where
      sent_case : (n : ℕ) → 1 ≤ n → 1 ≤ count_of u.pinned p → borne (report (take n (order_of u share.trigger.0)) u) < borne u
      sent_case zero some in_pinned = absurd (omega (arith, some))
      sent_case (suc n) some in_pinned =
          let places = take (suc n) (order_of u share.trigger.0) in
          let is : places ≡ p ∷ take n ps = ap (take (suc n)) order in
          let among : is_among places p ≡ true = ap (λ (places : List ℕ). is_among places p) is ∙ among_first p (take n ps) in
          let gone : not (is_among places p) ≡ false = ap not among in
          let fewer = one_gone (λ place. not (is_among places place)) p u.pinned in_pinned gone in
          let less = indexed_moved reported_standing reported_indexed places 0 u.taken in
          omega (arith, fewer, less)

  abbrev Pays : ℕ → Share → Type 0
  Pays cost share = cost ≤ budget_of settings.size share

  visits_report : (shares : List Share) (u : AgentState) (id p cost at : ℕ) (ps : List ℕ) (share : Share) → order_of u id ≡ p ∷ ps → used_at u.taken p ≡ cost → slice_get shares at ≡ Some share → share.trigger.0 ≡ id
      → AllByRecursion (Pays cost) shares → borne (fold (visit settings) u shares) < borne u
  visits_report [] u id p cost at ps share order used there own cheap = let never : None ≡ Some share = there in absurd cc
  visits_report (first ∷ shares) u id p cost at ps share order used there own cheap =
      visit_case first shares u id p cost at ps share order used there own cheap (eqb first.trigger.0 id) refl
      (λ v at order used there. visits_report shares v id p cost at ps share order used there own cheap.1)
    where
      first_at : (at : ℕ) (first share : Share) (shares : List Share) → (first.trigger.0 ≡ share.trigger.0 → ⊥) → slice_get (first ∷ shares) at ≡ Some share → (n : ℕ) × (slice_get shares n ≡ Some share)
      first_at zero first share shares differ there = let same : first ≡ share = cc in absurd (differ (ap (λ (s : Share). s.trigger.0) same))
      first_at (suc n) first share shares differ there = (n, there)

      visit_case : (first : Share) (shares : List Share) (u : AgentState) (id p cost at : ℕ) (ps : List ℕ) (share : Share) → order_of u id ≡ p ∷ ps → used_at u.taken p ≡ cost → slice_get (first ∷ shares) at ≡ Some share
          → share.trigger.0 ≡ id → AllByRecursion (Pays cost) (first ∷ shares) → (b : Bool) → eqb first.trigger.0 id ≡ b
          → ((v : AgentState) (at : ℕ) → order_of v id ≡ p ∷ ps → used_at v.taken p ≡ cost → slice_get shares at ≡ Some share → borne (fold (visit settings) v shares) < borne v)
          → borne (fold (visit settings) (visit settings u first) shares) < borne u
      visit_case first shares u id p cost at ps share order used there own cheap true e on =
          let same = eqb-true first.trigger.0 id e in
          let pays = cheap.0 in
          let reported = reports_one u first p ps (ap (order_of u) same ∙ order) (omega (arith, used, pays)) in
          let rest = none_more shares (visit settings u first) in
          omega (arith, reported, rest)
      visit_case first shares u id p cost at ps share order used there own cheap false e on =
          let differ : first.trigger.0 ≡ id → ⊥ = λ same. let never : true ≡ false = sym (eq-eqb first.trigger.0 id same) ∙ e in absurd cc in
          let apart = visits_are_apart settings u first id differ in
          let order_now : order_of (visit settings u first) id ≡ p ∷ ps = apart.order ∙ order in
          let heads : used_at (visit settings u first).taken p ∷ map (used_at (visit settings u first).taken) ps ≡ used_at u.taken p ∷ map (used_at u.taken) ps =
          sym (ap (map (used_at (visit settings u first).taken)) order_now) ∙ apart.costs ∙ ap (map (used_at u.taken)) order
          in
          let used_now : used_at (visit settings u first).taken p ≡ used_at u.taken p = cc in
          let later = first_at at first share shares (λ same. differ (same ∙ own)) there in
          let rest = on (visit settings u first) later.0 order_now (used_now ∙ used) later.1 in
          let first_few = no_more u first in
          omega (arith, rest, first_few)

pub turns_report : TurnsReport
turns_report settings node state can =
    go (order_of state can.share.trigger.0) refl
  where
    in_order : 1 ≤ count_of (order_of state can.share.trigger.0) can.place
    in_order =
        let f = stands (is_pinned_under can.share.trigger.0) state.taken in
        let same = count-by_priority state.taken (filter f state.pinned) can.place in
        let kept = count_kept f state.pinned can.pin can.place can.pinned can.under in
        omega (arith, same, kept)

    cheap_at : (p : ℕ) (shares : List Share) → AllByRecursion (λ (share : Share). (place : ℕ) → used_at state.taken place ≤ budget_of settings.size share) shares → AllByRecursion (Pays settings (used_at state.taken p)) shares
    cheap_at p [] all = tt
    cheap_at p (share ∷ shares) all = (all.0 p, cheap_at p shares all.1)

    go : (order : List ℕ) → order_of state can.share.trigger.0 ≡ order → borne (fold (visit settings) state state.shares) < borne state
    go [] e = let some = in_order in let none = ap (λ (ps : List ℕ). count_of ps can.place) e in absurd (omega (arith, some, none))
    go (p ∷ ps) e = visits_report settings state.shares state can.share.trigger.0 p (used_at state.taken p) can.at ps can.share e refl can.shared refl (cheap_at p state.shares can.cheap)
