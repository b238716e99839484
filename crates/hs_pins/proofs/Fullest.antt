-- The trigger id with most pinned chunks, chosen along the queues: a later id is taken where more is pinned for it.
use Rattle.std.proofs.Common.{◌≡◌, ℕ, ◌<◌, ◌≤◌, Bool, true, false, cond, [], ◌∷◌, Option, Some, None, IsSome, unwrap_or, refl, sym, ap, subst, ◌∙◌, arith, inl, inr, true≢false}
use Rattle.hs_pins.proofs.Prelude.{◌⊎◌, nat_lt, is_some, IfSome, IfNone, AllByRecursion, IsStrictlySortedBy, lookup, keys_of, values_of, IsTotalOrder, IsEquivalence, eq_by_cmp_equiv, Ordering, Less, Equal, Greater, nat_cmp, is_eq, nat_cmp_total, on_total, sorted_head, sorted_tail, sum_by-cons, ltb-true, ltb-false, TriggerId, Groups, count_of, Queues, same_id, groups_of, total_of, count_in, IsFullest}
use Rattle.std.specs.Ordering.{MatchOrdering}
use Rattle.std.proofs.lemmas.Cmp.{ranked}

abbrev pub id_cmp : TriggerId → TriggerId → Ordering
id_cmp a b = nat_cmp a.0 b.0

id_total : IsTotalOrder id_cmp
id_total = on_total (λ (t : TriggerId). t.0) nat_cmp_total

pub id_laws : IsEquivalence same_id
id_laws = eq_by_cmp_equiv id_total

pub same_id-true : (a b : TriggerId) → same_id a b ≡ true → a ≡ b
same_id-true a b e = at (nat_cmp a.0 b.0) e (ranked a.0 b.0 (nat_cmp a.0 b.0) refl)
  where
    at : (o : Ordering) → is_eq o ≡ true → MatchOrdering o (a.0 < b.0) (a.0 ≡ b.0) (b.0 < a.0) → a ≡ b
    at Less e m = absurd (true≢false (sym e))
    at Equal e m = λ i. record { 0 = m i }
    at Greater e m = absurd (true≢false (sym e))

less_id : (a b : TriggerId) → id_cmp a b ≡ Less → a.0 < b.0
less_id a b e = at (nat_cmp a.0 b.0) e (ranked a.0 b.0 (nat_cmp a.0 b.0) refl)
  where
    at : (o : Ordering) → o ≡ Less → MatchOrdering o (a.0 < b.0) (a.0 ≡ b.0) (b.0 < a.0) → a.0 < b.0
    at Less e m = m
    at Equal e m = absurd cc
    at Greater e m = absurd cc

module _ {L : Type 0} where
  -- the id that is chosen along these, after one for which so many are pinned
  abbrev pub choose : Queues L → ℕ → Option TriggerId → Option TriggerId
  choose [] most best = best
  choose (e ∷ es) most best = cond (nat_lt most (count_of e.1)) (choose es (count_of e.1) (Some e.0)) (choose es most best)

  abbrev GivesWay : ℕ → TriggerId → TriggerId × Groups L → Type 0
  GivesWay most id e = (count_of e.1 < most) ⊎ ((count_of e.1 ≡ most) × (id.0 ≤ e.0.0))

  AtMost : ℕ → Queues L → Type 0
  AtMost most es = AllByRecursion (λ (e : TriggerId × Groups L). count_of e.1 ≤ most) es

  record IsChosen (most : ℕ) (id : TriggerId) (es : Queues L) : Type 0 where
    groups : Groups L
    found : lookup (same_id id) es ≡ Some groups
    more : most < count_of groups
    others : AllByRecursion (GivesWay (count_of groups) id) es

  abbrev MatchChoice : Option TriggerId → ℕ → Option TriggerId → Queues L → Type 0
  MatchChoice None most best es = (best ≡ None) × AllByRecursion (λ (e : TriggerId × Groups L). count_of e.1 ≤ most) es
  MatchChoice (Some id) most best es = ((best ≡ Some id) × AllByRecursion (λ (e : TriggerId × Groups L). count_of e.1 ≤ most) es) ⊎ IsChosen most id es

  found_above : (key id : TriggerId) (es : Queues L) → AllByRecursion (λ k. id_cmp key k ≡ Less) (keys_of es) → IsSome (lookup (same_id id) es) → same_id id key ≡ false
  found_above key id [] all found = absurd (true≢false (sym found))
  found_above key id (e ∷ es) all found = at (same_id id e.0) refl found (found_above key id es all.1)
    where
      at : (b : Bool) → same_id id e.0 ≡ b → IsSome (cond b (Some e.1) (lookup (same_id id) es)) → (IsSome (lookup (same_id id) es) → same_id id key ≡ false) → same_id id key ≡ false
      at true f found rest = ap (λ k. same_id k key) (same_id-true id e.0 f) ∙ id_laws.symm e.0 key ∙ ap is_eq all.0
      at false f found rest = rest found

  behind : (key : TriggerId) (most : ℕ) (es : Queues L) → AllByRecursion (λ k. id_cmp key k ≡ Less) (keys_of es) → AllByRecursion (λ (e : TriggerId × Groups L). count_of e.1 ≤ most) es → AllByRecursion (GivesWay most key) es
  behind key most [] above few = tt
  behind key most (e ∷ es) above few = (either (count_of e.1) most few.0 (less_id key e.0 above.0), behind key most es above.1 few.1)
    where
      either : (a b : ℕ) → a ≤ b → key.0 < e.0.0 → (a < b) ⊎ ((a ≡ b) × (key.0 ≤ e.0.0))
      either a b le less = at (nat_lt a b) refl
        where
          at : (t : Bool) → nat_lt a b ≡ t → (a < b) ⊎ ((a ≡ b) × (key.0 ≤ e.0.0))
          at true f = inl (ltb-true a b f)
          at false f = inr (let ge = ltb-false a b f in omega arith, omega arith)

  skip : (e : TriggerId × Groups L) (es : Queues L) (most : ℕ) (id : TriggerId) → AllByRecursion (λ k. id_cmp e.0 k ≡ Less) (keys_of es) → count_of e.1 ≤ most → IsChosen most id es → IsChosen most id (e ∷ es)
  skip e es most id above few c = record {
    groups = c.groups;
    found = ap (λ b. cond b (Some e.1) (lookup (same_id id) es)) (found_above e.0 id es above (ap is_some c.found)) ∙ c.found;
    more = c.more;
    others = (inl (let m = c.more in omega arith), c.others);
  }

  skip_all : (r : Option TriggerId) (e : TriggerId × Groups L) (es : Queues L) (most : ℕ) (best : Option TriggerId) → AllByRecursion (λ k. id_cmp e.0 k ≡ Less) (keys_of es) → count_of e.1 ≤ most
      → MatchChoice r most best es → MatchChoice r most best (e ∷ es)
  skip_all None e es most best above few m = (m.0, (few, m.1))
  skip_all (Some id) e es most best above few (inl m) = inl (m.0, (few, m.1))
  skip_all (Some id) e es most best above few (inr c) = inr (skip e es most id above few c)

  weaker : (id : TriggerId) (e : TriggerId × Groups L) (es : Queues L) (most : ℕ) → most < count_of e.1 → IsChosen (count_of e.1) id (e ∷ es) → IsChosen most id (e ∷ es)
  weaker id e es most more c = record { groups = c.groups; found = c.found; more = let m = c.more in omega arith; others = c.others }

  take_one : (r : Option TriggerId) (e : TriggerId × Groups L) (es : Queues L) (most : ℕ) (best : Option TriggerId) → AllByRecursion (λ k. id_cmp e.0 k ≡ Less) (keys_of es) → most < count_of e.1
      → MatchChoice r (count_of e.1) (Some e.0) es → MatchChoice r most best (e ∷ es)
  take_one None e es most best above more m = absurd (let f = m.0 in cc)
  take_one (Some id) e es most best above more (inl m) =
      let own : e.0 ≡ id = cc (m.0) in
      inr (record {
        groups = e.1;
        found = ap (λ b. cond b (Some e.1) (lookup (same_id id) es)) (subst (λ k. same_id k e.0 ≡ true) own (id_laws.refl e.0));
        more = more;
        others = subst (λ k. AllByRecursion (GivesWay (count_of e.1) k) (e ∷ es)) own (inr (refl, omega arith), behind e.0 (count_of e.1) es above m.1);
      })
  take_one (Some id) e es most best above more (inr c) = inr (weaker id e es most more (skip e es (count_of e.1) id above (omega arith) c))

  choose_matches : (es : Queues L) (most : ℕ) (best : Option TriggerId) → IsStrictlySortedBy id_cmp (keys_of es) → MatchChoice (choose es most best) most best es
  choose_matches [] most best sorted = at best refl
    where
      at : (o : Option TriggerId) → best ≡ o → MatchChoice o most best []
      at None e = (e, tt)
      at (Some id) e = inl (e, tt)
  choose_matches (e ∷ es) most best sorted =
      at (nat_lt most (count_of e.1)) refl (choose_matches es (count_of e.1) (Some e.0) (sorted_tail id_cmp e.0 (keys_of es) sorted)) (choose_matches es most best (sorted_tail id_cmp e.0 (keys_of es) sorted))
    where
      at : (b : Bool) → nat_lt most (count_of e.1) ≡ b → MatchChoice (choose es (count_of e.1) (Some e.0)) (count_of e.1) (Some e.0) es → MatchChoice (choose es most best) most best es
          → MatchChoice (cond b (choose es (count_of e.1) (Some e.0)) (choose es most best)) most best (e ∷ es)
      at true f here rest = take_one (choose es (count_of e.1) (Some e.0)) e es most best (sorted_head id_cmp e.0 (keys_of es) sorted) (ltb-true most (count_of e.1) f) here
      at false f here rest = skip_all (choose es most best) e es most best (sorted_head id_cmp e.0 (keys_of es) sorted) (ltb-false most (count_of e.1) f) rest

  -- ---- the choice among all

  nothing_pinned : (es : Queues L) → AllByRecursion (λ (e : TriggerId × Groups L). count_of e.1 ≤ 0) es → total_of es ≡ 0
  nothing_pinned [] all = refl
  nothing_pinned (e ∷ es) all =
      let n = sum_by-cons (λ (groups : Groups L). count_of groups) e.1 (values_of es) in
      let rest = nothing_pinned es all.1 in
      let here : count_of e.1 ≤ 0 = all.0 in
      omega arith

  all_found : (most : ℕ) (id other : TriggerId) (es : Queues L) (groups : Groups L) → AllByRecursion (GivesWay most id) es → lookup (same_id other) es ≡ Some groups
      → (count_of groups < most) ⊎ ((count_of groups ≡ most) × (id.0 ≤ other.0))
  all_found most id other [] groups all found = absurd cc
  all_found most id other (e ∷ es) groups all found = at (same_id other e.0) refl found (all_found most id other es groups all.1)
    where
      at : (b : Bool) → same_id other e.0 ≡ b → cond b (Some e.1) (lookup (same_id other) es) ≡ Some groups
          → (lookup (same_id other) es ≡ Some groups → (count_of groups < most) ⊎ ((count_of groups ≡ most) × (id.0 ≤ other.0)))
          → (count_of groups < most) ⊎ ((count_of groups ≡ most) × (id.0 ≤ other.0))
      at true f found rest =
          let own : e.1 ≡ groups = cc in
          let key : e.0 ≡ other = sym (same_id-true other e.0 f) in
          subst (λ (gs : Groups L). (count_of gs < most) ⊎ ((count_of gs ≡ most) × (id.0 ≤ other.0))) own
          (subst (λ (k : TriggerId). (count_of e.1 < most) ⊎ ((count_of e.1 ≡ most) × (id.0 ≤ k.0))) key all.0)
      at false f found rest = rest found

  fullest_chosen : (id : TriggerId) (es : Queues L) → IsChosen 0 id es → IsFullest es id
  fullest_chosen id es c =
      let own : groups_of es id ≡ c.groups = ap (λ o. unwrap_or o []) c.found in
      record {
        some = let m = c.more in let n = ap count_of own in omega arith;
        most = λ other. subst (λ (gs : Groups L). (count_in es other < count_of gs) ⊎ ((count_in es other ≡ count_of gs) × (id.0 ≤ other.0))) (sym own) (at other (lookup (same_id other) es) refl);
      }
    where
      at : (other : TriggerId) (o : Option (Groups L)) → lookup (same_id other) es ≡ o → (count_of (unwrap_or o []) < count_of c.groups) ⊎ ((count_of (unwrap_or o []) ≡ count_of c.groups) × (id.0 ≤ other.0))
      at other None e = inl c.more
      at other (Some groups) e = all_found (count_of c.groups) id other es groups c.others e

  pub record IsChoice (es : Queues L) (r : Option TriggerId) : Type 0 where
    pub found : IfSome r (λ id. IsFullest es id)
    pub none : IfNone r (total_of es ≡ 0)

  pub fullest_is : (es : Queues L) (r : Option TriggerId) → IsStrictlySortedBy id_cmp (keys_of es) → r ≡ choose es 0 None → IsChoice es r
  fullest_is es r sorted e = subst (IsChoice es) (sym e) (at (choose es 0 None) (choose_matches es 0 None sorted))
    where
      at : (o : Option TriggerId) → MatchChoice o 0 None es → IsChoice es o
      at None m = record { found = tt; none = nothing_pinned es m.1 }
      at (Some id) (inl m) = absurd (let f = m.0 in cc)
      at (Some id) (inr c) = record { found = fullest_chosen id es c; none = tt }
