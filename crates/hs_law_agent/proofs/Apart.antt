-- A visit of one trigger id leaves what waits for another.
use Rattle.std.proofs.Common.{◌≡◌, ℕ, zero, suc, ◌+◌, Bool, true, false, cond, not, List, [], ◌∷◌, take, map, refl, sym, ap, ◌∙◌, arith, true≢false}
use Rattle.hs_law_agent.proofs.Prelude.{filter, AllByRecursion, eqb-true, ne_eqb, filter_all, count_sent, ChunkStanding, Indexed, Pinned, Reported, Evicted, Abandoned, Taken, pinned_for, stands, is_among, moved_from, moved, AgentState, is_pinned_under, place_is_no_greater, put_before, by_priority, order_of, used_at, costs_of, reported_standing, report}
use Rattle.hs_base.proofs.Parts.{map_alike}
use Rattle.hs_words.specs.Chunks.{used_of}
use Rattle.hs_law_agent.specs.Laws.{VisitsAreApart}
use Rattle.hs_law_agent.proofs.Counts.{count-take, among_counted, passes_too, passes_moved_at}
use Rattle.hs_law_agent.proofs.Placed.{count-by_priority}
use Rattle.hs_law_agent.proofs.Rising.{filter_same, filter_swap, all_counted, counted_filtered}

-- ---- ids

other_id : (sent id : ℕ) → (sent ≡ id → ⊥) → (u : ChunkStanding) → is_pinned_under sent u ≡ true → is_pinned_under id u ≡ false
other_id sent id differ Indexed e = refl
other_id sent id differ (Pinned g) e = ne_eqb g.trigger.0 id (λ same. differ (sym (eqb-true g.trigger.0 sent e) ∙ same))
other_id sent id differ (Reported g) e = refl
other_id sent id differ (Evicted a b) e = refl
other_id sent id differ (Abandoned g) e = refl

none_reported : (sent id : ℕ) (u : ChunkStanding) → is_pinned_under sent u ≡ true → is_pinned_under id (reported_standing u) ≡ false
none_reported sent id Indexed e = refl
none_reported sent id (Pinned g) e = refl
none_reported sent id (Reported g) e = refl
none_reported sent id (Evicted a b) e = refl
none_reported sent id (Abandoned g) e = refl

-- ---- what does not move

pinned_for-moved : (change : ChunkStanding → ChunkStanding) (places : List ℕ) (k : ℕ) (taken : List Taken) (p : ℕ) → is_among places (k + p) ≡ false → pinned_for (moved_from k places change taken) p ≡ pinned_for taken p
pinned_for-moved change places k [] p e = refl
pinned_for-moved change places k (c ∷ taken) zero e = let z : k + 0 ≡ k = omega arith in rw (rw z at e) refl
pinned_for-moved change places k (c ∷ taken) (suc p) e = let n : k + suc p ≡ suc k + p = omega arith in pinned_for-moved change places (suc k) taken p (rw n at e)

used_at-moved : (change : ChunkStanding → ChunkStanding) (places : List ℕ) (k : ℕ) (taken : List Taken) (p : ℕ) → used_at (moved_from k places change taken) p ≡ used_at taken p
used_at-moved change places k [] p = refl
used_at-moved change places k (c ∷ taken) zero =
    elim (is_among places k) as (λ b. used_of (cond b (record c { standing = change c.standing }) c).sheet ≡ used_of c.sheet) [ true ↦ refl | false ↦ refl ]
used_at-moved change places k (c ∷ taken) (suc p) = used_at-moved change places (suc k) taken p

module _ (taken after : List Taken) where
  abbrev SameGroup : ℕ → Type 0
  SameGroup p = pinned_for after p ≡ pinned_for taken p

  same_no_greater : (p q : ℕ) → SameGroup p → SameGroup q → place_is_no_greater after p q ≡ place_is_no_greater taken p q
  same_no_greater p q e f = rw (e, f) refl

  put_same : (x : ℕ) (ys : List ℕ) → SameGroup x → AllByRecursion SameGroup ys → put_before after x ys ≡ put_before taken x ys
  put_same x [] e all = refl
  put_same x (y ∷ ys) e all =
      rw (same_no_greater y x all.0 e) (ap (λ zs. cond (place_is_no_greater taken y x) (x ∷ y ∷ ys) (y ∷ zs)) (put_same x ys e all.1))

  all_put : (x : ℕ) (ys : List ℕ) → SameGroup x → AllByRecursion SameGroup ys → AllByRecursion SameGroup (put_before taken x ys)
  all_put x [] e all = (e, tt)
  all_put x (y ∷ ys) e all =
      elim (place_is_no_greater taken y x) as (λ b. AllByRecursion SameGroup (cond b (x ∷ y ∷ ys) (y ∷ put_before taken x ys)))
      [ true ↦ (e, all) | false ↦ (all.0, all_put x ys e all.1) ]

  all_by : (xs : List ℕ) → AllByRecursion SameGroup xs → AllByRecursion SameGroup (by_priority taken xs)
  all_by [] all = tt
  all_by (x ∷ xs) all = all_put x (by_priority taken xs) all.0 (all_by xs all.1)

  by_same : (xs : List ℕ) → AllByRecursion SameGroup xs → by_priority after xs ≡ by_priority taken xs
  by_same [] all = refl
  by_same (x ∷ xs) all = ap (put_before after x) (by_same xs all.1) ∙ put_same x (by_priority taken xs) all.0 (all_by xs all.1)

-- ---- a visit

module _ (s : AgentState) (n sent id : ℕ) (differ : sent ≡ id → ⊥) where
  abbrev going : List ℕ
  going = take n (order_of s sent)

  abbrev moved_on : List Taken
  moved_on = moved (take n (order_of s sent)) reported_standing s.taken

  -- what goes is pinned under the id that is visited
  goes_under : (p : ℕ) → is_among (take n (order_of s sent)) p ≡ true → stands (is_pinned_under sent) s.taken p ≡ true
  goes_under p e =
      let few = among_counted (take n (order_of s sent)) p e in
      let le = count-take n (order_of s sent) p in
      let same = count-by_priority s.taken (filter (stands (is_pinned_under sent) s.taken) s.pinned) p in
      (counted_filtered (stands (is_pinned_under sent) s.taken) s.pinned p (omega arith)).0

  stays_under : (p : ℕ) → stands (is_pinned_under id) moved_on p ≡ stands (is_pinned_under id) s.taken p
  stays_under p = passes_moved_at (λ c. is_pinned_under id c.standing) reported_standing (take n (order_of s sent)) s.taken p ∙ go (is_among (take n (order_of s sent)) p) refl
    where
      go : (b : Bool) → is_among (take n (order_of s sent)) p ≡ b
          → cond b (stands (λ u. is_pinned_under id (reported_standing u)) s.taken p) (stands (is_pinned_under id) s.taken p) ≡ stands (is_pinned_under id) s.taken p
      go true e =
          let under = goes_under p e in
          passes_too (λ c. is_pinned_under sent c.standing) (λ c. is_pinned_under id (reported_standing c.standing)) false (λ c. none_reported sent id c.standing) s.taken p under
          ∙ sym (passes_too (λ c. is_pinned_under sent c.standing) (λ c. is_pinned_under id c.standing) false (λ c. other_id sent id differ c.standing) s.taken p under)
      go false e = refl

  not_going : (p : ℕ) → stands (is_pinned_under id) s.taken p ≡ true → is_among (take n (order_of s sent)) p ≡ false
  not_going p under = go (is_among (take n (order_of s sent)) p) refl
    where
      go : (b : Bool) → is_among (take n (order_of s sent)) p ≡ b → b ≡ false
      go false e = refl
      go true e =
          absurd (true≢false (sym under ∙ passes_too (λ c. is_pinned_under sent c.standing) (λ c. is_pinned_under id c.standing) false (λ c. other_id sent id differ c.standing) s.taken p (goes_under p e)))

  waits : List ℕ
  waits = filter (stands (is_pinned_under id) s.taken) s.pinned

  order_stays : order_of (report (take n (order_of s sent)) s) id ≡ order_of s id
  order_stays =
      let g = λ (p : ℕ). not (is_among (take n (order_of s sent)) p) in
      let f = stands (is_pinned_under id) s.taken in
      let same_test = filter_same (stands (is_pinned_under id) moved_on) f (filter g s.pinned) (all_counted (λ p. stands (is_pinned_under id) moved_on p ≡ f p) (filter g s.pinned) (λ p few. stays_under p)) in
      let whole =
      filter_all g (filter f s.pinned) (all_counted (λ p. g p ≡ true) (filter f s.pinned)
      (λ p few. let out = not_going p (counted_filtered f s.pinned p few).0 in rw out refl))
      in
      ap (by_priority moved_on) (same_test ∙ filter_swap f g s.pinned ∙ whole)
      ∙ by_same s.taken moved_on (filter f s.pinned) (all_counted (λ p. pinned_for moved_on p ≡ pinned_for s.taken p) (filter f s.pinned)
      (λ p few.
      let out = not_going p (counted_filtered f s.pinned p few).0 in
      let z : 0 + p ≡ p = omega arith in
      pinned_for-moved reported_standing (take n (order_of s sent)) 0 s.taken p (rw z out)))

  costs_stay : costs_of (report (take n (order_of s sent)) s) id ≡ costs_of s id
  costs_stay =
      map_alike (used_at moved_on) (used_at s.taken) (order_of (report (take n (order_of s sent)) s) id) (λ p. used_at-moved reported_standing (take n (order_of s sent)) 0 s.taken p)
      ∙ ap (map (used_at s.taken)) order_stays

pub visits_are_apart : VisitsAreApart
visits_are_apart settings s share id differ =
    let n = count_sent settings.size share (costs_of s share.trigger.0) in
    record { order = order_stays s n share.trigger.0 id differ; costs = costs_stay s n share.trigger.0 id differ }
