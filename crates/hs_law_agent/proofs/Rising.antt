-- Lists of places that rise, and filters of them.
use Rattle.std.proofs.Common.{◌≡◌, ℕ, suc, ◌+◌, ◌<◌, ◌≤◌, Bool, true, false, cond, not, List, [], ◌∷◌, ◌++◌, take, drop, refl, sym, ap, ◌∙◌, arith, inl, inr, take-append-drop}
use Rattle.hs_law_agent.proofs.Prelude.{◌⊎◌, ◌==◌, filter, AllByRecursion, cases_Bool, eq-eqb, filter_none, filter_all, all_filter, all_push, Taken, is_among, places_from, count_of, AreRising}
use Rattle.hs_base.proofs.Alls.{all_front}
use Rattle.hs_law_agent.proofs.Counts.{count-append, count-filter, among_counted}

-- ---- filters

pub filter-append : (f : ℕ → Bool) (xs ys : List ℕ) → filter f (xs ++ ys) ≡ filter f xs ++ filter f ys
filter-append f [] ys = refl
filter-append f (x ∷ xs) ys =
    elim (f x) as (λ b. cond b (x ∷ filter f (xs ++ ys)) (filter f (xs ++ ys)) ≡ cond b (x ∷ filter f xs) (filter f xs) ++ filter f ys)
    [ true ↦ ap (λ zs. x ∷ zs) (filter-append f xs ys) | false ↦ filter-append f xs ys ]

pub filter_same : (f g : ℕ → Bool) (xs : List ℕ) → AllByRecursion (λ x. f x ≡ g x) xs → filter f xs ≡ filter g xs
filter_same f g [] all = refl
filter_same f g (x ∷ xs) all = rw all.0 (ap (λ zs. cond (g x) (x ∷ zs) zs) (filter_same f g xs all.1))

pub filter_swap : (f g : ℕ → Bool) (xs : List ℕ) → filter f (filter g xs) ≡ filter g (filter f xs)
filter_swap f g [] = refl
filter_swap f g (x ∷ xs) = go (f x) (g x) refl refl (filter_swap f g xs)
  where
    go : (a b : Bool) → f x ≡ a → g x ≡ b → filter f (filter g xs) ≡ filter g (filter f xs) → filter f (cond b (x ∷ filter g xs) (filter g xs)) ≡ filter g (cond a (x ∷ filter f xs) (filter f xs))
    go true true e h ih = rw (e, h) (ap (λ zs. x ∷ zs) ih)
    go true false e h ih = rw h ih
    go false true e h ih = rw e ih
    go false false e h ih = ih

-- what holds of each place that is counted holds of all
pub all_counted : (P : ℕ → Type 0) (xs : List ℕ) → ((p : ℕ) → 1 ≤ count_of xs p → P p) → AllByRecursion P xs
all_counted P [] h = tt
all_counted P (x ∷ xs) h = (h x (rw (eq-eqb x x refl) (omega arith)), all_counted P xs (λ p few. h p (omega arith)))

pub counted_filtered : (f : ℕ → Bool) (xs : List ℕ) (p : ℕ) → 1 ≤ count_of (filter f xs) p → (f p ≡ true) × (1 ≤ count_of xs p)
counted_filtered f xs p few = go (f p) (count-filter f xs p)
  where
    go : (b : Bool) → count_of (filter f xs) p ≡ cond b (count_of xs p) 0 → (b ≡ true) × (1 ≤ count_of xs p)
    go true e = (refl, omega arith)
    go false e = absurd (omega arith)

pub all_and : (P Q : ℕ → Type 0) (xs : List ℕ) → AllByRecursion P xs → ((x : ℕ) → P x → Q x) → AllByRecursion Q xs
all_and P Q [] all h = tt
all_and P Q (x ∷ xs) all h = (h x all.0, all_and P Q xs all.1 h)

pub not_among : (places : List ℕ) (p : ℕ) → count_of places p ≡ 0 → is_among places p ≡ false
not_among places p none = elim (cases_Bool (is_among places p)) [ inl e ↦ let few = among_counted places p e in absurd (omega arith) | inr e ↦ e ]

pub is_counted : (places : List ℕ) (p : ℕ) → 1 ≤ count_of places p → is_among places p ≡ true
is_counted [] p few = absurd (omega arith)
is_counted (x ∷ places) p few = elim (cases_Bool (x == p)) [ inl e ↦ rw e refl | inr e ↦ let less : 1 ≤ 0 + count_of places p = rw e at few in rw e (is_counted places p (omega arith)) ]

-- ---- what rises

pub rising_filtered : (f : ℕ → Bool) (xs : List ℕ) → AreRising xs → AreRising (filter f xs)
rising_filtered f [] r = tt
rising_filtered f (x ∷ xs) r =
    elim (f x) as (λ b. AreRising (cond b (x ∷ filter f xs) (filter f xs))) [ true ↦ (all_filter (λ y. x < y) f xs r.0, rising_filtered f xs r.1) | false ↦ rising_filtered f xs r.1 ]

all_left : (P : ℕ → Type 0) (f : ℕ → Bool) (xs ys : List ℕ) → AllByRecursion P (xs ++ ys) → AllByRecursion P (xs ++ filter f ys)
all_left P f [] ys all = all_filter P f ys all
all_left P f (x ∷ xs) ys all = (all.0, all_left P f xs ys all.1)

-- a filter of what stands behind
pub rising_left : (f : ℕ → Bool) (xs ys : List ℕ) → AreRising (xs ++ ys) → AreRising (xs ++ filter f ys)
rising_left f [] ys r = rising_filtered f ys r
rising_left f (x ∷ xs) ys r = (all_left (λ y. x < y) f xs ys r.0, rising_left f xs ys r.1)

pub rising_front : (xs ys : List ℕ) → AreRising (xs ++ ys) → AreRising xs
rising_front [] ys r = tt
rising_front (x ∷ xs) ys r = (all_front (λ y. x < y) xs ys r.0, rising_front xs ys r.1)

-- one more behind, above all
pub rising_push : (xs : List ℕ) (n : ℕ) → AreRising xs → AllByRecursion (λ x. x < n) xs → AreRising (xs ++ n ∷ [])
rising_push [] n r all = (tt, tt)
rising_push (x ∷ xs) n r all = (all_push (λ y. x < y) xs n r.0 all.0, rising_push xs n r.1 all.1)

places_above : (n k : ℕ) (test : Taken → Bool) (taken : List Taken) → n < k → AllByRecursion (λ p. n < p) (places_from k test taken)
places_above n k test [] h = tt
places_above n k test (c ∷ taken) h =
    elim (test c) as (λ b. AllByRecursion (λ p. n < p) (cond b (k ∷ places_from (suc k) test taken) (places_from (suc k) test taken)))
    [ true ↦ (h, places_above n (suc k) test taken (omega arith)) | false ↦ places_above n (suc k) test taken (omega arith) ]

pub places_rising : (k : ℕ) (test : Taken → Bool) (taken : List Taken) → AreRising (places_from k test taken)
places_rising k test [] = tt
places_rising k test (c ∷ taken) =
    elim (test c) as (λ b. AreRising (cond b (k ∷ places_from (suc k) test taken) (places_from (suc k) test taken)))
    [ true ↦ (places_above k (suc k) test taken (omega arith), places_rising (suc k) test taken) | false ↦ places_rising (suc k) test taken ]

-- ---- a front that is taken out

-- What a front of some places has of a kind, and then what is left of the places of that kind, is what was there, if the
-- places of that kind stand in the same order.
nothing_front : (xs ys : List ℕ) → xs ++ ys ≡ [] → xs ≡ []
nothing_front [] ys e = refl
nothing_front (x ∷ xs) ys e = absurd cc

module _ (f : ℕ → Bool) (n : ℕ) (order pinned : List ℕ) where
  abbrev front : List ℕ
  front = take n order

  abbrev rest : ℕ → Bool
  rest = λ p. not (is_among (take n order) p)

  parts : filter f (take n order) ++ filter f (drop n order) ≡ filter f order
  parts = sym (filter-append f (take n order) (drop n order)) ∙ ap (filter f) (take-append-drop n order)

  front_goes : filter rest (filter f (take n order)) ≡ []
  front_goes =
      filter_none rest (filter f (take n order)) (all_counted (λ p. rest p ≡ false) (filter f (take n order))
      (λ p few. let both = counted_filtered f (take n order) p few in let is = is_counted (take n order) p both.1 in rw is refl))

  back_stays : ((p : ℕ) → count_of order p ≤ 1) → filter rest (filter f (drop n order)) ≡ filter f (drop n order)
  back_stays once =
      filter_all rest (filter f (drop n order)) (all_counted (λ p. rest p ≡ true) (filter f (drop n order))
      (λ p few.
      let both = counted_filtered f (drop n order) p few in
      let whole : count_of order p ≤ 1 = once p in
      let split : count_of order p ≡ count_of (take n order) p + count_of (drop n order) p = ap (λ ps. count_of ps p) (sym (take-append-drop n order)) ∙ count-append (take n order) (drop n order) p in
      let out = not_among (take n order) p (omega arith) in rw out refl))

  of_one_id : ((p : ℕ) → count_of order p ≤ 1) → filter f order ≡ filter f pinned → filter f (take n order) ++ filter f (filter rest pinned) ≡ filter f pinned
  of_one_id once e =
      let left : filter f (filter rest pinned) ≡ filter f (drop n order) =
      filter_swap f rest pinned ∙ ap (filter rest) (sym e ∙ sym parts) ∙ filter-append rest (filter f (take n order)) (filter f (drop n order)) ∙ (rw front_goes (back_stays once))
      in
      rw left (parts ∙ e)

  of_another_id : filter f order ≡ [] → filter f (take n order) ++ filter f (filter rest pinned) ≡ filter f pinned
  of_another_id e =
      let none : filter f (take n order) ≡ [] = nothing_front (filter f (take n order)) (filter f (drop n order)) (parts ∙ e) in
      let left : filter f (filter rest pinned) ≡ filter f pinned =
      filter_swap f rest pinned ∙ filter_all rest (filter f pinned) (all_counted (λ p. rest p ≡ true) (filter f pinned)
      (λ p few.
      let both = counted_filtered f pinned p few in
      let zero_of : count_of (filter f (take n order)) p ≡ 0 = ap (λ ps. count_of ps p) none in
      let of_front : count_of (filter f (take n order)) p ≡ cond (f p) (count_of (take n order) p) 0 = count-filter f (take n order) p in
      let here = rw both.0 at of_front in
      let out = not_among (take n order) p (omega arith) in rw out refl))
      in
      rw (none, left) refl

  pub front_and_rest : ((p : ℕ) → count_of order p ≤ 1) → (filter f order ≡ filter f pinned) ⊎ (filter f order ≡ [])
      → filter f (take n order) ++ filter f (filter (λ p. not (is_among (take n order) p)) pinned) ≡ filter f pinned
  front_and_rest once (inl e) = of_one_id once e
  front_and_rest once (inr e) = of_another_id e
