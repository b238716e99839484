-- A queue keeps pace where in each pass its receiver takes what it was told of.
use Rattle.std.proofs.Common.{◌≡◌, ◌⊎◌, inl, inr, ℕ, suc, ◌+◌, ◌<◌, ◌≤◌, min, Bool, true, false, cond, List, [], ◌∷◌, length, refl, sym, ap, ◌∙◌, arith, filter, nat_lt, ltb-true, ltb-false, lt-ltb, eq-or-lt_of_le}
use Rattle.hs_law_run.proofs.Prelude.{AllByRecursion, filter_few, MAX_TAKEN, PlainSettings, Sent, sent_within, IsToldInRounds, IsQueueStory}
use Rattle.hs_base.proofs.Filters.{filter_all}

-- what a filter leaves whole, it keeps
keeps_each : {X : Type 0} (p : X → Bool) (xs : List X) → filter p xs ≡ xs → AllByRecursion (λ x. p x ≡ true) xs
keeps_each p [] h = tt
keeps_each p (x ∷ xs) h = either (p x) refl h (filter_few p xs) (λ g. keeps_each p xs g)
  where
    either : (b : Bool) → p x ≡ b → cond b (x ∷ filter p xs) (filter p xs) ≡ x ∷ xs → length (filter p xs) ≤ length xs → (filter p xs ≡ xs → AllByRecursion (λ x. p x ≡ true) xs) → AllByRecursion (λ x. p x ≡ true) (x ∷ xs)
    either true e g few rest = let tail_is : filter p xs ≡ xs = cc in (e, rest tail_is)
    either false e g few rest = let long = ap length g in absurd (omega (arith, few, long))

later_too : {A : Type 0} (m k : ℕ) (items : List (Sent A)) → m ≤ k → AllByRecursion (λ (item : Sent A). nat_lt item.number m ≡ true) items → AllByRecursion (λ (item : Sent A). nat_lt item.number k ≡ true) items
later_too m k [] low all = tt
later_too m k (item ∷ items) low all = let below = ltb-true item.number m all.0 in (lt-ltb item.number k (omega (arith, below, low)), later_too m k items low all.1)

-- no operation behind the last sends anything
pub within_all : {A : Type 0} (k count : ℕ) (items : List (Sent A)) → sent_within count items ≡ items → sent_within k items ≡ sent_within (min k count) items
within_all {A} k count items whole = either (nat_lt count k) refl
  where
    either : (b : Bool) → nat_lt count k ≡ b → sent_within k items ≡ sent_within (min k count) items
    either true e =
        let low = ltb-true count k e in
        let least : count ≡ min k count = omega (arith, low) in
        filter_all (λ (item : Sent A). nat_lt item.number k) items (later_too count k items (omega (arith, low)) (keeps_each (λ (item : Sent A). nat_lt item.number count) items whole))
        ∙ sym whole ∙ ap (λ m. sent_within m items) least
    either false e = let high = ltb-false count k e in let least : k ≡ min k count = omega (arith, high) in ap (λ m. sent_within m items) least

module _ (settings : PlainSettings) (rounds passes : ℕ) (taken sent : ℕ → ℕ) (total : ℕ) (q : IsQueueStory rounds passes taken sent total) (enough : rounds ≤ passes) where
  abbrev known : ℕ → ℕ
  known k = cond (nat_lt rounds k) total (q.told k)

  in_rounds : (k : ℕ) → k ≤ rounds → known k ≡ q.told k
  in_rounds k low = either (nat_lt rounds k) refl
    where
      either : (b : Bool) → nat_lt rounds k ≡ b → cond b total (q.told k) ≡ q.told k
      either true e = let high = ltb-true rounds k e in absurd (omega (arith, low, high))
      either false e = refl

  behind_rounds : (k : ℕ) → rounds < k → known k ≡ total
  behind_rounds k high = ap (λ b. cond b total (q.told k)) (lt-ltb rounds k high)

  -- whatever counts agree with these as far as passes are made
  pub queue_in_rounds : (taken' sent' : ℕ → ℕ) → ((k : ℕ) → k ≤ passes → taken' k ≡ taken k) → ((k : ℕ) → passes ≤ k → taken' k ≡ taken passes) → ((k : ℕ) → sent' k ≡ sent k) → ((k : ℕ) → sent k ≤ total)
      → (count : ℕ) → count ≡ passes → IsToldInRounds settings count taken' sent'
  queue_in_rounds taken' sent' same beyond sends few count is =
      record {
        told = known;
        hears = λ k low. hears k (nat_lt k rounds) refl;
        takes = λ k low. takes k (omega (arith, low, is)) (nat_lt k rounds) refl;
      }
    where
      hears : (k : ℕ) (b : Bool) → nat_lt k rounds ≡ b → min (sent' (suc k)) (taken' k + MAX_TAKEN) ≤ known (suc k)
      hears k true e =
          let low = ltb-true k rounds e in
          let h = q.hears k low in
          let t = same k (omega (arith, low, enough)) in
          let s = sends (suc k) in
          let told = in_rounds (suc k) (omega (arith, low)) in
          omega (arith, h, t, s, told)
      hears k false e =
          let high = ltb-false k rounds e in
          let s = sends (suc k) in
          let most = few (suc k) in
          let told = behind_rounds (suc k) (omega (arith, high)) in
          omega (arith, s, most, told)

      takes : (k : ℕ) → k < passes → (b : Bool) → nat_lt k rounds ≡ b → min (known k) (taken' k + MAX_TAKEN) ≤ taken' (suc k)
      takes k within true e =
          let low = ltb-true k rounds e in
          let h = q.takes k low in
          let t = same k (omega (arith, within)) in
          let u = same (suc k) (omega (arith, within)) in
          let told = in_rounds k (omega (arith, low)) in
          omega (arith, h, t, u, told)
      takes k within false e =
          let high = ltb-false k rounds e in
          let h = q.closes k high within in
          let t = same k (omega (arith, within)) in
          let u = same (suc k) (omega (arith, within)) in
          let most = most_told k high (eq-or-lt_of_le high) in
          omega (arith, h, t, u, most)
        where
          most_told : (k : ℕ) → rounds ≤ k → (rounds ≡ k) ⊎ (rounds < k) → known k ≤ total
          most_told k high (inl same) = let told = in_rounds k (omega (arith, same)) in let last = q.few in let now = ap q.told same in omega (arith, told, last, now)
          most_told k high (inr behind) = let told = behind_rounds k behind in omega (arith, told)
