-- The pages that one operation more starts are started by it.
use Rattle.std.proofs.Common.{◌≡◌, ℕ, suc, ◌+◌, ◌<◌, ◌≤◌, Bool, true, false, cond, List, [], ◌∷◌, ◌++◌, length, map, refl, sym, ap, ap₂, ◌∙◌, arith}
use Rattle.hs_check_follow.proofs.Prelude.{ltb-true, ltb-false, le-ltb, nat_lt, replicate, IsTimely, started_within, TimedPage, starts_within}

pub count_starts : ℕ → List TimedPage → ℕ
count_starts n pages = length (started_within n pages)

pub started_short : (n : ℕ) (pages : List TimedPage) → length (started_within n pages) ≤ length pages
started_short n [] = omega arith
started_short n (page ∷ pages) = either (nat_lt page.started n) (started_short n pages)
  where
    either : (b : Bool) → length (started_within n pages) ≤ length pages → length (cond b (page ∷ started_within n pages) (started_within n pages)) ≤ suc (length pages)
    either true few = omega (arith, few)
    either false few = omega (arith, few)

none_started : (n from to : ℕ) (pages : List TimedPage) → IsTimely from to pages → n ≤ from → started_within n pages ≡ []
none_started n from to [] timely low = refl
none_started n from to (page ∷ pages) timely low =
    let late : n ≤ page.started = omega (arith, timely.0, low) in
    let later : n ≤ page.sent = omega (arith, late, timely.1) in
    rw (le-ltb page.started n late) (none_started n page.sent to pages timely.3 later)

-- where none was started before, all are started by the operation of this number
all_by : (n from to : ℕ) (pages : List TimedPage) → IsTimely from to pages → n ≤ from → starts_within (n + 1) pages ≡ replicate (length (started_within (n + 1) pages)) n
all_by n from to [] timely low = refl
all_by n from to (page ∷ pages) timely low =
    let late : n ≤ page.started = omega (arith, timely.0, low) in
    let later : n ≤ page.sent = omega (arith, late, timely.1) in
    either late (nat_lt page.started (n + 1)) refl (all_by n page.sent to pages timely.3 later)
  where
    either : n ≤ page.started → (b : Bool) → nat_lt page.started (n + 1) ≡ b → starts_within (n + 1) pages ≡ replicate (length (started_within (n + 1) pages)) n
        → starts_within (n + 1) (page ∷ pages) ≡ replicate (length (started_within (n + 1) (page ∷ pages))) n
    either late true e on =
        let low = ltb-true page.started (n + 1) e in
        let same : page.started ≡ n = omega (arith, low, late) in
        rw e (ap₂ (λ (x : ℕ) (l : List ℕ). x ∷ l) same on)
    either late false e on = rw e on

pub starts_more : (n from to : ℕ) (pages : List TimedPage) (count : ℕ) → IsTimely from to pages → length (started_within (n + 1) pages) ≡ length (started_within n pages) + count
    → starts_within (n + 1) pages ≡ starts_within n pages ++ replicate count n
starts_more n from to [] count timely long = let none : count ≡ 0 = omega (arith, long) in ap (λ k. replicate k n) (sym none)
starts_more n from to (page ∷ pages) count timely long = step (nat_lt page.started n) refl long (λ few. starts_more n page.sent to pages count timely.3 few)
  where
    both : (b : Bool) → nat_lt page.started (n + 1) ≡ b → page.started < n → length (cond b (page ∷ started_within (n + 1) pages) (started_within (n + 1) pages)) ≡ suc (length (started_within n pages)) + count
        → (length (started_within (n + 1) pages) ≡ length (started_within n pages) + count → starts_within (n + 1) pages ≡ starts_within n pages ++ replicate count n)
        → map (λ (p : TimedPage). p.started) (cond b (page ∷ started_within (n + 1) pages) (started_within (n + 1) pages)) ≡ page.started ∷ (starts_within n pages ++ replicate count n)
    both true e low long on = ap (λ (l : List ℕ). page.started ∷ l) (on (omega (arith, long)))
    both false e low long on = let high = ltb-false page.started (n + 1) e in absurd (omega (arith, low, high))

    step : (a : Bool) → nat_lt page.started n ≡ a → length (started_within (n + 1) (page ∷ pages)) ≡ length (cond a (page ∷ started_within n pages) (started_within n pages)) + count
        → (length (started_within (n + 1) pages) ≡ length (started_within n pages) + count → starts_within (n + 1) pages ≡ starts_within n pages ++ replicate count n)
        → starts_within (n + 1) (page ∷ pages) ≡ map (λ (p : TimedPage). p.started) (cond a (page ∷ started_within n pages) (started_within n pages)) ++ replicate count n
    step true e long on = both (nat_lt page.started (n + 1)) refl (ltb-true page.started n e) long on
    step false e long on =
        let late : n ≤ page.started = ltb-false page.started n e in
        let later : n ≤ page.sent = omega (arith, late, timely.1) in
        let none = none_started n page.sent to pages timely.3 later in
        let count_is : length (started_within (n + 1) (page ∷ pages)) ≡ count = let zeroth = ap length none in omega (arith, long, zeroth) in
        let here : page.started ≤ page.started = omega arith in
        all_by n page.started to (page ∷ pages) (here, timely.1, timely.2, timely.3) late ∙ ap (λ k. replicate k n) count_is ∙ sym (ap (λ (l : List TimedPage). map (λ (p : TimedPage). p.started) l ++ replicate count n) none)
