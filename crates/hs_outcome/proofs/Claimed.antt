-- Traces in rising order, each once: a sort and then a removal of what is repeated gives what putting each in its place gives.
use Rattle.std.proofs.Common.{◌≡◌, ℕ, suc, ◌+◌, ◌<◌, ◌≤◌, Bool, true, false, cond, ◌||◌, eqb, ltb, List, [], ◌∷◌, ◌++◌, map, sym, ap, ◌∙◌, refl, subst, append-nil, arith}
use Rattle.hs_outcome.proofs.Prelude.{AllByRecursion, list_any, IsPermutation, IsNonDecreasingBy, or_left, nat_tests, flat_map-append, recursion_from_All, TraceId, AgentBook, Claim, rising_traces, claimed_by, all_claimed}
use Rattle.std.specs.List.{sum_by, dedup, dedup_from}
use Rattle.std.proofs.Math.Bool.{or_self_left}
use Rattle.std.proofs.lemmas.Bool.{or_from}
use Rattle.std.proofs.lemmas.List.Sorted.{sum_by-IsPermutation}
use Rattle.std.proofs.lemmas.List.Sums.{sum_by-cons}
use Rattle.hs_base.proofs.Bools.{or_swap}
use Rattle.hs_law_outcome.specs.Outcomes.{put_trace}
use Rattle.hs_base.proofs.Loops.{Joins}

pub all_claimed_join : Joins all_claimed
all_claimed_join xs ys = flat_map-append claimed_by xs ys

pub one_claimed : (book : AgentBook) (claims : List Claim) (now next : List TraceId) → claims ≡ book.claims.items → next ≡ now ++ map (λ (claim : Claim). claim.trace) claims
    → next ≡ now ++ all_claimed (book ∷ [])
one_claimed book claims now next is more =
    more ∙ ap (λ cs. now ++ map (λ (claim : Claim). claim.trace) cs) is ∙ ap (λ t. now ++ t) (sym (append-nil (claimed_by book)))

-- ---- rising lists

abbrev pub Rises : List TraceId → Type 0
Rises [] = Unit {0}
Rises (x ∷ xs) = AllByRecursion (λ (y : TraceId). x.0 < y.0) xs × Rises xs

number_eq : (a b : TraceId) → a.0 ≡ b.0 → a ≡ b
number_eq a b e = ap (λ n. record { 0 = n }) e

-- ---- putting in place

below_cases : (n : ℕ) (trace other : TraceId) (traces put : List TraceId) (a b : Bool) → n < trace.0 → n < other.0 → AllByRecursion (λ (y : TraceId). n < y.0) traces → AllByRecursion (λ (y : TraceId). n < y.0) put
    → AllByRecursion (λ (y : TraceId). n < y.0) (cond a (trace ∷ other ∷ traces) (cond b (other ∷ traces) (other ∷ put)))
below_cases n trace other traces put true b lt first all more = (lt, (first, all))
below_cases n trace other traces put false true lt first all more = (first, all)
below_cases n trace other traces put false false lt first all more = (first, more)

below_put : (n : ℕ) (trace : TraceId) (traces : List TraceId) → n < trace.0 → AllByRecursion (λ (y : TraceId). n < y.0) traces → AllByRecursion (λ (y : TraceId). n < y.0) (put_trace trace traces)
below_put n trace [] lt all = (lt, tt)
below_put n trace (other ∷ traces) lt all = below_cases n trace other traces (put_trace trace traces) (ltb trace.0 other.0) (eqb trace.0 other.0) lt all.0 all.1 (below_put n trace traces lt all.1)

lower : (m n : ℕ) (traces : List TraceId) → m < n → AllByRecursion (λ (y : TraceId). n < y.0) traces → AllByRecursion (λ (y : TraceId). m < y.0) traces
lower m n [] lt all = tt
lower m n (y ∷ traces) lt all = (omega (arith, all.0), lower m n traces lt all.1)

rises_cases : (trace other : TraceId) (traces put : List TraceId) (a b : Bool) → ltb trace.0 other.0 ≡ a → eqb trace.0 other.0 ≡ b → Rises (other ∷ traces) → Rises put
    → (other.0 < trace.0 → AllByRecursion (λ (y : TraceId). other.0 < y.0) put) → Rises (cond a (trace ∷ other ∷ traces) (cond b (other ∷ traces) (other ∷ put)))
rises_cases trace other traces put true b ta tb up more above =
    let lt : trace.0 < other.0 = grind (arith, nat_tests) in
    ((lt, lower trace.0 other.0 traces lt up.0), up)
rises_cases trace other traces put false true ta tb up more above = up
rises_cases trace other traces put false false ta tb up more above = (above (grind (arith, nat_tests)), more)

rises_put : (trace : TraceId) (traces : List TraceId) → Rises traces → Rises (put_trace trace traces)
rises_put trace [] up = (tt, tt)
rises_put trace (other ∷ traces) up =
    rises_cases trace other traces (put_trace trace traces) (ltb trace.0 other.0) (eqb trace.0 other.0) refl refl up (rises_put trace traces up.1) (λ lt. below_put other.0 trace traces lt up.0)

rises_all : (traces : List TraceId) → Rises (rising_traces traces)
rises_all [] = tt
rises_all (trace ∷ traces) = rises_put trace (rising_traces traces) (rises_all traces)

-- ---- what is in a list

pub has : ℕ → List TraceId → Bool
has n traces = list_any (λ (t : TraceId). eqb t.0 n) traces

has_cases : (n : ℕ) (trace other : TraceId) (traces put : List TraceId) (a b : Bool) → eqb trace.0 other.0 ≡ b → list_any (λ (t : TraceId). eqb t.0 n) put ≡ (eqb trace.0 n || list_any (λ (t : TraceId). eqb t.0 n) traces)
    → list_any (λ (t : TraceId). eqb t.0 n) (cond a (trace ∷ other ∷ traces) (cond b (other ∷ traces) (other ∷ put))) ≡ (eqb trace.0 n || (eqb other.0 n || list_any (λ (t : TraceId). eqb t.0 n) traces))
has_cases n trace other traces put true b tb more = refl
has_cases n trace other traces put false true tb more =
    let same_number : trace.0 ≡ other.0 = grind (arith, nat_tests) in
    sym (ap (λ m. eqb m n || (eqb other.0 n || list_any (λ (t : TraceId). eqb t.0 n) traces)) same_number ∙ or_self_left (eqb other.0 n) (list_any (λ (t : TraceId). eqb t.0 n) traces))
has_cases n trace other traces put false false tb more =
    ap (λ t. eqb other.0 n || t) more ∙ or_swap (eqb other.0 n) (eqb trace.0 n) (list_any (λ (t : TraceId). eqb t.0 n) traces)

has_put : (n : ℕ) (trace : TraceId) (traces : List TraceId) → has n (put_trace trace traces) ≡ (eqb trace.0 n || has n traces)
unfolding has
has_put n trace [] = refl
has_put n trace (other ∷ traces) = has_cases n trace other traces (put_trace trace traces) (ltb trace.0 other.0) (eqb trace.0 other.0) refl (has_put n trace traces)

has_rising : (n : ℕ) (traces : List TraceId) → has n (rising_traces traces) ≡ has n traces
unfolding has
has_rising n [] = refl
has_rising n (trace ∷ traces) = has_put n trace (rising_traces traces) ∙ ap (λ t. eqb trace.0 n || t) (has_rising n traces)

count_more : (a b : Bool) (n : ℕ) → b ≡ ltb 0 n → (a || b) ≡ ltb 0 (cond a 1 0 + n)
count_more true b n e = grind (arith, nat_tests)
count_more false b n e = grind (arith, nat_tests)

-- how often a number is in a list says whether it is
counted : (n : ℕ) (traces : List TraceId) → has n traces ≡ ltb 0 (sum_by (λ (t : TraceId). cond (eqb t.0 n) 1 0) traces)
unfolding has
counted n [] = refl
counted n (trace ∷ traces) =
    count_more (eqb trace.0 n) (list_any (λ (t : TraceId). eqb t.0 n) traces) (sum_by (λ (t : TraceId). cond (eqb t.0 n) 1 0) traces) (counted n traces)
    ∙ ap (ltb 0) (sym (sum_by-cons (λ (t : TraceId). cond (eqb t.0 n) 1 0) trace traces))

has_permuted : (n : ℕ) (xs ys : List TraceId) → IsPermutation xs ys → has n xs ≡ has n ys
has_permuted n xs ys perm = counted n xs ∙ ap (ltb 0) (sym (sum_by-IsPermutation (λ (t : TraceId). cond (eqb t.0 n) 1 0) xs ys perm)) ∙ sym (counted n ys)

-- ---- one list

apart : {b : Bool} → b ≡ true → b ≡ false → ⊥
apart t f = cc

none_true : (a b : Bool) → false ≡ (a || b) → a ≡ true → ⊥
none_true true b e p = cc
none_true false b e p = cc

second_or : (a b : Bool) → (a || b) ≡ true → a ≡ false → b ≡ true
second_or true b h f = absurd cc
second_or false b h f = h

absent : (n : ℕ) (traces : List TraceId) → AllByRecursion (λ (y : TraceId). n < y.0) traces → has n traces ≡ false
unfolding has
absent n [] all = refl
absent n (y ∷ traces) all = or_from (eqb y.0 n) (list_any (λ (t : TraceId). eqb t.0 n) traces) (grind (arith, nat_tests, all.0)) (absent n traces all.1)

-- the heads of rising lists with the same traces
heads : (x y : TraceId) (xs ys : List TraceId) → AllByRecursion (λ (z : TraceId). x.0 < z.0) xs → AllByRecursion (λ (z : TraceId). y.0 < z.0) ys → (eqb y.0 x.0 || has x.0 ys) ≡ true
    → (eqb x.0 y.0 || has y.0 xs) ≡ true → x.0 ≡ y.0
heads x y xs ys p q there back = head_cases (ltb x.0 y.0) (ltb y.0 x.0) refl refl
  where
    head_cases : (a b : Bool) → ltb x.0 y.0 ≡ a → ltb y.0 x.0 ≡ b → x.0 ≡ y.0
    head_cases true b ta tb =
        let lt : x.0 < y.0 = grind (arith, nat_tests) in
        let none = absent x.0 ys (lower x.0 y.0 ys lt q) in
        absurd (apart (second_or (eqb y.0 x.0) (has x.0 ys) there (grind (arith, nat_tests))) none)
    head_cases false true ta tb =
        let lt : y.0 < x.0 = grind (arith, nat_tests) in
        let none = absent y.0 xs (lower y.0 x.0 xs lt p) in
        absurd (apart (second_or (eqb x.0 y.0) (has y.0 xs) back (grind (arith, nat_tests))) none)
    head_cases false false ta tb = grind (arith, nat_tests)

tails : (x y : TraceId) (xs ys : List TraceId) → AllByRecursion (λ (z : TraceId). x.0 < z.0) xs → AllByRecursion (λ (z : TraceId). y.0 < z.0) ys → x.0 ≡ y.0
    → ((n : ℕ) → has n (x ∷ xs) ≡ has n (y ∷ ys)) → (n : ℕ) → has n xs ≡ has n ys
unfolding has
tails x y xs ys p q number e n = tail_cases (eqb x.0 n) refl
  where
    tail_cases : (a : Bool) → eqb x.0 n ≡ a → list_any (λ (t : TraceId). eqb t.0 n) xs ≡ list_any (λ (t : TraceId). eqb t.0 n) ys
    tail_cases true ta =
        let at : x.0 ≡ n = grind (arith, nat_tests) in
        let at_y : y.0 ≡ n = grind (arith, nat_tests) in
        subst (λ m. has m xs ≡ false) at (absent x.0 xs p) ∙ sym (subst (λ m. has m ys ≡ false) at_y (absent y.0 ys q))
    tail_cases false ta =
        let other : eqb y.0 n ≡ false = ap (λ m. eqb m n) (sym number) ∙ ta in
        sym (ap (λ t. t || list_any (λ (t : TraceId). eqb t.0 n) xs) ta) ∙ e n ∙ ap (λ t. t || list_any (λ (t : TraceId). eqb t.0 n) ys) other

-- rising lists with the same traces are one
pub one_list : (xs ys : List TraceId) → Rises xs → Rises ys → ((n : ℕ) → has n xs ≡ has n ys) → xs ≡ ys
unfolding has
one_list [] [] p q e = refl
one_list [] (y ∷ ys) p q e = absurd (none_true (eqb y.0 y.0) _ (e y.0) (grind (arith, nat_tests)))
one_list (x ∷ xs) [] p q e = absurd (none_true (eqb x.0 x.0) _ (sym (e x.0)) (grind (arith, nat_tests)))
one_list (x ∷ xs) (y ∷ ys) p q e =
    let there : eqb y.0 x.0 || has x.0 ys ≡ true = sym (e x.0) ∙ or_left (eqb x.0 x.0) _ (grind (arith, nat_tests)) in
    let back : eqb x.0 y.0 || has y.0 xs ≡ true = e y.0 ∙ or_left (eqb y.0 y.0) _ (grind (arith, nat_tests)) in
    let number = heads x y xs ys p.0 q.0 there back in
    ap (λ t. t ∷ xs) (number_eq x y number) ∙ ap (λ t. y ∷ t) (one_list xs ys p.1 q.1 (tails x y xs ys p.0 q.0 number e))

-- ---- a sorted list

abbrev Sorts : List TraceId → Type 0
Sorts [] = Unit {0}
Sorts (x ∷ xs) = AllByRecursion (λ (y : TraceId). x.0 ≤ y.0) xs × Sorts xs

from_cases : (m : ℕ) (k : TraceId) (kept more : List TraceId) (a : Bool) → m < k.0 → AllByRecursion (λ (y : TraceId). m < y.0) kept → AllByRecursion (λ (y : TraceId). m < y.0) more
    → AllByRecursion (λ (y : TraceId). m < y.0) (cond a kept (k ∷ more))
from_cases m k kept more true lt all rest = all
from_cases m k kept more false lt all rest = (lt, rest)

-- all that is kept is above what lies below the first
kept_above : (m : ℕ) (k : TraceId) (xs : List TraceId) → m < k.0 → AllByRecursion (λ (y : TraceId). k.0 ≤ y.0) xs → Sorts xs → AllByRecursion (λ (y : TraceId). m < y.0) (dedup_from (λ (a b : TraceId). eqb a.0 b.0) k xs)
kept_above m k [] lt all sorted = (lt, tt)
kept_above m k (x ∷ xs) lt all sorted =
    from_cases m k (dedup_from (λ (a b : TraceId). eqb a.0 b.0) k xs) (dedup_from (λ (a b : TraceId). eqb a.0 b.0) x xs) (eqb x.0 k.0) lt (kept_above m k xs lt all.1 sorted.1)
    (kept_above m x xs (omega (arith, all.0)) sorted.0 sorted.1)

rises_from_cases : (k x : TraceId) (xs kept more : List TraceId) (a : Bool) → eqb x.0 k.0 ≡ a → k.0 ≤ x.0 → Rises kept → Rises more → (k.0 < x.0 → AllByRecursion (λ (y : TraceId). k.0 < y.0) more) → Rises (cond a kept (k ∷ more))
rises_from_cases k x xs kept more true ta le up rest above = up
rises_from_cases k x xs kept more false ta le up rest above = (above (grind (arith, nat_tests)), rest)

-- what is kept of a sorted list rises
rises_from : (k : TraceId) (xs : List TraceId) → AllByRecursion (λ (y : TraceId). k.0 ≤ y.0) xs → Sorts xs → Rises (dedup_from (λ (a b : TraceId). eqb a.0 b.0) k xs)
rises_from k [] all sorted = (tt, tt)
rises_from k (x ∷ xs) all sorted =
    rises_from_cases k x xs (dedup_from (λ (a b : TraceId). eqb a.0 b.0) k xs) (dedup_from (λ (a b : TraceId). eqb a.0 b.0) x xs) (eqb x.0 k.0) refl all.0 (rises_from k xs all.1 sorted.1)
    (rises_from x xs sorted.0 sorted.1) (λ lt. kept_above k.0 x xs lt sorted.0 sorted.1)

has_from_cases : (n : ℕ) (k x : TraceId) (xs kept more : List TraceId) (a : Bool) → eqb x.0 k.0 ≡ a → list_any (λ (t : TraceId). eqb t.0 n) kept ≡ (eqb k.0 n || list_any (λ (t : TraceId). eqb t.0 n) xs)
    → list_any (λ (t : TraceId). eqb t.0 n) more ≡ (eqb x.0 n || list_any (λ (t : TraceId). eqb t.0 n) xs)
    → list_any (λ (t : TraceId). eqb t.0 n) (cond a kept (k ∷ more)) ≡ (eqb k.0 n || (eqb x.0 n || list_any (λ (t : TraceId). eqb t.0 n) xs))
has_from_cases n k x xs kept more true ta all rest =
    let number : x.0 ≡ k.0 = grind (arith, nat_tests) in
    all ∙ sym (ap (λ m. eqb k.0 n || (eqb m n || list_any (λ (t : TraceId). eqb t.0 n) xs)) number ∙ or_self_left (eqb k.0 n) (list_any (λ (t : TraceId). eqb t.0 n) xs))
has_from_cases n k x xs kept more false ta all rest = ap (λ t. eqb k.0 n || t) rest

has_from : (n : ℕ) (k : TraceId) (xs : List TraceId) → list_any (λ (t : TraceId). eqb t.0 n) (dedup_from (λ (a b : TraceId). eqb a.0 b.0) k xs) ≡ (eqb k.0 n || list_any (λ (t : TraceId). eqb t.0 n) xs)
has_from n k [] = refl
has_from n k (x ∷ xs) =
    has_from_cases n k x xs (dedup_from (λ (a b : TraceId). eqb a.0 b.0) k xs) (dedup_from (λ (a b : TraceId). eqb a.0 b.0) x xs) (eqb x.0 k.0) refl (has_from n k xs) (has_from n x xs)

rises_dedup : (xs : List TraceId) → Sorts xs → Rises (dedup (λ (a b : TraceId). eqb a.0 b.0) xs)
rises_dedup [] sorted = tt
rises_dedup (x ∷ xs) sorted = rises_from x xs sorted.0 sorted.1

has_dedup : (n : ℕ) (xs : List TraceId) → has n (dedup (λ (a b : TraceId). eqb a.0 b.0) xs) ≡ has n xs
unfolding has
has_dedup n [] = refl
has_dedup n (x ∷ xs) = has_from n x xs

-- a list whose numbers do not fall
sorts_from : (xs : List TraceId) → IsNonDecreasingBy (λ (t : TraceId). t.0) xs → Sorts xs
sorts_from [] up = tt
sorts_from (x ∷ xs) up =
    (recursion_from_All (λ (y : TraceId). x.0 ≤ y.0) xs (λ k d lt. up 0 (suc k) d (omega arith) (omega arith)), sorts_from xs (λ i j d le lt. up (suc i) (suc j) d (omega arith) (omega arith)))

-- a sort, and then the removal of what is repeated
pub sorted_once : (xs sorted : List TraceId) → IsPermutation xs sorted → IsNonDecreasingBy (λ (t : TraceId). t.0) sorted → dedup (λ (a b : TraceId). eqb a.0 b.0) sorted ≡ rising_traces xs
sorted_once xs sorted perm up =
    one_list (dedup (λ (a b : TraceId). eqb a.0 b.0) sorted) (rising_traces xs) (rises_dedup sorted (sorts_from sorted up)) (rises_all xs)
    (λ n. has_dedup n sorted ∙ sym (has_permuted n xs sorted perm) ∙ sym (has_rising n xs))
