-- What a pool's history says of the buffers that wait.
use Rattle.std.proofs.Common.{◌≡◌, ℕ, ◌+◌, ◌<◌, Bool, true, false, cond, ◌==◌, ◌||◌, List, [], ◌∷◌, ◌++◌, drop, reverse, Some, refl, sym, ap, ◌∙◌, subst, arith, length-append, ⊎_elim}
use Rattle.std.specs.Prelude.{slice_get, count_by}
use Rattle.std.specs.List.{list_any, range_with_len}
use Rattle.std.proofs.lemmas.List.{reverse-append}
use Rattle.std.proofs.lemmas.List.Sums.{sum_by-cons, sum_by-append}
use Rattle.std.proofs.lemmas.Bool.{cases_lt}
use Rattle.hs_base.proofs.Counts.{count_cons}
use Rattle.hs_words.specs.PoolHistory.{PoolEvent, Got, Empty, Given, Missed, is_got, is_given, queue_after, MayFollow, IsHistoryBack}
pub use Rattle.hs_words.proofs.Waiting.{is}
use Rattle.hs_words.proofs.Waiting.{balance, none_above, once_within, at_most_one}
use Rattle.hs_pool.specs.Pool.{Pool, IsAfter, IsOut, waiting}

-- how often a number is among these
apart : (a number : ℕ) (b : Bool) → b ≡ false → ◌≡◌ {A = ℕ} (cond b 1 0) 0
apart a number b e = ap (λ (c : Bool). let n : ℕ = cond c 1 0 in n) e

-- whether one with this number waits, and how many
pub none_counted : (number : ℕ) (xs : List ℕ) → list_any (is number) xs ≡ false → count_by (is number) xs ≡ 0
none_counted number [] none = refl
none_counted number (x ∷ xs) none =
    let both = or_none (x == number) (list_any (is number) xs) none in
    omega (arith, count_cons (is number) x xs, apart x number (x == number) both.0, none_counted number xs both.1)
  where
    or_none : (a b : Bool) → (a || b) ≡ false → (a ≡ false) × (b ≡ false)
    or_none true b e = absurd cc
    or_none false b e = (refl, e)

pub counted_none : (number : ℕ) (xs : List ℕ) → count_by (is number) xs ≡ 0 → list_any (is number) xs ≡ false
counted_none number [] none = refl
counted_none number (x ∷ xs) none = step (x == number) (count_cons (is number) x xs) (counted_none number xs)
  where
    step : (b : Bool) → count_by (is number) (x ∷ xs) ≡ cond b 1 0 + count_by (is number) xs → (count_by (is number) xs ≡ 0 → list_any (is number) xs ≡ false) → (b || list_any (is number) xs) ≡ false
    step true e rest = absurd (omega arith)
    step false e rest = rest (omega arith)

within_or_none : (n number : ℕ) → 0 < count_by (is number) (range_with_len 0 n) → number < n
within_or_none n number some =
    ⊎_elim (λ less. less) (λ above. absurd (omega (arith, none_above 0 n number (omega arith)))) (cases_lt number n)

-- A buffer is out exactly where it was got more often than given.
pub out_is_given : (pool : Pool) (history : List PoolEvent) (number : ℕ) → IsAfter history pool → IsOut pool number → MayFollow pool.buffers (reverse history) (Given number)
out_is_given pool history number after out =
    let earlier = reverse history in
    let none : count_by (is number) (queue_after pool.buffers earlier) ≡ 0 = subst (λ (xs : List ℕ). count_by (is number) xs ≡ 0) after.queue (none_counted number (waiting pool) out.1) in
    omega (arith, none, balance pool.buffers number earlier after.lawful, once_within 0 pool.buffers number (omega arith) (omega (arith, out.0)))

pub given_is_out : (pool : Pool) (history : List PoolEvent) (number : ℕ) → IsAfter history pool → MayFollow pool.buffers (reverse history) (Given number) → IsOut pool number
given_is_out pool history number after may =
    let earlier = reverse history in
    let balanced = balance pool.buffers number earlier after.lawful in
    let one = at_most_one pool.buffers number in
    let none : count_by (is number) (queue_after pool.buffers earlier) ≡ 0 = omega (arith, may, balanced, one) in (
      within_or_none pool.buffers number (omega (arith, may, balanced)),
      counted_none number (waiting pool) (subst (λ (xs : List ℕ). count_by (is number) xs ≡ 0) (sym after.queue) none),
    )

-- One more event that may follow.
pub extended : (pool new : Pool) (history : List PoolEvent) (event : PoolEvent) → IsAfter history pool → MayFollow pool.buffers (reverse history) event → new.buffers ≡ pool.buffers
    → waiting new ≡ queue_after pool.buffers (event ∷ reverse history) → new.events ≡ pool.events + 1 → IsAfter (history ++ event ∷ []) new
extended pool new history event after may buffers queue events =
    let turned : reverse (history ++ event ∷ []) ≡ event ∷ reverse history = reverse-append history (event ∷ []) in
    record {
      lawful = subst (λ (n : ℕ). IsHistoryBack n (reverse (history ++ event ∷ []))) (sym buffers) (subst (IsHistoryBack pool.buffers) (sym turned) (after.lawful, may));
      queue = queue ∙ ap (queue_after pool.buffers) (sym turned) ∙ ap (λ (n : ℕ). queue_after n (reverse (history ++ event ∷ []))) (sym buffers);
      events = omega (arith, after.events, events, length-append history (event ∷ []));
    }
