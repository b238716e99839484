-- What one step more takes from the queues, and what is left of them.
use Rattle.std.proofs.Common.{◌≡◌, ℕ, zero, suc, ◌+◌, ◌≤◌, true, List, [], ◌∷◌, ◌++◌, map, drop, Some, None, refl, ap, arith}
use Rattle.hs_check_follow.proofs.Prelude.{slice_get, range_with_len, Step, Queue, takes, taken}
use Rattle.hs_base.proofs.Counts.{one_if}
use Rattle.hs_law_journal.proofs.Logs.{taken_push}

pub taken_once : (queue : Queue) (log : List Step) (step : Step) → takes queue step ≡ true → taken queue (log ++ step ∷ []) ≡ suc (taken queue log)
taken_once queue log step own = let more = taken_push queue log step in let here = ap one_if own in omega (arith, more, here)

module _ {A : Type 0} where
  pub drop_next : (xs : List A) (k : ℕ) (x : A) (rest : List A) → drop k xs ≡ x ∷ rest → (slice_get xs k ≡ Some x) × (drop (suc k) xs ≡ rest)
  drop_next [] zero x rest e = absurd cc
  drop_next [] (suc k) x rest e = absurd cc
  drop_next (y ∷ xs) zero x rest e = let first : y ≡ x = cc in let others : xs ≡ rest = cc in (ap Some first, others)
  drop_next (y ∷ xs) (suc k) x rest e = drop_next xs k x rest e

  pub drop_none : (xs : List A) (k : ℕ) → drop k xs ≡ [] → slice_get xs k ≡ None
  drop_none [] zero e = refl
  drop_none [] (suc k) e = refl
  drop_none (y ∷ xs) zero e = absurd cc
  drop_none (y ∷ xs) (suc k) e = drop_none xs k e

  pub range_past : (f : ℕ → A) (start count place : ℕ) → count ≤ place → slice_get (map f (range_with_len start count)) place ≡ None
  range_past f start zero place high = refl
  range_past f start (suc count) zero high = absurd (omega (arith, high))
  range_past f start (suc count) (suc place) high = range_past f (start + 1) count place (omega (arith, high))
