-- A chunk that was drawn of the plain pool is out, so it may be given.
use Rattle.std.proofs.Common.{◌≡◌, ℕ, ◌<◌, ◌≤◌, Bool, true, false, cond, ◌==◌, ◌||◌, List, [], ◌∷◌, map, reverse, refl, sym, ap, ◌∙◌, subst, arith}
use Rattle.std.specs.Prelude.{count_by}
use Rattle.std.specs.List.{list_any}
use mathlib.Core.Option.{some}
use lib.ListN.{get_elem?}
use borrow.Author.Tests.{eq-eqb}
use Rattle.hs_base.proofs.Counts.{count_cons}
use Rattle.hs_words.specs.Chunks.{Contents}
use Rattle.hs_words.specs.PoolHistory.{PoolEvent, queue_after, IsHistoryBack}
use Rattle.hs_words.proofs.Waiting.{is, waits_once, waiting_below}
use Rattle.hs_pool.specs.Pool.{Pool, IsAfter, IsOut, waiting, number_of}

none_waits : (b : ℕ) (xs : List ℕ) → count_by (is b) xs ≡ 0 → list_any (λ other. other == b) xs ≡ false
none_waits b [] none = refl
none_waits b (x ∷ xs) none = step (x == b) refl (none_waits b xs (let c = count_cons (is b) x xs in omega arith))
  where
    step : (c : Bool) → (x == b) ≡ c → list_any (λ other. other == b) xs ≡ false → (c || list_any (λ other. other == b) xs) ≡ false
    step true e rest = let one : ◌≡◌ {A = ℕ} (cond (x == b) 1 0) 1 = ap (λ (c : Bool). let n : ℕ = cond c 1 0 in n) e in let c = count_cons (is b) x xs in absurd (omega arith)
    step false e rest = rest

pub drawn_is_out : (history : List PoolEvent) (old new : Pool) (chunk : Contents) → IsAfter history old → old.queue ≡ chunk ∷ new.queue → new.buffers ≡ old.buffers → IsOut new chunk.number
drawn_is_out history old new chunk after queue buffers =
    let b = chunk.number in
    let lawful : IsHistoryBack old.buffers (reverse history) = after.lawful in
    let line : b ∷ waiting new ≡ queue_after old.buffers (reverse history) = ap (λ (l : List Contents). map number_of l) (sym queue) ∙ after.queue in
    let front : get_elem? (queue_after old.buffers (reverse history)) 0 ≡ some b = ap (λ (l : List ℕ). get_elem? l 0) (sym line) in
    let once : count_by (is b) (b ∷ waiting new) ≤ 1 = subst (λ (l : List ℕ). count_by (is b) l ≤ 1) (sym line) (waits_once old.buffers b (reverse history) lawful) in
    let one : ◌≡◌ {A = ℕ} (cond (b == b) 1 0) 1 = ap (λ (c : Bool). let n : ℕ = cond c 1 0 in n) (eq-eqb b b refl) in
    let c = count_cons (is b) b (waiting new) in (
      subst (λ (n : ℕ). b < n) (sym buffers) (waiting_below old.buffers (reverse history) lawful 0 b front),
      none_waits b (waiting new) (omega arith),
    )
