-- What the watchers of a run see.
use Rattle.std.proofs.Common.{◌≡◌, ℕ, zero, suc, ◌*◌, ◌≤◌, Bool, true, false, not, cond, nat_lt, ltb-true, List, [], ◌∷◌, ◌++◌, length, take, filter, Some, None, refl, sym, ap, subst, ◌∙◌, ⊎_elim, arith, sum_by, count_by}
use Rattle.hs_run.proofs.Prelude.{AllByRecursion, range_with_len, sum_by-cons, Progress, first, IsLast, PlainJournal, Draw, is_point, is_chunk, is_given, done_after, points_after, nulls_after, steps_after, progress_after, Operation, PlainWorkload, NotesRounds, RunState, Came, has_buffer, operations_at, TimedPage, timed_pages, IsValid, IsTotalBehind, IsTotal, ShownIsSeen}
use Rattle.hs_base.proofs.Alls.{all_weaker}
use Rattle.hs_board.specs.Shown.{IsAmong}
use Rattle.hs_client.specs.Draws.{count_started}
use Rattle.hs_client.specs.Sending.{draws_at}
use Rattle.hs_run.proofs.Counted.{counts_come, progress_so}

none_started : (pages : List TimedPage) → length (filter (λ (page : TimedPage). nat_lt page.started 0) pages) ≡ 0
none_started [] = refl
none_started (page ∷ pages) = either (nat_lt page.started 0) refl (none_started pages)
  where
    either : (b : Bool) → nat_lt page.started 0 ≡ b → length (filter (λ (page : TimedPage). nat_lt page.started 0) pages) ≡ 0
        → length (cond b (page ∷ filter (λ (page : TimedPage). nat_lt page.started 0) pages) (filter (λ (page : TimedPage). nat_lt page.started 0) pages)) ≡ 0
    either true e rest = let low = ltb-true page.started 0 e in absurd (omega (arith, low))
    either false e rest = rest

sum_none : {X : Type 0} (f : X → ℕ) → ((x : X) → f x ≡ 0) → (xs : List X) → sum_by f xs ≡ 0
sum_none f each [] = refl
sum_none f each (x ∷ xs) = let both = sum_by-cons f x xs in let here = each x in let rest = sum_none f each xs in omega (arith, both, here, rest)

-- no round, no progress
module _ (W : PlainWorkload) (J : PlainJournal) where
  none_done : (ops : List Operation) → done_after W 0 ops ≡ 0
  none_done ops = let none : 0 * W.settings.stride ≡ 0 = omega arith in omega (arith, none)

  no_points : (ops : List Operation) → points_after W 0 ops ≡ 0
  no_points ops = ap (λ n. count_by is_point (take n ops)) (none_done ops)

  no_nulls : (place : ℕ) → nulls_after W J 0 place ≡ 0
  no_nulls place =
      let ops = operations_at W place in
      ap (λ n. count_by (λ (draw : Draw). not (has_buffer draw)) (take n (draws_at J place))) (ap (count_started W.settings.size ops) (none_done ops) ∙ none_started (timed_pages W.settings.size ops))

  pub none_after : progress_after W J 0 ≡ first
  none_after =
      progress_so 0 (sum_by (done_after W 0) W.clients) 0 (sum_by (points_after W 0) W.clients) 0 (sum_by (nulls_after W J 0) (range_with_len 0 (length W.clients))) 0
      (sum_by (λ node. count_by is_chunk (steps_after J 0 node)) (range_with_len 0 W.settings.nodes)) 0 (sum_by (λ node. count_by is_given (steps_after J 0 node)) (range_with_len 0 W.settings.nodes)) 0
      (sum_none (done_after W 0) none_done W.clients) (sum_none (points_after W 0) no_points W.clients) (sum_none (nulls_after W J 0) no_nulls (range_with_len 0 (length W.clients)))
      (sum_none (λ node. count_by is_chunk (steps_after J 0 node)) (λ node. refl) (range_with_len 0 W.settings.nodes)) (sum_none (λ node. count_by is_given (steps_after J 0 node)) (λ node. refl) (range_with_len 0 W.settings.nodes))

all_among : (P : Progress → Type 0) (xs : List Progress) → AllByRecursion P xs → (x : Progress) → IsAmong x xs → P x
all_among P [] all x (place, at) = let none : None ≡ Some x = at in absurd cc
all_among P (y ∷ xs) all x (zero, at) = let same : Some y ≡ Some x = at in let is : y ≡ x = cc in subst P is all.0
all_among P (y ∷ xs) all x (suc place, at) = all_among P xs all.1 x (place, at)

pub end_of : (P : Progress → Type 0) (xs : List Progress) → AllByRecursion P xs → (x : Progress) → IsLast x xs → P x
end_of P xs all x (before, is) = go before (subst (AllByRecursion P) is all)
  where
    go : (before : List Progress) → AllByRecursion P (before ++ x ∷ []) → P x
    go [] all = all.0
    go (y ∷ before) all = go before all.1

module _ (W : PlainWorkload) (rounds : ℕ) (m : RunState) (came : Came W rounds m) (J : PlainJournal) (valid : IsValid W) (notes : NotesRounds W rounds m came J) where
  total_is : (x : Progress) → IsTotal W rounds m came x → x ≡ progress_after W J x.rounds
  total_is x total =
      ⊎_elim (λ (none : x ≡ first). none ∙ sym (none_after W J) ∙ ap (λ (y : Progress). progress_after W J y.rounds) (sym none))
      (λ (t : IsTotalBehind W rounds m came x). t.is ∙ counts_come W rounds m came J valid notes t.round t.low t.counts t.are ∙ ap (λ (y : Progress). progress_after W J y.rounds) (sym t.is)) total

  total_low : (x : Progress) → IsTotal W rounds m came x → x.rounds ≤ rounds
  total_low x total =
      ⊎_elim (λ (none : x ≡ first). let e = ap (λ (y : Progress). y.rounds) none in omega (arith, e))
      (λ (t : IsTotalBehind W rounds m came x). let e = ap (λ (y : Progress). y.rounds) t.is in let low = t.low in omega (arith, e, low)) total

pub shown_seen : ShownIsSeen
shown_seen W rounds m came J valid notes all_rounds shown seen totals x is_last end sees =
    let total : (y : Progress) → IsAmong y shown → IsTotal W rounds m came y = all_among (IsTotal W rounds m came) shown totals in
    let last = sees.last in
    let high = last.2 x is_last in
    let low = total_low W rounds m came J valid notes last.0 (total last.0 (end_of (λ (y : Progress). IsAmong y shown) seen sees.among last.0 last.1)) in
    record {
      each = all_weaker (λ (y : Progress). IsAmong y shown) (λ (y : Progress). y ≡ progress_after W J y.rounds) (λ y among. total_is W rounds m came J valid notes y (total y among)) seen sees.among;
      rises = sees.rises;
      last = (last.0, last.1, omega (arith, high, low, end, all_rounds));
    }
