-- The prefix that a budget pays for is the longest one, and nothing else is.
use borrow.Author.Tests.{ne_eqb}
use Rattle.std.proofs.Common.{eq-eqb, ⊎_elim, ◌≡◌, ℕ, zero, suc, ◌+◌, ◌-◌, ◌<◌, ◌≤◌, Bool, true, false, cond, nat_le, List, [], ◌∷◌, length, take, sum, refl, arith, subst, one-add}
use Rattle.std.specs.List.{prefix_len}
use Rattle.std.proofs.lemmas.List.{take-take}
use Rattle.std.proofs.lemmas.List.Sums.{sum_by-cons, sum_by-take-le}
use Rattle.std.proofs.lemmas.Bool.{cases_lt}
use Rattle.std.proofs.lemmas.Bool.Decides.{nat_tests}
use Rattle.hs_records.specs.Fronts.{running_totals, count_within}
use Rattle.hs_sched.specs.Visits.{bytes_within, rest_within}

pub sum-cons : (c : ℕ) (cs : List ℕ) → sum (c ∷ cs) ≡ c + sum cs
sum-cons c cs = sum_by-cons (λ x. x) c cs

pub record IsLongest (budget spent : ℕ) (costs : List ℕ) (n : ℕ) : Type 0 where
  pub front : n ≤ length costs
  pub within : spent ≤ budget → spent + sum (take n costs) ≤ budget
  pub longest : (m : ℕ) → n < m → m ≤ length costs → budget < spent + sum (take m costs)

abbrev count_from : ℕ → ℕ → List ℕ → ℕ
count_from budget spent costs = prefix_len (λ total. nat_le total budget) (running_totals spent costs)

longest-pays : (budget spent c : ℕ) (cs : List ℕ) (n : ℕ) → spent + c ≤ budget → IsLongest budget (spent + c) cs n → IsLongest budget spent (c ∷ cs) (suc n)
longest-pays budget spent c cs n pays more =
    record {
      front = omega (arith, more.front);
      within = λ h. omega (arith, more.within pays, sum-cons c (take n cs));
      longest = λ m below bound. longest-at m below bound;
    }
  where
    longest-at : (m : ℕ) → suc n < m → m ≤ length (c ∷ cs) → budget < spent + sum (take m (c ∷ cs))
    longest-at zero below bound = absurd (omega arith)
    longest-at (suc m) below bound = omega (arith, more.longest m (omega arith) (omega arith), sum-cons c (take m cs))

longest-stops : (budget spent c : ℕ) (cs : List ℕ) → budget < spent + c → IsLongest budget spent (c ∷ cs) 0
longest-stops budget spent c cs stops =
    record {
      front = omega arith;
      within = λ h. omega arith;
      longest = λ m below bound. longest-at m below bound;
    }
  where
    longest-at : (m : ℕ) → 0 < m → m ≤ length (c ∷ cs) → budget < spent + sum (take m (c ∷ cs))
    longest-at zero below bound = absurd (omega arith)
    longest-at (suc m) below bound = omega (arith, sum-cons c (take m cs))

longest-step : (budget spent c : ℕ) (cs : List ℕ) (n : ℕ) (b : Bool) → nat_le (spent + c) budget ≡ b → IsLongest budget (spent + c) cs n → IsLongest budget spent (c ∷ cs) (cond b (1 + n) 0)
longest-step budget spent c cs n true e more = rw one-add (longest-pays budget spent c cs n (grind (arith, nat_tests)) more)
longest-step budget spent c cs n false e more = longest-stops budget spent c cs (grind (arith, nat_tests))

longest_from : (budget spent : ℕ) (costs : List ℕ) → IsLongest budget spent costs (count_from budget spent costs)
longest_from budget spent [] = record { front = omega arith; within = λ h. omega arith; longest = λ m below bound. absurd (omega arith) }
longest_from budget spent (c ∷ cs) =
    longest-step budget spent c cs (count_from budget (spent + c) cs) (nat_le (spent + c) budget) refl (longest_from budget (spent + c) cs)

pub longest_within : (budget : ℕ) (costs : List ℕ) → IsLongest budget 0 costs (count_within budget costs)
longest_within budget costs = longest_from budget 0 costs

-- a longer prefix costs no less
sum-take-mono : (costs : List ℕ) (a b : ℕ) → a ≤ b → sum (take a costs) ≤ sum (take b costs)
sum-take-mono costs a b h =
    subst (λ (front : List ℕ). sum front ≤ sum (take b costs)) (take-take a b costs h) (sum_by-take-le (λ x. x) (take b costs) a)

-- no prefix within the budget is longer than the counted one
not_longer : (budget : ℕ) (costs : List ℕ) (n : ℕ) → n ≤ length costs → sum (take n costs) ≤ budget → n ≤ count_within budget costs
not_longer budget costs n front within =
    ⊎_elim
    (λ (less : count_within budget costs < n). absurd (omega (arith, (longest_within budget costs).longest n less front)))
    (λ (more : n ≤ count_within budget costs). more)
    (cases_lt (count_within budget costs) n)

-- and the counted one is not longer than a prefix that the next item would take past the budget
not_shorter : (budget : ℕ) (costs : List ℕ) (n : ℕ) → (n < length costs → budget < sum (take (n + 1) costs)) → count_within budget costs ≤ n
not_shorter budget costs n stops =
    ⊎_elim
    (λ (less : n < count_within budget costs).
    let count = count_within budget costs in
    let longest = longest_within budget costs in
    let paid : 0 + sum (take count costs) ≤ budget = longest.within (omega arith) in
    let past : budget < sum (take (n + 1) costs) = stops (omega (arith, longest.front)) in
    absurd (omega (arith, sum-take-mono costs (n + 1) count (omega arith))))
    (λ (more : count_within budget costs ≤ n). more)
    (cases_lt n (count_within budget costs))

pub count_within_is :
    (budget : ℕ) (costs : List ℕ) (n : ℕ) → n ≤ length costs → sum (take n costs) ≤ budget
    → (n < length costs → budget < sum (take (n + 1) costs)) → count_within budget costs ≡ n
count_within_is budget costs n front within stops = omega (arith, not_longer budget costs n front within, not_shorter budget costs n stops)

-- the deficit that a visit leaves
pub rest_emptied : (budget : ℕ) (costs : List ℕ) → count_within budget costs ≡ length costs → rest_within budget costs ≡ 0
rest_emptied budget costs e = rw (eq-eqb (count_within budget costs) (length costs) e)

pub rest_left : (budget : ℕ) (costs : List ℕ) → count_within budget costs < length costs → rest_within budget costs ≡ budget - bytes_within budget costs
rest_left budget costs h = rw (ne_eqb (count_within budget costs) (length costs) (λ e. omega arith))
