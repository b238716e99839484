-- A visit over costs that are at most the size is fair, and so are many.
use Rattle.std.proofs.lemmas.Bool.{cases_eq}
use Rattle.std.proofs.Common.{⊎_elim, ◌≡◌, ℕ, suc, ◌+◌, ◌-◌, ◌*◌, ◌<◌, ◌≤◌, List, [], ◌∷◌, length, take, get_or, sum, All, arith}
use Rattle.std.proofs.lemmas.List.Elements.{All-get_or}
use Rattle.std.proofs.lemmas.List.Sums.{sum_by_more}
use Rattle.hs_sched.specs.declared.share.Share.{Share}
use Rattle.hs_records.specs.Fronts.{count_within}
use Rattle.hs_sched.specs.Visits.{budget_of, bytes_within, rest_within, bytes_sent, visited}
use Rattle.hs_sched.specs.Fairness.{IsFairVisit, bytes_over, EachLeaves}
use Rattle.hs_sched.proofs.PrefixLemmas.{longest_within, rest_emptied, rest_left}

-- what is left of a budget is less than the item that it does not pay for
rest_is_less :
    (size budget : ℕ) (costs : List ℕ) → All (λ cost. cost ≤ size) costs → count_within budget costs < length costs → budget - bytes_within budget costs < size
rest_is_less size budget costs cheap left =
    let n = count_within budget costs in
    let beyond : budget < 0 + sum (take (n + 1) costs) = (longest_within budget costs).longest (n + 1) (omega arith) (omega arith) in
    let one : sum (take (n + 1) costs) ≡ sum (take n costs) + get_or costs n 0 = sum_by_more (λ x. x) costs n 0 left in
    let next : get_or costs n 0 ≤ size = All-get_or (λ cost. cost ≤ size) costs n 0 left cheap in
    let paid : 0 + sum (take n costs) ≤ budget = (longest_within budget costs).within (omega arith) in
    omega arith

rest_is_bound : (size budget : ℕ) (costs : List ℕ) → All (λ cost. cost ≤ size) costs → 0 < size → rest_within budget costs < size
rest_is_bound size budget costs cheap some =
    ⊎_elim
    (λ (e : count_within budget costs ≡ length costs). omega (arith, rest_emptied budget costs e))
    (λ (ne : count_within budget costs ≡ length costs → ⊥).
    let left : count_within budget costs < length costs = omega (arith, (longest_within budget costs).front) in
    omega (arith, rest_left budget costs left, rest_is_less size budget costs cheap left))
    (cases_eq (count_within budget costs) (length costs))

pub fair_visit : (size : ℕ) (share : Share) (waiting : List ℕ) → All (λ cost. cost ≤ size) waiting → share.deficit < size → IsFairVisit size share waiting
fair_visit size share waiting cheap small =
    let budget = budget_of size share in
    let longest = longest_within budget waiting in
    let paid : bytes_within budget waiting ≤ budget = omega (arith, longest.within (omega arith)) in
    record {
      front = longest.front;
      within = paid;
      longest = λ n below bound. omega (arith, longest.longest n below bound);
      balance = λ left. omega (arith, rest_left budget waiting left);
      emptied = λ e. rest_emptied budget waiting e;
      bound = rest_is_bound size budget waiting cheap (omega arith);
    }

-- after visits that each leave an item, the bytes sent and the last deficit make up all budgets
record IsPaidUp (size : ℕ) (share : Share) (waits : List (List ℕ)) : Type 0 where
  last : ℕ
  small : last < size
  adds_up : bytes_over size share waits + last ≡ share.deficit + length waits * (share.weight * size)

paid_up : (size : ℕ) (share : Share) (waits : List (List ℕ)) → share.deficit < size → EachLeaves size share waits → IsPaidUp size share waits
paid_up size share [] small leaves = record { last = share.deficit; small = small; adds_up = omega arith }
paid_up size share (waiting ∷ later) small leaves =
    let visit = fair_visit size share waiting leaves.0 small in
    let rest = paid_up size (visited size share waiting) later visit.bound leaves.2 in
    let balance : bytes_sent size share waiting + (visited size share waiting).deficit ≡ share.deficit + share.weight * size = visit.balance leaves.1 in
    record { last = rest.last; small = rest.small; adds_up = adds-step (length later) (share.weight * size) _ _ _ _ _ rest.adds_up balance }
  where
    adds-step :
        (n per first more last d e : ℕ) → more + last ≡ d + n * per → first + d ≡ e + per → first + more + last ≡ e + suc n * per
    adds-step n per first more last d e later now = omega arith

pub visits_fair :
    (size : ℕ) (share : Share) (waits : List (List ℕ)) → share.deficit < size → EachLeaves size share waits
    → (bytes_over size share waits < length waits * (share.weight * size) + size) × (length waits * (share.weight * size) < bytes_over size share waits + size)
visits_fair size share waits small leaves = let p = paid_up size share waits small leaves in (omega (arith, p.adds_up, p.small), omega (arith, p.adds_up, p.small))
