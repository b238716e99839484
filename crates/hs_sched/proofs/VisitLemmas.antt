-- A visit under way: what it has sent so far, and what that leaves.
use Rattle.std.proofs.Common.{add-zero, ◌≡◌, ◌≢◌, ℕ, ◌+◌, ◌-◌, ◌<◌, ◌≤◌, List, [], ◌∷◌, ◌++◌, length, take, drop, get_or, replicate, sum, Some, None, refl, sym, ap, ◌∙◌, arith, subst, slice_get}
use Rattle.std.proofs.lemmas.List.{length-drop, drop-drop, get_or-drop, replicate_more}
use Rattle.std.proofs.lemmas.List.Sums.{sum_by_more}
use Rattle.hs_records.specs.Fronts.{count_within}
use Rattle.hs_sched.specs.Visits.{bytes_within, rest_within}
use Rattle.hs_sched.specs.Sending.{SendsEach}
use Rattle.hs_sched.proofs.PrefixLemmas.{count_within_is, rest_emptied, rest_left}

-- sends follow sends
pub SendsEach-append :
    {Q : Type 0} (sends : Q → ℕ → Q → Type 0) (a b c : Q) (xs ys : List ℕ) → SendsEach sends a xs b → SendsEach sends b ys c → SendsEach sends a (xs ++ ys) c
SendsEach-append sends a b c [] ys before after = subst (λ q. SendsEach sends q ys c) before after
SendsEach-append sends a b c (x ∷ xs) ys before after = (before.0, before.1, SendsEach-append sends before.0 b c xs ys before.2 after)

-- no item waits behind the last
pub none_left : (xs : List ℕ) → slice_get xs 0 ≡ None → length xs ≡ 0
none_left [] e = refl
none_left (x ∷ xs) e = cc

pub first_left : (xs : List ℕ) (x : ℕ) → slice_get xs 0 ≡ Some x → (0 < length xs) × (get_or xs 0 0 ≡ x)
first_left [] x e = cc
first_left (y ∷ ys) x e = (omega arith, cc)

module _ {Q : Type 0} (costs : Q → ℕ → List ℕ) (sends : Q → ℕ → Q → Type 0) where
  -- so much of the budget is left, and so many items were sent
  pub record IsUnderway (id budget left : ℕ) (old now : Q) : Type 0 where
    pub sent : ℕ
    pub front : sent ≤ length (costs old id)
    pub rest : costs now id ≡ drop sent (costs old id)
    pub paid : sum (take sent (costs old id)) + left ≡ budget
    pub others : (other : ℕ) → other ≢ id → costs now other ≡ costs old other
    pub steps : SendsEach sends old (replicate sent id) now

  pub underway_none : (id budget : ℕ) (old : Q) → IsUnderway id budget budget old old
  underway_none id budget old =
      record { sent = 0; front = omega arith; rest = refl; paid = omega arith; others = λ other ne. refl; steps = refl }

  pub underway_more :
      (id budget left cost : ℕ) (old now next : Q) → IsUnderway id budget left old now → slice_get (costs now id) 0 ≡ Some cost → cost ≤ left
      → costs next id ≡ drop 1 (costs now id) → ((other : ℕ) → other ≢ id → costs next other ≡ costs now other) → sends now id next
      → IsUnderway id budget (left - cost) old next
  underway_more id budget left cost old now next u first pays taken others step =
      let waits = first_left (costs now id) cost first in
      let within : u.sent < length (costs old id) = omega (arith, ap length u.rest, length-drop u.sent (costs old id), waits.0) in
      let here : get_or (costs old id) u.sent 0 ≡ cost =
      ap (λ n. get_or (costs old id) n 0) (sym (add-zero u.sent)) ∙ sym (get_or-drop u.sent (costs old id) 0 0) ∙ ap (λ xs. get_or xs 0 0) (sym u.rest) ∙ waits.1 in
      record {
        sent = u.sent + 1;
        front = omega arith;
        rest = taken ∙ ap (drop 1) u.rest ∙ drop-drop 1 u.sent (costs old id);
        paid = omega (arith, sum_by_more (λ x. x) (costs old id) u.sent 0 within, u.paid, here);
        others = λ other ne. others other ne ∙ u.others other ne;
        steps = subst (λ ids. SendsEach sends old ids next) (replicate_more u.sent id) (SendsEach-append sends old now next (replicate u.sent id) (id ∷ []) u.steps (next, step, refl));
      }

  -- the visit is over: this many items were sent, and the deficit is this
  pub record IsOver (id budget deficit : ℕ) (old now : Q) : Type 0 where
    pub value : deficit ≡ rest_within budget (costs old id)
    pub left : costs now id ≡ drop (count_within budget (costs old id)) (costs old id)
    pub others : (other : ℕ) → other ≢ id → costs now other ≡ costs old other
    pub order : SendsEach sends old (replicate (count_within budget (costs old id)) id) now

  over :
      (id budget left deficit : ℕ) (old now : Q) (u : IsUnderway id budget left old now) → count_within budget (costs old id) ≡ u.sent
      → deficit ≡ rest_within budget (costs old id) → IsOver id budget deficit old now
  over id budget left deficit old now u count value =
      record {
        value = value;
        left = u.rest ∙ ap (λ n. drop n (costs old id)) (sym count);
        others = u.others;
        order = subst (λ n. SendsEach sends old (replicate n id) now) (sym count) u.steps;
      }

  pub over_emptied :
      (id budget left : ℕ) (old now : Q) → IsUnderway id budget left old now → slice_get (costs now id) 0 ≡ None → IsOver id budget 0 old now
  over_emptied id budget left old now u none =
      let all : u.sent ≡ length (costs old id) = omega (arith, none_left (costs now id) none, ap length u.rest, length-drop u.sent (costs old id), u.front) in
      let count : count_within budget (costs old id) ≡ u.sent = count_within_is budget (costs old id) u.sent u.front (omega (arith, u.paid)) (λ h. absurd (omega arith)) in
      over id budget left 0 old now u count (sym (rest_emptied budget (costs old id) (count ∙ all)))

  pub over_spent :
      (id budget left cost : ℕ) (old now : Q) → IsUnderway id budget left old now → slice_get (costs now id) 0 ≡ Some cost → left < cost
      → IsOver id budget left old now
  over_spent id budget left cost old now u first stops =
      let waits = first_left (costs now id) cost first in
      let within : u.sent < length (costs old id) = omega (arith, ap length u.rest, length-drop u.sent (costs old id), waits.0) in
      let here : get_or (costs old id) u.sent 0 ≡ cost =
      ap (λ n. get_or (costs old id) n 0) (sym (add-zero u.sent)) ∙ sym (get_or-drop u.sent (costs old id) 0 0) ∙ ap (λ xs. get_or xs 0 0) (sym u.rest) ∙ waits.1 in
      let one = sum_by_more (λ x. x) (costs old id) u.sent 0 within in
      let count : count_within budget (costs old id) ≡ u.sent =
      count_within_is budget (costs old id) u.sent u.front (omega (arith, u.paid)) (λ h. omega (arith, one, here, u.paid)) in
      let bytes : bytes_within budget (costs old id) ≡ sum (take u.sent (costs old id)) = ap (λ n. sum (take n (costs old id))) count in
      over id budget left left old now u count (omega (arith, rest_left budget (costs old id) (omega (arith, count, within)), bytes, u.paid))
