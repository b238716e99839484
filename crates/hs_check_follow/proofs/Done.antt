-- Whether a step is left anywhere.
use Rattle.std.proofs.Common.{◌≡◌, inl, inr, ℕ, zero, suc, ◌+◌, ◌-◌, ◌<◌, ◌≤◌, Bool, true, false, ◌&&◌, nat_eq, leb, ne_eqb, eq-eqb, leb-true, leb-false, List, [], ◌∷◌, length, drop, Some, None, refl, sym, ap, ◌∙◌, arith, slice_get, unwrap_or, length-drop}
use Rattle.hs_check_follow.proofs.Prelude.{list_all, same_Some, slice_get_within, get_there, PlainJournal, Step, RunsAreOfTheJournal, log_at, NodeRun, Run, is_done, PlainWorkload, AllAt, FollowedCoordinator, FollowedNode}
use Rattle.std.proofs.Math.Bool.{and-false}
use Rattle.std.proofs.lemmas.List.{drop_all}
use Rattle.hs_check_follow.proofs.Steps.{number_is, below_last}

module _ {A : Type 0} where
  none_long : (xs : List A) → xs ≡ [] → nat_eq (length xs) 0 ≡ true
  none_long xs e = ap (λ (l : List A). nat_eq (length l) 0) e

  some_long : (xs : List A) → 0 < length xs → nat_eq (length xs) 0 ≡ false
  some_long [] h = absurd (omega (arith, h))
  some_long (x ∷ xs) h = ne_eqb (length (x ∷ xs)) 0 (λ e. omega (arith, e))

none_between : (m n : ℕ) (b : Bool) → leb m n ≡ b → nat_eq (m - n) 0 ≡ b
none_between m n true e = let low = leb-true m n e in eq-eqb (m - n) 0 (omega (arith, low))
none_between m n false e = let high = leb-false m n e in ne_eqb (m - n) 0 (λ z. omega (arith, high, z))

abbrev is_through : NodeRun → Bool
is_through node = nat_eq (length node.left) 0

all_through : (nodes : List NodeRun) → ((n : ℕ) (node : NodeRun) → slice_get nodes n ≡ Some node → node.left ≡ []) → list_all is_through nodes ≡ true
all_through [] each = refl
all_through (node ∷ nodes) each = ap (λ b. b && list_all is_through nodes) (none_long node.left (each 0 node refl)) ∙ all_through nodes (λ n other at. each (suc n) other at)

one_left : (nodes : List NodeRun) (n : ℕ) (node : NodeRun) → slice_get nodes n ≡ Some node → 0 < length node.left → list_all is_through nodes ≡ false
one_left [] n node at more = let never : None ≡ Some node = at in absurd cc
one_left (first ∷ nodes) zero node at more = ap (λ b. b && list_all is_through nodes) (ap is_through (same_Some first node at) ∙ some_long node.left more)
one_left (first ∷ nodes) (suc n) node at more = ap (λ b. is_through first && b) (one_left nodes n node at more) ∙ and-false (is_through first)

module _ (runs : RunsAreOfTheJournal) (W : PlainWorkload) (J : PlainJournal) (run : Run) (nodes : List FollowedNode) (h : FollowedCoordinator) (a : AllAt W J run nodes h) where
  left_is : (n : ℕ) (t : FollowedNode) (log : List Step) → slice_get nodes n ≡ Some t → slice_get J.logs n ≡ Some log → (node : NodeRun) → slice_get run.nodes n ≡ Some node → node.left ≡ drop t.next log
  left_is n t log t_at log_there node at =
      let same = number_is runs W J run a.leads n node at in
      (a.nodes_are.each n node t at t_at).left ∙ ap (λ k. drop t.next (log_at J k)) same ∙ ap (λ o. drop t.next (unwrap_or o [])) log_there

  -- the node's log is through
  pub through : (n : ℕ) (t : FollowedNode) (log : List Step) → slice_get nodes n ≡ Some t → slice_get J.logs n ≡ Some log → length log ≤ t.next → (node : NodeRun) → slice_get run.nodes n ≡ Some node → node.left ≡ []
  through n t log t_at log_there high node at = left_is n t log t_at log_there node at ∙ drop_all t.next log high

  pub through_more : (first : ℕ) (t : FollowedNode) (log : List Step) → slice_get nodes first ≡ Some t → slice_get J.logs first ≡ Some log → length log ≤ t.next
      → ((n : ℕ) (node : NodeRun) → n < first → slice_get run.nodes n ≡ Some node → node.left ≡ []) → (n : ℕ) (node : NodeRun) → n < first + 1 → slice_get run.nodes n ≡ Some node → node.left ≡ []
  through_more first t log t_at log_there high before n node low at =
      elim (below_last n first low) as (λ _. node.left ≡ []) [
        | inl less ↦ before n node less at
        | inr same ↦ through first t log t_at log_there high node (ap (slice_get run.nodes) (sym same) ∙ at)
      ]

  -- a step of the node is left
  pub not_through : (n : ℕ) (t : FollowedNode) (log : List Step) → slice_get nodes n ≡ Some t → slice_get J.logs n ≡ Some log → t.next < length log → false ≡ is_done run
  not_through n t log t_at log_there low =
      let n_low = found_low n t t_at in
      let there = get_there run.nodes n (let count = a.nodes_are.count in omega (arith, n_low, count)) in
      let long = ap length (left_is n t log t_at log_there there.0 there.1) ∙ length-drop t.next log in
      sym (ap (λ b. b && nat_eq (length run.left) 0) (one_left run.nodes n there.0 there.1 (omega (arith, long, low))))
    where
      found_low : (n : ℕ) (t : FollowedNode) → slice_get nodes n ≡ Some t → n < length nodes
      found_low n t at = slice_get_within nodes n t at

  -- all nodes are through
  all_through_here : ((n : ℕ) (node : NodeRun) → n < length nodes → slice_get run.nodes n ≡ Some node → node.left ≡ []) → list_all is_through run.nodes ≡ true
  all_through_here each =
      let count = a.nodes_are.count in
      all_through run.nodes (λ n node at. let low = slice_get_within run.nodes n node at in each n node (omega (arith, low, count)) at)

  pub all_done : ((n : ℕ) (node : NodeRun) → n < length nodes → slice_get run.nodes n ≡ Some node → node.left ≡ []) → leb (length J.told) h.next ≡ is_done run
  all_done each =
      let left = ap length a.hearing.left_is ∙ length-drop h.next J.told in
      sym (ap (λ b. b && nat_eq (length run.left) 0) (all_through_here each) ∙ ap (λ k. nat_eq k 0) left ∙ none_between (length J.told) h.next (leb (length J.told) h.next) refl)
