-- What is left at all nodes where a lawful journal was followed: the books of the clients and the agents.
use Rattle.std.proofs.Common.{◌≡◌, ℕ, zero, suc, ◌+◌, ◌*◌, ◌<◌, List, [], ◌∷◌, ◌++◌, length, map, Some, refl, sym, ap, subst, ◌∙◌, arith, eqb-true}
use Rattle.hs_check.proofs.Prelude.{slice_get, option_map, flat_map, range_with_len, and_parts, map-append, slice_get-map, AreFound, PlainJournal, RunsAreOfTheJournal, NodeRun, Run, followed, PlainWorkload, IsAgentOf, AreAgentsOf}
use Rattle.std.proofs.lemmas.List.{nil_from_length}
use Rattle.std.proofs.lemmas.List.FromFn.{length-range_with_len, get_or-range_with_len}
use Rattle.std.proofs.lemmas.Option.{slice_get-get_or, slice_get_within, same_Some}
use Rattle.hs_base.proofs.Places.{get_there}
use Rattle.hs_base.proofs.Tests.{list_all_at}
use Rattle.hs_base.proofs.Ranges.{range_append}
use Rattle.hs_check_follow.specs.Parting.{books_left}
use Rattle.hs_check_follow.specs.Whole.{AllAt}
use Rattle.hs_check_follow.specs.declared.coordinator.FollowedCoordinator.{FollowedCoordinator}
use Rattle.hs_check_follow.specs.declared.parting.FollowedParts.{FollowedParts}
use Rattle.hs_check_follow.specs.declared.node.FollowedNode.{FollowedNode}
use Rattle.hs_check_follow.specs.declared.client.FollowedClient.{FollowedClient}
use Rattle.hs_records.specs.Books.{client_book_of}
use Rattle.hs_law_journal.specs.Ends.{is_left_bare}
use Rattle.hs_law_journal.specs.Lawful.{IsLawful}
use Rattle.hs_law_outcome.specs.Outcomes.{client_book}
use Rattle.hs_check.specs.Leaving.{AreLeft}

-- ---- lists

-- one for one, place by place
found_over : {A B C : Type 0} (IsOf : A → C → Type 0) (f : B → C) (xs : List A) (ys : List B) → length ys ≡ length xs
    → ((n : ℕ) (x : A) (y : B) → slice_get xs n ≡ Some x → slice_get ys n ≡ Some y → IsOf x (f y)) → AreFound IsOf xs (map f ys)
found_over IsOf f [] [] count each = tt
found_over IsOf f [] (y ∷ ys) count each = absurd (omega (arith, count))
found_over IsOf f (x ∷ xs) [] count each = absurd (omega (arith, count))
found_over IsOf f (x ∷ xs) (y ∷ ys) count each = (each 0 x y refl refl, found_over IsOf f xs ys (omega (arith, count)) (λ n a b at bt. each (suc n) a b at bt))

-- the items of a row, by what each says
row_of : {A B C : Type 0} (f : ℕ → C) (item : A → B) (view : B → C) (start : ℕ) (xs : List A) → ((n : ℕ) (x : A) → slice_get xs n ≡ Some x → view (item x) ≡ f (start + n))
    → map view (map item xs) ≡ map f (range_with_len start (length xs))
row_of f item view start [] each = refl
row_of {C = C} f item view start (x ∷ xs) each =
    let here : start + 0 ≡ start = omega arith in
    let first = each 0 x refl ∙ ap f here in
    let rest = row_of f item view (start + 1) xs (λ n y at. let on : start + suc n ≡ (start + 1) + n = omega arith in each (suc n) y at ∙ ap f on) in
    λ i. first i ∷ rest i

-- the rows of a table, one behind the other
rows_of : {A B C : Type 0} (f : ℕ → C) (row : A → List B) (view : B → C) (each first : ℕ) (xs : List A)
    → ((n : ℕ) (x : A) → slice_get xs n ≡ Some x → map view (row x) ≡ map f (range_with_len ((first + n) * each) each))
    → map view (flat_map row xs) ≡ map f (range_with_len (first * each) (length xs * each))
rows_of f row view each first [] rows = let none : zero * each ≡ 0 = omega arith in sym (ap (λ n. map f (range_with_len (first * each) n)) none)
rows_of {C = C} f row view each first (x ∷ xs) rows =
    let here : (first + 0) * each ≡ first * each = let same : first + 0 ≡ first = omega arith in ap (λ n. n * each) same in
    let next : (first + 1) * each ≡ first * each + each = omega arith in
    let many : suc (length xs) * each ≡ each + length xs * each = omega arith in
    let rest = rows_of f row view each (first + 1) xs (λ n y at. let on : first + suc n ≡ (first + 1) + n = omega arith in rows (suc n) y at ∙ ap (λ k. map f (range_with_len (k * each) each)) on) in
    map-append view (row x) (flat_map row xs)
    ∙ (λ i. (rows 0 x refl ∙ ap (λ s. map f (range_with_len s each)) here) i ++ (rest ∙ ap (λ s. map f (range_with_len s (length xs * each))) next) i)
    ∙ sym (map-append f (range_with_len (first * each) each) (range_with_len (first * each + each) (length xs * each)))
    ∙ ap (map f) (sym (range_append (first * each) each (length xs * each)))
    ∙ ap (λ n. map f (range_with_len (first * each) n)) (sym many)

-- ---- nodes

module _ (runs : RunsAreOfTheJournal) (W : PlainWorkload) (J : PlainJournal) (nodes : List FollowedNode) (h : FollowedCoordinator) (a : AllAt W J (followed W J) nodes h) (lawful : IsLawful W J) where
  abbrev run : Run
  run = followed W J

  -- a node's number is its place
  number_at : (n : ℕ) (node : NodeRun) → slice_get run.nodes n ≡ Some node → node.node ≡ n
  number_at n node at =
      let count = a.nodes_are.count in
      let many = a.nodes_are.many in
      let within = slice_get_within run.nodes n node at in
      let low : n < W.settings.nodes = omega (arith, count, many, within) in
      let long = length-range_with_len 0 W.settings.nodes in
      let numbered : Some node.node ≡ Some n =
      sym (slice_get-map (λ (r : NodeRun). r.node) run.nodes n ∙ ap (option_map (λ (r : NodeRun). r.node)) at)
      ∙ ap (λ (l : List ℕ). slice_get l n) (runs W J run a.leads).numbers
      ∙ slice_get-get_or (range_with_len 0 W.settings.nodes) n 0 (omega (arith, low, long))
      ∙ ap (λ k. Some k) (get_or-range_with_len 0 W.settings.nodes n 0 low ∙ omega arith) in
      same_Some node.node n numbered

  agent_left : (n : ℕ) (node : NodeRun) (t : FollowedNode) → slice_get run.nodes n ≡ Some node → slice_get nodes n ≡ Some t → IsAgentOf W.settings node t.follower.agent
  agent_left n node t at t_at =
      record {
        stands = (a.nodes_are.each n node t at t_at).stands.agent;
        pinned = nil_from_length node.state.pinned (eqb-true (length node.state.pinned) 0 (and_parts _ _ (list_all_at (is_left_bare run) run.nodes n node lawful.L10 at)).1);
      }

  row_left : (n : ℕ) (node : NodeRun) (t : FollowedNode) → slice_get run.nodes n ≡ Some node → slice_get nodes n ≡ Some t
      → map client_book_of (books_left t) ≡ map (client_book W J) (range_with_len (n * W.settings.clients) W.settings.clients)
  row_left n node t at t_at =
      let stand = (a.nodes_are.each n node t at t_at).stands.clients in
      row_of (client_book W J) (λ (s : FollowedClient). s.book) client_book_of (n * W.settings.clients) t.follower.clients.items
      (λ k s s_at. (stand.each k s s_at).book ∙ ap (λ m. client_book W J (m * W.settings.clients + k)) (number_at n node at))
      ∙ ap (λ m. map (client_book W J) (range_with_len (n * W.settings.clients) m)) stand.count

  node_there : (n : ℕ) (t : FollowedNode) → slice_get nodes n ≡ Some t → (node : NodeRun) × (slice_get run.nodes n ≡ Some node)
  node_there n t at = let within = slice_get_within nodes n t at in let count = a.nodes_are.count in get_there run.nodes n (omega (arith, within, count))

  pub all_left : (ended : FollowedParts) → ended.clients.items ≡ flat_map books_left nodes → ended.agents.items ≡ map (λ (t : FollowedNode). t.follower.agent) nodes → AreLeft W J ended
  all_left ended clients agents =
      let each = W.settings.clients in
      let none : 0 * each ≡ 0 = omega arith in
      record {
        valid = a.valid;
        lawful = lawful;
        clients =
            ap (map client_book_of) clients
            ∙ rows_of (client_book W J) books_left client_book_of each 0 nodes
            (λ n t at.
            let there = node_there n t at in
            let on : n ≡ 0 + n = omega arith in
            row_left n there.0 t there.1 at ∙ ap (λ k. map (client_book W J) (range_with_len (k * each) each)) on)
            ∙ ap (λ s. map (client_book W J) (range_with_len s (length nodes * each))) none
            ∙ ap (λ n. map (client_book W J) (range_with_len 0 n)) (ap (λ n. n * each) a.nodes_are.many ∙ sym a.valid.count);
        agents = subst (AreAgentsOf W.settings run.nodes) (sym agents)
            (found_over (IsAgentOf W.settings) (λ (t : FollowedNode). t.follower.agent) run.nodes nodes a.nodes_are.count agent_left);
      }
