-- Valid workloads are small: stamps and the numbers of groups fit with much room.
use Rattle.std.proofs.Common.{◌≡◌, ◌⊎◌, inl, inr, ℕ, zero, suc, ◌+◌, ◌*◌, ◌<◌, ◌≤◌, ◌^◌, List, [], ◌∷◌, ◌++◌, length, sym, ap, ◌∙◌, Some, arith, map, length-append}
use Rattle.hs_law_run.proofs.Prelude.{ends_at, drawn_few, range_with_len, option_map_or, length-map, map-append, flat_map-append, mul-add-lt, slice_get_within, MAX_OPERATIONS, ClientId, PlainJournal, PlainWorkload, ClientSends, client_sends, node_sends, draws_at, operations_at, place_of, TimedPage, timed_pages, IsValid, NodeRun, followed, IsRunnable, Known, Machine, node_at, sum_to, all_few}
use Rattle.hs_law_run.proofs.Closing.{size_of, all_of, sizes_are, admitted_few}
use Rattle.hs_law_run.proofs.Counting.{events_few}
use Rattle.hs_law_run.proofs.Followed.{count_nodes}
use Rattle.hs_law_run.proofs.Held.{node_events, IsHeld}
use Rattle.hs_law_run.proofs.Holding.{pages_in}
use Rattle.hs_law_run.proofs.Keeping.{range_parts, own_sends}
use Rattle.hs_law_run.proofs.Standing.{number_at}

-- one of the terms is no more than the sum
term_few : (f : ℕ → ℕ) (n i : ℕ) → i < n → f i ≤ sum_to f n
term_few f zero i low = absurd (omega (arith, low))
term_few f (suc n) i low = either (below_or i n) (λ less. term_few f n i less)
  where
    below_or : (a b : ℕ) → (a < b) ⊎ (b ≤ a)
    below_or a zero = inr (omega arith)
    below_or zero (suc b) = inl (omega arith)
    below_or (suc a) (suc b) = elim (below_or a b) as (λ _. (suc a < suc b) ⊎ (suc b ≤ suc a)) [ inl less ↦ inl (omega (arith, less)) | inr more ↦ inr (omega (arith, more)) ]

    either : (i < n) ⊎ (n ≤ i) → (i < n → f i ≤ sum_to f n) → f i ≤ sum_to f n + f n
    either (inl less) on = let rest = on less in omega (arith, rest)
    either (inr more) on = let same : i ≡ n = omega (arith, more, low) in let here = ap f same in omega (arith, here)

-- the pages of clients that have no more than these
pub pages_row : (f : ℕ → ClientSends) (g : ℕ → ℕ) (n : ℕ) → ((c : ℕ) → length (f c).drawn ≤ g c) → length (pages_in (map f (range_with_len 0 n))) ≤ sum_to g n
pages_row f g zero each = omega arith
pages_row f g (suc n) each =
    let one : suc n ≡ n + suc 0 = omega arith in
    let zeroth : 0 + n ≡ n = omega arith in
    let parts : pages_in (map f (range_with_len 0 (suc n))) ≡ pages_in (map f (range_with_len 0 n)) ++ ((f n).drawn ++ []) =
    ap (λ (n : ℕ). pages_in (map f (range_with_len 0 n))) one
    ∙ ap (λ (ns : List ℕ). pages_in (map f ns)) (range_parts 0 n 0)
    ∙ ap pages_in (map-append f (range_with_len 0 n) ((0 + n) ∷ []))
    ∙ flat_map-append (λ (s : ClientSends). s.drawn) (map f (range_with_len 0 n)) (f (0 + n) ∷ [])
    ∙ ap (λ (k : ℕ). pages_in (map f (range_with_len 0 n)) ++ ((f k).drawn ++ [])) zeroth
    in
    let long = ap length parts in
    let both = length-append (pages_in (map f (range_with_len 0 n))) ((f n).drawn ++ []) in
    let last = length-append (f n).drawn [] in
    let here = each n in
    let rest = pages_row f g n each in
    omega (arith, long, both, last, here, rest)

module _ (k : Known) (W : PlainWorkload) (runs : IsRunnable W) (valid : IsValid W) where
  abbrev clients : ℕ
  clients = W.settings.clients

  abbrev row : ℕ → ℕ
  row i = sum_to (λ c. size_of k W runs.laid runs.size runs.weights (place_of clients i c)) clients

  all_small : all_of k W runs.laid runs.size runs.weights ≤ 2 * MAX_OPERATIONS
  all_small =
      let few = all_few k.counted W.settings.size W.clients runs.laid.ends in
      let most = valid.few in
      omega (arith, few, most)

  row_few : (i : ℕ) → i < W.settings.nodes → row i ≤ 2 * MAX_OPERATIONS
  row_few i low =
      let one = term_few row W.settings.nodes i low in
      let all = sizes_are k W runs.laid runs.size runs.weights in
      let small = all_small in
      omega (arith, one, all, small)

  node_low : (m : Machine) (i : ℕ) (run : NodeRun) → node_at W m.journal i ≡ Some run → i < W.settings.nodes
  node_low m i run stands =
      let there = slice_get_within (followed W m.journal).nodes i run stands in
      let count = count_nodes k W m.journal in
      omega (arith, there, count)

  -- a client's place is one of those of the workload
  pub place_low : (m : Machine) (i number : ℕ) (run : NodeRun) → number < clients → node_at W m.journal i ≡ Some run → place_of clients i number < length W.clients
  place_low m i number run low stands =
      let there = mul-add-lt i clients number W.settings.nodes (node_low m i run stands) low in
      let count = runs.laid.clients in
      omega (arith, there, count)

  drawn_pages_few : (J : PlainJournal) (i c : ℕ) → length (client_sends W J i c).drawn ≤ size_of k W runs.laid runs.size runs.weights (place_of clients i c)
  drawn_pages_few J i c =
      let place = place_of clients i c in
      let ops = operations_at W place in
      let client : ClientId = record { node = i; number = c } in
      let drawn = drawn_few client 0 (timed_pages W.settings.size ops) (draws_at J place) in
      let pages = sym (length-map (timed_pages W.settings.size ops) (λ (p : TimedPage). p.page)) ∙ ap length (k.paged W.settings.size ops (ends_at W.clients place runs.laid.ends)) in
      omega (arith, drawn, pages)

  -- the events of a pool
  pub stamps_few : (m : Machine) (i : ℕ) (run later : NodeRun) → node_at W m.journal i ≡ Some run → later.sends ≡ run.sends → IsHeld W.settings later → length (node_events later) < 2 ^ 32
  stamps_few m i run later stands same h =
      let events = events_few W.settings later h in
      let sends = same ∙ own_sends k W m.journal i run stands ∙ ap (node_sends W m.journal) (number_at k W m i run stands) in
      let pages = ap (λ (sends : List ClientSends). length (pages_in sends)) sends in
      let few = pages_row (client_sends W m.journal i) (λ c. size_of k W runs.laid runs.size runs.weights (place_of clients i c)) clients (drawn_pages_few m.journal i) in
      let most = row_few i (node_low m i run stands) in
      omega (arith, events, pages, few, most)

  -- the groups of a node
  pub groups_few : (m : Machine) (i : ℕ) (run : NodeRun) → node_at W m.journal i ≡ Some run → run.state.admitted + 1 < 2 ^ 32
  groups_few m i run stands =
      let low = node_low m i run stands in
      let few = admitted_few k W runs.laid runs.size runs.weights m i low in
      let is = ap (λ o. option_map_or (λ (run : NodeRun). run.state.admitted) o 0) stands in
      let most = row_few i low in
      omega (arith, few, is, most)
