-- Agents and coordinator keep pace: by what meetings behind each round tell of stamps, by what receivers are told of links, and by the
-- messages and asks that are moved between rounds.
use Rattle.std.proofs.Common.{◌≡◌, ◌⊎◌, inl, inr, ℕ, zero, suc, ◌+◌, ◌-◌, ◌*◌, ◌<◌, ◌≤◌, min, Bool, true, false, ◌&&◌, cond, List, [], ◌∷◌, ◌++◌, length, take, refl, sym, ap, subst, ◌∙◌, Some, arith, map, slice_get, unwrap_or, count_by, find, nat_lt, nat_le, ltb-true, lt-ltb, le-leb, zip, append_assoc, eq-or-lt_of_le}
use Rattle.hs_law_run.proofs.Prelude.{AllByRecursion, flat_map, range_with_len, list_all, and_from, length-append, length-map, take-map, all_at, all_by_place, list_all_from, MAX_TAKEN, NodeId, Messages, Step, PlainJournal, EventsAddThis, AgentState, AgentEvent, PlainSettings, PlainWorkload, DrawnPage, stamp_of, Sent, ClientSends, client_sends, node_sends, sent_within, Queue, Chunks, Crumbs, Triggers, Asks, taken, asks_behind, asks_to, is_from, NodeRun, Run, steps_in, state_behind, log_stamps, round_of, asks_more, joined, NodeDoings, Doings, events_in, steps_of, state_after, chunk_in, crumb_in, trigger_in, chunks_in, crumbs_in, triggers_in, asks_in, all_heard, journal_of, node_at_end, run_of, IsPass, ArePlayable, pages_at, MeetsInRounds, IsToldInRounds, TakesInPace, AsksInPace, KeepsPace, DoingsAreFollowed}
use Rattle.hs_law_journal.specs.Doings.{heard_in}
use Rattle.hs_base.proofs.Ranges.{list_all_range}
use Rattle.hs_law_journal.specs.Pace.{is_beside, gives_in_pace, takes_enough, queue_in_pace, client_in_pace, items_in_pace, said_in, due_of, due_by, has_due, heard_by, asks_enough, asks_in_pace, inner_passes}
use Rattle.hs_law_journal.specs.Passes.{taken_in}
use Rattle.hs_law_run.specs.Playing.{AreInPace}
use Rattle.hs_law_run.proofs.Behind.{take_joined, steps_joined, log_passes, state_there}
use Rattle.hs_law_run.proofs.Clauses.{mapped_true}
use Rattle.hs_law_run.proofs.Following.{taken_chunks, taken_crumbs, taken_triggers, taken_asks}

-- ---- gives beside draws

module _ (W : PlainWorkload) (J : PlainJournal) (n : NodeDoings) (m : MeetsInRounds W J n) where
  abbrev stride : ℕ
  stride = W.settings.stride

  beside : (place : ℕ) (pass : List AgentEvent) → slice_get n.passes place ≡ Some pass → (i : ℕ) (stamp : ℕ) → slice_get (log_stamps (steps_of pass)) i ≡ Some stamp
      → (j : ℕ) (page : DrawnPage) → slice_get (pages_at W J n.node) j ≡ Some page → is_beside stride (suc place) stamp page ≡ true
  beside place pass there i stamp at j page on = either (nat_lt round (suc place)) refl (nat_lt (suc place) round) refl
    where
      round : ℕ
      round = round_of stride page.started

      either : (a : Bool) → nat_lt (round_of stride page.started) (suc place) ≡ a → (b : Bool) → nat_lt (suc place) (round_of stride page.started) ≡ b
          → cond a (nat_lt (stamp_of page.draw) stamp) (cond b (nat_lt stamp (stamp_of page.draw)) true) ≡ true
      either true e b f =
          let r = round_of stride page.started in
          let low : r < suc place = ltb-true r (suc place) e in
          let below = all_at (λ (page : DrawnPage). round_of W.settings.stride page.started ≤ r → stamp_of page.draw < m.giver r) (pages_at W J n.node) j page (m.drawn_below r) on (omega arith) in
          let above = all_at (λ stamp. m.giver r ≤ stamp) (log_stamps (steps_of pass)) i stamp (m.given_above r place pass (omega (arith, low)) there) at in
          lt-ltb (stamp_of page.draw) stamp (omega (arith, below, above))
      either false e true f =
          let high : suc place < round_of stride page.started = ltb-true (suc place) (round_of stride page.started) f in
          let below = all_at (λ stamp. stamp < m.drawer page.client.number (suc place)) (log_stamps (steps_of pass)) i stamp (m.given_below page.client.number (suc place) place pass (omega arith) there) at in
          let above = all_at (λ (page : DrawnPage). suc place < round_of W.settings.stride page.started → m.drawer page.client.number (suc place) ≤ stamp_of page.draw) (pages_at W J n.node) j page (m.drawn_above (suc place)) on high in
          lt-ltb stamp (stamp_of page.draw) (omega (arith, below, above))
      either false e false f = refl

  abbrev pass_beside : ℕ × List Step → Bool
  pass_beside pass = list_all (λ stamp. list_all (is_beside stride pass.0 stamp) (pages_at W J n.node)) (log_stamps pass.1)

  pass_true : (place : ℕ) (pass : List AgentEvent) → slice_get n.passes place ≡ Some pass → pass_beside (suc place, steps_of pass) ≡ true
  pass_true place pass there =
      list_all_from (λ stamp. list_all (is_beside stride (suc place) stamp) (pages_at W J n.node)) (log_stamps (steps_of pass))
      (all_by_place (λ stamp. list_all (is_beside stride (suc place) stamp) (pages_at W J n.node) ≡ true) (log_stamps (steps_of pass))
      (λ i stamp at.
      list_all_from (is_beside stride (suc place) stamp) (pages_at W J n.node)
      (all_by_place (λ page. is_beside stride (suc place) stamp page ≡ true) (pages_at W J n.node) (beside place pass there i stamp at))))

  passes_true : (place : ℕ) (passes : List (List AgentEvent)) → ((i : ℕ) (pass : List AgentEvent) → slice_get passes i ≡ Some pass → slice_get n.passes (place + i) ≡ Some pass)
      → list_all pass_beside (zip (range_with_len (suc place) (length (map steps_of passes))) (map steps_of passes)) ≡ true
  passes_true place [] there = refl
  passes_true place (pass ∷ passes) there =
      let more : suc place + 1 ≡ suc (suc place) = omega arith in
      let zeroth : place + 0 ≡ place = omega arith in
      and_from (pass_beside (suc place, steps_of pass)) (list_all pass_beside (zip (range_with_len (suc place + 1) (length (map steps_of passes))) (map steps_of passes)))
      (pass_true place pass (ap (slice_get n.passes) (sym zeroth) ∙ there 0 pass refl))
      (ap (λ start. list_all pass_beside (zip (range_with_len start (length (map steps_of passes))) (map steps_of passes))) more
      ∙ passes_true (suc place) passes (λ i p h. let next : suc place + i ≡ place + suc i = omega arith in ap (slice_get n.passes) next ∙ there (suc i) p h))

gives_true : EventsAddThis → (W : PlainWorkload) (J : PlainJournal) (n : NodeDoings) → AllByRecursion (IsPass W) n.passes → MeetsInRounds W J n → gives_in_pace W.settings (node_at_end W J n) ≡ true
gives_true adds W J n each m =
    ap (λ passes. list_all (pass_beside W J n m) (zip (range_with_len 1 (length passes)) passes)) (log_passes adds W J n each)
    ∙ passes_true W J n m 0 n.passes (λ i pass h. let zeroth : 0 + i ≡ i = omega arith in ap (slice_get n.passes) zeroth ∙ h)

-- ---- items

-- what is taken only grows
grows : {A : Type 0} (f : AgentEvent → List A) (passes : List (List AgentEvent)) (k : ℕ) → length (flat_map f (joined (take k passes))) ≤ length (flat_map f (joined (take (suc k) passes)))
grows f [] zero = omega arith
grows f [] (suc k) = omega arith
grows f (pass ∷ passes) zero = let some = length-append (flat_map f (pass ++ [])) [] in omega arith
grows f (pass ∷ passes) (suc k) =
    let rest = grows f passes k in
    let a = ap length (flat_on f pass (joined (take k passes))) ∙ length-append (flat_map f pass) (flat_map f (joined (take k passes))) in
    let b = ap length (flat_on f pass (joined (take (suc k) passes))) ∙ length-append (flat_map f pass) (flat_map f (joined (take (suc k) passes))) in
    omega (arith, rest, a, b)
  where
    flat_on : {X Y : Type 0} (f : X → List Y) (a b : List X) → flat_map f (a ++ b) ≡ flat_map f a ++ flat_map f b
    flat_on f [] b = refl
    flat_on f (x ∷ a) b = ap (λ rest. f x ++ rest) (flat_on f a b) ∙ sym (append_assoc (f x) (flat_map f a) (flat_map f b))

module _ (settings : PlainSettings) (passes : List (List AgentEvent)) where
  abbrev cut : List (List Step)
  cut = map steps_of passes

  taken_cut : (queue : Queue) (k : ℕ) → taken_in cut queue k ≡ taken queue (steps_of (joined (take k passes)))
  taken_cut queue k = ap (λ steps. taken queue (joined steps)) (take-map steps_of k passes) ∙ ap (taken queue) (steps_joined (take k passes))

  -- enough is taken by the pass behind the next
  enough : (sent count told : ℕ → ℕ) (j : ℕ) → count j ≤ count (suc j) → min (sent (suc j)) (count j + MAX_TAKEN) ≤ told (suc j) → min (told (suc j)) (count (suc j) + MAX_TAKEN) ≤ count (suc (suc j))
      → min (sent (suc j)) (count j + MAX_TAKEN) ≤ count (suc (suc j))
  enough sent count told j more hears takes = omega (arith, more, hears, takes)

  module _ {A : Type 0} (queue : Queue) (items : List (Sent A)) (count : ℕ → ℕ) (is : (k : ℕ) → taken_in cut queue k ≡ count k) (more : (k : ℕ) → count k ≤ count (suc k))
      (t : IsToldInRounds settings (length passes) count (λ k. length (sent_within (k * settings.stride) items)))
    where
      enough_at : (k : ℕ) → 1 ≤ k → k < 1 + (length cut - 1) → takes_enough cut queue (length (sent_within (k * settings.stride) items)) k ≡ true
      enough_at zero low high = absurd (omega (arith, low))
      enough_at (suc j) low high =
          let long = length-map passes steps_of in
          let below : suc j < length passes = omega (arith, high, long) in
          let before = is (suc j - 1) in
          let behind = is (suc j + 1) in
          let less : suc j - 1 ≡ j = omega arith in
          let next : suc j + 1 ≡ suc (suc j) = omega arith in
          let first = ap count less in
          let last = ap count next in
          let takes = enough (λ k. length (sent_within (k * settings.stride) items)) count t.told j (more j) (t.hears j (omega (arith, below))) (t.takes (suc j) below) in
          le-leb (min (length (sent_within (suc j * settings.stride) items)) (taken_in cut queue (suc j - 1) + MAX_TAKEN)) (taken_in cut queue (suc j + 1)) (omega (arith, before, behind, first, last, takes))

      queue_true : queue_in_pace settings cut queue items ≡ true
      queue_true = list_all_range (λ k. takes_enough cut queue (length (sent_within (k * settings.stride) items)) k) 1 (length cut - 1) enough_at

module _ (W : PlainWorkload) (J : PlainJournal) (n : NodeDoings) where
  client_true : (client : ℕ) → TakesInPace W J n client → client_in_pace W.settings (map steps_of n.passes) client (client_sends W J n.node client) ≡ true
  client_true client t =
      let s = client_sends W J n.node client in
      let passes = map steps_of n.passes in
      and_from (queue_in_pace W.settings passes (Chunks client) s.chunks && queue_in_pace W.settings passes (Crumbs client) s.crumbs) (queue_in_pace W.settings passes (Triggers client) s.triggers)
      (and_from (queue_in_pace W.settings passes (Chunks client) s.chunks) (queue_in_pace W.settings passes (Crumbs client) s.crumbs)
      (queue_true W.settings n.passes (Chunks client) s.chunks (λ k. length (chunks_in client (events_in n k))) (λ k. taken_cut W.settings n.passes (Chunks client) k ∙ taken_chunks client (events_in n k)) (grows (chunk_in client) n.passes) t.chunks)
      (queue_true W.settings n.passes (Crumbs client) s.crumbs (λ k. length (crumbs_in client (events_in n k))) (λ k. taken_cut W.settings n.passes (Crumbs client) k ∙ taken_crumbs client (events_in n k)) (grows (crumb_in client) n.passes) t.crumbs))
      (queue_true W.settings n.passes (Triggers client) s.triggers (λ k. length (triggers_in client (events_in n k))) (λ k. taken_cut W.settings n.passes (Triggers client) k ∙ taken_triggers client (events_in n k)) (grows (trigger_in client) n.passes) t.triggers)

  clients_true : ((client : ℕ) → client < W.settings.clients → TakesInPace W J n client) → (start count : ℕ) → start + count ≤ W.settings.clients
      → list_all (λ (c : ℕ × ClientSends). client_in_pace W.settings (map steps_of n.passes) c.0 c.1) (zip (range_with_len start (length (map (client_sends W J n.node) (range_with_len start count)))) (map (client_sends W J n.node) (range_with_len start count)))
      ≡ true
  clients_true each start zero few = refl
  clients_true each start (suc count) few =
      and_from (client_in_pace W.settings (map steps_of n.passes) start (client_sends W J n.node start))
      (list_all (λ (c : ℕ × ClientSends). client_in_pace W.settings (map steps_of n.passes) c.0 c.1)
      (zip (range_with_len (start + 1) (length (map (client_sends W J n.node) (range_with_len (start + 1) count)))) (map (client_sends W J n.node) (range_with_len (start + 1) count))))
      (client_true start (each start (omega (arith, few)))) (clients_true each (start + 1) count (omega (arith, few)))

items_true : EventsAddThis → (W : PlainWorkload) (J : PlainJournal) (n : NodeDoings) → AllByRecursion (IsPass W) n.passes → ((client : ℕ) → client < W.settings.clients → TakesInPace W J n client)
    → items_in_pace W.settings (node_at_end W J n) ≡ true
items_true adds W J n each t =
    ap (λ passes. list_all (λ (c : ℕ × ClientSends). client_in_pace W.settings passes c.0 c.1) (zip (range_with_len 0 (length (node_sends W J n.node))) (node_sends W J n.node))) (log_passes adds W J n each)
    ∙ clients_true W J n t 0 W.settings.clients (omega arith)

-- ---- asks

-- the least number that passes is no greater than one that does
least : (p : ℕ → Bool) (start count bound : ℕ) → start ≤ bound → (bound < start + count → p bound ≡ true) → unwrap_or (find p (range_with_len start count)) (start + count) ≤ bound ⊎ (start + count ≤ bound)
least p start zero bound low passes = let none : start + 0 ≤ bound = omega (arith, low) in inr none
least p start (suc count) bound low passes = either (p start) refl (λ up. least p (start + 1) count bound up (λ less. passes (omega (arith, less))))
  where
    either : (b : Bool) → p start ≡ b
        → (start + 1 ≤ bound → unwrap_or (find p (range_with_len (start + 1) count)) (start + 1 + count) ≤ bound ⊎ (start + 1 + count ≤ bound))
        → unwrap_or (cond b (Some start) (find p (range_with_len (start + 1) count))) (start + suc count) ≤ bound ⊎ (start + suc count ≤ bound)
    either true e on = inl low
    either false e on =
        let next : start + 1 + count ≡ start + suc count = omega arith in
        subst (λ end. unwrap_or (find p (range_with_len (start + 1) count)) end ≤ bound ⊎ (end ≤ bound)) next (on up)
      where
        up : start + 1 ≤ bound
        up = by_case (eq-or-lt_of_le low)
          where
            by_case : (start ≡ bound) ⊎ (start < bound) → start + 1 ≤ bound
            by_case (inl same) = let yes = passes (omega (arith, same)) in let no : false ≡ true = sym e ∙ ap p same ∙ yes in absurd cc
            by_case (inr less) = omega (arith, less)

none_of : {X : Type 0} (k : ℕ) (xs : List X) → xs ≡ [] → take k xs ≡ []
none_of zero xs same = refl
none_of (suc k) [] same = refl
none_of (suc k) (x ∷ xs) same = let no : x ∷ xs ≡ [] = same in absurd cc

front_of : {X : Type 0} (xs : List X) (m k : ℕ) → m ≤ k → (more : List X) × (take k xs ≡ take m xs ++ more)
front_of xs zero k low = (take k xs, refl)
front_of [] (suc m) k low = ([], none_of k [] refl)
front_of (x ∷ xs) (suc m) zero low = absurd (omega (arith, low))
front_of (x ∷ xs) (suc m) (suc k) low = let rest = front_of xs m k (omega (arith, low)) in (rest.0, ap (λ all. x ∷ all) rest.1)

module _ (adds : EventsAddThis) (W : PlainWorkload) (d : Doings) (facts : ArePlayable W d) where
  abbrev J : PlainJournal
  J = journal_of W d

  abbrev run : Run
  run = run_of W d

  abbrev end_of : NodeDoings → NodeRun
  end_of n = node_at_end W J n

  abbrev id_of : NodeDoings → NodeId
  id_of n = record { 0 = n.node }

  -- how many of a node's messages the coordinator took behind so many passes
  abbrev heard_of : NodeDoings → ℕ → ℕ
  heard_of n k = count_by (is_from (id_of n)) (heard_in d k)

  module _ (n : NodeDoings) (each : AllByRecursion (IsPass W) n.passes) (a : AsksInPace W d n) where
    said_is : (k : ℕ) → said_in W.settings (end_of n) k ≡ length (state_after W.settings n k).said
    said_is k =
        ap (λ passes. length (state_behind W.settings (end_of n) (steps_in passes k)).said) (log_passes adds W J n each) ∙ ap (λ (s : AgentState). length s.said) (state_there adds W J n each k)

    due_heard : (p : ℕ) → suc p ≤ length n.passes → due_of (said_in W.settings (end_of n)) p ≤ heard_of n (suc p)
    due_heard zero low = omega arith
    due_heard (suc p) low =
        let before = due_heard p (omega (arith, low)) in
        let said = said_is (suc p) in
        let heard = a.heard (suc p) (omega (arith, low)) in
        omega (arith, before, said, heard)

    has_due_at : (k : ℕ) → 1 ≤ k → k ≤ length n.passes → nat_le (due_by W.settings k (end_of n)) (heard_of n k) ≡ true
    has_due_at zero low high = absurd (omega (arith, low))
    has_due_at (suc p) low high =
        let less : suc p - 1 ≡ p = omega arith in
        let due = ap (due_of (said_in W.settings (end_of n))) less in
        let heard = due_heard p high in
        le-leb (due_by W.settings (suc p) (end_of n)) (heard_of n (suc p)) (omega (arith, due, heard))

  record IsPaced (n : NodeDoings) : Type 0 where
    each : AllByRecursion (IsPass W) n.passes
    asks : AsksInPace W d n
    long : length n.passes ≡ length d.heard

  all_due : (k : ℕ) → 1 ≤ k → k ≤ length d.heard → (ns : List NodeDoings) → AllByRecursion IsPaced ns
      → list_all (λ (node : NodeRun). nat_le (due_by W.settings k node) (count_by (is_from (record { 0 = node.node })) (heard_in d k))) (map end_of ns) ≡ true
  all_due k low high [] all = refl
  all_due k low high (n ∷ ns) all =
      let long = all.0.long in
      and_from (nat_le (due_by W.settings k (end_of n)) (heard_of n k)) (list_all (λ (node : NodeRun). nat_le (due_by W.settings k node) (count_by (is_from (record { 0 = node.node })) (heard_in d k))) (map end_of ns))
      (has_due_at n all.0.each all.0.asks k low (omega (arith, high, long))) (all_due k low high ns all.1)

  module _ (paced : AllByRecursion IsPaced d.nodes) where
    -- what has to have been heard by a pass was heard behind the passes before
    heard_before : (k : ℕ) → 1 ≤ k → k ≤ length d.heard → (more : Messages) × (heard_in d k ≡ heard_by W.settings run k ++ more)
    heard_before k low high =
        let all = all_heard d in
        let bound = length (heard_in d k) in
        let test : ℕ → Bool = λ m. has_due W.settings run k (take m all) in
        let front : take bound all ≡ heard_in d k = take_joined d.heard k in
        let due : test bound ≡ true = ap (has_due W.settings run k) front ∙ all_due k low high d.nodes paced in
        let whole = take_length d.heard k in
        let number = unwrap_or (find test (range_with_len 0 (length all))) (length all) in
        let found : number ≤ bound = either bound number whole (ap (λ e. unwrap_or (find test (range_with_len 0 (length all))) e) (zeroth (length all))) (least test 0 (length all) bound (omega arith) (λ less. due)) in
        let f = front_of all number bound found in
        (f.0, sym front ∙ f.1)
      where
        zeroth : (n : ℕ) → n ≡ 0 + n
        zeroth n = omega arith

        take_length : (lists : List Messages) (k : ℕ) → length (joined (take k lists)) ≤ length (joined lists)
        take_length lists zero = omega arith
        take_length [] (suc k) = omega arith
        take_length (x ∷ lists) (suc k) =
            let rest = take_length lists k in let a = length-append x (joined (take k lists)) in let b = length-append x (joined lists) in omega (arith, rest, a, b)

        either : (bound number : ℕ) → bound ≤ length (all_heard d)
            → number ≡ unwrap_or (find (λ m. has_due W.settings run k (take m (all_heard d))) (range_with_len 0 (length (all_heard d)))) (0 + length (all_heard d))
            → (unwrap_or (find (λ m. has_due W.settings run k (take m (all_heard d))) (range_with_len 0 (length (all_heard d)))) (0 + length (all_heard d)) ≤ bound) ⊎ (0 + length (all_heard d) ≤ bound) → number ≤ bound
        either bound number most is (inl low) = omega (arith, is, low)
        either bound number most is (inr high) = by_full number is
          where
            by_full : (number : ℕ) → number ≡ unwrap_or (find (λ m. has_due W.settings run k (take m (all_heard d))) (range_with_len 0 (length (all_heard d)))) (0 + length (all_heard d)) → number ≤ bound
            by_full number is =
                let low = never_past (λ m. has_due W.settings run k (take m (all_heard d))) 0 (length (all_heard d)) in omega (arith, is, low, high)
              where
                never_past : (p : ℕ → Bool) (start count : ℕ) → unwrap_or (find p (range_with_len start count)) (start + count) ≤ start + count
                never_past p start zero = omega arith
                never_past p start (suc count) = by_test (p start) (never_past p (start + 1) count)
                  where
                    by_test : (b : Bool) → unwrap_or (find p (range_with_len (start + 1) count)) (start + 1 + count) ≤ start + 1 + count
                        → unwrap_or (cond b (Some start) (find p (range_with_len (start + 1) count))) (start + suc count) ≤ start + suc count
                    by_test true h = omega arith
                    by_test false h =
                        let next : start + 1 + count ≡ start + suc count = omega arith in subst (λ e. unwrap_or (find p (range_with_len (start + 1) count)) e ≤ e) next h

    module _ (n : NodeDoings) (p : IsPaced n) where
      abbrev passes_cut : List (List Step)
      passes_cut = map steps_of n.passes

      asks_taken : (k : ℕ) → taken_in passes_cut Asks k ≡ length (asks_in (events_in n k))
      asks_taken k = taken_cut W.settings n.passes Asks k ∙ taken_asks (events_in n k)

      enough_asks : (k : ℕ) → 1 ≤ k → k < 1 + (length passes_cut - 1) → asks_enough W.settings run (end_of n) passes_cut k ≡ true
      enough_asks k low high =
          let long = length-map n.passes steps_of in
          let same = p.long in
          let before = asks_taken k in
          let next : k + 1 ≡ suc k = omega arith in
          let behind = ap (taken_in passes_cut Asks) next ∙ asks_taken (suc k) in
          let h = heard_before k low (omega (arith, high, long, same)) in
          let whole = ap length (ap (asks_to n.node) h.1 ∙ asks_more n.node [] (heard_by W.settings run k) h.0) ∙ length-append (asks_to n.node (heard_by W.settings run k)) (asks_behind n.node (heard_by W.settings run k) h.0) in
          let takes = p.asks.asks k (omega (arith, high, long)) in
          le-leb (min MAX_TAKEN (length (asks_to n.node (heard_by W.settings run k)) - taken_in passes_cut Asks k)) (taken_in passes_cut Asks (k + 1) - taken_in passes_cut Asks k)
          (omega (arith, before, behind, whole, takes))

      asks_true : asks_in_pace W.settings run (end_of n) ≡ true
      asks_true =
          ap (λ passes. list_all (asks_enough W.settings run (end_of n) passes) (inner_passes passes)) (log_passes adds W J n p.each)
          ∙ list_all_range (asks_enough W.settings run (end_of n) passes_cut) 1 (length passes_cut - 1) enough_asks

    abbrev node_pace : NodeRun → Bool
    node_pace node = gives_in_pace W.settings node && items_in_pace W.settings node && asks_in_pace W.settings run node

    nodes_true : (ns : List NodeDoings) → AllByRecursion IsPaced ns → AllByRecursion (KeepsPace W d) ns → AllByRecursion (λ (n : NodeDoings). node_pace (end_of n) ≡ true) ns
    nodes_true [] all pace = tt
    nodes_true (n ∷ ns) all pace = (
      and_from (gives_in_pace W.settings (end_of n) && items_in_pace W.settings (end_of n)) (asks_in_pace W.settings run (end_of n))
          (and_from (gives_in_pace W.settings (end_of n)) (items_in_pace W.settings (end_of n)) (gives_true adds W J n all.0.each pace.0.gives) (items_true adds W J n all.0.each pace.0.items))
          (asks_true n all.0),
      nodes_true ns all.1 pace.1,
    )

  all_paced : (ns : List NodeDoings) → AllByRecursion (λ (n : NodeDoings). AllByRecursion (IsPass W) n.passes) ns → AllByRecursion (KeepsPace W d) ns → AllByRecursion (λ (n : NodeDoings). length n.passes ≡ length d.heard) ns
      → AllByRecursion IsPaced ns
  all_paced [] each pace long = tt
  all_paced (n ∷ ns) each pace long = (record { each = each.0; asks = pace.0.asks; long = long.0 }, all_paced ns each.1 pace.1 long.1)

pub are_in_pace : DoingsAreFollowed → EventsAddThis → AreInPace
are_in_pace follows adds W d facts passes pace =
    let paced = all_paced adds W d facts d.nodes passes pace facts.passes in
    ap (λ (run : Run). list_all (λ (node : NodeRun). gives_in_pace W.settings node && items_in_pace W.settings node && asks_in_pace W.settings run node) run.nodes) (follows W d facts)
    ∙ mapped_true (node_pace adds W d facts paced) (node_at_end W (journal_of W d)) d.nodes (nodes_true adds W d facts paced d.nodes paced pace)
