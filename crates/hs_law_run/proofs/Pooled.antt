-- What is known of a pool in the end makes it a pool of the journal.
use Rattle.std.proofs.Common.{◌≡◌, ◌⊎◌, ℕ, zero, suc, ◌+◌, ◌<◌, ◌≤◌, Bool, true, false, List, length, reverse, refl, sym, ap, subst, ◌∙◌, Option, Some, None, arith, map, filter, slice_get, nat_lt, ltb-true, ltb-false, option_map}
use Rattle.hs_law_run.proofs.Prelude.{AllByRecursion, range_with_len, option_and_then, length-map, length-reverse, length-range_with_len, slice_get-map, same_Some, all_at, filter_few, range_at, take_length, PlainJournal, EventsAddThis, Taken, AgentEvent, PlainWorkload, DrawnPage, ClientSends, client_sends, draws_at, place_of, ops_of, timed_pages, Deed, Answer, answers_in, answers_by, is_any_given, is_missed, Sheet, NodeRun, page_of, joined, NodeDoings, all_events, events_in, node_at_end, draw_answer, give_of, give_at, IsPooled, Lent, AreTurns, done_by}
use Rattle.hs_records.specs.declared.journal.Draw.TheVariants as draws
use Rattle.hs_words.specs.Ends.{AreAnswers}
use Rattle.hs_words.specs.PoolHistory as pool
use Rattle.hs_law_run.specs.Pools.{answers_to}
use Rattle.hs_law_run.proofs.PoolOf.{IsDrawnFor, IsPoolOf}
use Rattle.hs_law_run.proofs.Rounds.{starts_before, drawn_draws, page_of_draw}
use Rattle.hs_law_run.proofs.Turns.{turns_stamps, turns_misses, turns_kinds, turns_gives, turns_known, IsNamed}

answers_there : (log : List Deed) (f : ℕ → List Answer) (start count : ℕ) → AreAnswers (suc start) log (map f (range_with_len start count)) → (client : ℕ) → start ≤ client → client < start + count → f client ≡ answers_by (suc client) log
answers_there log f start zero are client low high = absurd (omega (arith, low, high))
answers_there log f start (suc count) are client low high = either (nat_lt start client) refl (λ low high. answers_there log f (start + 1) count later client low high)
  where
    next : suc start ≡ start + 1
    next = omega arith

    later : AreAnswers (suc (start + 1)) log (map f (range_with_len (start + 1) count))
    later = subst (λ m. AreAnswers (suc m) log (map f (range_with_len (start + 1) count))) next are.1

    either : (b : Bool) → nat_lt start client ≡ b → (start + 1 ≤ client → client < start + 1 + count → f client ≡ answers_by (suc client) log) → f client ≡ answers_by (suc client) log
    either true e further = let less = ltb-true start client e in further (omega (arith, less)) (omega (arith, high))
    either false e further = let high = ltb-false start client e in let same : start ≡ client = omega (arith, low, high) in subst (λ m. f m ≡ answers_by (suc m) log) same are.0

module _ (adds : EventsAddThis) (W : PlainWorkload) (J : PlainJournal) (n : NodeDoings) (rounds : ℕ) (p : IsPoolOf W J n rounds) where
  abbrev pub run : NodeRun
  run = node_at_end W J n

  pub whole : events_in n (length n.passes) ≡ all_events n
  whole = ap joined (take_length n.passes)

  pub last_turns : AreTurns W.settings n.node p.lents (all_events n) (p.at (length n.passes)).turns
  last_turns = subst (λ (events : List AgentEvent). AreTurns W.settings n.node p.lents events (p.at (length n.passes)).turns) whole (p.turns (length n.passes) (omega arith))

  pub answers_are : (client : ℕ) → client < W.settings.clients → (p.at rounds).answers client ≡ answers_by (suc client) p.log
  answers_are client few = answers_there p.log (p.at rounds).answers 0 W.settings.clients p.together.draws client (omega arith) (omega (arith, few))

  drawers : length (map (p.at rounds).answers (range_with_len 0 W.settings.clients)) ≡ W.settings.clients
  drawers = length-map (range_with_len 0 W.settings.clients) (p.at rounds).answers ∙ length-range_with_len 0 W.settings.clients

  few_draws : (client : ℕ) → client < W.settings.clients → length (draws_at J (place_of W.settings.clients n.node client)) ≤ length (timed_pages W.settings.size (ops_of W n.node client))
  few_draws client few =
      let long = sym (length-map (draws_at J (place_of W.settings.clients n.node client)) draw_answer) ∙ ap length (p.drawn client few) ∙ length-reverse ((p.at rounds).answers client) ∙ p.started rounds client (omega arith) few in
      let kept = filter_few (starts_before (done_by W n.node client rounds)) (timed_pages W.settings.size (ops_of W n.node client)) in
      omega (arith, long, kept)

  -- ---- what is given

  sends_there : (client : ℕ) → client < W.settings.clients → slice_get run.sends client ≡ Some (client_sends W J n.node client)
  sends_there client few = slice_get-map (client_sends W J n.node) (range_with_len 0 W.settings.clients) client ∙ ap (option_map (client_sends W J n.node)) (range_at 0 W.settings.clients client few ∙ ap (λ m. Some m) (omega arith))

  chunk_there : (place : ℕ) (lent : Lent) → slice_get p.lents place ≡ Some lent → option_map (λ (chunk : Taken). chunk.sheet) (slice_get run.state.taken place) ≡ Some lent.sheet
  chunk_there place lent there =
      sym (slice_get-map (λ (chunk : Taken). chunk.sheet) run.state.taken place) ∙ ap (λ (sheets : List Sheet). slice_get sheets place) (sym p.sheets) ∙ slice_get-map (λ (lent : Lent). lent.sheet) p.lents place
      ∙ ap (option_map (λ (lent : Lent). lent.sheet)) there

  page_given : (lent : Lent) (stamp : ℕ) → IsDrawnFor W J n.node lent
      → option_and_then (λ (page : DrawnPage). give_of stamp page.draw) (page_of run lent.sheet) ≡ Some (record { stamp = stamp; event = pool.Given lent.buffer; draw = lent.draw })
  page_given lent stamp d =
      let client = lent.sheet.header.client.number in
      let page = page_of_draw (record { node = n.node; number = client }) 0 (timed_pages W.settings.size (ops_of W n.node client)) (draws_at J (place_of W.settings.clients n.node client)) lent.sheet.header.page
      (draws.Got lent.buffer lent.draw) (few_draws client d.client) d.draw in
      ap (λ (o : Option ClientSends). option_and_then (λ (page : DrawnPage). give_of stamp page.draw) (option_and_then (λ (sends : ClientSends). slice_get sends.drawn lent.sheet.header.page) o)) (sends_there client d.client)
      ∙ ap (option_and_then (λ (page : DrawnPage). give_of stamp page.draw)) page.there
      ∙ ap (give_of stamp) page.draw_is

  pub named : IsNamed W.settings n.node p.lents (give_at run)
  named place lent stamp there = by_chunk (slice_get run.state.taken place) refl (chunk_there place lent there)
    where
      by_chunk : (o : Option Taken) → slice_get run.state.taken place ≡ o → option_map (λ (chunk : Taken). chunk.sheet) o ≡ Some lent.sheet
          → give_at run (record { place = place; stamp = stamp }) ≡ Some (record { stamp = stamp; event = pool.Given lent.buffer; draw = lent.draw })
      by_chunk None is h = let no : None ≡ Some lent.sheet = h in absurd cc
      by_chunk (Some chunk) is h =
          let sheet_is = same_Some chunk.sheet lent.sheet h in
          ap (λ (o : Option Taken). option_and_then (λ (page : DrawnPage). give_of stamp page.draw) (option_and_then (λ (chunk : Taken). page_of run chunk.sheet) o)) is
          ∙ ap (λ (sheet : Sheet). option_and_then (λ (page : DrawnPage). give_of stamp page.draw) (page_of run sheet)) sheet_is
          ∙ page_given lent stamp (all_at (IsDrawnFor W J n.node) p.lents place lent p.leases there)

  -- ---- the pool

  on_giver : {X : Type 0} (f : List Answer → X) → f (reverse (answers_in (p.at (length n.passes)).turns)) ≡ f (answers_to 0 p.log)
  on_giver f = ap (λ (answers : List Answer). f (reverse answers)) p.together.giver

  pub is_pooled : IsPooled W J n
  is_pooled =
      record {
        log = p.log;
        lawful = p.together.lawful;
        spent = p.together.spent;
        nobody_else = subst (λ m. AllByRecursion (λ (deed : Deed). deed.by ≤ m) p.log) drawers p.together.nobody_else;
        drawn = λ client few. p.drawn client few ∙ ap reverse (answers_are client few);
        paged = λ client few. drawn_draws (record { node = n.node; number = client }) 0 (timed_pages W.settings.size (ops_of W n.node client)) (draws_at J (place_of W.settings.clients n.node client)) (few_draws client few);
        kinds = subst (AllByRecursion (λ (a : Answer). (is_any_given a.event ≡ true) ⊎ (is_missed a.event ≡ true))) p.together.giver (turns_kinds W.settings n.node p.lents (all_events n) (p.at (length n.passes)).turns last_turns);
        gives = turns_gives W.settings n.node p.lents adds (give_at run) named (all_events n) (p.at (length n.passes)).turns last_turns ∙ on_giver (filter (λ (a : Answer). is_any_given a.event));
        known = turns_known W.settings n.node p.lents adds (give_at run) named (all_events n) (p.at (length n.passes)).turns last_turns;
        misses = turns_misses W.settings n.node p.lents (all_events n) (p.at (length n.passes)).turns last_turns ∙ on_giver (filter (λ (a : Answer). is_missed a.event));
        stamps = turns_stamps W.settings n.node p.lents (all_events n) (p.at (length n.passes)).turns last_turns ∙ on_giver (map (λ (a : Answer). a.stamp));
      }

  pub log_is : is_pooled.log ≡ p.log
  unfolding is_pooled
  log_is = refl
