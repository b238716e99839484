-- A story has all that makes its journal lawful.
use Rattle.std.proofs.Common.{◌≡◌, ℕ, zero, suc, ◌+◌, ◌*◌, ◌<◌, ◌≤◌, List, [], ◌∷◌, length, refl, sym, ap, subst, ◌∙◌, Option, Some, unwrap_or, arith, map, slice_get, count_by, nat_lt}
use Rattle.hs_law_run.proofs.Prelude.{AllByRecursion, range_with_len, length-map, length-reverse, all_each, all_by_place, filter_few, Message, EventsAddThis, AgentState, AgentEvent, pages_of, Operation, PlainWorkload, count_started, TimedPagesAreTimely, Sent, ClientSends, client_sends, sent_within, place_of, ops_of, TimedPage, timed_pages, asks_to, is_from, IsValid, NodeDoings, events_in, chunks_in, crumbs_in, triggers_in, asks_in, journal_of, node_at_end, run_of, IsPass, IsPlayable, ArePlayable, HaveRounds, IsToldInRounds, TakesInPace, AsksInPace, KeepsPace, draw_answer, IsPooled, IsPooledUnread, done_by, agent_of, Story, added, node_doings, doings_of, draws_of, sends_at, IsQueueStory, sent_by, IsStory, HasNothingLeft, EndsPasses}
use Rattle.std.proofs.lemmas.Simd.{map-map}
use Rattle.hs_client.specs.Laws.{TimedPagesAreThePages}
use Rattle.hs_client.specs.SoFar.{AllChunksAreSent, AllCrumbsAreSent, AllTriggersAreSent}
use Rattle.hs_law_run.specs.Facts.{HaveDrawn}
use Rattle.hs_law_run.specs.Playing.{AreLawfulDoings}
use Rattle.hs_law_run.specs.Unread.{ArePooledUnread}
use Rattle.hs_law_run.specs.Laws.{agent_behind}
use Rattle.hs_law_journal.proofs.Joined.{mapped_long, all_mapped_range}
use Rattle.hs_law_run.proofs.Rounds.{IsFit, all_start, all_counted}
use Rattle.hs_law_run.proofs.Workloads.{fit_of, rounds_low, node_client}
use Rattle.hs_law_run.proofs.Queues.{within_all, queue_in_rounds}
use Rattle.hs_law_run.proofs.Meeting.{meets_in_rounds}
use Rattle.hs_law_run.proofs.UnreadShown.{is_pooled_unread}
use Rattle.hs_law_run.proofs.Doing.{heard_are, all_heard_are, own_sends, events_are, events_beyond, state_is, state_there, long, nothing_left, is_playable, each_pass, all_offers, pool_of}
use Rattle.hs_law_run.specs.Pools.{ClosedPoolsKeep}

-- what is known of what clients send
pub record Known : Type 0 where
  pub timely : TimedPagesAreTimely
  pub paged : TimedPagesAreThePages
  pub chunks : AllChunksAreSent
  pub crumbs : AllCrumbsAreSent
  pub triggers : AllTriggersAreSent
  pub adds : EventsAddThis
  pub keep : ClosedPoolsKeep

module _ (known : Known) (W : PlainWorkload) (valid : IsValid W) (s : Story) (story : IsStory W s) where
  pub fit : IsFit W
  fit = fit_of W valid

  -- ---- the pace

  module _ (node : ℕ) (low : node < W.settings.nodes) (client : ℕ) (few : client < W.settings.clients) where
    within_round : {A : Type 0} (items : List (Sent A)) → sent_within (length (ops_of W node client)) items ≡ items → (k : ℕ) → length (sent_within (k * W.settings.stride) items) ≡ sent_by W node client items k
    within_round items whole k = ap length (within_all (k * W.settings.stride) (length (ops_of W node client)) items whole)

    in_rounds : {A B : Type 0} (part : ClientSends → List (Sent A)) (taken : List AgentEvent → List B) → sent_within (length (ops_of W node client)) (part (sends_at W s node client)) ≡ part (sends_at W s node client)
        → IsQueueStory s.rounds s.passes (λ k. length (taken ((s.nodes node).events k))) (sent_by W node client (part (sends_at W s node client))) (length (part (sends_at W s node client)))
        → IsToldInRounds W.settings (length (node_doings s node).passes) (λ k. length (taken (events_in (node_doings s node) k)))
        (λ k. length (sent_within (k * W.settings.stride) (part (client_sends W (journal_of W (doings_of W s)) node client))))
    in_rounds {A} part taken whole q =
        queue_in_rounds W.settings s.rounds s.passes (λ k. length (taken ((s.nodes node).events k))) (sent_by W node client (part (sends_at W s node client))) (length (part (sends_at W s node client))) q story.enough
        (λ k. length (taken (events_in (node_doings s node) k))) (λ k. length (sent_within (k * W.settings.stride) (part (client_sends W (journal_of W (doings_of W s)) node client))))
        (λ k within. ap (λ (events : List AgentEvent). length (taken events)) (events_are W s story node low k within))
        (λ k beyond. ap (λ (events : List AgentEvent). length (taken events)) (events_beyond W s story node low k beyond))
        (λ k. ap (λ (sends : ClientSends). length (sent_within (k * W.settings.stride) (part sends))) (own_sends W s story valid node client low few) ∙ within_round (part (sends_at W s node client)) whole k)
        (λ k. filter_few (λ (item : Sent A). nat_lt item.number (done_by W node client k)) (part (sends_at W s node client)))
        (length (node_doings s node).passes) (long W s story node low)

    takes_in_pace : TakesInPace W (journal_of W (doings_of W s)) (node_doings s node) client
    takes_in_pace =
        let t = (story.each node low).takes client few in
        let f = fit_of W valid in
        let bracketed = f.bracketed (place_of W.settings.clients node client) in
        record {
          chunks = in_rounds (λ (sends : ClientSends). sends.chunks) (chunks_in client) (known.chunks W.settings.size (record { node = node; number = client }) (ops_of W node client) (draws_of W s node client) f.least bracketed) t.chunks;
          crumbs = in_rounds (λ (sends : ClientSends). sends.crumbs) (crumbs_in client) (known.crumbs (ops_of W node client)) t.crumbs;
          triggers = in_rounds (λ (sends : ClientSends). sends.triggers) (triggers_in client) (known.triggers W.settings.autos (ops_of W node client)) t.triggers;
        }

  asks_in_pace : (node : ℕ) (low : node < W.settings.nodes) → AsksInPace W (doings_of W s) (node_doings s node)
  asks_in_pace node low =
      record {
        asks = λ k few.
            let count = long W s story node low in
            let h = ap (λ heard. length (asks_to node heard)) (heard_are W s story k (omega (arith, few, count))) in
            let t = ap (λ (events : List AgentEvent). length (asks_in events)) (events_are W s story node low k (omega (arith, few, count))) in
            let u = ap (λ (events : List AgentEvent). length (asks_in events)) (events_are W s story node low (suc k) (omega (arith, few, count))) in
            let is = (story.each node low).talks.asks k (omega (arith, few, count)) in
            omega (arith, h, t, u, is);
        heard = λ k few.
            let count = long W s story node low in
            let h = ap (count_by (is_from (record { 0 = node }))) (heard_are W s story k (omega (arith, few, count))) in
            let g = ap (count_by (is_from (record { 0 = node }))) (heard_are W s story (suc k) (omega (arith, few, count))) in
            let t = ap (λ (state : AgentState). length state.said) (state_there W s story node low k (omega (arith, few, count))) in
            let is = (story.each node low).talks.hears k (omega (arith, few, count)) in
            omega (arith, h, g, t, is);
      }

  keeps_pace : (node : ℕ) (low : node < W.settings.nodes) → KeepsPace W (doings_of W s) (node_doings s node)
  keeps_pace node low =
      record {
        gives = meets_in_rounds known.timely W (fit_of W valid) (journal_of W (doings_of W s)) (node_doings s node) s.rounds (pool_of W s story node low valid);
        items = takes_in_pace node low;
        asks = asks_in_pace node low;
      }

  -- ---- all nodes

  every : (P : NodeDoings → Type 0) → ((node : ℕ) → node < W.settings.nodes → P (node_doings s node)) → AllByRecursion P (doings_of W s).nodes
  every P each = all_mapped_range P (node_doings s) W.settings.nodes each

  numbered : (start count : ℕ) → map (λ (n : NodeDoings). n.node) (map (node_doings s) (range_with_len start count)) ≡ range_with_len start count
  numbered start zero = refl
  numbered start (suc count) = ap (λ rest. start ∷ rest) (numbered (start + 1) count)

  pub are_playable : ArePlayable W (doings_of W s)
  are_playable =
      record {
        numbers = numbered 0 W.settings.nodes;
        passes = every (λ (n : NodeDoings). length n.passes ≡ length (doings_of W s).heard) (λ node low. long W s story node low ∙ sym (mapped_long (added s.heard) s.passes));
        each = every (IsPlayable W (doings_of W s)) (λ node low. is_playable W s story node low valid);
        from = subst (AllByRecursion (λ (m : Message). m.node.0 < W.settings.nodes)) (sym (all_heard_are W s story)) story.from;
      }

  -- ---- draws

  count_all : (node : ℕ) → node < W.settings.nodes → (client : ℕ) → client < W.settings.clients → length (draws_of W s node client) ≡ length (pages_of W.settings.size (ops_of W node client))
  count_all node low client few =
      let p = (story.each node low).pools in
      let f = fit_of W valid in
      let ops = ops_of W node client in
      let done = (story.each node low).done client few in
      let all : done_by W node client s.rounds ≡ length ops = omega (arith, done) in
      sym (length-map (draws_of W s node client) draw_answer) ∙ ap length (p.drawn client few) ∙ length-reverse (((s.nodes node).ends s.rounds).answers client) ∙ p.started s.rounds client (omega arith) few
      ∙ ap (count_started W.settings.size ops) all
      ∙ ap length (all_counted (length ops) (timed_pages W.settings.size ops) (all_start 0 (length ops) (timed_pages W.settings.size ops) (known.timely W.settings.size ops f.least (f.bracketed (place_of W.settings.clients node client)))))
      ∙ sym (length-map (timed_pages W.settings.size ops) (λ (p : TimedPage). p.page))
      ∙ ap length (known.paged W.settings.size ops (f.bracketed (place_of W.settings.clients node client)))

  by_places : {X : Type 0} (f : ℕ → ℕ) (g : X → ℕ) (start : ℕ) (xs : List X) → ((i : ℕ) (x : X) → slice_get xs i ≡ Some x → f (start + i) ≡ g x) → map f (range_with_len start (length xs)) ≡ map g xs
  by_places f g start [] each = refl
  by_places f g start (x ∷ xs) each =
      let zeroth : start ≡ start + 0 = omega arith in
      ap (λ m. m ∷ map f (range_with_len (start + 1) (length xs))) (ap f zeroth ∙ each 0 x refl)
      ∙ ap (λ rest. g x ∷ rest) (by_places f g (start + 1) xs (λ i y h. let next : start + 1 + i ≡ start + suc i = omega arith in ap f next ∙ each (suc i) y h))

  have_drawn : HaveDrawn W (doings_of W s)
  have_drawn =
      map-map length s.draws (range_with_len 0 (length W.clients))
      ∙ by_places (λ place. length (s.draws place)) (λ ops. length (pages_of W.settings.size ops)) 0 W.clients
      (λ i ops h.
      let at = node_client W valid i ops h in
      let zeroth : 0 + i ≡ i = omega arith in
      ap (λ place. length (s.draws place)) (zeroth ∙ at.place_is) ∙ count_all at.node at.low at.client at.few ∙ ap (λ (o : Option (List Operation)). length (pages_of W.settings.size (unwrap_or o []))) (ap (slice_get W.clients) (sym at.place_is) ∙ h))

  have_rounds : HaveRounds W (doings_of W s)
  have_rounds =
      let count = mapped_long (added s.heard) s.passes in
      let enough = story.enough in
      let most =
      rounds_low W (fit_of W valid) s.rounds
      (all_by_place (λ (ops : List Operation). length ops ≤ s.rounds * W.settings.stride) W.clients
      (λ i ops h.
      let at = node_client W valid i ops h in
      subst (λ (list : List Operation). length list ≤ s.rounds * W.settings.stride) (ap (λ (o : Option (List Operation)). unwrap_or o []) (ap (slice_get W.clients) (sym at.place_is) ∙ h)) ((story.each at.node at.low).done at.client at.few))) in
      omega (arith, count, enough, most)

  -- ---- all

  pub are_pooled_unread : ArePooledUnread W (doings_of W s)
  are_pooled_unread =
      every (IsPooledUnread W (journal_of W (doings_of W s)))
      (λ node low.
      is_pooled_unread known.adds known.timely W (fit_of W valid) (journal_of W (doings_of W s)) (node_doings s node) s.rounds (pool_of W s story node low valid) (each_pass W s story node low))

  keep : ClosedPoolsKeep
  keep = known.keep

  pub are_lawful : AreLawfulDoings W (doings_of W s)
  are_lawful =
      record {
        playable = are_playable;
        drawn = have_drawn;
        passes = every (λ (n : NodeDoings). AllByRecursion (IsPass W) n.passes) (λ node low. each_pass W s story node low);
        rounds = have_rounds;
        left = every (HasNothingLeft W (doings_of W s)) (λ node low. nothing_left W s story node low valid);
        offers = every (EndsPasses W) (λ node low. all_offers W s story node low);
        pace = every (KeepsPace W (doings_of W s)) (λ node low. keeps_pace node low);
        pools = keep W (doings_of W s) are_playable (all_each (IsPooledUnread W (journal_of W (doings_of W s))) (IsPooled W (journal_of W (doings_of W s))) (doings_of W s).nodes (λ n p. p.pool) are_pooled_unread);
      }

  -- where the agents stand in the run to which the journal leads
  pub agents_are : map agent_of (run_of W (doings_of W s)).nodes ≡ map (agent_behind W s) (range_with_len 0 W.settings.nodes)
  agents_are = from 0 W.settings.nodes (λ node low high. ap (λ (state : AgentState). record { node = node; state = state }) (state_is W s story node (omega (arith, high))))
    where
      from : (start count : ℕ) → ((node : ℕ) → start ≤ node → node < start + count → agent_of (node_at_end W (journal_of W (doings_of W s)) (node_doings s node)) ≡ agent_behind W s node)
          → map agent_of (map (node_at_end W (journal_of W (doings_of W s))) (map (node_doings s) (range_with_len start count))) ≡ map (agent_behind W s) (range_with_len start count)
      from start zero each = refl
      from start (suc count) each =
          ap (λ x. x ∷ map agent_of (map (node_at_end W (journal_of W (doings_of W s))) (map (node_doings s) (range_with_len (start + 1) count)))) (each start (omega arith) (omega arith))
          ∙ ap (λ rest. agent_behind W s start ∷ rest) (from (start + 1) count (λ node low high. each node (omega (arith, low)) (omega (arith, high))))
