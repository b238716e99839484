-- What a story does, as doings told pass by pass.
use Rattle.std.proofs.Common.{◌≡◌, ℕ, suc, ◌<◌, ◌≤◌, List, [], length, sym, ap, subst, ◌∙◌, Option, unwrap_or, arith, map, filter, slice_get, count_by, append-nil}
use Rattle.hs_law_run.proofs.Prelude.{AllByRecursion, range_with_len, map_range_at, all_each, all_by_place, message, Draw, PlainJournal, sheets_of, AgentState, start, AgentEvent, after, PlainWorkload, ClientSends, client_sends, draws_at, place_of, ops_of, items_of, IsTogether, asks_to, is_from, draw_answer, IsValid, NodeDoings, all_events, events_in, state_after, last_state, chunks_in, crumbs_in, triggers_in, asks_in, all_heard, journal_of, IsPass, IsOwn, HandsReady, EndsPass, IsPlayable, AreTurns, PoolEndsGoOn, Story, added, node_doings, doings_of, draws_of, sends_at, IsStory, HasNothingLeft, EndsPasses, IsFront}
use Rattle.hs_law_journal.specs.Doings.{heard_in}
use Rattle.hs_client.specs.Sending.{sends_of}
use Rattle.hs_law_run.specs.Facts.{TookAllOf}
use Rattle.hs_law_run.specs.Stories.{state_by, IsNodeStory}
use Rattle.hs_law_run.specs.Stories as stories
use Rattle.hs_law_journal.proofs.Joined.{mapped_long, unmapped_at, grown, grown_all, grown_beyond}
use Rattle.hs_law_journal.proofs.Workloads.{place_low}
use Rattle.hs_law_run.proofs.PoolOf.{IsDrawnFor, IsPoolOf}

module _ (W : PlainWorkload) (s : Story) (story : IsStory W s) where
  abbrev pub journal : PlainJournal
  journal = journal_of W (doings_of W s)

  pub heard_are : (k : ℕ) → k ≤ s.passes → heard_in (doings_of W s) k ≡ s.heard k
  heard_are k low = grown s.heard (added s.heard) s.passes story.begins story.grows k low

  pub all_heard_are : all_heard (doings_of W s) ≡ s.heard s.passes
  all_heard_are = grown_all s.heard (added s.heard) s.passes story.begins story.grows

  heard_beyond : (k : ℕ) → s.passes ≤ k → heard_in (doings_of W s) k ≡ s.heard s.passes
  heard_beyond k high = grown_beyond s.heard (added s.heard) s.passes story.begins story.grows k high

  -- ---- draws

  pub draws_are : (place : ℕ) → place < length W.clients → draws_at (journal_of W (doings_of W s)) place ≡ s.draws place
  draws_are place low = ap (λ (o : Option (List Draw)). unwrap_or o []) (map_range_at s.draws (length W.clients) place low)

  pub own_draws : IsValid W → (node client : ℕ) → node < W.settings.nodes → client < W.settings.clients → draws_at (journal_of W (doings_of W s)) (place_of W.settings.clients node client) ≡ draws_of W s node client
  own_draws valid node client low few = draws_are (place_of W.settings.clients node client) (place_low W valid node client low few)

  pub own_sends : IsValid W → (node client : ℕ) → node < W.settings.nodes → client < W.settings.clients → client_sends W (journal_of W (doings_of W s)) node client ≡ sends_at W s node client
  own_sends valid node client low few = ap (sends_of W.settings (record { node = node; number = client }) (ops_of W node client)) (own_draws valid node client low few)

  module _ (node : ℕ) (low : node < W.settings.nodes) where
    abbrev pub doings : NodeDoings
    doings = node_doings s node

    own : IsNodeStory W s node
    own = story.each node low

    pub events_are : (k : ℕ) → k ≤ s.passes → events_in (node_doings s node) k ≡ (s.nodes node).events k
    events_are k few = grown (s.nodes node).events (added (s.nodes node).events) s.passes (story.each node low).begins (story.each node low).grows k few

    pub all_events_are : all_events (node_doings s node) ≡ (s.nodes node).events s.passes
    all_events_are = grown_all (s.nodes node).events (added (s.nodes node).events) s.passes (story.each node low).begins (story.each node low).grows

    pub events_beyond : (k : ℕ) → s.passes ≤ k → events_in (node_doings s node) k ≡ (s.nodes node).events s.passes
    events_beyond k high = grown_beyond (s.nodes node).events (added (s.nodes node).events) s.passes (story.each node low).begins (story.each node low).grows k high

    pub state_is : last_state W.settings (node_doings s node) ≡ state_by W s node s.passes
    state_is = ap (after W.settings node) all_events_are

    pub state_there : (k : ℕ) → k ≤ s.passes → state_after W.settings (node_doings s node) k ≡ state_by W s node k
    state_there k few = ap (after W.settings node) (events_are k few)

    pub long : length (node_doings s node).passes ≡ s.passes
    long = mapped_long (added (s.nodes node).events) s.passes

    -- ---- what may be told

    said_before : (k : ℕ) → k ≤ s.passes → count_by (is_from (record { 0 = node })) (heard_in (doings_of W s) k) ≤ length (state_after W.settings (node_doings s node) k).said
    said_before k few =
        let h = ap (count_by (is_from (record { 0 = node }))) (heard_are k few) in
        let t = ap (λ (state : AgentState). length state.said) (state_there k few) in
        let some = (story.each node low).talks.said_before k few in
        omega (arith, h, t, some)

    asked_before : (k : ℕ) → k < s.passes → length (asks_in (events_in (node_doings s node) (suc k))) ≤ length (asks_to node (heard_in (doings_of W s) k))
    asked_before k few =
        let h = ap (λ heard. length (asks_to node heard)) (heard_are k (omega (arith, few))) in
        let t = ap (λ (events : List AgentEvent). length (asks_in events)) (events_are (suc k) (omega (arith, few))) in
        let some = (story.each node low).talks.asked_before k few in
        omega (arith, h, t, some)

    took : IsValid W → (client : ℕ) → client < W.settings.clients → TookAllOf W (journal_of W (doings_of W s)) (node_doings s node) client
    took valid client few =
        let t = (story.each node low).takes client few in
        let sends = sym (own_sends valid node client low few) in
        record {
          chunks = ap (chunks_in client) all_events_are ∙ t.chunks_all ∙ ap (λ (c : ClientSends). items_of c.chunks) sends;
          crumbs = ap (crumbs_in client) all_events_are ∙ t.crumbs_all ∙ ap (λ (c : ClientSends). items_of c.crumbs) sends;
          triggers = ap (triggers_in client) all_events_are ∙ t.triggers_all ∙ ap (λ (c : ClientSends). items_of c.triggers) sends;
        }

    pub nothing_left : IsValid W → HasNothingLeft W (doings_of W s) (node_doings s node)
    nothing_left valid =
        record {
          took = took valid;
          asked = ap asks_in all_events_are ∙ (story.each node low).talks.asks_all ∙ ap (asks_to node) (sym all_heard_are);
          heard = ap (filter (is_from (record { 0 = node }))) all_heard_are ∙ (story.each node low).talks.said_all ∙ ap (λ (state : AgentState). map (message (record { 0 = node })) state.said) (sym state_is);
          unpinned = ap (λ (state : AgentState). length state.pinned) state_is ∙ (story.each node low).unpinned;
        }

    whole : {A : Type 0} {a b : List A} → a ≡ b → IsFront a b
    whole {A} {a} {b} e = record { more = []; is = sym e ∙ sym (append-nil a) }

    pub is_playable : IsValid W → IsPlayable W (doings_of W s) (node_doings s node)
    is_playable valid =
        let left = nothing_left valid in
        let count = long in
        record {
          own = subst (AllByRecursion (IsOwn W)) (sym all_events_are) (story.each node low).own;
          took = λ client few. let t = left.took client few in record { chunks = whole t.chunks; crumbs = whole t.crumbs; triggers = whole t.triggers };
          asked = whole left.asked;
          heard = whole left.heard;
          hands = subst (HandsReady W.settings node (start W.settings)) (sym all_events_are) (story.each node low).hands;
          asked_before = λ k few. asked_before k (omega (arith, few, count));
          said_before = λ k few. said_before k (omega (arith, few, count));
        }

    -- ---- passes

    pub each_pass : AllByRecursion (IsPass W) (node_doings s node).passes
    each_pass =
        all_by_place (IsPass W) (node_doings s node).passes
        (λ k pass h. let at = unmapped_at (added (s.nodes node).events) s.passes k pass h in subst (IsPass W) at.is ((story.each node low).ends k at.low).is_pass)

    pub all_offers : EndsPasses W (node_doings s node)
    all_offers k pass h =
        let at = unmapped_at (added (s.nodes node).events) s.passes k pass h in
        let there = state_there (suc k) (let few = at.low in omega (arith, few)) in
        subst (EndsPass W (state_after W.settings (node_doings s node) (suc k))) at.is (subst (λ (state : AgentState). EndsPass W state (added (s.nodes node).events k)) (sym there) ((story.each node low).ends k at.low))

    -- ---- the pool

    pub pool_of : IsValid W → IsPoolOf W (journal_of W (doings_of W s)) (node_doings s node) s.rounds
    pool_of valid =
        let p = (story.each node low).pools in
        let count = long in
        let enough = story.enough in
        record {
          at = (s.nodes node).ends;
          enough = omega (arith, count, enough);
          new = p.new;
          passes = λ k pass h. let at = unmapped_at (added (s.nodes node).events) s.passes k pass h in subst (λ pass. PoolEndsGoOn pass ((s.nodes node).ends k) ((s.nodes node).ends (suc k))) at.is (p.passes k at.low);
          meets = p.meets;
          started = p.started;
          done = (story.each node low).done;
          drawn = λ client few. ap (map draw_answer) (own_draws valid node client low few) ∙ p.drawn client few;
          lents = (s.nodes node).lents;
          turns = λ k few. subst (λ (events : List AgentEvent). AreTurns W.settings node (s.nodes node).lents events ((s.nodes node).ends k).turns) (sym (events_are k (omega (arith, few, count)))) (p.turns k (omega (arith, few, count)));
          sheets = p.sheets ∙ ap (λ (state : AgentState). sheets_of state.taken) (sym state_is);
          leases = all_each (stories.IsDrawnFor W s node) (IsDrawnFor W (journal_of W (doings_of W s)) node) (s.nodes node).lents
              (λ lent d. record { client = d.client; draw = ap (λ (list : List Draw). slice_get list lent.sheet.header.page) (own_draws valid node lent.sheet.header.client.number low d.client) ∙ d.draw }) p.leases;
          log = (s.nodes node).log;
          together = subst (λ m. IsTogether W.settings.buffers ((s.nodes node).ends m).turns (map ((s.nodes node).ends s.rounds).answers (range_with_len 0 W.settings.clients)) (s.nodes node).log) (sym count) p.together;
        }
