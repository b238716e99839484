-- The story of a run: where its parts stood behind each pass. Rounds come first, in which clients are at work beside the agents and the
-- coordinator, and behind them passes alone, until nothing is left. What a part promises of each pass is told here in its words.
use Rattle.std.specs.Prelude.{◌≡◌, ℕ, suc, ◌+◌, ◌*◌, ◌<◌, ◌≤◌, min, List, [], ◌∷◌, ◌++◌, length, map, drop, filter, reverse, slice_get, count_by, Some, refl}
use Rattle.std.specs.List.{AllByRecursion, range_with_len}
use Rattle.hs_base.specs.declared.limits.TheConstants.{MAX_TAKEN}
use Rattle.hs_coord.specs.Messages.{Message, Messages, message}
use Rattle.hs_records.specs.declared.journal.Draw.{Draw}
use Rattle.hs_records.specs.declared.journal.Draw.TheVariants as draws
use Rattle.hs_law_agent.specs.Laws.{sheets_of}
use Rattle.hs_law_agent.specs.State.{AgentState, start}
use Rattle.hs_law_agent.specs.Stepping.{AgentEvent, after}
use Rattle.hs_records.specs.Plain.{PlainWorkload}
use Rattle.hs_client.specs.Draws.{count_started}
use Rattle.hs_client.specs.Sending.{Sent, ClientSends, sends_of, sent_within, place_of, ops_of}
use Rattle.hs_client.specs.OneMore.{items_of}
use Rattle.hs_words.specs.Ends.{Deed, IsTogether}
use Rattle.hs_law_journal.specs.Following.{asks_to, is_from}
use Rattle.hs_law_journal.specs.Doings.{NodeDoings, Doings, chunks_in, crumbs_in, triggers_in, asks_in}
use Rattle.hs_law_journal.specs.LoopPasses.{IsOwn, HandsReady, EndsPass}
use Rattle.hs_law_run.specs.Pools.{draw_answer}
use Rattle.hs_law_journal.specs.Turns.{Lent, AreTurns}
use Rattle.hs_law_run.specs.Ends.{done_by, PoolEnds, PoolEndsGoOn, PoolEndsMeet}

-- A node: behind so many passes the events of its agent, and what the ends of its pool know; the chunks as they came to the agent; and all
-- deeds at its pool.
pub record NodeStory : Type 0 where
  pub events : ℕ → List AgentEvent
  pub ends : ℕ → PoolEnds
  pub lents : List Lent
  pub log : List Deed

pub record Story : Type 0 where
  pub rounds : ℕ
  pub passes : ℕ
  -- of each client, by its place in the order of node and number
  pub draws : ℕ → List Draw
  -- of each node, by its number
  pub nodes : ℕ → NodeStory
  -- what the coordinator took behind so many passes
  pub heard : ℕ → Messages

-- ---- what was done

-- what a list grows by in the pass behind so many
abbrev pub added : {X : Type 0} → (ℕ → List X) → ℕ → List X
added list k = drop (length (list k)) (list (suc k))

abbrev pub node_doings : Story → ℕ → NodeDoings
node_doings s node = record { node = node; passes = map (added (s.nodes node).events) (range_with_len 0 s.passes) }

abbrev pub doings_of : PlainWorkload → Story → Doings
doings_of W s =
    record {
      draws = map s.draws (range_with_len 0 (length W.clients));
      nodes = map (node_doings s) (range_with_len 0 W.settings.nodes);
      heard = map (added s.heard) (range_with_len 0 s.passes);
    }

-- the draws of a node's client, and all that it sends at them
abbrev pub draws_of : PlainWorkload → Story → (node client : ℕ) → List Draw
draws_of W s node client = s.draws (place_of W.settings.clients node client)

abbrev pub sends_at : PlainWorkload → Story → (node client : ℕ) → ClientSends
sends_at W s node client = sends_of W.settings (record { node = node; number = client }) (ops_of W node client) (draws_of W s node client)

-- a node's agent behind so many passes
abbrev pub state_by : PlainWorkload → Story → (node passes : ℕ) → AgentState
state_by W s node passes = after W.settings node ((s.nodes node).events passes)

-- ---- a pass

-- ---- a queue

-- Of a queue, by how many items were taken and sent behind so many passes: in a round the receiver takes what it was told of, and is
-- then told of what was sent, or in each case of as much as fits; behind the rounds it takes of all that was sent.
pub record IsQueueStory (rounds passes : ℕ) (taken sent : ℕ → ℕ) (total : ℕ) : Type 0 where
  pub told : ℕ → ℕ
  pub takes : (k : ℕ) → k < rounds → min (told k) (taken k + MAX_TAKEN) ≤ taken (suc k)
  pub hears : (k : ℕ) → k < rounds → min (sent (suc k)) (taken k + MAX_TAKEN) ≤ told (suc k)
  pub few : told rounds ≤ total
  pub closes : (k : ℕ) → rounds ≤ k → k < passes → min total (taken k + MAX_TAKEN) ≤ taken (suc k)

-- how many of these items are sent by the rounds up to one
abbrev pub sent_by : {A : Type 0} → PlainWorkload → (node client : ℕ) → List (Sent A) → ℕ → ℕ
sent_by W node client items k = length (sent_within (done_by W node client k) items)

-- The agent took all that a client sent, in order.
pub record TakesFrom (W : PlainWorkload) (s : Story) (node client : ℕ) : Type 0 where
  pub chunks_all : chunks_in client ((s.nodes node).events s.passes) ≡ items_of (sends_at W s node client).chunks
  pub crumbs_all : crumbs_in client ((s.nodes node).events s.passes) ≡ items_of (sends_at W s node client).crumbs
  pub triggers_all : triggers_in client ((s.nodes node).events s.passes) ≡ items_of (sends_at W s node client).triggers
  pub chunks : IsQueueStory s.rounds s.passes (λ k. length (chunks_in client ((s.nodes node).events k))) (sent_by W node client (sends_at W s node client).chunks) (length (sends_at W s node client).chunks)
  pub crumbs : IsQueueStory s.rounds s.passes (λ k. length (crumbs_in client ((s.nodes node).events k))) (sent_by W node client (sends_at W s node client).crumbs) (length (sends_at W s node client).crumbs)
  pub triggers : IsQueueStory s.rounds s.passes (λ k. length (triggers_in client ((s.nodes node).events k))) (sent_by W node client (sends_at W s node client).triggers) (length (sends_at W s node client).triggers)

-- ---- asks and messages

-- Of what the coordinator took up to a pass the agent takes its asks in that pass, and of what the agent said in earlier passes the
-- coordinator takes the messages, all or as many as are taken in a pass. In the end all asks and all messages were taken.
pub record TalksWith (W : PlainWorkload) (s : Story) (node : ℕ) : Type 0 where
  pub asked_before : (k : ℕ) → k < s.passes → length (asks_in ((s.nodes node).events (suc k))) ≤ length (asks_to node (s.heard k))
  pub asks : (k : ℕ) → k < s.passes → min (length (asks_to node (s.heard k))) (length (asks_in ((s.nodes node).events k)) + MAX_TAKEN) ≤ length (asks_in ((s.nodes node).events (suc k)))
  pub asks_all : asks_in ((s.nodes node).events s.passes) ≡ asks_to node (s.heard s.passes)
  pub said_before : (k : ℕ) → k ≤ s.passes → count_by (is_from (record { 0 = node })) (s.heard k) ≤ length (state_by W s node k).said
  pub hears : (k : ℕ) → k < s.passes
      → min (count_by (is_from (record { 0 = node })) (s.heard k) + MAX_TAKEN) (length (state_by W s node k).said) ≤ count_by (is_from (record { 0 = node })) (s.heard (suc k))
  pub said_all : filter (is_from (record { 0 = node })) (s.heard s.passes) ≡ map (message (record { 0 = node })) (state_by W s node s.passes).said

-- ---- a pool

-- The lease names the draw that is noted for the page.
pub record IsDrawnFor (W : PlainWorkload) (s : Story) (node : ℕ) (lent : Lent) : Type 0 where
  pub client : lent.sheet.header.client.number < W.settings.clients
  pub draw : slice_get (draws_of W s node lent.sheet.header.client.number) lent.sheet.header.page ≡ Some (draws.Got lent.buffer lent.draw)

pub record PoolsWith (W : PlainWorkload) (s : Story) (node : ℕ) : Type 0 where
  pub new : (client : ℕ) → client < W.settings.clients → ((s.nodes node).ends 0).answers client ≡ []
  pub passes : (k : ℕ) → k < s.passes → PoolEndsGoOn (added (s.nodes node).events k) ((s.nodes node).ends k) ((s.nodes node).ends (suc k))
  pub meets : (k client : ℕ) → k < s.rounds → client < W.settings.clients → PoolEndsMeet client ((s.nodes node).ends k) ((s.nodes node).ends (suc k))
  -- each client drew for the pages that it started
  pub started : (k client : ℕ) → k ≤ s.rounds → client < W.settings.clients
      → length (((s.nodes node).ends k).answers client) ≡ count_started W.settings.size (ops_of W node client) (done_by W node client k)
  pub drawn : (client : ℕ) → client < W.settings.clients → map draw_answer (draws_of W s node client) ≡ reverse (((s.nodes node).ends s.rounds).answers client)
  pub turns : (k : ℕ) → k ≤ s.passes → AreTurns W.settings node (s.nodes node).lents ((s.nodes node).events k) ((s.nodes node).ends k).turns
  pub sheets : map (λ (lent : Lent). lent.sheet) (s.nodes node).lents ≡ sheets_of (state_by W s node s.passes).taken
  pub leases : AllByRecursion (IsDrawnFor W s node) (s.nodes node).lents
  pub together : IsTogether W.settings.buffers ((s.nodes node).ends s.passes).turns (map ((s.nodes node).ends s.rounds).answers (range_with_len 0 W.settings.clients)) (s.nodes node).log

-- ---- all

pub record IsNodeStory (W : PlainWorkload) (s : Story) (node : ℕ) : Type 0 where
  pub begins : (s.nodes node).events 0 ≡ []
  pub grows : (k : ℕ) → k < s.passes → (s.nodes node).events (suc k) ≡ (s.nodes node).events k ++ added (s.nodes node).events k
  pub ends : (k : ℕ) → k < s.passes → EndsPass W (state_by W s node (suc k)) (added (s.nodes node).events k)
  pub own : AllByRecursion (IsOwn W) ((s.nodes node).events s.passes)
  pub hands : HandsReady W.settings node (start W.settings) ((s.nodes node).events s.passes)
  pub unpinned : length (state_by W s node s.passes).pinned ≡ 0
  -- each client has done all of its operations when the rounds are over
  pub done : (client : ℕ) → client < W.settings.clients → length (ops_of W node client) ≤ s.rounds * W.settings.stride
  pub takes : (client : ℕ) → client < W.settings.clients → TakesFrom W s node client
  pub talks : TalksWith W s node
  pub pools : PoolsWith W s node

pub record IsStory (W : PlainWorkload) (s : Story) : Type 0 where
  pub enough : s.rounds ≤ s.passes
  pub begins : s.heard 0 ≡ []
  pub grows : (k : ℕ) → k < s.passes → s.heard (suc k) ≡ s.heard k ++ added s.heard k
  pub from : AllByRecursion (λ (m : Message). m.node.0 < W.settings.nodes) (s.heard s.passes)
  pub each : (node : ℕ) → node < W.settings.nodes → IsNodeStory W s node

-- ---- examples

abbrev three : ℕ → List ℕ
three k = range_with_len 1 k

grows_by_one : (added three 0 ≡ 1 ∷ []) × (added three 2 ≡ 3 ∷ [])
grows_by_one = (refl, refl)
