-- The facts about what clients, agents and coordinator did that make the journal of it lawful. Each is what one part of a run
-- promises by itself: a client, a link, an agent, the coordinator, or the loop of a pass.
use Rattle.std.specs.Prelude.{◌≡◌, ℕ, suc, ◌+◌, ◌*◌, ◌<◌, ◌≤◌, min, List, ◌++◌, length, map, filter, slice_get, count_by, Some}
use Rattle.std.specs.List.{AllByRecursion, flat_map, range_with_len}
use Rattle.hs_base.specs.declared.limits.TheConstants.{MAX_TAKEN}
use Rattle.hs_coord.specs.Messages.{Message, message}
use Rattle.hs_records.specs.Journals.{PlainJournal}
use Rattle.hs_law_agent.specs.State.{start}
use Rattle.hs_law_agent.specs.Stepping.{AgentEvent}
use Rattle.hs_records.specs.Pages.{pages_of}
use Rattle.hs_records.specs.Plain.{PlainSettings, PlainWorkload}
use Rattle.hs_client.specs.Drawn.{DrawnPage, stamp_of}
use Rattle.hs_client.specs.Sending.{ClientSends, client_sends, node_sends, sent_within}
use Rattle.hs_client.specs.OneMore.{items_of}
use Rattle.hs_law_journal.specs.Ends.{rounds_of}
use Rattle.hs_law_journal.specs.Following.{asks_to, is_from}
use Rattle.hs_law_journal.specs.Shape.{log_stamps}
use Rattle.hs_law_journal.specs.Unreads.{round_of}
use Rattle.hs_law_journal.specs.Doings.{NodeDoings, Doings, all_events, events_in, steps_of, state_after, last_state, chunks_in, crumbs_in, triggers_in, asks_in, heard_in, all_heard, journal_of}
pub use Rattle.hs_law_journal.specs.Fronts.{IsFront}
use Rattle.hs_law_journal.specs.LoopPasses.{EndsPass, HandsReady, IsOwn, IsPass}

-- ---- what an agent takes

-- A link gives its receiver what was sent, in order.
pub record TookFrontOf (W : PlainWorkload) (J : PlainJournal) (n : NodeDoings) (client : ℕ) : Type 0 where
  pub chunks : IsFront (chunks_in client (all_events n)) (items_of (client_sends W J n.node client).chunks)
  pub crumbs : IsFront (crumbs_in client (all_events n)) (items_of (client_sends W J n.node client).crumbs)
  pub triggers : IsFront (triggers_in client (all_events n)) (items_of (client_sends W J n.node client).triggers)

-- In the end nothing is left in it.
pub record TookAllOf (W : PlainWorkload) (J : PlainJournal) (n : NodeDoings) (client : ℕ) : Type 0 where
  pub chunks : chunks_in client (all_events n) ≡ items_of (client_sends W J n.node client).chunks
  pub crumbs : crumbs_in client (all_events n) ≡ items_of (client_sends W J n.node client).crumbs
  pub triggers : triggers_in client (all_events n) ≡ items_of (client_sends W J n.node client).triggers

-- ---- what may be told pass by pass

-- Of a node, as far as its passes have come: its agent took the first of what its clients sent and of what it was asked, and of what it
-- said the first was heard. What it was asked in a pass follows from what the coordinator took behind earlier passes, and what is taken
-- of it was said in the passes before.
pub record IsPlayable (W : PlainWorkload) (d : Doings) (n : NodeDoings) : Type 0 where
  pub own : AllByRecursion (IsOwn W) (all_events n)
  pub took : (client : ℕ) → client < W.settings.clients → TookFrontOf W (journal_of W d) n client
  pub asked : IsFront (asks_in (all_events n)) (asks_to n.node (all_heard d))
  pub heard : IsFront (filter (is_from (record { 0 = n.node })) (all_heard d)) (map (message (record { 0 = n.node })) (last_state W.settings n).said)
  pub hands : HandsReady W.settings n.node (start W.settings) (all_events n)
  pub asked_before : (k : ℕ) → k < length n.passes → length (asks_in (events_in n (suc k))) ≤ length (asks_to n.node (heard_in d k))
  pub said_before : (k : ℕ) → k ≤ length n.passes → count_by (is_from (record { 0 = n.node })) (heard_in d k) ≤ length (state_after W.settings n k).said

-- Of all: each node made as many passes, and whom the coordinator heard is a node.
pub record ArePlayable (W : PlainWorkload) (d : Doings) : Type 0 where
  pub numbers : map (λ (n : NodeDoings). n.node) d.nodes ≡ range_with_len 0 W.settings.nodes
  pub passes : AllByRecursion (λ (n : NodeDoings). length n.passes ≡ length d.heard) d.nodes
  pub each : AllByRecursion (IsPlayable W d) d.nodes
  pub from : AllByRecursion (λ (m : Message). m.node.0 < W.settings.nodes) (all_heard d)

-- ---- what each clause asks beside

-- Each client notes a draw for each of its pages.
abbrev pub HaveDrawn : PlainWorkload → Doings → Type 0
HaveDrawn W d = map length d.draws ≡ map (λ ops. length (pages_of W.settings.size ops)) W.clients

-- Each pass is one of the loop.
abbrev pub HavePasses : PlainWorkload → Doings → Type 0
HavePasses W d = AllByRecursion (λ (n : NodeDoings). AllByRecursion (IsPass W) n.passes) d.nodes

-- There are rounds enough for every client to do all of its operations.
abbrev pub HaveRounds : PlainWorkload → Doings → Type 0
HaveRounds W d = rounds_of W ≤ length d.heard

-- In the end all that was sent and asked was taken, all that was said was heard, and nothing is pinned.
pub record HasNothingLeft (W : PlainWorkload) (d : Doings) (n : NodeDoings) : Type 0 where
  pub took : (client : ℕ) → client < W.settings.clients → TookAllOf W (journal_of W d) n client
  pub asked : asks_in (all_events n) ≡ asks_to n.node (all_heard d)
  pub heard : filter (is_from (record { 0 = n.node })) (all_heard d) ≡ map (message (record { 0 = n.node })) (last_state W.settings n).said
  pub unpinned : length (last_state W.settings n).pinned ≡ 0

abbrev pub HaveNothingLeft : PlainWorkload → Doings → Type 0
HaveNothingLeft W d = AllByRecursion (HasNothingLeft W d) d.nodes

-- ---- the offers of a pass

abbrev pub EndsPasses : PlainWorkload → NodeDoings → Type 0
EndsPasses W n = (k : ℕ) (pass : List AgentEvent) → slice_get n.passes k ≡ Some pass → EndsPass W (state_after W.settings n (suc k)) pass

abbrev pub HaveOffers : PlainWorkload → Doings → Type 0
HaveOffers W d = AllByRecursion (EndsPasses W) d.nodes

-- ---- the pace

-- the pages that the clients of a node draw for
abbrev pub pages_at : PlainWorkload → PlainJournal → ℕ → List DrawnPage
pages_at W J node = flat_map (λ (sends : ClientSends). sends.drawn) (node_sends W J node)

-- What meetings behind each round tell. Behind each round the giver knows a number above all draws up to there, and gives none below it
-- later; and each client knows one above all gives up to there, and draws none below it later. A pass has the number of its round.
pub record MeetsInRounds (W : PlainWorkload) (J : PlainJournal) (n : NodeDoings) : Type 0 where
  pub giver : ℕ → ℕ
  pub drawer : ℕ → ℕ → ℕ
  pub drawn_below : (round : ℕ) → AllByRecursion (λ (page : DrawnPage). round_of W.settings.stride page.started ≤ round → stamp_of page.draw < giver round) (pages_at W J n.node)
  pub given_above : (round place : ℕ) (pass : List AgentEvent) → round ≤ place → slice_get n.passes place ≡ Some pass → AllByRecursion (λ stamp. giver round ≤ stamp) (log_stamps (steps_of pass))
  pub given_below : (client round place : ℕ) (pass : List AgentEvent) → place < round → slice_get n.passes place ≡ Some pass → AllByRecursion (λ stamp. stamp < drawer client round) (log_stamps (steps_of pass))
  pub drawn_above : (round : ℕ) → AllByRecursion (λ (page : DrawnPage). round < round_of W.settings.stride page.started → drawer page.client.number round ≤ stamp_of page.draw) (pages_at W J n.node)

-- Of a queue: what the receiver was told behind a round is what was sent by then, or as much as fits behind what was taken the round
-- before; and a pass takes what the agent was told of, or as many items as it may.
pub record IsToldInRounds (settings : PlainSettings) (passes : ℕ) (taken sent : ℕ → ℕ) : Type 0 where
  pub told : ℕ → ℕ
  pub hears : (k : ℕ) → k < passes → min (sent (suc k)) (taken k + MAX_TAKEN) ≤ told (suc k)
  pub takes : (k : ℕ) → k < passes → min (told k) (taken k + MAX_TAKEN) ≤ taken (suc k)

pub record TakesInPace (W : PlainWorkload) (J : PlainJournal) (n : NodeDoings) (client : ℕ) : Type 0 where
  pub chunks : IsToldInRounds W.settings (length n.passes) (λ k. length (chunks_in client (events_in n k))) (λ k. length (sent_within (k * W.settings.stride) (client_sends W J n.node client).chunks))
  pub crumbs : IsToldInRounds W.settings (length n.passes) (λ k. length (crumbs_in client (events_in n k))) (λ k. length (sent_within (k * W.settings.stride) (client_sends W J n.node client).crumbs))
  pub triggers : IsToldInRounds W.settings (length n.passes) (λ k. length (triggers_in client (events_in n k))) (λ k. length (sent_within (k * W.settings.stride) (client_sends W J n.node client).triggers))

-- Of the asks that were moved to a node by a pass it takes all in that pass, or as many as it may; and of the messages of earlier passes
-- the coordinator takes all, or as many as it may.
pub record AsksInPace (W : PlainWorkload) (d : Doings) (n : NodeDoings) : Type 0 where
  pub asks : (k : ℕ) → k < length n.passes → min (length (asks_to n.node (heard_in d k))) (length (asks_in (events_in n k)) + MAX_TAKEN) ≤ length (asks_in (events_in n (suc k)))
  pub heard : (k : ℕ) → k < length n.passes
      → min (count_by (is_from (record { 0 = n.node })) (heard_in d k) + MAX_TAKEN) (length (state_after W.settings n k).said) ≤ count_by (is_from (record { 0 = n.node })) (heard_in d (suc k))

pub record KeepsPace (W : PlainWorkload) (d : Doings) (n : NodeDoings) : Type 0 where
  pub gives : MeetsInRounds W (journal_of W d) n
  pub items : (client : ℕ) → client < W.settings.clients → TakesInPace W (journal_of W d) n client
  pub asks : AsksInPace W d n

abbrev pub KeepPace : PlainWorkload → Doings → Type 0
KeepPace W d = AllByRecursion (KeepsPace W d) d.nodes
