-- The clauses L3 and L4 of the lawful journal, on what happens at the pool of a node in the order of stamps: the draws of its
-- clients, and the gives and misses of its agent. A `given` step gives the buffer into which the page of the first chunk of the
-- hand was written: the buffer of that page's draw. The events are a history of the pool. And a chunk is given after its page was
-- drawn, with nothing at its buffer in between.
use Rattle.std.specs.Prelude.{◌≡◌, ℕ, Bool, true, false, not, ◌&&◌, ◌==◌, nat_lt, List, [], ◌∷◌, ◌++◌, length, map, reverse, filter, filter_map, count_by, Option, Some, None, option_map, slice_get, refl}
use Rattle.std.specs.List.{flat_map, range_with_len, list_all, list_any}
use Rattle.std.specs.Option.{option_and_then, option_map_or}
use Rattle.hs_records.specs.declared.journal.Draw.{Draw}
use Rattle.hs_records.specs.declared.journal.Draw.TheVariants as draws
use Rattle.hs_records.specs.declared.journal.Step.{Step}
use Rattle.hs_records.specs.declared.journal.Step.TheVariants as steps
use Rattle.hs_law_agent.specs.Standings.{Taken}
use Rattle.hs_law_agent.specs.State.{AgentState, GivenPlace}
use Rattle.hs_words.specs.Pages.{Sheet}
use Rattle.hs_words.specs.PoolHistory.{PoolEvent, Got, Empty, Given, Missed, is_got, is_empty, is_given, is_missed, queue_after}
use Rattle.hs_client.specs.Drawn.{DrawnPage, stamp_of}
pub use Rattle.hs_client.specs.Draws.{event_drawn}
use Rattle.hs_client.specs.Sending.{ClientSends}
use Rattle.hs_law_journal.specs.Following.{NodeRun}
use Rattle.hs_law_journal.specs.Played.{Played}

-- ---- the events of a node's pool

pub record StampedPoolEvent : Type 0 where
  pub stamp : ℕ
  pub event : PoolEvent

-- items by rising stamps, where all stamps are below this number
abbrev pub by_stamp : {A : Type 0} → (A → ℕ) → ℕ → List A → List A
by_stamp stamp bound items = flat_map (λ s. filter (λ item. stamp item == s) items) (range_with_len 0 bound)

abbrev pub drawn_event : DrawnPage → StampedPoolEvent
drawn_event d = record { stamp = stamp_of d.draw; event = event_drawn d.draw }

-- all pages of the node's clients
abbrev pub node_pages : NodeRun → List DrawnPage
node_pages run = flat_map (λ (sends : ClientSends). sends.drawn) run.sends

-- a page of a node by its sheet, which names its client and its number
abbrev pub page_of : NodeRun → Sheet → Option DrawnPage
page_of run sheet = option_and_then (λ (sends : ClientSends). slice_get sends.drawn sheet.header.page) (slice_get run.sends sheet.header.client.number)

-- the page that was given at a place
abbrev pub given_page : NodeRun → AgentState → ℕ → Option DrawnPage
given_page run state place = option_and_then (λ (chunk : Taken). page_of run chunk.sheet) (slice_get state.taken place)

abbrev pub buffer_of : Draw → Option ℕ
buffer_of (draws.Got buffer stamp) = Some buffer
buffer_of (draws.Empty stamp) = None

-- the buffer that was given at a place
abbrev pub given_buffer : NodeRun → ℕ → Option ℕ
given_buffer run place = option_and_then (λ (d : DrawnPage). buffer_of d.draw) (given_page run run.state place)

abbrev pub given_event : NodeRun → GivenPlace → Option StampedPoolEvent
given_event run given = option_map (λ buffer. record { stamp = given.stamp; event = Given buffer }) (given_buffer run given.place)

abbrev pub missed_event : Step → Option StampedPoolEvent
missed_event (steps.Missed stamp) = Some (record { stamp = stamp; event = Missed })
missed_event _ = None

-- all events of a node's pool
abbrev pub pool_events : NodeRun → List StampedPoolEvent
pool_events run = map drawn_event (node_pages run) ++ filter_map (given_event run) run.state.given ++ filter_map missed_event run.state.log

-- and in the order of stamps
abbrev pub pool_history : NodeRun → List PoolEvent
pool_history run =
    let events = pool_events run in
    map (λ (e : StampedPoolEvent). e.event) (by_stamp (λ (e : StampedPoolEvent). e.stamp) (length events) events)

-- ---- L3

-- whether an event may come behind the earlier ones, of which the last stands first
abbrev pub may_follow : ℕ → List PoolEvent → PoolEvent → Bool
may_follow n earlier (Got buffer) = option_map_or (λ front. front == buffer) (slice_get (queue_after n earlier) 0) false
may_follow n earlier Empty = length (queue_after n earlier) == 0
may_follow n earlier (Given buffer) = nat_lt (count_by (is_given buffer) earlier) (count_by (is_got buffer) earlier)
may_follow n earlier Missed = length (queue_after n earlier) == 0 && nat_lt (count_by is_missed earlier) (count_by is_empty earlier)

abbrev pub is_history_back : ℕ → List PoolEvent → Bool
is_history_back n [] = true
is_history_back n (event ∷ earlier) = is_history_back n earlier && may_follow n earlier event

-- whether these events are a history of a pool with so many buffers
abbrev pub is_history : ℕ → List PoolEvent → Bool
is_history n events = is_history_back n (reverse events)

-- L3: the history
abbrev pub has_history : Played → Bool
has_history p = list_all (λ (run : NodeRun). is_history p.workload.settings.buffers (pool_history run)) p.run.nodes

-- ---- L4

-- whether an event is one of this buffer
abbrev pub has_buffer : ℕ → PoolEvent → Bool
has_buffer buffer (Got other) = other == buffer
has_buffer buffer Empty = false
has_buffer buffer (Given other) = other == buffer
has_buffer buffer Missed = false

-- whether one of the events has the buffer between two stamps
abbrev pub is_touched : List StampedPoolEvent → ℕ → ℕ → ℕ → Bool
is_touched events buffer from to = list_any (λ (e : StampedPoolEvent). has_buffer buffer e.event && nat_lt from e.stamp && nat_lt e.stamp to) events

-- whether a give at this stamp answers this draw
abbrev pub answers_draw : List StampedPoolEvent → ℕ → Draw → Bool
answers_draw events given (draws.Got buffer stamp) = nat_lt stamp given && not (is_touched events buffer stamp given)
answers_draw events given (draws.Empty stamp) = false

-- L4 at a node
abbrev pub gives_answer : NodeRun → Bool
gives_answer run =
    list_all (λ (given : GivenPlace). option_map_or (λ (d : DrawnPage). answers_draw (pool_events run) given.stamp d.draw) (given_page run run.state given.place) false) run.state.given

-- L4: each give answers the draw of its chunk
abbrev pub has_answers : Played → Bool
has_answers p = list_all gives_answer p.run.nodes

-- ---- examples

histories : (is_history 1 (Got 0 ∷ Empty ∷ Missed ∷ Given 0 ∷ Got 0 ∷ []) ≡ true) × (is_history 2 (Got 1 ∷ []) ≡ false) × (is_history 1 (Empty ∷ []) ≡ false)
    × (is_history 1 (Given 0 ∷ []) ≡ false) × (is_history 1 (Got 0 ∷ Empty ∷ Missed ∷ Missed ∷ []) ≡ false) × (is_history 1 (Got 0 ∷ Missed ∷ []) ≡ false)
histories = (refl, refl, refl, refl, refl, refl)

abbrev event_at : ℕ → PoolEvent → StampedPoolEvent
event_at stamp event = record { stamp = stamp; event = event }

in_order : map (λ (e : StampedPoolEvent). e.stamp) (by_stamp (λ (e : StampedPoolEvent). e.stamp) 3 (event_at 2 Empty ∷ event_at 0 (Got 0) ∷ event_at 1 (Given 0) ∷ [])) ≡ 0 ∷ 1 ∷ 2 ∷ []
in_order = refl

-- the second draw of buffer 0 comes between its first and the give
between : (answers_draw (event_at 0 (Got 0) ∷ event_at 1 (Got 0) ∷ event_at 2 (Given 0) ∷ []) 2 (draws.Got 0 0) ≡ false)
    × (answers_draw (event_at 0 (Got 0) ∷ event_at 1 (Got 1) ∷ event_at 2 (Given 0) ∷ []) 2 (draws.Got 0 0) ≡ true)
    × (answers_draw (event_at 2 (Got 0) ∷ event_at 1 (Given 0) ∷ []) 1 (draws.Got 0 2) ≡ false)
between = (refl, refl, refl)
