-- The clients of a node as they were made: nothing was done, and the other ends of their links stand by the number of the client.
use Rattle.std.specs.Prelude.{◌≡◌, ℕ, ◌/◌, List, [], ◌∷◌, length, map, replicate, slice_get, Some}
use Rattle.std.specs.List.{AllByRecursion}
use Rattle.hs_auto.specs.Watching.{Watch, HasSampled}
use Rattle.hs_base.specs.declared.ids.ClientId.{ClientId}
use Rattle.hs_base.specs.declared.limits.TheConstants.{MOST_AHEAD}
use Rattle.hs_base.specs.declared.settings.AutoRule.{AutoRule}
use Rattle.hs_base.specs.declared.settings.TriggerRule.{TriggerRule}
use Rattle.hs_base.specs.declared.told.Crumb.{Crumb}
use Rattle.hs_base.specs.declared.told.Trigger.{Trigger}
use Rattle.hs_client.specs.Core.{bare_core}
use Rattle.hs_link.specs.Contents.{Incoming, AreNewEnds}
use Rattle.hs_live.specs.Calls.{made_of}
use Rattle.hs_live.specs.Keys.{Key}
use Rattle.hs_live.specs.Live.{incoming}
use Rattle.hs_ring.specs.Parts.{Leased, Drawing, Giving}
use Rattle.hs_words.specs.Buffers.{Buffer}
use Rattle.hs_node_client.specs.declared.limits.ClientLimits.{ClientLimits}
use Rattle.hs_node_client.specs.declared.making.Made.{Made}
use Rattle.hs_node_client.specs.declared.making.Joined.{Joined}
use Rattle.hs_node_client.specs.declared.making.Receivers.{Receivers}
use Rattle.hs_node_client.specs.declared.making.Senders.{Senders}
use Rattle.hs_node_client.specs.declared.segment.SegmentNote.{SegmentNote}
use Rattle.hs_node_client.specs.declared.segment.SegmentKey.{SegmentKey}
use Rattle.hs_node_client.specs.Clients.{PlainNodeClient}
use Rattle.hs_node_client.specs.Counting.{no_counts}
use Rattle.hs_node_client.specs.Known.{rules_in}
use Rattle.hs_node_client.specs.Lives.{HasLife}

-- the rules that all clients of a node go by: those of the autotriggers and of the trigger ids, and how many nodes there are
pub record PlainRules : Type 0 where
  pub autos : List AutoRule
  pub triggers : List TriggerRule
  pub nodes : ℕ

abbrev pub rules_by : List AutoRule → List TriggerRule → ℕ → PlainRules
rules_by autos triggers nodes = record { autos = autos; triggers = triggers; nodes = nodes }

abbrev pub id_of : ClientLimits → ℕ → ClientId
id_of limits number = record { node = limits.node; number = number }

-- the key of the links of a client
abbrev pub key_of : PlainRules → Giving → ClientId → Key
key_of rules giver id = record { client = id; pool = giver.pool; size = giver.size; nodes = rules.nodes; rules = rules.triggers }

-- the equal shares of the draws that all clients may make before they look at the counts of the pool again
abbrev pub share : ℕ → ℕ
share clients = MOST_AHEAD / clients

abbrev pub shares : ℕ → List ℕ
shares clients = replicate clients (share clients)

-- the drawer of the client with this number in a new pool
abbrev pub drawer_of : ClientLimits → Giving → ℕ → Drawing
drawer_of limits giver number =
    record { pool = giver.pool; buffers = limits.buffers; size = limits.size; number = number; most = share limits.clients; left = share limits.clients; floor = 0; answers = [] }

-- the giver of a new pool
abbrev pub IsGiverOf : ClientLimits → Giving → Type 0
IsGiverOf limits giver = giver ≡ record { pool = giver.pool; buffers = limits.buffers; size = limits.size; drawers = limits.clients; floor = 0; turns = [] }

-- ---- one client

-- An autotrigger of each rule, which was given nothing.
pub record AreNewAutos (rules : List AutoRule) (autos : List Watch) : Type 0 where
  pub rules_are : map (λ (watch : Watch). watch.rule) autos ≡ rules
  pub fresh : AllByRecursion (λ (watch : Watch). HasSampled watch []) autos

-- Nothing was done with the client, which has these limits, rules and this drawer.
pub record IsNewClient (limits : ClientLimits) (rules : PlainRules) (id : ClientId) (drawer : Drawing) (client : PlainNodeClient) : Type 0 where
  pub core : client.live.core ≡ bare_core id limits.size limits.calls
  pub rules_are : rules_in client.live ≡ rules.autos
  pub drawer_is : client.live.drawer ≡ drawer
  pub life : HasLife (record { made = made_of client.live; ops = [] } ∷ []) client.live
  pub number : client.notebook.number ≡ 0
  pub tally : client.tally ≡ no_counts

-- what receives of a client
pub record Ends : Type 0 where
  pub chunks : Incoming (Buffer Leased) Key
  pub crumbs : Incoming Crumb Key
  pub triggers : Incoming Trigger Key
  pub late : Incoming Crumb Key
  pub notes : Incoming SegmentNote SegmentKey

abbrev pub ends_of : Receivers → Ends
ends_of r = record { chunks = incoming r.chunks; crumbs = r.crumbs; triggers = r.triggers; late = r.late; notes = r.notes }

-- New links, with the rings and the outboxes that the limits say.
pub record AreNewLinks (limits : ClientLimits) (key : Key) (id : ClientId) (senders : Senders) (receivers : Receivers) : Type 0 where
  pub chunks : AreNewEnds key limits.backlog limits.backlog senders.chunks receivers.chunks
  pub crumbs : AreNewEnds key limits.backlog limits.backlog senders.crumbs receivers.crumbs
  pub triggers : AreNewEnds key limits.backlog limits.backlog senders.triggers receivers.triggers
  pub late : AreNewEnds key limits.backlog limits.backlog senders.late receivers.late
  pub notes : AreNewEnds (record { 0 = id }) limits.notes limits.notes senders.notes receivers.notes

-- Its links are new, with the rings and the outboxes that the limits say.
pub record AreLinked (limits : ClientLimits) (key : Key) (id : ClientId) (client : PlainNodeClient) (ends : Ends) : Type 0 where
  pub chunks : AreNewEnds key limits.backlog limits.backlog client.live.chunks ends.chunks
  pub crumbs : AreNewEnds key limits.backlog limits.backlog client.live.crumbs ends.crumbs
  pub triggers : AreNewEnds key limits.backlog limits.backlog client.live.triggers ends.triggers
  pub late : AreNewEnds key limits.backlog limits.backlog client.late ends.late
  pub notes : AreNewEnds (record { 0 = id }) limits.notes limits.notes client.notebook.link ends.notes

-- ---- all clients

-- what receives of all clients, by their numbers
pub record Receiving : Type 0 where
  pub chunks : List (Incoming (Buffer Leased) Key)
  pub crumbs : List (Incoming Crumb Key)
  pub triggers : List (Incoming Trigger Key)
  pub late : List (Incoming Crumb Key)
  pub notes : List (Incoming SegmentNote SegmentKey)

-- what receives of the client with this number
pub record StandAt (number : ℕ) (receiving : Receiving) (ends : Ends) : Type 0 where
  pub chunks : slice_get receiving.chunks number ≡ Some ends.chunks
  pub crumbs : slice_get receiving.crumbs number ≡ Some ends.crumbs
  pub triggers : slice_get receiving.triggers number ≡ Some ends.triggers
  pub late : slice_get receiving.late number ≡ Some ends.late
  pub notes : slice_get receiving.notes number ≡ Some ends.notes

-- The client with this number is new, and the other ends of its links stand by the number.
pub record BeginsAt (limits : ClientLimits) (rules : PlainRules) (giver : Giving) (number : ℕ) (receiving : Receiving) (client : PlainNodeClient) : Type 0 where
  pub new : IsNewClient limits rules (id_of limits number) (drawer_of limits giver number) client
  pub ends : Ends
  pub stand : StandAt number receiving ends
  pub linked : AreLinked limits (key_of rules giver (id_of limits number)) (id_of limits number) client ends

-- So many clients, the first ones.
pub record AreJoined (limits : ClientLimits) (rules : PlainRules) (giver : Giving) (count : ℕ) (clients : List PlainNodeClient) (receiving : Receiving) : Type 0 where
  pub clients_are : length clients ≡ count
  pub chunks : length receiving.chunks ≡ count
  pub crumbs : length receiving.crumbs ≡ count
  pub triggers : length receiving.triggers ≡ count
  pub late : length receiving.late ≡ count
  pub notes : length receiving.notes ≡ count
  pub each : (number : ℕ) (client : PlainNodeClient) → slice_get clients number ≡ Some client → BeginsAt limits rules giver number receiving client

abbrev pub joined_ends : Joined → Receiving
joined_ends j = record { chunks = map incoming j.chunks.items; crumbs = j.crumbs.items; triggers = j.triggers.items; late = j.late.items; notes = j.notes.items }

abbrev pub receiving_of : Made → Receiving
receiving_of made = record { chunks = made.port.chunks; crumbs = made.port.crumbs; triggers = made.port.triggers; late = made.late.items; notes = made.segments.items }

-- All clients of the node, with the other ends of all their links and the giver of their pool.
pub record AreMade (limits : ClientLimits) (rules : PlainRules) (made : Made) : Type 0 where
  pub giver : IsGiverOf limits made.port.giver
  pub joined : AreJoined limits rules made.port.giver limits.clients made.clients.items (receiving_of made)
