-- What the calls of a client ask and answer. Each answers by what is seen of the client, and by nothing that an agent does.
use Rattle.std.specs.Prelude.{◌≡◌, ℕ, ◌+◌, ◌^◌, ◌<◌, ◌≤◌, true, false, List, [], ◌++◌, length, map, slice_get, Some, None, IsSome}
use Rattle.std.specs.List.{AllByRecursion}
use Rattle.hs_base.specs.declared.ids.TraceId.{TraceId}
use Rattle.hs_base.specs.declared.ids.TriggerId.{TriggerId}
use Rattle.hs_base.specs.declared.limits.TheConstants.{MAX_PAYLOAD, MOST_CLIENTS}
use Rattle.hs_base.specs.Rules.{fired_by, is_declared}
use Rattle.hs_auto.specs.Watching.{Watch, HasSampled}
use Rattle.hs_records.specs.Plain.{Operation}
use Rattle.hs_client.specs.Core.{Core, Began, after_step, new_core, renewed_core, IsLeft}
use Rattle.hs_link.specs.Contents.{Outgoing, Incoming, sent}
use Rattle.hs_ring.specs.Parts.{Leased, Giving, Meets}
use Rattle.hs_live.specs.declared.called.Called.{Called}
use Rattle.hs_live.specs.declared.called.Called.TheVariants as called
use Rattle.hs_live.specs.Keys.{Key}
use Rattle.hs_live.specs.Live.{PlainClient, Port, IsMate, MeetAt, IsEnd}
use Rattle.hs_live.specs.Writing.{Made}
use Rattle.hs_live.specs.Done.{HasDone}

-- ---- what a client is made of

-- the link was made with this key for this client, and nothing was sent
pub record IsUnused {T : Type 0} (client : PlainClient) (s : Outgoing T Key) : Type 0 where
  pub nothing : sent s ≡ []
  pub owner : s.key.client ≡ client.core.client
  pub pool : s.key.pool ≡ client.drawer.pool
  pub size : s.key.size ≡ client.core.size

-- Nothing was done with its parts, and the keys of its links name its client, its pool, the size of the pool's chunks, one
-- number of nodes, and declared ids with those of the autotriggers among them.
pub record IsNew (client : PlainClient) : Type 0 where
  pub core : client.core ≡ record (new_core client.core.client client.core.size client.core.calls) { keeps = client.core.keeps; renewed = client.core.renewed }
  pub autos : AllByRecursion (λ (watch : Watch). HasSampled watch []) client.autos
  pub declared : AllByRecursion (λ (watch : Watch). is_declared client.triggers.key.rules (fired_by watch.rule) ≡ true) client.autos
  pub drawer : client.drawer.size ≡ client.core.size
  pub chunks : IsUnused client client.chunks
  pub crumbs : IsUnused client client.crumbs
  pub triggers : IsUnused client client.triggers
  pub nodes : (client.crumbs.key.nodes ≡ client.chunks.key.nodes) × (client.triggers.key.nodes ≡ client.chunks.key.nodes)
  pub rooms : client.chunks.room + client.crumbs.room + client.triggers.room < 2 ^ 32

-- what it was made with, where it has done nothing
abbrev pub made_of : PlainClient → Made
made_of client =
    record { client = client.core.client; size = client.core.size; calls = client.core.calls; autos = map (λ (watch : Watch). watch.rule) client.autos; answers = client.drawer.answers; keeps = client.core.keeps; renewed = client.core.renewed; earlier = []; before = [] }

-- what it goes on with where its core was renewed, after these operations since it was made or renewed before
abbrev pub renewed_of : Made → List Operation → PlainClient → Made
renewed_of made ops client =
    record {
      client = made.client;
      size = made.size;
      calls = client.core.calls;
      autos = made.autos;
      answers = client.drawer.answers;
      keeps = false;
      renewed = client.core.renewed;
      earlier = made.earlier ++ ops;
      before = sent client.chunks;
    }

-- After a renewal nothing was done yet, behind all that was. Any other answer changes nothing.
abbrev pub Renews : Called → PlainClient → PlainClient → Type 0
Renews called.Done old new = (made : Made) (ops : List Operation) → HasDone made ops old → HasDone (renewed_of made ops new) [] new
Renews called.Spent old new = new ≡ old
Renews called.AlreadyOpen old new = new ≡ old
Renews called.NoTrace old new = new ≡ old
Renews called.TooWide old new = new ≡ old

-- ---- answers

abbrev pub BeginsBy : Core Leased → Called → Type 0
BeginsBy core called.Done = IsLeft core × (core.trace ≡ None)
BeginsBy core called.Spent = core.counted ≡ core.calls
BeginsBy core called.AlreadyOpen = IsLeft core × IsSome core.trace
BeginsBy core called.NoTrace = ⊥
BeginsBy core called.TooWide = ⊥

abbrev pub PointsBy : Core Leased → ℕ → Called → Type 0
PointsBy core bytes called.Done = IsLeft core × IsSome core.trace × (bytes ≤ MAX_PAYLOAD)
PointsBy core bytes called.Spent = core.counted ≡ core.calls
PointsBy core bytes called.AlreadyOpen = ⊥
PointsBy core bytes called.NoTrace = IsLeft core × (core.trace ≡ None)
PointsBy core bytes called.TooWide = IsLeft core × IsSome core.trace × (MAX_PAYLOAD < bytes)

-- a call that needs an open trace and counts nothing
abbrev pub NotesBy : Core Leased → Called → Type 0
NotesBy core called.Done = IsSome core.trace
NotesBy core called.Spent = ⊥
NotesBy core called.AlreadyOpen = ⊥
NotesBy core called.NoTrace = core.trace ≡ None
NotesBy core called.TooWide = ⊥

abbrev pub EndsBy : Core Leased → Called → Type 0
EndsBy core called.Done = IsLeft core × IsSome core.trace
EndsBy core called.Spent = core.counted ≡ core.calls
EndsBy core called.AlreadyOpen = ⊥
EndsBy core called.NoTrace = IsLeft core × (core.trace ≡ None)
EndsBy core called.TooWide = ⊥

-- The number of a renewal has 64 bits.
abbrev pub RenewsBy : Core Leased → Called → Type 0
RenewsBy core called.Done = (core.trace ≡ None) × (core.renewed + 1 < 2 ^ 64)
RenewsBy core called.Spent = (core.trace ≡ None) × (core.renewed + 1 ≡ 2 ^ 64)
RenewsBy core called.AlreadyOpen = IsSome core.trace
RenewsBy core called.NoTrace = ⊥
RenewsBy core called.TooWide = ⊥

-- the core after a begin
abbrev pub begun : TraceId → Called → Core Leased → Core Leased
begun trace called.Done core = after_step core (Began trace)
begun trace called.Spent core = core
begun trace called.AlreadyOpen core = core
begun trace called.NoTrace core = core
begun trace called.TooWide core = core

-- the core after a renewal
abbrev pub renewed : ℕ → Called → Core Leased → Core Leased
renewed calls called.Done core = renewed_core calls core
renewed calls called.Spent core = core
renewed calls called.AlreadyOpen core = core
renewed calls called.NoTrace core = core
renewed calls called.TooWide core = core

-- how many calls of the core are counted
abbrev pub counts : ℕ → Called → ℕ
counts calls called.Done = calls
counts calls called.Spent = 0
counts calls called.AlreadyOpen = 0
counts calls called.NoTrace = 0
counts calls called.TooWide = 0

-- The autotrigger of this number exists, and fires this trigger id.
abbrev pub IsAutoOf : PlainClient → ℕ → TriggerId → Type 0
IsAutoOf client auto trigger = (watch : Watch) × (slice_get client.autos auto ≡ Some watch) × (fired_by watch.rule ≡ trigger)

-- ---- what else changes

-- Only what writes pages changed.
pub record WritesOnly (old new : PlainClient) : Type 0 where
  pub autos : new.autos ≡ old.autos
  pub crumbs : new.crumbs ≡ old.crumbs
  pub triggers : new.triggers ≡ old.triggers

-- ---- the port

-- The key names the giver's pool, with the size of its chunks, and the client of this number.
pub record IsOf (giver : Giving) (number : ℕ) (key : Key) : Type 0 where
  pub pool : key.pool ≡ giver.pool
  pub size : key.size ≡ giver.size
  pub number_is : key.client.number ≡ number

abbrev pub AreOf : {T : Type 0} → Giving → List (Incoming T Key) → Type 0
AreOf giver receivers = (number : ℕ) (r : _) → IsEnd number receivers r → IsOf giver number r.key

-- The port has three ends of each client, from one client to as many as a node may have, and their keys name the pool and
-- the client.
pub record IsPort (port : Port) : Type 0 where
  pub some : 1 ≤ length port.chunks
  pub few : length port.chunks ≤ MOST_CLIENTS
  pub crumbs : length port.crumbs ≡ length port.chunks
  pub triggers : length port.triggers ≡ length port.chunks
  pub of_chunks : AreOf port.giver port.chunks
  pub of_crumbs : AreOf port.giver port.crumbs
  pub of_triggers : AreOf port.giver port.triggers

-- The client of this number has the other ends of its links, and draws from the giver's pool.
pub record AreMates (number : ℕ) (port : Port) (client : PlainClient) : Type 0 where
  pub chunks : IsMate number port.chunks client.chunks
  pub crumbs : IsMate number port.crumbs client.crumbs
  pub triggers : IsMate number port.triggers client.triggers
  pub pool : client.drawer.pool ≡ port.giver.pool

-- The ends of the three links hear of each other, and the giver and the drawer meet.
pub record MeetsAt (number : ℕ) (port : Port) (client : PlainClient) (port' : Port) (client' : PlainClient) : Type 0 where
  pub chunks : MeetAt number port.chunks client.chunks port'.chunks client'.chunks
  pub crumbs : MeetAt number port.crumbs client.crumbs port'.crumbs client'.crumbs
  pub triggers : MeetAt number port.triggers client.triggers port'.triggers client'.triggers
  pub pool : Meets port.giver client.drawer port'.giver client'.drawer
  pub core : client'.core ≡ client.core
  pub autos : client'.autos ≡ client.autos
