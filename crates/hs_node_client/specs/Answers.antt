-- What the calls of a client of a service answer: each answer by its cause in what is seen of the client, and by nothing else.
use Rattle.std.specs.Prelude.{◌≡◌, ◌⊎◌, ℕ, ◌+◌, ◌/◌, ◌^◌, ◌<◌, ◌≤◌, true, false, length, None, IsSome, refl}
use Rattle.hs_base.specs.Rules.{is_declared}
use Rattle.hs_base.specs.declared.ids.NodeId.{NodeId}
use Rattle.hs_base.specs.declared.told.Trigger.{Trigger}
use Rattle.hs_base.specs.declared.limits.TheConstants.{MAX_PAYLOAD, PIECE_COST}
use Rattle.hs_client.specs.Core.{Core, Fits, NeedsPage}
use Rattle.hs_link.specs.Contents.{HasPlaces}
use Rattle.hs_live.specs.Live.{PlainClient}
use Rattle.hs_records.specs.Records.{piece_count}
use Rattle.hs_ring.specs.Parts.{Leased}
use Rattle.hs_node_client.specs.Clients.{PlainNodeClient}
use Rattle.hs_node_client.specs.Lives.{IsLow}
use Rattle.hs_node_client.specs.Notes.{Lacks}
use Rattle.hs_node_client.specs.declared.answers.CallAnswer.{CallAnswer}
use Rattle.hs_node_client.specs.declared.answers.CallAnswer.TheVariants as called

-- ---- numbers

-- A renewal has a number of 64 bits, where one is due.
abbrev pub MayRenew : Core Leased → Type 0
MayRenew core = IsLow core → core.renewed + 1 < 2 ^ 64

abbrev pub IsAtItsLast : Core Leased → Type 0
IsAtItsLast core = IsLow core × (core.renewed + 1 ≡ 2 ^ 64)

-- The notes of a begin and an end have numbers of 64 bits, and so has the renewal.
pub record MayBegin (client : PlainNodeClient) : Type 0 where
  pub notes : client.notebook.number + 2 < 2 ^ 64
  pub renews : MayRenew client.live.core

abbrev pub IsAtItsEnd : PlainNodeClient → Type 0
IsAtItsEnd client = (2 ^ 64 ≤ client.notebook.number + 2) ⊎ IsAtItsLast client.live.core

-- the calls that are set aside where a page is drawn: one for each piece that it may have, and those that end the trace
abbrev pub set_aside : ℕ → ℕ
set_aside size = size / PIECE_COST + 2

-- The core has calls for so many pieces and those set aside.
abbrev pub HasCallsFor : ℕ → Core Leased → Type 0
HasCallsFor pieces core = core.counted + pieces + set_aside core.size ≤ core.calls

abbrev pub LacksCallsFor : ℕ → Core Leased → Type 0
LacksCallsFor pieces core = core.calls < core.counted + pieces + set_aside core.size

-- The core has these calls, and the drawer as many draws as pieces.
pub record HasNumbers (pieces : ℕ) (client : PlainClient) : Type 0 where
  pub calls : HasCallsFor pieces client.core
  pub draws : pieces ≤ client.drawer.left

-- The core has these calls, and the drawer has as many draws, or would have them if its allowance were whole.
pub record MayHaveNumbers (pieces : ℕ) (client : PlainClient) : Type 0 where
  pub calls : HasCallsFor pieces client.core
  pub draws : (pieces ≤ client.drawer.left) ⊎ (pieces ≤ client.drawer.most)

abbrev pub LacksNumbers : ℕ → PlainClient → Type 0
LacksNumbers pieces client = LacksCallsFor pieces client.core ⊎ (client.drawer.left < pieces)

-- the pieces of a payload of so many bytes
abbrev pub pieces_in : PlainClient → ℕ → ℕ
pieces_in client bytes = piece_count client.core.size bytes

-- ---- answers

abbrev pub BeginsBy : PlainNodeClient → CallAnswer → Type 0
BeginsBy old called.Done = (old.live.core.trace ≡ None) × MayBegin old
BeginsBy old called.NoTrace = ⊥
BeginsBy old called.AlreadyOpen = IsSome old.live.core.trace
BeginsBy old called.TooWide = ⊥
BeginsBy old called.Full = ⊥
BeginsBy old called.Unknown = ⊥
BeginsBy old called.Spent = (old.live.core.trace ≡ None) × IsAtItsEnd old

-- What is answered where numbers, and places for chunks, are wanted for so many pieces.
abbrev pub PreparesBy : ℕ → PlainClient → CallAnswer → PlainClient → Type 0
PreparesBy pieces old called.Done new = MayHaveNumbers pieces old × HasNumbers pieces new × HasPlaces pieces new.chunks
PreparesBy pieces old called.NoTrace new = ⊥
PreparesBy pieces old called.AlreadyOpen new = ⊥
PreparesBy pieces old called.TooWide new = ⊥
PreparesBy pieces old called.Full new = HasNumbers pieces old × Lacks pieces old.chunks new.chunks
PreparesBy pieces old called.Unknown new = ⊥
PreparesBy pieces old called.Spent new = LacksNumbers pieces old

-- A point that the open page has room for is done. Any other needs numbers, and places for as many chunks as it has pieces. If only draws
-- are wanting, the allowance is made whole first, where it can be.
abbrev pub PointsBy : PlainClient → ℕ → CallAnswer → PlainClient → Type 0
PointsBy old bytes called.Done new = IsSome old.core.trace × (bytes ≤ MAX_PAYLOAD) × (Fits old.core bytes ⊎ MayHaveNumbers (pieces_in old bytes) old)
PointsBy old bytes called.NoTrace new = old.core.trace ≡ None
PointsBy old bytes called.AlreadyOpen new = ⊥
PointsBy old bytes called.TooWide new = IsSome old.core.trace × (MAX_PAYLOAD < bytes)
PointsBy old bytes called.Full new = IsSome old.core.trace × (bytes ≤ MAX_PAYLOAD) × NeedsPage old.core bytes × HasNumbers (pieces_in old bytes) old × Lacks (pieces_in old bytes) old.chunks new.chunks
PointsBy old bytes called.Unknown new = ⊥
PointsBy old bytes called.Spent new = IsSome old.core.trace × (bytes ≤ MAX_PAYLOAD) × NeedsPage old.core bytes × LacksNumbers (pieces_in old bytes) old

abbrev pub CrumbsBy : PlainClient → NodeId → CallAnswer → PlainClient → Type 0
CrumbsBy old node called.Done new = IsSome old.core.trace × (node.0 < old.crumbs.key.nodes)
CrumbsBy old node called.NoTrace new = (old.core.trace ≡ None) × (node.0 < old.crumbs.key.nodes)
CrumbsBy old node called.AlreadyOpen new = ⊥
CrumbsBy old node called.TooWide new = ⊥
CrumbsBy old node called.Full new = IsSome old.core.trace × (node.0 < old.crumbs.key.nodes) × Lacks 1 old.crumbs new.crumbs
CrumbsBy old node called.Unknown new = old.crumbs.key.nodes ≤ node.0
CrumbsBy old node called.Spent new = ⊥

-- A crumb of a trace that need not be open.
abbrev pub LateBy : PlainNodeClient → NodeId → CallAnswer → PlainNodeClient → Type 0
LateBy old node called.Done new = node.0 < old.late.key.nodes
LateBy old node called.NoTrace new = ⊥
LateBy old node called.AlreadyOpen new = ⊥
LateBy old node called.TooWide new = ⊥
LateBy old node called.Full new = (node.0 < old.late.key.nodes) × Lacks 1 old.late new.late
LateBy old node called.Unknown new = old.late.key.nodes ≤ node.0
LateBy old node called.Spent new = ⊥

abbrev pub TriggersBy : PlainClient → Trigger → CallAnswer → PlainClient → Type 0
TriggersBy old trigger called.Done new = is_declared old.triggers.key.rules trigger.trigger ≡ true
TriggersBy old trigger called.NoTrace new = ⊥
TriggersBy old trigger called.AlreadyOpen new = ⊥
TriggersBy old trigger called.TooWide new = ⊥
TriggersBy old trigger called.Full new = (is_declared old.triggers.key.rules trigger.trigger ≡ true) × Lacks 1 old.triggers new.triggers
TriggersBy old trigger called.Unknown new = is_declared old.triggers.key.rules trigger.trigger ≡ false
TriggersBy old trigger called.Spent new = ⊥

abbrev pub SamplesBy : PlainClient → ℕ → CallAnswer → PlainClient → Type 0
SamplesBy old auto called.Done new = IsSome old.core.trace × (auto < length old.autos)
SamplesBy old auto called.NoTrace new = (old.core.trace ≡ None) × (auto < length old.autos)
SamplesBy old auto called.AlreadyOpen new = ⊥
SamplesBy old auto called.TooWide new = ⊥
SamplesBy old auto called.Full new = IsSome old.core.trace × (auto < length old.autos) × Lacks 1 old.triggers new.triggers
SamplesBy old auto called.Unknown new = length old.autos ≤ auto
SamplesBy old auto called.Spent new = ⊥

abbrev pub EndsBy : PlainClient → CallAnswer → PlainClient → Type 0
EndsBy old called.Done new = IsSome old.core.trace
EndsBy old called.NoTrace new = old.core.trace ≡ None
EndsBy old called.AlreadyOpen new = ⊥
EndsBy old called.TooWide new = ⊥
EndsBy old called.Full new = IsSome old.core.trace × Lacks 1 old.chunks new.chunks
EndsBy old called.Unknown new = ⊥
EndsBy old called.Spent new = ⊥

-- ---- examples

-- a page of 64 bytes sets aside eight calls, the largest one 3,278
aside : (set_aside 64 ≡ 8) × (set_aside 32768 ≡ 3278)
aside = (refl, refl)
