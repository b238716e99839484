-- Where the points of a client stand over its whole life. A life is in order where each of its operations had its place: a trace was open for
-- those that need one, and none for a begin. The last trace may still be open.
use Rattle.std.specs.Prelude.{◌≡◌, ℕ, ◌≤◌, Bool, true, false, List, [], ◌∷◌, ◌++◌, length, Option, None, IsSome, refl}
use Rattle.hs_base.specs.declared.ids.TraceId.{TraceId}
use Rattle.hs_base.specs.declared.limits.TheConstants.{MIN_SIZE}
use Rattle.hs_records.specs.Plain.{Operation, Begin, Point, End, Fire}
use Rattle.hs_records.specs.Records.{records_of}
use Rattle.hs_records.specs.Pages.{pages_of}
use Rattle.hs_records.specs.Laws.{pieces_on, pieces_of_records}
use Rattle.hs_words.specs.Buffers.{Buffer}
use Rattle.hs_words.specs.Ends.{Answer}
use Rattle.hs_words.specs.Pools.{PoolName}
use Rattle.std.specs.Option.{option_to_list}
use Rattle.hs_client.specs.Calls.{filled_chunks}
use Rattle.hs_client.specs.Core.{handed}
use Rattle.hs_link.specs.Contents.{Incoming}
use Rattle.hs_live.specs.Keys.{Key}
use Rattle.hs_live.specs.Live.{PlainClient}
use Rattle.hs_ring.specs.Parts.{Leased}
use Rattle.hs_live.specs.Writing.{buffers_by}
use Rattle.hs_node_client.specs.Lives.{CoreLife, ClientLife}

-- ---- operations in their places

-- An operation has its place where this trace is open, or none.
abbrev pub MayDo : Operation → Option TraceId → Type 0
MayDo (Begin next) trace = trace ≡ None
MayDo (Fire trigger) trace = Unit {0}
MayDo operation trace = IsSome trace

-- From a core's start, or within a trace, each operation has its place.
abbrev pub AreBegun : Bool → List Operation → Type 0
AreBegun is_open [] = Unit {0}
AreBegun is_open (Begin trace ∷ operations) = (is_open ≡ false) × AreBegun true operations
AreBegun is_open (End ∷ operations) = (is_open ≡ true) × AreBegun false operations
AreBegun is_open (Fire trigger ∷ operations) = AreBegun is_open operations
AreBegun is_open (operation ∷ operations) = (is_open ≡ true) × AreBegun is_open operations

-- Each core of a life has pages of some size, and operations that have their places.
abbrev pub IsInOrder : ClientLife → Type 0
IsInOrder [] = Unit {0}
IsInOrder (core ∷ cores) = (MIN_SIZE ≤ core.made.size) × AreBegun false core.ops × IsInOrder cores

-- ---- where points stand

-- A core's points are cut into pieces that stand on its pages, once and in order. Each page had a draw, of which these answers tell, the last
-- first. A page whose draw got a buffer is the page of one of these chunks, in order; a page whose draw got none is null.
pub record CoreStands (core : CoreLife) (answers : List Answer) (chunks : List (Buffer Leased)) : Type 0 where
  pub pieces : pieces_on (pages_of core.made.size core.ops) ≡ pieces_of_records core.made.size 0 (records_of core.ops)
  -- the answers since the core came
  pub own : List Answer
  pub since : answers ≡ own ++ core.made.answers
  pub each : length own ≡ length (pages_of core.made.size core.ops)
  pub pool : PoolName
  pub size : ℕ
  pub filled : chunks ≡ filled_chunks core.made.client 0 (pages_of core.made.size core.ops) (buffers_by pool size core.made.renewed own)

-- So stand the points of each core of a life, the last of which is first, by what the drawer was answered, in chunks one core behind another.
abbrev pub AllStand : ClientLife → List Answer → List (Buffer Leased) → Type 0
AllStand [] answers chunks = chunks ≡ []
AllStand (core ∷ cores) answers chunks =
    (before : List (Buffer Leased)) × (own : List (Buffer Leased)) × (chunks ≡ before ++ own) × CoreStands core answers own × AllStand cores core.made.answers before

-- The chunks of a life's points: those that the port received, then those in the link's ring, then those in the client's outbox, and last the one
-- that is written.
pub record IsOnItsWay (life : ClientLife) (client : PlainClient) (port : Incoming (Buffer Leased) Key) : Type 0 where
  pub ring : List (Buffer Leased)
  pub put : client.chunks.put ≡ port.received ++ ring
  pub stand : AllStand life client.drawer.answers (port.received ++ (ring ++ (client.chunks.outbox ++ option_to_list (handed client.core))))

-- ---- examples

-- a trace may still be open at the end, but no point stands behind its end
begun : (trace : TraceId) → AreBegun false (Begin trace ∷ Point 7 [] ∷ [])
begun trace = (refl, (refl, tt))

outside : (trace : TraceId) → AreBegun false (Begin trace ∷ End ∷ Point 7 [] ∷ []) → false ≡ true
outside trace h = h.1.1.0
