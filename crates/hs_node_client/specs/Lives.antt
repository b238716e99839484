-- What a client of a service did in its life: operations of one core after another, of which each was renewed between two traces.
use Rattle.std.specs.Prelude.{◌≡◌, ℕ, ◌+◌, ◌*◌, ◌<◌, ◌≤◌, List, [], ◌∷◌, ◌++◌, refl}
use Rattle.hs_base.specs.declared.ids.TraceId.{TraceId}
use Rattle.hs_client.specs.Core.{Core, renewed_core}
use Rattle.hs_live.specs.Calls.{renewed_of}
use Rattle.hs_live.specs.Done.{HasDone}
use Rattle.hs_live.specs.Live.{PlainClient}
use Rattle.hs_live.specs.Writing.{Made}
use Rattle.hs_records.specs.Plain.{Operation, Begin, End}
use Rattle.hs_ring.specs.Parts.{Leased}
use Rattle.hs_node_client.specs.Clients.{PlainNodeClient, nulls_of}
use Rattle.hs_node_client.specs.Counting.{renewed}
use Rattle.hs_node_client.specs.declared.answers.CallAnswer.{CallAnswer}
use Rattle.hs_node_client.specs.declared.answers.CallAnswer.TheVariants as called

-- what a core was made or renewed with, and the operations since
pub record CoreLife : Type 0 where
  pub made : Made
  pub ops : List Operation

-- the cores of a client, the last first
abbrev pub ClientLife : Type 0
ClientLife = List CoreLife

-- What a core was renewed with, where the operations of the core before it were done.
pub record Renewed (earlier : CoreLife) (later : Made) : Type 0 where
  pub client : PlainClient
  pub calls : ℕ
  pub did : HasDone earlier.made earlier.ops client
  pub made : later ≡ renewed_of earlier.made earlier.ops (record client { core = renewed_core calls client.core })

-- Each core came in the place of the one before, and the first was made with nothing before it.
abbrev pub FollowsOn : Made → ClientLife → Type 0
FollowsOn first [] = (first.earlier ≡ []) × (first.before ≡ [])
FollowsOn later (earlier ∷ cores) = Renewed earlier later × FollowsOn earlier.made cores

-- The client has this life.
abbrev pub HasLife : ClientLife → PlainClient → Type 0
HasLife [] client = ⊥
HasLife (core ∷ cores) client = HasDone core.made core.ops client × FollowsOn core.made cores

-- all operations of a life, in order
abbrev pub operations : ClientLife → List Operation
operations [] = []
operations (core ∷ cores) = operations cores ++ core.ops

-- the life with an operation more of the last core
abbrev pub with_op : Operation → ClientLife → ClientLife
with_op op [] = []
with_op op (core ∷ cores) = record core { ops = core.ops ++ op ∷ [] } ∷ cores

-- Fewer than half of the core's calls are left.
abbrev pub IsLow : Core Leased → Type 0
IsLow core = core.calls < 2 * core.counted

-- Half of the core's calls are left, but for that of the begin.
abbrev pub HasHalf : Core Leased → Type 0
HasHalf core = 2 * core.counted ≤ core.calls + 2

-- The life that a begin goes on with: with a new core where few calls were left, and else the same.
pub record Turns (core : Core Leased) (life life' : ClientLife) : Type 0 where
  pub renewed : IsLow core → (made : Made) × (life' ≡ record { made = made; ops = [] } ∷ life)
  pub same : 2 * core.counted ≤ core.calls → life' ≡ life

-- ---- what a call does to a life

-- No operation was done.
abbrev pub LivesOn : PlainClient → PlainClient → Type 0
LivesOn old new = (life : ClientLife) → HasLife life old → HasLife life new

-- An operation that is done joins those of the last core. Any other answer does none.
abbrev pub Lives : Operation → CallAnswer → PlainClient → PlainClient → Type 0
Lives op called.Done old new = (life : ClientLife) → HasLife life old → HasLife (with_op op life) new
Lives op called.NoTrace old new = LivesOn old new
Lives op called.AlreadyOpen old new = LivesOn old new
Lives op called.TooWide old new = LivesOn old new
Lives op called.Full old new = LivesOn old new
Lives op called.Unknown old new = LivesOn old new
Lives op called.Spent old new = LivesOn old new

-- The core was renewed: a new core stands in front of the life, and has done nothing.
pub record RenewsInto (old new : PlainNodeClient) : Type 0 where
  pub only : new ≡ record old { live = record old.live { core = renewed_core old.live.core.calls old.live.core }; tally = renewed (nulls_of old.live.core) old.tally }
  pub lives : (life : ClientLife) → HasLife life old.live → (made : Made) × HasLife (record { made = made; ops = [] } ∷ life) new.live

-- The core was renewed where few calls were left, and else nothing changed.
pub record TurnsInto (old new : PlainNodeClient) : Type 0 where
  pub low : IsLow old.live.core → RenewsInto old new
  pub half : 2 * old.live.core.counted ≤ old.live.core.calls → new ≡ old

-- A begin that is done is the first operation of a new core where few calls were left, and else joins those of the last one.
abbrev pub BeginsIn : TraceId → PlainClient → PlainClient → Type 0
BeginsIn trace old new = (life : ClientLife) → HasLife life old → (life' : ClientLife) × Turns old.core life life' × HasLife (with_op (Begin trace) life') new

abbrev pub LivesByBegin : TraceId → CallAnswer → PlainClient → PlainClient → Type 0
LivesByBegin trace called.Done old new = BeginsIn trace old new
LivesByBegin trace called.NoTrace old new = LivesOn old new
LivesByBegin trace called.AlreadyOpen old new = LivesOn old new
LivesByBegin trace called.TooWide old new = LivesOn old new
LivesByBegin trace called.Full old new = LivesOn old new
LivesByBegin trace called.Unknown old new = LivesOn old new
LivesByBegin trace called.Spent old new = LivesOn old new

-- ---- examples

-- a life of two cores has the operations of both, and one more joins the last
abbrev core_of : Made → List Operation → CoreLife
core_of made ops = record { made = made; ops = ops }

two_cores : (a b : Made) (trace : TraceId) → operations (with_op End (core_of b (Begin trace ∷ []) ∷ core_of a (Begin trace ∷ End ∷ []) ∷ [])) ≡ Begin trace ∷ End ∷ Begin trace ∷ End ∷ []
two_cores a b trace = refl
