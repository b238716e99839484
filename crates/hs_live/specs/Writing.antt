-- How a client's pages come about: by steps of its core, whose draws are those that its drawer answered, and whose full
-- chunks were sent. What its operations are to record follows from the operations alone, and the steps have recorded it.
use Rattle.std.specs.Prelude.{◌≡◌, ℕ, ◌+◌, ◌≤◌, Bool, List, [], ◌∷◌, ◌++◌, length, reverse, Option, Some, None, IsSome, MatchOption, refl}
use Rattle.std.specs.List.{AllByRecursion}
use Rattle.hs_base.specs.declared.ids.ClientId.{ClientId}
use Rattle.hs_base.specs.declared.settings.AutoRule.{AutoRule}
use Rattle.hs_base.specs.declared.limits.TheConstants.{MIN_SIZE}
use Rattle.hs_records.specs.Plain.{Operation}
use Rattle.hs_records.specs.Records.{Piece, Segment}
use Rattle.hs_records.specs.declared.journal.Draw.{Draw}
use Rattle.hs_records.specs.declared.journal.Draw.TheVariants as draws
use Rattle.hs_words.specs.Pools.{PoolName}
use Rattle.hs_words.specs.PoolHistory.{PoolEvent, Got, Empty, Given, Missed}
use Rattle.hs_words.specs.Ends.{Answer}
use Rattle.hs_words.specs.Chunks.{clear_chunk}
use Rattle.hs_words.specs.Buffers.{Buffer}
use Rattle.hs_client.specs.Core.{Core, CoreStep, new_core, handed}
use Rattle.hs_client.specs.Calls.{AreSteps, after, next_number, segments_of_steps, chunks_supplied, draws_supplied, handed_out, with_all}
use Rattle.hs_link.specs.Contents.{Outgoing, sent}
use Rattle.hs_ring.specs.Parts.{Leased, Drawing}
use Rattle.hs_live.specs.Keys.{Key, IsChunkOf}
use Rattle.hs_live.specs.Live.{PlainClient, GoesOn}

-- What a client was made with, or what its core was renewed with; its drawer may have drawn before. A renewed one has done
-- operations before, all of whose traces are closed, and sent the chunks of their pages.
pub record Made : Type 0 where
  pub client : ClientId
  pub size : ℕ
  pub calls : ℕ
  pub autos : List AutoRule
  pub answers : List Answer
  -- whether its core keeps its book
  pub keeps : Bool
  -- how often it was renewed
  pub renewed : ℕ
  pub earlier : List Operation
  pub before : List (Buffer Leased)

-- a client without its crumbs and triggers
pub record Writing : Type 0 where
  pub core : Core Leased
  pub drawer : Drawing
  pub chunks : Outgoing (Buffer Leased) Key

abbrev pub writing_of : PlainClient → Writing
writing_of client = record { core = client.core; drawer = client.drawer; chunks = client.chunks }

-- the core as it was made
abbrev pub new_of : Made → Core Leased
new_of made = record (new_core made.client made.size made.calls) { keeps = made.keeps; renewed = made.renewed }

-- ---- what was drawn

-- what is noted of an answer to a draw
abbrev pub noted : ℕ → PoolEvent → Draw
noted stamp (Got buffer) = draws.Got buffer stamp
noted stamp Empty = draws.Empty stamp
noted stamp (Given buffer) = draws.Empty stamp
noted stamp Missed = draws.Empty stamp

-- the draws of these answers, the last of which stands first
abbrev pub draws_by : List Answer → List Draw
draws_by [] = []
draws_by (answer ∷ earlier) = draws_by earlier ++ noted answer.stamp answer.event ∷ []

-- the buffer that an answer gave, with a lease of its own, which has this number
abbrev pub buffer_got : PoolName → ℕ → ℕ → ℕ → PoolEvent → Option (Buffer Leased)
buffer_got pool size mark stamp (Got buffer) = Some (record { chunk = clear_chunk size buffer; lease = record { pool = pool; buffer = buffer; draw = stamp; mark = mark } })
buffer_got pool size mark stamp Empty = None
buffer_got pool size mark stamp (Given buffer) = None
buffer_got pool size mark stamp Missed = None

-- the buffers of these answers, the last of which stands first
abbrev pub buffers_by : PoolName → ℕ → ℕ → List Answer → List (Option (Buffer Leased))
buffers_by pool size mark [] = []
buffers_by pool size mark (answer ∷ earlier) = buffers_by pool size mark earlier ++ buffer_got pool size mark answer.stamp answer.event ∷ []

-- ---- the steps of the core

-- The client comes by these steps of its core, the last of which stands first.
pub record ComesBy (made : Made) (steps : List (CoreStep Leased)) (w : Writing) : Type 0 where
  pub may : AreSteps (new_of made) steps
  pub core : w.core ≡ after (new_of made) steps
  pub number : w.core.number ≡ next_number steps
  pub chunks : sent w.chunks ≡ made.before ++ handed_out (new_of made) steps
  -- what its drawer answered since it was made
  pub answers : List Answer
  pub since : w.drawer.answers ≡ answers ++ made.answers
  pub draws : draws_supplied steps ≡ draws_by answers
  -- the leases of its chunks have the number of the renewal
  pub buffers : chunks_supplied steps ≡ buffers_by w.drawer.pool w.drawer.size made.renewed answers

-- ---- what is recorded, and what is still to be recorded

-- With these pieces more in the open trace and these segments behind it, the client has recorded all of these segments.
pub record IsWriting (made : Made) (pieces : List Piece) (later all : List Segment) (w : Writing) : Type 0 where
  pub steps : List (CoreStep Leased)
  pub comes : ComesBy made steps w
  pub gives : reverse (with_all pieces (segments_of_steps steps)) ++ later ≡ all

-- Where these pieces were next in the open trace, the client has them behind it.
abbrev pub WritesPieces : List Piece → Writing → Writing → Type 0
WritesPieces here old new = (made : Made) (pieces : List Piece) (later all : List Segment) → IsWriting made (here ++ pieces) later all old → IsWriting made pieces later all new

-- Where no piece was next, the client is behind the trace.
abbrev pub WritesEnd : Writing → Writing → Type 0
WritesEnd old new = (made : Made) (later all : List Segment) → IsWriting made [] later all old → IsWriting made [] later all new

-- ---- what a call takes

-- what a draw may be answered
abbrev pub IsDraw : PoolEvent → Type 0
IsDraw (Got buffer) = Unit {0}
IsDraw Empty = Unit {0}
IsDraw (Given buffer) = ⊥
IsDraw Missed = ⊥

abbrev pub IsDrawn : Answer → Type 0
IsDrawn answer = IsDraw answer.event × (answer.draw ≡ 0)

-- The drawer is the same, and has a floor that did not fall. Whatever it was answered since is the answer to a draw, and has a
-- stamp that is not below the floor of before.
pub record DrawsOn (old new : Drawing) : Type 0 where
  pub pool : new.pool ≡ old.pool
  pub buffers : new.buffers ≡ old.buffers
  pub size : new.size ≡ old.size
  pub number : new.number ≡ old.number
  pub floor : old.floor ≤ new.floor
  pub added : List Answer
  pub since : new.answers ≡ added ++ old.answers
  pub above : AllByRecursion (λ (a : Answer). old.floor ≤ a.stamp) added
  pub drawn : AllByRecursion IsDrawn added

-- So many calls of the core were counted. As many draws at most were made, and as many chunks at most were sent.
pub record Spends (calls : ℕ) (old new : Writing) : Type 0 where
  pub owner : new.core.client ≡ old.core.client
  pub size : new.core.size ≡ old.core.size
  pub calls_are : new.core.calls ≡ old.core.calls
  pub keeps : new.core.keeps ≡ old.core.keeps
  pub counted : new.core.counted ≡ old.core.counted + calls
  pub drawer : DrawsOn old.drawer new.drawer
  pub left : old.drawer.left ≤ new.drawer.left + calls
  pub chunks : GoesOn old.chunks new.chunks
  pub items : length (sent new.chunks) ≤ length (sent old.chunks) + calls

-- ---- what is true between calls

-- The key of the chunks names what the client has.
pub record IsNamed (key : Key) (core : Core Leased) (drawer : Drawing) : Type 0 where
  pub owner : key.client ≡ core.client
  pub pool : key.pool ≡ drawer.pool
  pub size : key.size ≡ core.size

-- The chunks of the pool have the core's size. The core has at most a chunk that may be sent. A trace that has no page has
-- used no byte of one.
pub record IsSound (w : Writing) : Type 0 where
  pub least : MIN_SIZE ≤ w.core.size
  pub drawn : w.drawer.size ≡ w.core.size
  pub named : IsNamed w.chunks.key w.core w.drawer
  pub ready : IsSome w.core.trace → w.core.current ≡ None → w.core.used ≡ 0
  pub held : MatchOption (handed w.core) (Unit {0}) (IsChunkOf w.chunks.key)

-- ---- examples

-- a buffer was got and then none, so the pool was empty the second time
two_draws : draws_by (record { stamp = 4; event = Empty; draw = 0 } ∷ record { stamp = 2; event = Got 7; draw = 0 } ∷ []) ≡ draws.Got 7 2 ∷ draws.Empty 4 ∷ []
two_draws = refl

one_buffer : buffers_by [] 64 3 (record { stamp = 4; event = Empty; draw = 0 } ∷ record { stamp = 2; event = Got 7; draw = 0 } ∷ [])
    ≡ Some (record { chunk = clear_chunk 64 7; lease = record { pool = []; buffer = 7; draw = 2; mark = 3 } }) ∷ None ∷ []
one_buffer = refl
