-- How a client's pages come about: by steps of its core, whose draws are those of its well, and whose full chunks wait behind those that
-- the agent took. What the operations are to record follows from them alone, and the steps have recorded it.
use Rattle.std.specs.Prelude.{◌≡◌, ℕ, ◌+◌, ◌≤◌, List, [], ◌++◌, length, map, reverse, Option, Some, None, IsSome}
use Rattle.hs_base.specs.declared.ids.ClientId.{ClientId}
use Rattle.hs_base.specs.declared.settings.AutoRule.{AutoRule}
use Rattle.hs_base.specs.declared.limits.TheConstants.{MIN_SIZE}
use Rattle.hs_records.specs.Records.{Piece, Segment}
use Rattle.hs_records.specs.declared.journal.Draw.{Draw}
use Rattle.hs_records.specs.declared.journal.Draw.TheVariants as draws
use Rattle.hs_words.specs.Chunks.{clear_chunk}
use Rattle.hs_client.specs.Core.{Core, CoreStep, new_core}
use Rattle.hs_client.specs.Calls.{AreSteps, after, next_number, segments_of_steps, chunks_supplied, draws_supplied, handed_out, with_all}
use Rattle.hs_replay_client.specs.ReplayClients.{Unleased}
use Rattle.hs_replay_client.specs.Wells.{Way, IsReadyFor, DrawsAll}

-- what a client was made with
pub record Made : Type 0 where
  pub client : ClientId
  pub size : ℕ
  pub calls : ℕ
  pub autos : List AutoRule

-- a client's core with the chunks that wait
pub record Writing : Type 0 where
  pub core : Core (Unit {0})
  pub chunks : List Unleased

-- the core as it was made
abbrev pub new_of : Made → Core (Unit {0})
new_of made = new_core made.client made.size made.calls

-- ---- the steps of the core

-- the buffer of a draw, clear
abbrev pub buffer_got : ℕ → Draw → Option Unleased
buffer_got size (draws.Got buffer stamp) = Some (record { chunk = clear_chunk size buffer; lease = tt })
buffer_got size (draws.Empty stamp) = None

-- The client comes by these steps of its core, the last of which stands first, where these chunks were taken.
pub record ComesBy (made : Made) (steps : List (CoreStep (Unit {0}))) (gone : List Unleased) (w : Writing) : Type 0 where
  pub may : AreSteps (new_of made) steps
  pub core : w.core ≡ after (new_of made) steps
  pub number : w.core.number ≡ next_number steps
  pub chunks : gone ++ w.chunks ≡ handed_out (new_of made) steps
  pub buffers : chunks_supplied steps ≡ map (buffer_got made.size) (draws_supplied steps)

-- ---- what is recorded, and what is still to be recorded

-- With these pieces more in the open trace and these segments behind it, the client has recorded all of these segments.
pub record IsWriting (made : Made) (gone : List Unleased) (pieces : List Piece) (later all : List Segment) (w : Writing) : Type 0 where
  pub steps : List (CoreStep (Unit {0}))
  pub comes : ComesBy made steps gone w
  pub gives : reverse (with_all pieces (segments_of_steps steps)) ++ later ≡ all

-- Where these pieces were next in the open trace, the client has them behind it.
abbrev pub WritesPieces : List Piece → Writing → Writing → Type 0
WritesPieces here old new =
    (made : Made) (gone : List Unleased) (pieces : List Piece) (later all : List Segment) → IsWriting made gone (here ++ pieces) later all old → IsWriting made gone pieces later all new

-- Where no piece was next, the client is behind the trace.
abbrev pub WritesEnd : Writing → Writing → Type 0
WritesEnd old new = (made : Made) (gone : List Unleased) (later all : List Segment) → IsWriting made gone [] later all old → IsWriting made gone [] later all new

-- ---- what is spent

-- So many calls of the core at most were counted, and as many draws at most were made, each of which is noted.
pub record Spends {P : Type 0} (way : Way P) (calls : ℕ) (old new : Core (Unit {0})) (well well' : P) : Type 0 where
  pub size_is : new.size ≡ old.size
  pub calls_are : new.calls ≡ old.calls
  pub counted : new.counted ≤ old.counted + calls
  pub drawn : List Draw
  pub few : length drawn ≤ calls
  pub notes : new.draws ≡ old.draws ++ drawn
  pub draws : DrawsAll way drawn well well'
  pub ready : (size more : ℕ) → IsReadyFor way well size (more + calls) → IsReadyFor way well' size more

-- One call of the core was counted, and none was drawn.
pub record CountsOne (old new : Core (Unit {0})) : Type 0 where
  pub size_is : new.size ≡ old.size
  pub calls_are : new.calls ≡ old.calls
  pub counted : new.counted ≡ old.counted + 1
  pub draws : new.draws ≡ old.draws

-- ---- what is true between calls

-- A trace that has no page has used no byte of one. Where no trace is open, there is no page.
pub record IsSound (core : Core (Unit {0})) : Type 0 where
  pub least : MIN_SIZE ≤ core.size
  pub ready : IsSome core.trace → core.current ≡ None → core.used ≡ 0
  pub closed : core.trace ≡ None → core.current ≡ None

-- ---- what recording does

-- These pieces were recorded in the open trace, in so many calls of the core, and the next one is of the record with this number.
pub record Records {P : Type 0} (way : Way P) (calls number : ℕ) (here : List Piece) (old new : Writing) (well well' : P) : Type 0 where
  pub sound : IsSound new.core
  pub trace_is : new.core.trace ≡ old.core.trace
  pub number_is : new.core.number ≡ number
  pub page : IsSome new.core.current
  pub spends : Spends way calls old.core new.core well well'
  pub written : WritesPieces here old new

-- The open trace is ended.
pub record EndsTrace (old new : Writing) : Type 0 where
  pub sound : IsSound new.core
  pub trace_is : new.core.trace ≡ None
  pub number_is : new.core.number ≡ old.core.number
  pub page : new.core.current ≡ None
  pub spends : CountsOne old.core new.core
  pub written : WritesEnd old new
