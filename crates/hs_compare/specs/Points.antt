-- A walk through the operations of a client, and what it finds there.
use Rattle.std.specs.Prelude.{◌≡◌, ℕ, List, [], ◌∷◌, ◌++◌, length, map, Option, Some, None, option_map}
use Rattle.hs_base.specs.declared.ids.ClientId.{ClientId}
use Rattle.hs_records.specs.Plain.{Operation}
use Rattle.hs_records.specs.Records.{Record, record_in, records_of}
use Rattle.hs_client.specs.OneMore.{open_after}
use Rattle.hs_compare.specs.Coming.{comings_of}
use Rattle.hs_compare.specs.Happens.{coming_of, points_by}
use Rattle.hs_compare.specs.Walking.{AreOf, IsScript}
use Rattle.hs_compare.specs.declared.coming.Coming.{Coming}
use Rattle.hs_compare.specs.declared.happening.ScriptEvent.{ScriptEvent}
use Rattle.hs_compare.specs.declared.happening.ScriptEvent.TheVariants.{Comes}
use Rattle.hs_compare.specs.declared.happening.NumberedEvent.{NumberedEvent}
use Rattle.hs_compare.specs.declared.points.Seen.{Seen}
use Rattle.hs_compare.specs.declared.points.RecordWalk.{RecordWalk}
use Rattle.hs_compare.specs.declared.script.Script.{Script}

abbrev pub Operations : Type 0
Operations = List Operation

abbrev pub Comings : Type 0
Comings = List Coming

-- the first of these records, without its payload
abbrev pub record_seen : List Record → Option Seen
record_seen [] = None
record_seen (r ∷ records) = Some (record { trace = r.trace; bytes = length r.payload })

-- a record as it comes, where it is the one of this number of the client
abbrev pub coming_seen : ClientId → ℕ → Seen → Coming
coming_seen client number seen = record { id = record { client = client; number = number }; trace = seen.trace; bytes = seen.bytes }

-- the record that the operation behind these brings
abbrev pub brought : ClientId → List Operation → Operation → Option Coming
brought client ops op = option_map (coming_seen client (length (records_of ops))) (record_seen (record_in (open_after None ops) op))

abbrev pub comes_in : Option Coming → List ScriptEvent
comes_in None = []
comes_in (Some coming) = Comes coming.id coming.trace ∷ []

-- These operations were walked through.
pub record HasGone (ops : List Operation) (walk : RecordWalk) : Type 0 where
  pub current : walk.current ≡ open_after None ops
  pub count : walk.count ≡ length (records_of ops)

-- Their records joined these.
pub record HasJoined (ops : List Operation) (first : List Coming) (walk : RecordWalk) (all : List Coming) : Type 0 where
  pub gone : HasGone ops walk
  pub joined : map coming_of all ≡ map coming_of first ++ comings_of walk.client ops

-- The script has what happens in these operations of a client, in which these traces are named.
pub record IsScriptOf (client : ClientId) (names : List NumberedEvent) (ops : List Operation) (script : Script) : Type 0 where
  pub is : IsScript (points_by client ops) names (length ops) script
  pub low : AreOf (length ops) (points_by client ops)

-- They were walked through.
pub record HasScript (names : List NumberedEvent) (ops : List Operation) (walk : RecordWalk) (script : Script) : Type 0 where
  pub gone : HasGone ops walk
  pub holds : IsScriptOf walk.client names ops script
