-- What a client has done, over the list of its operations so far.
use Rattle.std.specs.Prelude.{◌≡◌, ◌+◌, ◌≤◌, false, List, [], ◌∷◌, ◌++◌, length, reverse, slice_get, Some, None, IsSome, is_some}
use Rattle.hs_base.specs.declared.settings.AutoRule.{AutoRule}
use Rattle.hs_base.specs.declared.told.Crumb.{Crumb}
use Rattle.hs_base.specs.declared.told.Trigger.{Trigger}
use Rattle.hs_auto.specs.Watching.{Watch}
use Rattle.hs_client.specs.Core.{IsLeft}
use Rattle.hs_records.specs.Plain.{Operation, Begin, Point, End, Fire, Sample}
use Rattle.hs_records.specs.Plain as plain
use Rattle.hs_records.specs.Records.{numbered_of, piece_count, segments_from, segments_of, coming}
use Rattle.hs_client.specs.OneMore.{open_after, items_of, AreWatching}
use Rattle.hs_client.specs.SoFar.{has_open_page}
use Rattle.hs_client.specs.Sending.{sent_crumbs, sent_triggers}
use Rattle.hs_records.specs.Validity.{client_pieces}
use Rattle.hs_replay_client.specs.ReplayClients.{Unleased, Working}
use Rattle.hs_replay_client.specs.Writing.{Made, Writing, IsWriting, IsSound}

-- what the agent took
pub record Gone : Type 0 where
  pub chunks : List Unleased
  pub crumbs : List Crumb
  pub triggers : List Trigger

abbrev pub writing_of : Working → Writing
writing_of works = record { core = works.core; chunks = works.chunks }

-- The client has done these operations, and the agent took so much. Whatever operations may follow, with the pieces that these add
-- to the open trace and the segments that they begin, it has recorded the segments of all.
pub record HasDone (made : Made) (ops : List Operation) (gone : Gone) (works : Working) : Type 0 where
  pub writes : (rest : List Operation)
      → IsWriting made gone.chunks (coming made.size works.core.number works.core.trace rest) (segments_from made.size works.core.number rest) (segments_of made.size (ops ++ rest)) (writing_of works)
  pub size : works.core.size ≡ made.size
  pub calls : works.core.calls ≡ made.calls
  pub counted : works.core.counted ≤ client_pieces made.size ops
  pub trace : works.core.trace ≡ open_after None ops
  pub page : is_some works.core.current ≡ has_open_page false ops
  pub sound : IsSound works.core
  pub crumbs : gone.crumbs ++ works.crumbs ≡ items_of (sent_crumbs ops)
  pub triggers : gone.triggers ++ works.triggers ≡ items_of (sent_triggers made.autos ops)
  pub autos : AreWatching made.autos (reverse (numbered_of ops)) works.autos

-- The operation is done behind those that were.
abbrev pub Does : Operation → Working → Working → Type 0
Does op old new = (made : Made) (ops : List Operation) (gone : Gone) → HasDone made ops gone old → HasDone made (ops ++ op ∷ []) gone new

-- The client may do this operation: it has the calls that this counts, and the trace that this needs open, or none.
abbrev pub MayDo : List AutoRule → Operation → Working → Type 0
MayDo rules (Begin trace) works = IsLeft works.core × (works.core.trace ≡ None)
MayDo rules (Point moment payload) works = IsSome works.core.trace × (works.core.counted + piece_count works.core.size (length payload) ≤ works.core.calls)
MayDo rules (plain.Crumb node) works = IsSome works.core.trace
MayDo rules End works = IsLeft works.core × IsSome works.core.trace
MayDo rules (Fire trigger) works = Unit {0}
MayDo rules (Sample moment auto value) works = IsSome works.core.trace × ((watch : Watch) × (slice_get works.autos auto ≡ Some watch) × (slice_get rules auto ≡ Some watch.rule))

-- Nothing waits for the agent.
abbrev pub HasNothing : Working → Type 0
HasNothing works = (works.chunks ≡ []) × (works.crumbs ≡ []) × (works.triggers ≡ [])
