-- When a client may do an operation, so that the call of it is done: it has the calls, draws and places that this takes, and the trace
-- that this needs open, or none.
use Rattle.std.specs.Prelude.{◌≡◌, ℕ, ◌+◌, ◌<◌, ◌≤◌, List, length, slice_get, Some, None, IsSome}
use Rattle.hs_auto.specs.Watching.{Watch}
use Rattle.hs_base.specs.declared.limits.TheConstants.{MAX_PAYLOAD}
use Rattle.hs_base.specs.declared.settings.AutoRule.{AutoRule}
use Rattle.hs_client.specs.Core.{IsLeft}
use Rattle.hs_link.specs.Contents.{HasPlaces}
use Rattle.hs_live.specs.Keys.{IsTriggerOf}
use Rattle.hs_live.specs.Live.{PlainClient}
use Rattle.hs_records.specs.Plain.{Operation, Begin, Point, End, Fire, Sample}
use Rattle.hs_records.specs.Plain as plain
use Rattle.hs_records.specs.Records.{piece_count}

-- The autotrigger of this number has the rule of this number.
abbrev pub HasRule : List AutoRule → ℕ → PlainClient → Type 0
HasRule rules auto client = (watch : Watch) × (slice_get client.autos auto ≡ Some watch) × (slice_get rules auto ≡ Some watch.rule)

pub record MayRecord (pieces bytes : ℕ) (client : PlainClient) : Type 0 where
  pub opened : IsSome client.core.trace
  pub few : bytes ≤ MAX_PAYLOAD
  pub calls : client.core.counted + pieces ≤ client.core.calls
  pub draws : pieces ≤ client.drawer.left
  pub places : HasPlaces pieces client.chunks

-- Where these are the rules of the autotriggers, the client may do the operation.
abbrev pub MayDo : List AutoRule → Operation → PlainClient → Type 0
MayDo rules (Begin trace) client = IsLeft client.core × (client.core.trace ≡ None)
MayDo rules (Point moment payload) client = MayRecord (piece_count client.core.size (length payload)) (length payload) client
MayDo rules (plain.Crumb node) client = IsSome client.core.trace × HasPlaces 1 client.crumbs × (node.0 < client.crumbs.key.nodes)
MayDo rules End client = IsLeft client.core × IsSome client.core.trace × HasPlaces 1 client.chunks
MayDo rules (Fire trigger) client = HasPlaces 1 client.triggers × IsTriggerOf client.triggers.key trigger
MayDo rules (Sample moment auto value) client = IsSome client.core.trace × HasPlaces 1 client.triggers × HasRule rules auto client
