-- What a call does to the hub behind a handle of C.
use Rattle.std.specs.Prelude.{◌≡◌, ◌≢◌, ◌⊎◌, ◌++◌, ℕ, Bool, true, false, not, ◌==◌, List, length, take, drop, slice_get, Option, Some, None, Ok, option_map}
use Rattle.std.specs.Option.{option_and_then}
use Rattle.std.specs.Int.{w128, to_be_bytes}
use Rattle.hs_base.specs.declared.ids.NodeId.{NodeId}
use Rattle.hs_base.specs.declared.ids.TraceId.{TraceId}
use Rattle.hs_wire.specs.declared.message.Losses.{Losses}
use Rattle.hs_standings.specs.declared.answers.Life.{Life}
use Rattle.hs_standings.specs.Standing.{latest_of}
use Rattle.hs_verdict.specs.declared.words.LifeWord.{LifeWord}
use Rattle.hs_verdict.specs.declared.words.LifeWord.TheVariants as of_life
use Rattle.hs_verdict.specs.declared.words.NodeWord.{NodeWord}
use Rattle.hs_verdict.specs.declared.words.NodeWord.TheVariants as of_node
use Rattle.hs_verdict.specs.Verdict.{node_word, word_of}
use Rattle.hs_receipts.specs.declared.answers.MessageId.{MessageId}
use Rattle.hs_hub.specs.declared.answers.Delivered.{Delivered}
use Rattle.hs_hub.specs.declared.answers.Delivered.TheVariants as delivered
use Rattle.hs_cursor.specs.Rows.{PlainRow}
use Rattle.hs_cursor.specs.Walking.{Found, start}
use Rattle.hs_base.specs.declared.told.Ask.{Ask}
use Rattle.hs_groups.specs.declared.followed_group.FollowedGroup.{FollowedGroup}
use Rattle.hs_settings.specs.Faults.{reading_of}
use Rattle.hs_settings.specs.Settings.{PlainService}
use Rattle.hs_hub.specs.ByService.{limits_by}
use Rattle.hs_hub.specs.Hub.{PlainHub, IsWritten, IsShort, after_next, counts_of, next_row, no_hub, claim_out as claim_at_place}
use Rattle.hs_c.specs.declared.cells.HubCell.{HubCell}
use Rattle.hs_c.specs.declared.handles.HindHub.{HindHub}
use Rattle.hs_c.specs.declared.handles.HindTrace.{HindTrace}
use Rattle.hs_c.specs.declared.hubs.HindClaim.{HindClaim}
use Rattle.hs_c.specs.declared.hubs.HindLife.{HindLife}
use Rattle.hs_c.specs.declared.hubs.HindLifeId.{HindLifeId}
use Rattle.hs_c.specs.declared.hubs.HindMessageId.{HindMessageId}
use Rattle.hs_c.specs.declared.hubs.HindRow.{HindRow}
use Rattle.hs_c.specs.declared.hubs.HindHubCounts.{HindHubCounts}
use Rattle.hs_c.specs.declared.codes.TheConstants.{DONE, VACANT, NOTHING, SHORT, UNFIT}

-- The handle is in use, and this stands behind it: a hub, and the place of the cursor over the rows of the trace that is out.
pub record HoldsHub (handle : HindHub) (cell : HubCell) : Type 0 where
  pub live : handle.live ≡ 1
  pub held : handle.slot.held ≡ Some cell

-- A handle that is not in use answers so, and stays as it is.
abbrev pub IsIdleHub : HindHub → ℕ → HindHub → Type 0
IsIdleHub old code new = (old.live ≡ 1 → ⊥) → (code ≡ VACANT) × (new ≡ old)

-- What stands behind the handle does this, with this code. The same handle holds what it is then.
abbrev pub DoesAll : (HubCell → ℕ → HubCell → Type 0) → HindHub → ℕ → HindHub → Type 0
DoesAll does old code new = (cell : HubCell) → HoldsHub old cell → (after : HubCell) × HoldsHub new after × does cell code after

-- The hub does this, and the cursor stays where it is.
abbrev pub Does : (PlainHub → ℕ → PlainHub → Type 0) → HindHub → ℕ → HindHub → Type 0
Does does = DoesAll (λ old code new. (new.cursor ≡ old.cursor) × does old.hub code new.hub)

-- The text reads as settings, and behind the handle stands a hub that has heard nothing, made by them. It is fresh unless the word for that is 0.
pub record OpensHub (text : List ℕ) (epoch fresh : ℕ) (hub : HindHub) : Type 0 where
  pub settings : PlainService
  pub read : reading_of text ≡ Ok settings
  pub holds : HoldsHub hub (record { hub = no_hub epoch (not (fresh == 0)) (limits_by settings); cursor = start })

-- the code of what became of a message
abbrev pub delivered_code : Delivered → ℕ
delivered_code delivered.Done = 0
delivered_code delivered.Held = 15
delivered_code delivered.Refused = 13
delivered_code delivered.Full = 9

-- a trace as C sees it: its bytes, the highest first
abbrev pub trace_out : TraceId → HindTrace
trace_out trace = record { bytes = to_be_bytes w128 trace.0 }

-- What there is is written as C sees it, or there is nothing, and nothing is written.
abbrev pub Writes : {A B : Type 0} → (A → B) → Option A → B → B → ℕ → Type 0
Writes out (Some x) old new code = (code ≡ DONE) × (new ≡ out x)
Writes out None old new code = (code ≡ NOTHING) × (new ≡ old)

abbrev pub NamesTrace : Option TraceId → HindTrace → HindTrace → ℕ → Type 0
NamesTrace = Writes trace_out

abbrev pub message_out : MessageId → HindMessageId
message_out message = record { node = message.node; epoch = message.epoch; number = message.number }

abbrev pub NamesMessage : Option MessageId → HindMessageId → HindMessageId → ℕ → Type 0
NamesMessage = Writes message_out

-- The next ask is written, and counts as sent; or there is none; or it is too long for this room, and so many bytes are wanted; or it has no spelling. Then nothing changes.
abbrev pub SendsAsk : (before : List ℕ) (len_before : ℕ) (out : List ℕ) (len : ℕ) → PlainHub → ℕ → PlainHub → Type 0
SendsAsk before len_before out len old code new =
    ((code ≡ DONE) × (IsWritten old (Some len) before out × (new ≡ after_next old)))
    ⊎ (((code ≡ NOTHING) × (IsWritten old None before out × ((len ≡ len_before) × (new ≡ after_next old))))
    ⊎ (((code ≡ SHORT) × (IsShort old len before × ((out ≡ before) × (new ≡ old))))
    ⊎ ((code ≡ UNFIT) × ((out ≡ before) × ((len ≡ len_before) × (new ≡ old))))))

-- ---- rows

abbrev pub flag : Bool → ℕ
flag true = 1
flag false = 0

-- a row as C sees it, without its payload
abbrev pub row_out : PlainRow → HindRow
row_out row =
    record {
      node = row.page.node;
      client = row.page.client;
      page = row.page.page;
      epoch = row.page.epoch;
      core = row.page.core;
      number = row.number;
      moment = row.moment;
      missing_pages = row.missing_pages;
      missing_records = row.missing_records;
      len = length row.payload;
      continues = flag row.continues;
    }

-- `out` with a payload at its front, as far as there is room
abbrev pub with_front : List ℕ → List ℕ → List ℕ
with_front payload out = take (length out) payload ++ drop (length payload) out

-- The row that is found is written, its payload to the front of `out`, and the cursor goes behind it; or there is none, and nothing changes.
abbrev pub FindsRow : HubCell → Found → (before : List ℕ) (old : HindRow) (out : List ℕ) (new : HindRow) → ℕ → HubCell → Type 0
FindsRow cell (Some found) before old out new code after =
    (code ≡ DONE) × ((after ≡ record cell { cursor = found.1 }) × ((new ≡ row_out found.0) × (out ≡ with_front found.0.payload before)))
FindsRow cell None before old out new code after = (code ≡ NOTHING) × ((after ≡ cell) × ((new ≡ old) × (out ≡ before)))

abbrev pub ShowsRow : (before : List ℕ) (old : HindRow) (out : List ℕ) (new : HindRow) → HubCell → ℕ → HubCell → Type 0
ShowsRow before old out new cell code after = FindsRow cell (next_row cell.hub cell.cursor) before old out new code after

-- ---- who claims a trace, and who spoke of it

abbrev pub claim_out : Ask → HindClaim
claim_out ask =
    record {
      lead = trace_out ask.group.lead;
      number = ask.group.id.number;
      trigger = ask.group.trigger.0;
      node = ask.group.id.node;
      laterals = length ask.laterals;
    }

-- a group that claims the trace that is out, as C sees it
abbrev pub claim_in : FollowedGroup → HindClaim
claim_in followed = claim_out followed.ask

-- the lateral at a place among those of the group at a place
abbrev pub lateral_at : PlainHub → ℕ → ℕ → Option TraceId
lateral_at hub place at = option_and_then (λ (followed : FollowedGroup). slice_get followed.ask.laterals at) (claim_at_place hub place)

abbrev pub life_id_out : Life → HindLifeId
life_id_out life = record { epoch = life.epoch; node = life.node }

-- ---- what is said of a node and a life

abbrev pub node_number : NodeWord → ℕ
node_number of_node.NotAsked = 1
node_number of_node.Answered = 2
node_number of_node.Silent = 3

-- this word, with nothing that belongs to it
abbrev pub only_word : ℕ → HindLife
only_word word =
    record {
      word = word;
      open_segments = 0;
      horizon = 0;
      null_pages = 0;
      full_points = 0;
      dry_points = 0;
      long_points = 0;
      refused_crumbs = 0;
      evicted_crumbs = 0;
      forgotten_crumbs = 0;
      evicted_pages = 0;
      abandoned_pages = 0;
    }

abbrev pub lost_out : Losses → HindLife
lost_out losses =
    record (only_word 2) {
      null_pages = losses.null_pages;
      full_points = losses.full_points;
      dry_points = losses.dry_points;
      long_points = losses.long_points;
      refused_crumbs = losses.refused_crumbs;
      evicted_crumbs = losses.evicted_crumbs;
      forgotten_crumbs = losses.forgotten_crumbs;
      evicted_pages = losses.evicted_pages;
      abandoned_pages = losses.abandoned_pages;
    }

-- what a life said last, as C sees it
abbrev pub life_out : LifeWord → HindLife
life_out (of_life.WholeSince horizon) = record (only_word 1) { horizon = horizon }
life_out (of_life.Lost losses) = lost_out losses
life_out (of_life.UnheardSince horizon) = record (only_word 3) { horizon = horizon }
life_out of_life.Unknown = only_word 4
life_out (of_life.Open segments) = record (only_word 5) { open_segments = segments }
life_out of_life.Silent = only_word 6

-- Of the trace that is out this is written of the node, or none is out, and nothing is written.
abbrev pub SaysOfNode : PlainHub → NodeId → ℕ → ℕ → ℕ → Type 0
SaysOfNode hub node old new code = Writes node_number (option_map (λ trace. node_word hub.groups trace node) hub.receipts.out) old new code

-- Of the trace that is out this is written of the life, or none is out, and nothing is written.
abbrev pub SaysOfLife : PlainHub → Life → HindLife → HindLife → ℕ → Type 0
SaysOfLife hub life old new code = Writes life_out (option_map (λ trace. word_of (latest_of hub.standings trace life)) hub.receipts.out) old new code

-- the counts as C sees them
abbrev pub counts_in : PlainHub → HindHubCounts
counts_in hub =
    record {
      passes = (counts_of hub).passes;
      groups = (counts_of hub).groups;
      traces = (counts_of hub).traces;
      bytes = (counts_of hub).bytes;
      standings = (counts_of hub).standings;
      messages = (counts_of hub).messages;
    }
