-- What a client sends to its node's agent, each item beside the operation that sends it: the chunks of its pages that have a
-- buffer, its crumbs, each with the trace that is open, and its triggers. A sample that fires sends a trigger too: with the
-- moment of the sample, the open trace as lead, and the laterals of the rule. Items stand in the order of operations.
use Rattle.std.specs.Prelude.{ℕ, ◌+◌, ◌*◌, ◌==◌, nat_lt, List, [], ◌∷◌, ◌++◌, map, filter, Option, Some, unwrap_or, slice_get, if◌then◌else◌}
use Rattle.std.specs.List.{flat_map, range_with_len}
use Rattle.std.specs.Option.{option_map_or}
use Rattle.hs_base.specs.declared.ids.ClientId.{ClientId}
use Rattle.hs_base.specs.declared.ids.TraceId.{TraceId}
use Rattle.hs_base.specs.declared.settings.AutoRule.{AutoRule}
use Rattle.hs_base.specs.declared.told.Crumb.{Crumb}
use Rattle.hs_base.specs.declared.told.Trigger.{Trigger}
use Rattle.hs_base.specs.Rules.{fired_by}
use Rattle.hs_auto.specs.Firing.{Sample, sampled}
use Rattle.hs_auto.specs.declared.sampled.Sampled.{Sampled}
use Rattle.hs_auto.specs.declared.sampled.Sampled.TheVariants as answers
use Rattle.hs_client.specs.Calls.{sheet_for}
use Rattle.hs_records.specs.declared.journal.Draw.{Draw}
use Rattle.hs_records.specs.Journals.{PlainJournal}
use Rattle.hs_records.specs.Plain.{Operation, PlainSettings, PlainWorkload}
use Rattle.hs_records.specs.Plain as plain
use Rattle.hs_records.specs.Records.{NumberedOperation, numbered_of}
use Rattle.hs_words.specs.Pages.{Sheet}
use Rattle.hs_client.specs.Drawn.{DrawnPage, has_buffer, drawn_pages}

-- an item with the number of the operation that sends it
pub record Sent (A : Type 0) : Type 0 where
  pub number : ℕ
  pub item : A

-- ---- chunks

-- the page as it stands in its chunk
abbrev pub sheet_of : DrawnPage → Sheet
sheet_of drawn = sheet_for drawn.client drawn.number drawn.page

abbrev pub sent_chunks : List DrawnPage → List (Sent Sheet)
sent_chunks drawn = map (λ (d : DrawnPage). record { number = d.sent; item = sheet_of d }) (filter (λ (d : DrawnPage). has_buffer d.draw) drawn)

-- ---- crumbs

abbrev pub crumb_in : Option TraceId → Operation → List Crumb
crumb_in (Some trace) (plain.Crumb node) = record { trace = trace; node = node } ∷ []
crumb_in _ _ = []

abbrev pub sent_crumbs : List Operation → List (Sent Crumb)
sent_crumbs ops = flat_map (λ (op : NumberedOperation). map (λ crumb. record { number = op.number; item = crumb }) (crumb_in op.trace op.operation)) (numbered_of ops)

-- ---- triggers

-- the sample of this autotrigger, where the operation is one
abbrev pub sample_in : ℕ → Option TraceId → Operation → List Sample
sample_in auto (Some trace) (plain.Sample moment other value) = if other == auto then record { value = value; trace = trace } ∷ [] else []
sample_in auto _ _ = []

-- the samples of an autotrigger among these operations
abbrev pub samples_of : ℕ → List NumberedOperation → List Sample
samples_of auto ops = flat_map (λ (op : NumberedOperation). sample_in auto op.trace op.operation) ops

-- the trigger of a sample that was answered so
abbrev pub trigger_of : ℕ → AutoRule → TraceId → Sampled → List Trigger
trigger_of moment rule trace answers.Quiet = []
trigger_of moment rule trace (answers.Fired laterals) = record { moment = moment; trigger = fired_by rule; lead = trace; laterals = laterals } ∷ []

-- the trigger of an operation behind these earlier ones, the latest first
abbrev pub trigger_in : List AutoRule → List NumberedOperation → Option TraceId → Operation → List Trigger
trigger_in autos earlier _ (plain.Fire trigger) = trigger ∷ []
trigger_in autos earlier (Some trace) (plain.Sample moment auto value) =
    option_map_or (λ rule. trigger_of moment rule trace (sampled rule (samples_of auto earlier) (record { value = value; trace = trace }))) (slice_get autos auto) []
trigger_in autos earlier _ _ = []

-- the triggers of these operations behind the earlier ones
abbrev pub triggers_behind : List AutoRule → List NumberedOperation → List NumberedOperation → List (Sent Trigger)
triggers_behind autos earlier [] = []
triggers_behind autos earlier (op ∷ ops) =
    map (λ trigger. record { number = op.number; item = trigger }) (trigger_in autos earlier op.trace op.operation) ++ triggers_behind autos (op ∷ earlier) ops

abbrev pub sent_triggers : List AutoRule → List Operation → List (Sent Trigger)
sent_triggers autos ops = triggers_behind autos [] (numbered_of ops)

-- ---- a client and all clients

-- all that a client sends
pub record ClientSends : Type 0 where
  pub drawn : List DrawnPage
  pub chunks : List (Sent Sheet)
  pub crumbs : List (Sent Crumb)
  pub triggers : List (Sent Trigger)

abbrev pub sends_of : PlainSettings → ClientId → List Operation → List Draw → ClientSends
sends_of settings client ops draws =
    let drawn = drawn_pages settings.size client ops draws in
    record {
      drawn = drawn;
      chunks = sent_chunks drawn;
      crumbs = sent_crumbs ops;
      triggers = sent_triggers settings.autos ops;
    }

-- what the first so many operations send
abbrev pub sent_within : {A : Type 0} → ℕ → List (Sent A) → List (Sent A)
sent_within n items = filter (λ item. nat_lt item.number n) items

-- the place of a client in the order of node and number, where each node has so many
abbrev pub place_of : ℕ → ℕ → ℕ → ℕ
place_of each node number = node * each + number

-- the operations of the client at a place, and its draws
abbrev pub operations_at : PlainWorkload → ℕ → List Operation
operations_at W place = unwrap_or (slice_get W.clients place) []

-- the operations of the client of a node with this number
abbrev pub ops_of : PlainWorkload → (node number : ℕ) → List Operation
ops_of W node number = operations_at W (place_of W.settings.clients node number)

abbrev pub draws_at : PlainJournal → ℕ → List Draw
draws_at J place = unwrap_or (slice_get J.draws place) []

abbrev pub client_sends : PlainWorkload → PlainJournal → ℕ → ℕ → ClientSends
client_sends W J node number =
    let place = place_of W.settings.clients node number in
    sends_of W.settings (record { node = node; number = number }) (operations_at W place) (draws_at J place)

-- what the clients of a node send, by number
abbrev pub node_sends : PlainWorkload → PlainJournal → ℕ → List ClientSends
node_sends W J node = map (client_sends W J node) (range_with_len 0 W.settings.clients)

-- what all clients send, by node
abbrev pub all_sends : PlainWorkload → PlainJournal → List (List ClientSends)
all_sends W J = map (node_sends W J) (range_with_len 0 W.settings.nodes)
