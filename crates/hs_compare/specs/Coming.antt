-- The operation order: round by round, and in a round client by client, each with its next operations. In this order records come and
-- traces are named: each point is a record, and a trigger, or a sample that fires, names its lead and its laterals.
use Rattle.std.specs.Prelude.{◌≡◌, ℕ, ◌*◌, ◌==◌, List, [], ◌∷◌, ◌++◌, length, map, filter, zip, refl}
use Rattle.std.specs.List.{flat_map, range_with_len}
use Rattle.hs_base.specs.declared.ids.ClientId.{ClientId}
use Rattle.hs_base.specs.declared.ids.RecordId.{RecordId}
use Rattle.hs_base.specs.declared.ids.TraceId.{TraceId}
use Rattle.hs_base.specs.declared.settings.AutoRule.{AutoRule}
use Rattle.hs_base.specs.declared.told.Trigger.{Trigger}
use Rattle.hs_base.specs.Samples.{golden, twice}
use Rattle.hs_records.specs.Plain.{Operation, Begin, Point, End, Fire, PlainWorkload}
use Rattle.hs_records.specs.Records.{Record, records_of}
use Rattle.hs_client.specs.Sending.{Sent, operations_at, sent_triggers}
use Rattle.hs_client.specs.Timing.{point_numbers}
use Rattle.hs_law_journal.specs.Ends.{rounds_of}
use Rattle.hs_law_journal.specs.Workloads.{short_of_pins}
use Rattle.hs_law_outcome.specs.Outcomes.{client_at}

-- a record as it comes, with the bytes of its payload
pub record Coming : Type 0 where
  pub id : RecordId
  pub trace : TraceId
  pub bytes : ℕ

pub data SamplerEvent : Type 0 where
  Comes : (coming : Coming) → SamplerEvent
  Names : (trace : TraceId) → SamplerEvent

-- ---- one client

-- the records of a client, by number
abbrev pub comings_of : ClientId → List Operation → List Coming
comings_of client ops =
    map (λ (r : ℕ × Record). record { id = record { client = client; number = r.0 }; trace = r.1.trace; bytes = length r.1.payload }) (zip (range_with_len 0 (length (records_of ops))) (records_of ops))

-- each beside the operation that it is
abbrev pub sent_comings : ClientId → List Operation → List (Sent Coming)
sent_comings client ops = map (λ (c : ℕ × Coming). record { number = c.0; item = c.1 }) (zip (point_numbers ops) (comings_of client ops))

-- the items of one operation
abbrev pub items_at : {A : Type 0} → ℕ → List (Sent A) → List A
items_at n items = map (λ item. item.item) (filter (λ item. item.number == n) items)

abbrev pub names_in : Trigger → List TraceId
names_in trigger = trigger.lead ∷ trigger.laterals

-- what an operation brings
abbrev pub events_at : List AutoRule → ClientId → List Operation → ℕ → List SamplerEvent
events_at autos client ops n = map Comes (items_at n (sent_comings client ops)) ++ map Names (flat_map names_in (items_at n (sent_triggers autos ops)))

-- ---- all

abbrev pub events_of : PlainWorkload → ℕ → ℕ → List SamplerEvent
events_of W round place =
    flat_map (events_at W.settings.autos (client_at W.settings.clients place) (operations_at W place)) (range_with_len (round * W.settings.stride) W.settings.stride)

abbrev pub events_in_order : PlainWorkload → List SamplerEvent
events_in_order W = flat_map (λ round. flat_map (events_of W round) (range_with_len 0 (length W.clients))) (range_with_len 0 (rounds_of W))

-- all records, by node, client and number
abbrev pub all_comings : PlainWorkload → List Coming
all_comings W = flat_map (λ place. comings_of (client_at W.settings.clients place) (operations_at W place)) (range_with_len 0 (length W.clients))

abbrev pub named_by : SamplerEvent → List TraceId
named_by (Comes coming) = []
named_by (Names trace) = trace ∷ []

-- the named traces, as they are named
abbrev pub named_in : PlainWorkload → List TraceId
named_in W = flat_map named_by (events_in_order W)

-- ---- examples

-- two nodes with a client each, in strides of one operation: the clients take turns
abbrev by_turns : PlainWorkload
by_turns = record short_of_pins { settings = record short_of_pins.settings { stride = 1 } }

abbrev comers : SamplerEvent → List ℕ
comers (Comes coming) = coming.id.client.node ∷ []
comers (Names trace) = []

turns_are_taken : (flat_map comers (events_in_order by_turns) ≡ 0 ∷ 1 ∷ 0 ∷ 1 ∷ 0 ∷ 1 ∷ []) × (flat_map comers (events_in_order short_of_pins) ≡ 0 ∷ 0 ∷ 0 ∷ 1 ∷ 1 ∷ 1 ∷ [])
turns_are_taken = (refl, refl)

-- the second client names the traces the other way round
names_by_turns : map (λ (trace : TraceId). trace.0) (named_in by_turns) ≡ 0 ∷ twice ∷ golden ∷ golden ∷ twice ∷ 0 ∷ []
names_by_turns = refl

-- a point is a record when its operation comes, and a trigger names its lead and then its laterals
abbrev point_and_trigger : List Operation
point_and_trigger = Begin (record { 0 = 5 }) ∷ Point 3 (1 ∷ 2 ∷ []) ∷ End ∷ Fire (record { moment = 4; trigger = record { 0 = 1 }; lead = record { 0 = 5 }; laterals = record { 0 = 6 } ∷ [] }) ∷ []

abbrev first : ClientId
first = record { node = 0; number = 0 }

brought : (events_at [] first point_and_trigger 0 ≡ []) × (events_at [] first point_and_trigger 1 ≡ Comes (record { id = record { client = first; number = 0 }; trace = record { 0 = 5 }; bytes = 2 }) ∷ [])
    × (events_at [] first point_and_trigger 3 ≡ Names (record { 0 = 5 }) ∷ Names (record { 0 = 6 }) ∷ []) × (events_at [] first point_and_trigger 4 ≡ [])
brought = (refl, refl, refl, refl)
