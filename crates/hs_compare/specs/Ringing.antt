-- A ring of records, without their payloads. A record of a trace that was not named waits in the ring, which has the last ones that there
-- is room for. Where a trace is first named its waiting records are kept, and what comes of it later is kept as it comes.
pub use Rattle.hs_base.specs.Ids.{is_among}
pub use Rattle.hs_compare.specs.Samplers.{kept_by_rank}
use Rattle.std.specs.Prelude.{ℕ, ◌-◌, ◌==◌, Bool, not, List, [], ◌∷◌, ◌++◌, length, map, filter, drop, if◌then◌else◌}
use Rattle.hs_base.specs.declared.ids.TraceId.{TraceId}
use Rattle.hs_base.specs.declared.ids.RecordId.{RecordId}
use Rattle.hs_compare.specs.declared.ring.TracedRecord.{TracedRecord}

abbrev pub is_noted_of : TraceId → TracedRecord → Bool
is_noted_of trace noted = noted.trace.0 == trace.0

abbrev pub ids_in : List TracedRecord → List RecordId
ids_in records = map (λ (n : TracedRecord). n.id) records

abbrev pub traces_in : List TracedRecord → List TraceId
traces_in records = map (λ (n : TracedRecord). n.trace) records

-- those whose trace is not named
abbrev pub alive : List TraceId → List TracedRecord → List TracedRecord
alive named records = filter (λ (n : TracedRecord). not (is_among named n.trace)) records

pub record Ringing : Type 0 where
  pub room : ℕ
  pub waiting : List TracedRecord
  pub named : List TraceId
  -- the kept records, and the trace of each
  pub kept : List RecordId
  pub traces : List TraceId

abbrev pub new_ring : ℕ → Ringing
new_ring room = record { room = room; waiting = []; named = []; kept = []; traces = [] }

-- the last ones, as many as there is room for
abbrev pub last_noted : ℕ → List TracedRecord → List TracedRecord
last_noted room records = drop (length records - room) records

abbrev pub comes : TracedRecord → Ringing → Ringing
comes noted ring =
    if is_among ring.named noted.trace then record ring { kept = ring.kept ++ noted.id ∷ []; traces = ring.traces ++ noted.trace ∷ [] } else
    record ring { waiting = last_noted ring.room (ring.waiting ++ noted ∷ []) }

abbrev pub names : TraceId → Ringing → Ringing
names trace ring =
    if is_among ring.named trace then ring else
    record {
      room = ring.room;
      waiting = filter (λ n. not (is_noted_of trace n)) ring.waiting;
      named = ring.named ++ trace ∷ [];
      kept = ring.kept ++ ids_in (filter (is_noted_of trace) ring.waiting);
      traces = ring.traces ++ traces_in (filter (is_noted_of trace) ring.waiting);
    }
