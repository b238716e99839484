-- The records that wait in a ring, trace by trace: the queue of a trace has those of it, in their order.
use Rattle.std.specs.Prelude.{◌≡◌, ◌==◌, List, [], filter, unwrap_or}
use Rattle.std.specs.Map.{lookup}
use Rattle.hs_base.specs.declared.ids.TraceId.{TraceId}
use Rattle.hs_base.specs.declared.ids.RecordId.{RecordId}
use Rattle.hs_compare.specs.declared.ring.TracedRecord.{TracedRecord}
use Rattle.hs_compare.specs.Ringing.{is_noted_of, ids_in}

-- what waits of a trace, by the queues
abbrev pub queued : List (TraceId × List RecordId) → TraceId → List RecordId
queued queues trace = unwrap_or (lookup (λ (other : TraceId). trace.0 == other.0) queues) []

-- what waits of a trace, by the records
abbrev pub ids_of : TraceId → List TracedRecord → List RecordId
ids_of trace records = ids_in (filter (is_noted_of trace) records)

abbrev pub AreQueued : List (TraceId × List RecordId) → List TracedRecord → Type 0
AreQueued queues records = (trace : TraceId) → queued queues trace ≡ ids_of trace records
