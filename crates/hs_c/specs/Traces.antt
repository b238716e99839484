-- Trace ids as C writes them.
use Rattle.std.specs.Prelude.{ℕ, List, map}
use Rattle.std.specs.Int.{w128, from_be_bytes}
use Rattle.hs_base.specs.declared.ids.TraceId.{TraceId}
use Rattle.hs_base.specs.declared.told.Trigger.{Trigger}
use Rattle.hs_c.specs.declared.handles.HindTrace.{HindTrace}

-- the trace whose bytes these are, the highest first
abbrev pub trace_in : HindTrace → TraceId
trace_in trace = record { 0 = from_be_bytes w128 trace.bytes }

-- the trigger of these parts
abbrev pub trigger_in : ℕ → ℕ → HindTrace → List HindTrace → Trigger
trigger_in moment trigger lead laterals = record { moment = moment; trigger = record { 0 = trigger }; lead = trace_in lead; laterals = map trace_in laterals }
