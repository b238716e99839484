-- The ring of the definition, whose records are whole, as one of records without their payloads.
use Rattle.std.specs.Prelude.{ℕ, map}
use Rattle.hs_compare.specs.Coming.{Coming}
use Rattle.hs_compare.specs.Samplers.{SamplerRing}
use Rattle.hs_compare.specs.declared.ring.TracedRecord.{TracedRecord}
use Rattle.hs_compare.specs.Ringing.{Ringing}

-- a record without its payload
abbrev pub noted_of : Coming → TracedRecord
noted_of c = record { id = c.id; trace = c.trace }

abbrev pub ringing_by : ℕ → SamplerRing → Ringing
ringing_by room ring =
    record {
      room = room;
      waiting = map noted_of ring.waiting;
      named = ring.named;
      kept = map (λ (c : Coming). c.id) ring.kept;
      traces = map (λ (c : Coming). c.trace) ring.kept;
    }
