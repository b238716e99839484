-- The lines of a comparison, from all records in their order, each beside its fate and with a mark for each sampler that keeps
-- it.
use Rattle.std.specs.Prelude.{ℕ, Bool, List, map, count_by}
use Rattle.hs_base.specs.declared.ids.TraceId.{TraceId}
use Rattle.hs_ledger.specs.declared.ledger.Entry.{Entry}
use Rattle.hs_ledger.specs.Totals.{is_reported}
use Rattle.hs_compare.specs.Lines.{is_gap, is_limited}
use Rattle.hs_compare.specs.Ringing.{is_among, kept_by_rank}
use Rattle.hs_compare.specs.Counting.{line_by}
use Rattle.hs_compare.specs.Marked.{marked, traces_of, bytes_in}
use Rattle.hs_compare.specs.declared.coming.Coming.{Coming}
use Rattle.hs_compare.specs.declared.lines.Line.{Line}
use Rattle.hs_compare.specs.declared.comparison.Comparison.{Comparison}

-- the line of a sampler that sends what it keeps, and of one that sends all
abbrev pub line_of_marked : List Coming → List TraceId → List Bool → Line
line_of_marked all named marks = line_by (traces_of all) named (traces_of (marked marks all)) (bytes_in (marked marks all))

abbrev pub line_of_sent : List Coming → List TraceId → List TraceId → Line
line_of_sent all named kept = line_by (traces_of all) named kept (bytes_in all)

abbrev pub marks_of_head : ℕ → List Coming → List Bool
marks_of_head one_in all = map (λ (c : Coming). kept_by_rank one_in c.trace) all

abbrev pub marks_of_named : List TraceId → List Coming → List Bool
marks_of_named named all = map (λ (c : Coming). is_among named c.trace) all

abbrev pub marks_of_reported : List Entry → List Bool
marks_of_reported entries = map (λ (e : Entry). is_reported e.fate) entries

-- where the ring keeps records of these traces
abbrev pub comparison_by : ℕ → List Coming → List TraceId → List TraceId → List Entry → List TraceId → Comparison
comparison_by one_in all named ring entries claimed =
    record {
      head = line_of_marked all named (marks_of_head one_in all);
      tail = line_of_sent all named (traces_of (marked (marks_of_named named all) all));
      ring = line_of_sent all named ring;
      hindsight = line_of_marked all named (marks_of_reported entries);
      gap = count_by (is_gap claimed) entries;
      limited = count_by (is_limited named claimed) entries;
    }
