-- What a comparison says of each sampler, and of the records that tail keeps and Hindsight does not.
use Rattle.std.specs.Prelude.{ℕ, ◌==◌, nat_lt, Bool, not, ◌&&◌, List, [], ◌∷◌, length, count_by, sum_by, if◌then◌else◌}
use Rattle.hs_base.specs.declared.ids.TraceId.{TraceId}
use Rattle.hs_base.specs.Ids.{is_among}
use Rattle.hs_ledger.specs.declared.ledger.Entry.{Entry}
use Rattle.hs_ledger.specs.Totals.{is_reported}
use Rattle.hs_records.specs.Plain.{PlainWorkload}
use Rattle.hs_compare.specs.Coming.{Coming, all_comings, named_in}
use Rattle.hs_compare.specs.Samplers.{is_of, head_keeps, tail_keeps, ring_keeps, hindsight_keeps}

pub record PlainLine : Type 0 where
  pub records : ℕ
  pub traces : ℕ
  pub whole : ℕ
  pub shipped : ℕ

-- these traces, each once
abbrev pub each_once : List TraceId → List TraceId
each_once [] = []
each_once (trace ∷ traces) = if is_among traces trace then each_once traces else trace ∷ each_once traces

abbrev pub traces_of : List Coming → List TraceId
traces_of [] = []
traces_of (c ∷ records) = c.trace ∷ traces_of records

-- whether the trace has a record, and all its records are kept
abbrev pub is_whole : List Coming → List Coming → TraceId → Bool
is_whole all kept trace = nat_lt 0 (count_by (is_of trace) all) && count_by (is_of trace) kept == count_by (is_of trace) all

abbrev bytes_in : List Coming → ℕ
bytes_in records = sum_by (λ (c : Coming). c.bytes) records

abbrev pub line_of : PlainWorkload → List Coming → List Coming → PlainLine
line_of W kept shipped =
    record {
      records = length kept;
      traces = length (each_once (traces_of kept));
      whole = count_by (is_whole (all_comings W) kept) (each_once (named_in W));
      shipped = bytes_in shipped;
    }

pub record PlainComparison : Type 0 where
  pub head : PlainLine
  pub tail : PlainLine
  pub ring : PlainLine
  pub hindsight : PlainLine
  pub gap : ℕ
  pub limited : ℕ

-- in a gap line: of a claimed trace, and not reported
abbrev pub is_gap : List TraceId → Entry → Bool
is_gap claimed entry = is_among claimed entry.trace && not (is_reported entry.fate)

abbrev pub is_limited : List TraceId → List TraceId → Entry → Bool
is_limited named claimed entry = is_among named entry.trace && not (is_among claimed entry.trace)

abbrev pub comparison_of : PlainWorkload → List Entry → List TraceId → ℕ → ℕ → PlainComparison
comparison_of W entries claimed one_in room =
    record {
      head = line_of W (head_keeps one_in W) (head_keeps one_in W);
      tail = line_of W (tail_keeps W) (all_comings W);
      ring = line_of W (ring_keeps room W) (all_comings W);
      hindsight = line_of W (hindsight_keeps W entries) (hindsight_keeps W entries);
      gap = count_by (is_gap claimed) entries;
      limited = count_by (is_limited (named_in W) claimed) entries;
    }
