-- How many records each trace has, and the line of a comparison from such counts.
pub use Rattle.hs_compare.specs.Lines.{each_once}
use Rattle.std.specs.Prelude.{◌≡◌, ℕ, ◌==◌, nat_lt, Bool, ◌&&◌, List, length, count_by, Some, None, unwrap_or, is_some, if◌then◌else◌}
use Rattle.std.specs.List.{AllByRecursion}
use Rattle.std.specs.Map.{lookup}
use Rattle.hs_base.specs.declared.ids.TraceId.{TraceId}
use Rattle.hs_compare.specs.Ringing.{is_among}
use Rattle.hs_compare.specs.declared.lines.Line.{Line}

abbrev pub is_same : TraceId → TraceId → Bool
is_same trace other = other.0 == trace.0

abbrev pub times : List TraceId → TraceId → ℕ
times traces trace = count_by (is_same trace) traces

abbrev pub times_in : List (TraceId × ℕ) → TraceId → ℕ
times_in counts trace = unwrap_or (lookup (λ (other : TraceId). trace.0 == other.0) counts) 0

-- Each of these traces has its count, and no other trace has one.
pub record AreCounted (traces : List TraceId) (counts : List (TraceId × ℕ)) : Type 0 where
  pub each : (trace : TraceId) → lookup (λ (other : TraceId). trace.0 == other.0) counts ≡ (if is_among traces trace then Some (times traces trace) else None)
  pub count : length counts ≡ length (each_once traces)

-- Each of the named traces has its count.
abbrev pub HasCountsOf : List TraceId → List TraceId → List (TraceId × ℕ) → Type 0
HasCountsOf named traces counts = AllByRecursion (λ (trace : TraceId). times_in counts trace ≡ times traces trace) named

-- whether the trace has a record, and all its records are kept
abbrev pub is_whole_by : (TraceId → ℕ) → (TraceId → ℕ) → TraceId → Bool
is_whole_by all kept trace = nat_lt 0 (all trace) && kept trace == all trace

-- of the traces of all records, the named ones, each once, and the traces of the kept records
abbrev pub line_by : List TraceId → List TraceId → List TraceId → ℕ → Line
line_by all named kept shipped =
    record { records = length kept; traces = length (each_once kept); whole = count_by (is_whole_by (times all) (times kept)) named; shipped = shipped }

abbrev pub is_counted : List (TraceId × ℕ) → TraceId → Bool
is_counted counts trace = is_some (lookup (λ (other : TraceId). trace.0 == other.0) counts)
