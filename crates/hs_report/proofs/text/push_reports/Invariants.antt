use Rattle.std.proofs.Common.{◌≡◌, ◌++◌, List, take}
use Rattle.hs_report.proofs.Prelude.{TraceId, Placed, Entry, Hold}
use Rattle.hs_report.proofs.Loops.{trace_lines}
use Rattle.hs_report.proofs.text.push_reports.Given as goal

abbrev pub invariant-loop-trace : goal.invariant-loop-trace
invariant-loop-trace l =
    (entries : List Entry) (records : TraceId → List Placed) → Hold entries records l.fates l.collector
    → l.out.items ≡ l.initial.out.items ++ trace_lines l.version entries records (take l.trace-index l.traces)
