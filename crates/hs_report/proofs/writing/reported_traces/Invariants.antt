use Rattle.std.proofs.Common.{◌≡◌, List, take}
use Rattle.hs_report.proofs.Prelude.{filter, Entry, AreFatesOf, has_entry}
use Rattle.hs_report.proofs.writing.reported_traces.Given as goal

abbrev pub invariant-loop-trace : goal.invariant-loop-trace
invariant-loop-trace l = (entries : List Entry) → AreFatesOf entries l.fates → l.traces.items ≡ filter (has_entry entries) (take l.trace-index l.claimed)
