use Rattle.std.proofs.Common.{◌≡◌, take}
use Rattle.hs_report.proofs.Prelude.{contains, TraceId, same_trace, is_among}
use Rattle.hs_report.proofs.kept.set_of.Given as goal

abbrev pub invariant-loop-trace : goal.invariant-loop-trace
invariant-loop-trace l = (trace : TraceId) → contains same_trace l.set trace ≡ is_among (take l.trace-index l.traces) trace
