use Rattle.std.proofs.Common.{◌≡◌, map, take}
use Rattle.hs_c.specs.Traces.{trace_in}
use Rattle.hs_c.proofs.clients.laterals_of.Given as goal

abbrev pub invariant-loop-trace : goal.invariant-loop-trace
invariant-loop-trace l = l.laterals ≡ map trace_in (take l.trace-index l.traces)
