use Rattle.std.proofs.Common.{◌≡◌, ◌++◌, take, map}
use Rattle.hs_text.specs.Writing.{spaced, trace_word}
use Rattle.hs_text.proofs.writing.push_spaced_traces.Given as goal

abbrev pub invariant-loop-trace : goal.invariant-loop-trace
invariant-loop-trace l = l.out.items ≡ l.initial.out.items ++ spaced (map (trace_word l.version) (take l.trace-index l.traces))
