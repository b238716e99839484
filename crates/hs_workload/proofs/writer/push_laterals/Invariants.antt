use Rattle.std.proofs.Common.{◌≡◌, ◌++◌, length, take, map}
use Rattle.hs_workload.proofs.Prelude.{spaced, trace_word}
use Rattle.hs_workload.proofs.writer.push_laterals.Given as goal

abbrev pub invariant-loop-place : goal.invariant-loop-place
invariant-loop-place l =
    record {
      most : l.place-end ≡ length l.laterals;
      text : l.out.items ≡ l.initial.out.items ++ spaced (map (trace_word l.version) (take l.place l.laterals));
    }
