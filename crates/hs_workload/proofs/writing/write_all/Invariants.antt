use Rattle.std.proofs.Common.{◌≡◌, length, take, ◌-◌, ◌≤◌}
use Rattle.hs_base.specs.Outside.{Gains}
use Rattle.hs_workload.proofs.writing.write_all.Given as goal

abbrev pub invariant-loop-done : goal.invariant-loop-done
invariant-loop-done g l =
    let written = g.K.Sink.written in
    let faults = g.K.Sink.faults in
    record {
      within : l.done ≤ length l.text;
      gained : Gains (written l.fn.sink) (written l.sink) (take l.done l.text);
      still : faults l.sink ≡ faults l.fn.sink;
    }

abbrev pub decreases-loop-done : goal.decreases-loop-done
decreases-loop-done g l = length l.text - l.done
