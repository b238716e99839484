use Rattle.std.proofs.Common.{◌-◌, ◌≤◌}
use Rattle.hs_replay.proofs.Prelude.{HasClosing, behind_rounds, passed, workload_of, AllAt}
use Rattle.hs_law_run.specs.Lockstep.{closing_limit}
use Rattle.hs_replay.proofs.schedule.close.Given as goal

abbrev pub invariant-passes : goal.invariant-passes
invariant-passes l =
    record {
      few : (closing : HasClosing (workload_of l.workload)) → l.made ≤ closing.count;
      at : AllAt (workload_of l.workload) (passed l.made (workload_of l.workload) (behind_rounds (workload_of l.workload))) l.nodes.items l.coordinator;
    }

abbrev pub decreases-passes : goal.decreases-passes
decreases-passes l = closing_limit (workload_of l.workload) - l.made
