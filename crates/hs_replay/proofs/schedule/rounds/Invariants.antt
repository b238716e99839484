use Rattle.std.proofs.Common.{◌-◌, ◌≤◌}
use Rattle.hs_replay.proofs.Prelude.{rounds_of, machine_start, rounds, workload_of, AllAt}
use Rattle.hs_replay.proofs.schedule.rounds.Given as goal

abbrev pub invariant-rounds : goal.invariant-rounds
invariant-rounds l =
    record {
      few : l.made ≤ rounds_of (workload_of l.workload);
      at : AllAt (workload_of l.workload) (rounds l.made (workload_of l.workload) (machine_start (workload_of l.workload))) l.nodes.items l.coordinator;
    }

abbrev pub decreases-rounds : goal.decreases-rounds
decreases-rounds l = rounds_of (workload_of l.workload) - l.made
