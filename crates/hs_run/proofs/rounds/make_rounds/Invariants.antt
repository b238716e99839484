use Rattle.std.proofs.Common.{◌-◌}
use Rattle.hs_run.proofs.Prelude.{MAX_OPERATIONS, workload_of, RoundsMade}
use Rattle.hs_run.proofs.rounds.make_rounds.Given as goal

abbrev pub invariant-rounds : goal.invariant-rounds
invariant-rounds g l = RoundsMade (workload_of l.workload) l.made l.nodes.items l.coordinator

abbrev pub decreases-rounds : goal.decreases-rounds
decreases-rounds g l = MAX_OPERATIONS - l.made
