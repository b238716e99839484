use Rattle.std.proofs.Common.{◌-◌}
use Rattle.hs_run.proofs.Prelude.{MAX_OPERATIONS, workload_of, RoundsWatched}
use Rattle.hs_run.proofs.watched_rounds.watch_rounds.Given as goal

abbrev pub invariant-rounds : goal.invariant-rounds
invariant-rounds g l = RoundsWatched (workload_of l.workload) l.made l.nodes.items l.coordinator l.tally l.watch

abbrev pub decreases-rounds : goal.decreases-rounds
decreases-rounds g l = MAX_OPERATIONS - l.made
