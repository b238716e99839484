use Rattle.std.proofs.Common.{◌≤◌}
use Rattle.hs_run.proofs.Prelude.{workload_of, AreMade}
use Rattle.hs_run.proofs.making.make_nodes.Given as goal

abbrev pub invariant-loop-number : goal.invariant-loop-number
invariant-loop-number l = (l.workload.settings.nodes ≤ l.nodes.room) × AreMade (workload_of l.workload) l.number l.nodes.items
