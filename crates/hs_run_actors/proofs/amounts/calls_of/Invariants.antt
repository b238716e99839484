use Rattle.std.proofs.Common.{◌≡◌, ◌+◌, map, drop}
use Rattle.hs_run_actors.proofs.Prelude.{client_pieces, operation_of}
use Rattle.hs_run_actors.proofs.amounts.calls_of.Given as goal

abbrev pub invariant-loop-operation : goal.invariant-loop-operation
invariant-loop-operation l = l.calls + client_pieces l.size (map operation_of (drop l.operation-index l.operations)) ≡ client_pieces l.size (map operation_of l.operations)
