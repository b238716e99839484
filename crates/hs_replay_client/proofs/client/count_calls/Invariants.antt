use Rattle.std.proofs.Common.{◌≡◌, ◌+◌, map, drop}
use Rattle.hs_replay_client.proofs.Prelude.{operation_of, client_pieces}
use Rattle.hs_replay_client.proofs.client.count_calls.Given as goal

abbrev pub invariant-loop-operation : goal.invariant-loop-operation
invariant-loop-operation l = l.calls + client_pieces l.size (map operation_of (drop l.operation-index l.operations)) ≡ client_pieces l.size (map operation_of l.operations)
