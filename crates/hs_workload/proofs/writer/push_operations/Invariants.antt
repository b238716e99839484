use Rattle.std.proofs.Common.{◌≡◌, ◌++◌, take, map}
use Rattle.hs_workload.proofs.Prelude.{operation_of, Operate, statements_text}
use Rattle.hs_workload.proofs.writer.push_operations.Given as goal

abbrev pub invariant-loop-operation : goal.invariant-loop-operation
invariant-loop-operation l = l.out.items ≡ l.initial.out.items ++ statements_text l.version (map Operate (map operation_of (take l.operation-index l.operations)))
