use Rattle.std.proofs.Common.{◌≡◌, ◌+◌, map, drop}
use Rattle.hs_check_follow.proofs.Prelude.{operation_of, started_from}
use Rattle.hs_check_follow.proofs.pages.count_pages.Given as goal

abbrev pub invariant-loop-operation : goal.invariant-loop-operation
invariant-loop-operation l =
    l.filled.pages + started_from l.size l.filled.room (map operation_of (drop l.operation-index l.operations)) ≡ started_from l.size 0 (map operation_of l.operations)
