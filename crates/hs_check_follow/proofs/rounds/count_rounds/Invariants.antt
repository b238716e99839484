use Rattle.std.proofs.Common.{◌≡◌, length, map, fold, max, drop}
use Rattle.hs_check_follow.proofs.Prelude.{rounds_for, rounds_of, operations_of, workload_of}
use Rattle.hs_check_follow.proofs.rounds.count_rounds.Given as goal

abbrev pub invariant-loop-operations : goal.invariant-loop-operations
invariant-loop-operations l =
    fold max l.rounds (map (λ ops. rounds_for l.stride (length ops)) (map operations_of (drop l.operations-index l.operations-items))) ≡ rounds_of (workload_of l.workload)
