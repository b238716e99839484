use Rattle.std.proofs.Common.{◌≡◌}
use Rattle.hs_check_follow.proofs.Prelude.{list_all, journal_of, log_at, is_whole_pass, passes_of, queues_of, played, workload_of}
use Rattle.hs_law_journal.specs.Passes.{has_passes}
use Rattle.hs_check_follow.proofs.Ranges.{range_from}
use Rattle.hs_check_follow.proofs.passes.has_passes.Given as goal

abbrev pub invariant-loop-node : goal.invariant-loop-node
invariant-loop-node l =
    list_all (λ node. list_all (is_whole_pass (queues_of (workload_of l.workload))) (passes_of (log_at (journal_of l.journal) node))) (range_from l.node l.workload.settings.nodes)
    ≡ has_passes (played (workload_of l.workload) (journal_of l.journal))
