use Rattle.std.proofs.Common.{◌≡◌, drop}
use Rattle.hs_check_follow.proofs.Prelude.{list_all, journal_of, NodeRun, followed, played, is_history, pool_history, workload_of}
use Rattle.hs_law_journal.specs.Pooled.{has_history}
use Rattle.hs_check_follow.proofs.history.has_history.Given as goal

abbrev pub invariant-loop-node : goal.invariant-loop-node
invariant-loop-node l =
    list_all (λ (run : NodeRun). is_history l.workload.settings.buffers (pool_history run)) (drop l.node (followed (workload_of l.workload) (journal_of l.journal)).nodes)
    ≡ has_history (played (workload_of l.workload) (journal_of l.journal))
