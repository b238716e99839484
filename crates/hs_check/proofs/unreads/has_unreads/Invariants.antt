use Rattle.std.proofs.Common.{◌≡◌, drop}
use Rattle.hs_check.proofs.Prelude.{list_all, journal_of, NodeRun, followed, played, before_unreads, may_be_unread, workload_of}
use Rattle.hs_law_journal.specs.Unreads.{has_unreads}
use Rattle.hs_check.proofs.unreads.has_unreads.Given as goal

abbrev pub invariant-loop-node : goal.invariant-loop-node
invariant-loop-node l =
    list_all (λ (run : NodeRun). list_all (may_be_unread (workload_of l.workload).settings run) (before_unreads run.state.log)) (drop l.node (followed (workload_of l.workload) (journal_of l.journal)).nodes)
    ≡ has_unreads (played (workload_of l.workload) (journal_of l.journal))
