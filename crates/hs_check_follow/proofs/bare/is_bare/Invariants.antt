use Rattle.std.proofs.Common.{◌≡◌, drop}
use Rattle.hs_check_follow.proofs.Prelude.{list_all, journal_of, is_left_bare, followed, played, workload_of}
use Rattle.hs_law_journal.specs.Ends.{is_bare}
use Rattle.hs_check_follow.proofs.bare.is_bare.Given as goal

abbrev pub invariant-loop-node : goal.invariant-loop-node
invariant-loop-node l =
    list_all (is_left_bare (followed (workload_of l.workload) (journal_of l.journal))) (drop l.node (followed (workload_of l.workload) (journal_of l.journal)).nodes)
    ≡ is_bare (played (workload_of l.workload) (journal_of l.journal))
