use Rattle.std.proofs.Common.{◌≡◌, drop}
use Rattle.hs_check_follow.proofs.Prelude.{list_all, journal_of, followed, played, gives_answer, workload_of}
use Rattle.hs_law_journal.specs.Pooled.{has_answers}
use Rattle.hs_check_follow.proofs.answers.has_answers.Given as goal

abbrev pub invariant-loop-node : goal.invariant-loop-node
invariant-loop-node l =
    list_all gives_answer (drop l.node (followed (workload_of l.workload) (journal_of l.journal)).nodes)
    ≡ has_answers (played (workload_of l.workload) (journal_of l.journal))
