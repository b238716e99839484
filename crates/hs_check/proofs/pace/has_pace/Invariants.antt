use Rattle.std.proofs.Common.{◌≡◌, drop}
use Rattle.hs_check.proofs.Prelude.{list_all, journal_of, followed, settings_of, workload_of}
use Rattle.hs_check.proofs.Paced.{keeps_pace}
use Rattle.hs_check.proofs.pace.has_pace.Given as goal

abbrev pub invariant-loop-node : goal.invariant-loop-node
invariant-loop-node l =
    list_all (keeps_pace (settings_of l.workload.settings)) (drop l.node (followed (workload_of l.workload) (journal_of l.journal)).nodes)
    ≡ list_all (keeps_pace (settings_of l.workload.settings)) (followed (workload_of l.workload) (journal_of l.journal)).nodes
