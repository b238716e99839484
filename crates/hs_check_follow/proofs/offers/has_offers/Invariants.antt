use Rattle.std.proofs.Common.{◌≡◌, drop}
use Rattle.hs_check_follow.proofs.Prelude.{list_all, journal_of, followed, offers_end, played, settings_of, workload_of}
use Rattle.hs_law_journal.specs.Passes.{has_offers}
use Rattle.hs_check_follow.proofs.offers.has_offers.Given as goal

abbrev pub invariant-loop-node : goal.invariant-loop-node
invariant-loop-node l =
    list_all (offers_end (settings_of l.workload.settings)) (drop l.node (followed (workload_of l.workload) (journal_of l.journal)).nodes)
    ≡ has_offers (played (workload_of l.workload) (journal_of l.journal))
