-- What agents tell leads to the nodes of the workload, in whatever order a journal is performed.
use Rattle.hs_law_run.proofs.Prelude.{range_with_len, all_at, run_start, followed, FollowingPlaysOut}
use Rattle.hs_law_agent.specs.Leading.{CrumbsLeadBelow}
use Rattle.hs_law_run.specs.Conditions.{MachinesTellWithin}
use Rattle.hs_law_journal.proofs.Telling.{Tells, leads_tell, starts_tell}

pub machines_tell_within : FollowingPlaysOut → CrumbsLeadBelow → MachinesTellWithin
machines_tell_within plays below W valid m r i run at =
    let all = leads_tell W.settings below (run_start W m.journal) (followed W m.journal) (plays W m.journal).leads (starts_tell W valid m.journal (range_with_len 0 W.settings.nodes)) in
    (all_at (Tells W.settings) (followed W m.journal).nodes i run all at).leads.said
