use Rattle.hs_check_follow.proofs.Prelude.{journal_of, run_start, workload_of}
use Rattle.hs_check_follow.proofs.making.follow_on.Goals as goal

pub follow-requires : goal.follow-requires
follow-requires c = (run_start (workload_of c.args.workload.now) (journal_of c.args.journal.now), c.requires)

pub returns : goal.returns
returns c = c.in_ok-follow.ensures (run_start (workload_of c.args.workload.now) (journal_of c.args.journal.now)) c.requires
