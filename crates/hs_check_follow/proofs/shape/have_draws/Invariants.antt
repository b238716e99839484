use Rattle.std.proofs.Common.{◌≡◌, drop}
use Rattle.hs_check_follow.proofs.Counts.{have_drawn}
use Rattle.hs_check_follow.proofs.shape.have_draws.Given as goal

abbrev pub invariant-loop-client : goal.invariant-loop-client
invariant-loop-client l =
    have_drawn l.workload.settings.size (drop l.client l.draws) (drop l.client l.clients) ≡ have_drawn l.workload.settings.size l.journal.draws.items l.workload.clients.items
