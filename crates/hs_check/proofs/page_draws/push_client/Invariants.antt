use Rattle.std.proofs.Common.{◌≡◌, ◌++◌, drop}
use Rattle.hs_check.proofs.Prelude.{page_draws}
use Rattle.hs_check.proofs.page_draws.push_client.Given as goal

abbrev pub invariant-loop-page : goal.invariant-loop-page
invariant-loop-page l = l.all.items ++ page_draws l.client l.page (drop l.page l.started) (drop l.page l.draws) ≡ l.fn.all.items ++ page_draws l.client 0 l.started l.draws
