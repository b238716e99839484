use Rattle.std.proofs.Common.{◌≡◌, take, sum_by}
use Rattle.hs_run.proofs.Prelude.{ClientCount}
use Rattle.hs_run.proofs.tallying.nulls_in.Given as goal

abbrev pub invariant-loop-count : goal.invariant-loop-count
invariant-loop-count l = l.sum ≡ sum_by (λ (c : ClientCount). c.nulls) (take l.count-index l.counts)
