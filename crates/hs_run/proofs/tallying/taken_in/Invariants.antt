use Rattle.std.proofs.Common.{◌≡◌, take, sum_by}
use Rattle.hs_run.proofs.Prelude.{LogCount}
use Rattle.hs_run.proofs.tallying.taken_in.Given as goal

abbrev pub invariant-loop-count : goal.invariant-loop-count
invariant-loop-count l = l.sum ≡ sum_by (λ (c : LogCount). c.taken) (take l.count-index l.counts)
