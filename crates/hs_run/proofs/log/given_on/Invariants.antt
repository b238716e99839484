use Rattle.std.proofs.Common.{◌≡◌, take, count_by}
use Rattle.hs_run.proofs.Prelude.{is_given}
use Rattle.hs_run.proofs.log.given_on.Given as goal

abbrev pub invariant-loop-place : goal.invariant-loop-place
invariant-loop-place l = l.given ≡ count_by is_given (take l.place l.log)
