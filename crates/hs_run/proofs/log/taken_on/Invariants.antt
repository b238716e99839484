use Rattle.std.proofs.Common.{◌≡◌, take, count_by}
use Rattle.hs_run.proofs.Prelude.{is_chunk}
use Rattle.hs_run.proofs.log.taken_on.Given as goal

abbrev pub invariant-loop-place : goal.invariant-loop-place
invariant-loop-place l = l.taken ≡ count_by is_chunk (take l.place l.log)
