use Rattle.std.proofs.Common.{◌≡◌, map, take, count_by}
use Rattle.hs_run.proofs.Prelude.{is_point, operation_of}
use Rattle.hs_run.proofs.client.points_on.Given as goal

abbrev pub invariant-loop-place : goal.invariant-loop-place
invariant-loop-place l = l.points ≡ count_by is_point (take l.place (map operation_of l.operations))
