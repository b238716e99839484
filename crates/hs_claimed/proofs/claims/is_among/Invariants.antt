use Rattle.std.proofs.Common.{◌≡◌, false, take}
use Rattle.std.specs.List.{list_any}
use Rattle.hs_base.specs.Ids.{same_trace}
use Rattle.hs_claimed.proofs.claims.is_among.Given as goal

abbrev pub invariant-loop-place : goal.invariant-loop-place
invariant-loop-place l = list_any (same_trace l.trace) (take l.place l.traces) ≡ false
