use Rattle.std.proofs.Common.{◌≡◌, ◌≤◌, length, take}
use Rattle.hs_claimed.specs.Claims.{others}
use Rattle.hs_claimed.proofs.claims.others_of.Given as goal

-- what was looked at so far is there
abbrev pub invariant-loop-place : goal.invariant-loop-place
invariant-loop-place l = (l.others ≡ others l.lead (take l.place l.laterals)) × (length l.others ≤ l.place)
