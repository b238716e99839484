use Rattle.std.proofs.Common.{◌≡◌, take}
use Rattle.hs_claimed.specs.Claims.{told_in}
use Rattle.hs_claimed.proofs.claims.ClaimedTraces.told_for.Given as goal

-- of the claims that were looked at so far
abbrev pub invariant-loop-place : goal.invariant-loop-place
invariant-loop-place l = l.nodes ≡ told_in l.self l.trace (take l.place l.self.claims)
