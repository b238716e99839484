use Rattle.std.proofs.Common.{◌≡◌, ◌++◌, take, map}
use Rattle.hs_outcome.proofs.claims.push_claims.Given as goal

abbrev pub invariant-loop-claim : goal.invariant-loop-claim
invariant-loop-claim l = l.traces.items ≡ l.initial.traces.items ++ map (λ claim. claim.trace) (take l.claim-index l.claims)
