use Rattle.std.proofs.Common.{◌≡◌, ◌&&◌, take}
use Rattle.hs_compare.proofs.Prelude.{TraceId, is_counted}
use Rattle.hs_compare.specs.Ringing.{is_among}
use Rattle.hs_compare.proofs.comparison.claims_of.Given as goal

abbrev pub invariant-loop-trace : goal.invariant-loop-trace
invariant-loop-trace l = (trace : TraceId) → is_among l.claims.keys trace ≡ (is_counted l.counts.entries trace && is_among (take l.trace-index l.claimed) trace)
