use Rattle.std.proofs.Common.{length}
use Rattle.hs_auto.proofs.DistinctLemmas.{IsSoFar}
use Rattle.hs_auto.proofs.laterals.distinct_others.Given as goal

abbrev pub invariant-loop-earlier : goal.invariant-loop-earlier
invariant-loop-earlier l = IsSoFar l.recent.items l.trace (length l.yielded) l.earlier-iterator l.laterals
