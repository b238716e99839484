use Rattle.std.proofs.Common.{◌≡◌, take}
use Rattle.hs_outcome.proofs.Prelude.{all_claimed}
use Rattle.hs_outcome.proofs.claims.claims.Given as goal

abbrev pub invariant-loop-book : goal.invariant-loop-book
invariant-loop-book l = l.traces.items ≡ all_claimed (take l.book-index l.agents)
