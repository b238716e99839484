use Rattle.std.proofs.Common.{◌≡◌}
use Rattle.hs_ledger.proofs.standings.standing_count.Given as goal

abbrev pub invariant-loop-book : goal.invariant-loop-book
invariant-loop-book l = l.book-index ≡ 0 → l.count ≡ 0
