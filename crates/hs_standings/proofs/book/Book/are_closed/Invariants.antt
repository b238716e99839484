use Rattle.std.proofs.Common.{◌≡◌}
use Rattle.hs_standings.specs.Closing.{all_closed}
use Rattle.hs_standings.proofs.book.Book.are_closed.Given as goal

-- all depends on those that are left
abbrev pub invariant-loop-latest : goal.invariant-loop-latest
invariant-loop-latest l = all_closed l.self ≡ all_closed l.latest-iterator
