use Rattle.std.proofs.Common.{◌≡◌, map}
use Rattle.hs_outcome.proofs.gathering.all_logs.Given as goal

abbrev pub invariant-loop-book : goal.invariant-loop-book
invariant-loop-book l = map (λ list. list.items) l.logs.items ≡ map (λ book. book.log.items) l.yielded
