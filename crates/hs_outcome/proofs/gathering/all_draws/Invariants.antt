use Rattle.std.proofs.Common.{◌≡◌, map}
use Rattle.hs_outcome.proofs.gathering.all_draws.Given as goal

abbrev pub invariant-loop-book : goal.invariant-loop-book
invariant-loop-book l = map (λ list. list.items) l.draws.items ≡ map (λ book. book.draws.items) l.yielded
