use Rattle.std.proofs.Common.{◌≡◌, ◌++◌, map}
use Rattle.hs_check_follow.proofs.Prelude.{FollowedClient}
use Rattle.hs_check_follow.proofs.parting.part_clients.Given as goal

abbrev pub invariant-loop-client : goal.invariant-loop-client
invariant-loop-client l =
    (goal.iterator-loop-client).can_next l.client-iterator × (goal.iterator-loop-client).is_finite l.client-iterator
    × (l.found.items ≡ l.initial.found.items ++ map (λ (s : FollowedClient). s.found) l.yielded) × (l.books.items ≡ l.initial.books.items ++ map (λ (s : FollowedClient). s.book) l.yielded)
