use Rattle.std.proofs.Common.{◌≡◌, map}
use Rattle.hs_c.proofs.opening.boxed.Given as goal

abbrev pub invariant-loop-client : goal.invariant-loop-client
invariant-loop-client l =
    (goal.iterator-loop-client).can_next l.client-iterator ×
    (goal.iterator-loop-client).is_finite l.client-iterator ×
    (map (λ boxed. boxed.value.client) l.cells.items ≡ l.yielded)
