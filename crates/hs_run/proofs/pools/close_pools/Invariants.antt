use Rattle.std.proofs.Common.{map}
use Rattle.hs_run.proofs.Prelude.{agent_book_of, HaveFinished}
use Rattle.hs_run.proofs.pools.close_pools.Given as goal

abbrev pub invariant-loop-node : goal.invariant-loop-node
invariant-loop-node l =
    (goal.iterator-loop-node).can_next l.node-iterator × (goal.iterator-loop-node).is_finite l.node-iterator × HaveFinished (map (λ p. p.0) l.yielded) (map (λ p. p.1.items) l.yielded) (map agent_book_of l.books.items)
