use Rattle.std.proofs.Common.{◌≡◌, ◌*◌, length, map, take}
use Rattle.hs_replay.proofs.Prelude.{range_with_len, PlainCoordinator, agent_book_of, client_book_of, followed, client_book, PlainWorkload, AllClosed, NodeRun, book_of}
use Rattle.hs_replay.proofs.books.books_of.Given as goal

abbrev pub invariant-loop-node : goal.invariant-loop-node
invariant-loop-node l =
    (goal.iterator-loop-node).can_next l.node-iterator ×
    (goal.iterator-loop-node).is_finite l.node-iterator ×
    ((W : PlainWorkload) (coordinator : PlainCoordinator) (closed : AllClosed W l.fn.nodes.items coordinator)
    → (map client_book_of l.clients.items ≡ map (client_book W closed.last.journal) (range_with_len 0 (length l.yielded * W.settings.clients)))
    × (map agent_book_of l.agents.items ≡ map (λ (node : NodeRun). book_of node.node node.state) (take (length l.yielded) (followed W closed.last.journal).nodes)))
