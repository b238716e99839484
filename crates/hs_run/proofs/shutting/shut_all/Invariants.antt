use Rattle.std.proofs.Common.{map}
use Rattle.hs_run.proofs.Prelude.{client_book_of, HaveClosedLinks, items_of, sites_of}
use Rattle.hs_run.proofs.shutting.shut_all.Given as goal

abbrev pub invariant-loop-node : goal.invariant-loop-node
invariant-loop-node l =
    (goal.iterator-loop-node).can_next l.node-iterator × (goal.iterator-loop-node).is_finite l.node-iterator
    × HaveClosedLinks (sites_of l.yielded) (map client_book_of l.ended.books.items) (items_of l.ended.drawers.items) l.ended.nodes.items
