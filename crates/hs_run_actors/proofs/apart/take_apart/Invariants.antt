use Rattle.std.proofs.Common.{◌≡◌, map}
use Rattle.hs_run_actors.proofs.Prelude.{client_book_of, outgoing, PlainClientActor, AreNotes}
use Rattle.hs_run_actors.proofs.apart.take_apart.Given as goal

abbrev pub invariant-loop-caller : goal.invariant-loop-caller
invariant-loop-caller l =
    (goal.iterator-loop-caller).can_next l.caller-iterator × (goal.iterator-loop-caller).is_finite l.caller-iterator
    × AreNotes l.yielded (map client_book_of l.apart.books.items) × (l.apart.drawers.items ≡ map (λ (c : PlainClientActor). c.client.drawer) l.yielded)
    × (map outgoing l.apart.chunks.items ≡ map (λ (c : PlainClientActor). c.client.chunks) l.yielded) × (l.apart.crumbs.items ≡ map (λ (c : PlainClientActor). c.client.crumbs) l.yielded)
    × (l.apart.triggers.items ≡ map (λ (c : PlainClientActor). c.client.triggers) l.yielded)
