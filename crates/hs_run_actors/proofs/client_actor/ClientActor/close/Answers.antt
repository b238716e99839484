use Rattle.std.proofs.Common.{sym, subst}
use Rattle.hs_run_actors.proofs.Prelude.{client_book_of, PlainClientActor, IsDone, Notes}
use Rattle.hs_run_actors.specs.ClientActorInside.{client_actor_of}
use Rattle.hs_run_actors.proofs.Closing.{is_closed, keeps_book, notes}
use Rattle.hs_run_actors.proofs.client_actor.ClientActor.close.Goals as goal

pub close-requires-clause-closed : goal.close-requires-clause-closed
close-requires-clause-closed c = is_closed (client_actor_of c.self.inside) (subst IsDone (sym c.self.view_is) c.requires)

pub close-requires-clause-keeps : goal.close-requires-clause-keeps
close-requires-clause-keeps c = keeps_book (client_actor_of c.self.inside) (subst IsDone (sym c.self.view_is) c.requires)

pub returns-clause-book : goal.returns-clause-book
returns-clause-book c =
    let book = c.close.ensures.book in
    subst (λ (caller : PlainClientActor). Notes caller (client_book_of c.close.result.book)) c.self.view_is
    (notes c.what_was_done_was_sent.ensures (client_actor_of c.self.inside) (client_book_of c.close.result.book) (record { owner = book.0; draws = book.1; pages = book.2 }))
