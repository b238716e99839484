use Rattle.std.proofs.Common.{◌≡◌, ◌++◌, map}
use Rattle.hs_run.proofs.Prelude.{client_book_of}
use Rattle.hs_run.proofs.shutting.add_all.Given as goal

abbrev pub invariant-loop-book : goal.invariant-loop-book
invariant-loop-book l =
    (goal.iterator-loop-book).can_next l.book-iterator × (goal.iterator-loop-book).is_finite l.book-iterator
    × (map client_book_of l.books.items ≡ map client_book_of l.initial.books.items ++ map client_book_of l.yielded)
