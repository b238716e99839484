use Rattle.std.proofs.Common.{◌≡◌, map, take}
use Rattle.hs_records.specs.Books.{client_book_of, agent_book_of}
use Rattle.hs_ledger.specs.Fates.{entries_of}
use Rattle.hs_ledger.proofs.making.make_ledger.Given as goal

abbrev pub invariant-loop-book : goal.invariant-loop-book
invariant-loop-book l = l.entries.items ≡ entries_of (map client_book_of (take l.book-index l.clients.items)) (map agent_book_of l.agents.items)
