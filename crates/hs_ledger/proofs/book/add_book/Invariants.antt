use Rattle.std.proofs.Common.{◌≡◌, ◌++◌, take}
use Rattle.std.specs.HashMap.{get}
use Rattle.hs_ledger.specs.Books.{record_count}
use Rattle.hs_ledger.specs.Fates.{fated_by, book_entries}
use Rattle.hs_ledger.specs.Making.{page_eq, drawn_fate}
use Rattle.hs_ledger.proofs.book.add_book.Given as goal

abbrev pub invariant-loop-page : goal.invariant-loop-page
invariant-loop-page l = record {
  next : l.next ≡ record_count (take l.page l.book.pages.items);
  entries : l.entries.items ≡ l.initial.entries.items
      ++ book_entries l.book.client (take l.page (fated_by (λ page draw. drawn_fate (get page_eq l.fates (record { client = l.book.client; page = page })) draw) 0 l.book.draws.items l.book.pages.items));
}
