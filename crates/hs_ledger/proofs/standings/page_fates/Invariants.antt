use Rattle.std.proofs.Common.{◌≡◌, drop, map, None}
use Rattle.std.specs.HashMap.{get}
use Rattle.hs_records.specs.Books.{agent_book_of}
use Rattle.hs_ledger.specs.declared.standings.PageId.{PageId}
use Rattle.hs_ledger.specs.Making.{page_eq, newest, all_standings}
use Rattle.hs_ledger.proofs.standings.page_fates.Given as goal

abbrev pub invariant-loop-book : goal.invariant-loop-book
invariant-loop-book l =
    (q : PageId) → newest (get page_eq l.fates q) q.client q.page (all_standings (map agent_book_of (drop l.book-index l.agents)))
    ≡ newest None q.client q.page (all_standings (map agent_book_of l.agents))
