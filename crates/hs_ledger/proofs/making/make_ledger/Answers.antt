use Rattle.std.proofs.Common.{ℕ, map, length, ap, ◌∙◌, arith}
use Rattle.std.specs.HashMap.{get}
use Rattle.hs_records.specs.Books.{client_book_of, agent_book_of}
use Rattle.hs_ledger.specs.Making.{page_eq, newest, all_standings}
use Rattle.hs_ledger.specs.Totals.{totals_of}
use Rattle.hs_ledger.proofs.Whole.{length-entries_of, one_fits, book_more, all_books}
use Rattle.hs_ledger.proofs.making.make_ledger.Goals as goal

pub add_book-requires : goal.add_book-requires
add_book-requires c =
    let book = one_fits (map agent_book_of c.args.agents.now.items) c.args.clients.now.items c.as_slice-book-items.result.now c.loop-book.book-index c.book-item.result c.requires
    c.as_slice-book-items.ensures c.loop-book-test.true c.book-item.is in
    record { drawn = book.fits.drawn; counted = book.fits.counted; numbered = book.fits.numbered; few = book.few }

pub loop-book-preserved : goal.loop-book-preserved
loop-book-preserved c =
    let book = c.book-item.result in
    book_more (map agent_book_of c.args.agents.now.items) c.args.clients.now.items c.as_slice-book-items.result.now c.loop-book.book-index book
    (λ (page : ℕ). get page_eq c.in_ok-fates.fates (record { client = book.client; page = page })) c.loop-book.entries.items c.add_book.new.entries.items
    c.requires c.as_slice-book-items.ensures c.loop-book-test.true c.book-item.is
    (λ page. c.in_ok-fates.ensures.fates (record { client = book.client; page = page }) ∙ ap (λ agents. newest _ book.client page (all_standings (map agent_book_of agents))) c.as_slice.ensures)
    c.loop-book.invariant c.in_ok-add_book.ensures.entries

pub of-totals-requires : goal.of-totals-requires
of-totals-requires c =
    let clients = c.args.clients.now.items in
    let agents = map agent_book_of c.args.agents.now.items in
    let all = all_books agents clients c.as_slice-book-items.result.now c.loop-book.book-index c.loop-book.entries.items c.as_slice-book-items.ensures c.loop-book-test.false c.loop-book.invariant in
    let few = length-entries_of agents (map client_book_of clients) c.requires.each in
    let below = c.requires.few in
    omega (arith, few, below, ap length (c.as_slice-2.ensures.value ∙ all))

pub returns-clause-entries : goal.returns-clause-entries
returns-clause-entries c =
    c.from_vec.ensures.items
    ∙ all_books (map agent_book_of c.args.agents.now.items) c.args.clients.now.items c.as_slice-book-items.result.now c.loop-book.book-index c.loop-book.entries.items c.as_slice-book-items.ensures
    c.loop-book-test.false c.loop-book.invariant

pub returns-clause-totals : goal.returns-clause-totals
returns-clause-totals c =
    c.of-totals.ensures.totals
    ∙ ap totals_of
    (c.as_slice-2.ensures.value
    ∙ all_books (map agent_book_of c.args.agents.now.items) c.args.clients.now.items c.as_slice-book-items.result.now c.loop-book.book-index c.loop-book.entries.items c.as_slice-book-items.ensures
    c.loop-book-test.false c.loop-book.invariant)

pub returns-clause-records : goal.returns-clause-records
returns-clause-records c =
    let agents = map agent_book_of c.args.agents.now.items in
    let all = all_books agents c.args.clients.now.items c.as_slice-book-items.result.now c.loop-book.book-index c.loop-book.entries.items c.as_slice-book-items.ensures c.loop-book-test.false c.loop-book.invariant in
    ap (λ totals. totals.records) c.of-totals.ensures.totals
    ∙ ap length (c.as_slice-2.ensures.value ∙ all)
    ∙ length-entries_of agents (map client_book_of c.args.clients.now.items) c.requires.each
