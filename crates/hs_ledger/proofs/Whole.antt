-- The entries of all books: how many there are at most, and one book more.
use Rattle.std.proofs.Common.{◌≡◌, ℕ, ◌+◌, ◌<◌, ◌≤◌, ◌^◌, List, [], ◌∷◌, ◌++◌, All, map, take, get_or, length, filter, sum_by, Option, None, refl, sym, ap, ap₂, subst, ◌∙◌, arith}
use Rattle.std.proofs.lemmas.List.{length-append, length-map, map-append, get_or-map, take_more, take_all}
use Rattle.std.proofs.lemmas.List.Concat.{flat_map-append}
use Rattle.std.proofs.lemmas.List.{append-nil}
use Rattle.std.proofs.lemmas.List.Elements.{All-tail}
use Rattle.std.proofs.lemmas.List.Sums.{sum_by-cons, get_or-le-sum_by}
use Rattle.hs_base.specs.declared.ids.ClientId.{ClientId}
use Rattle.hs_base.specs.declared.told.Fate.{Fate}
use Rattle.hs_records.specs.declared.books.ClientBook.{ClientBook}
use Rattle.hs_records.specs.Books.{PlainClientBook, PlainAgentBook, client_book_of}
use Rattle.hs_ledger.specs.declared.ledger.Entry.{Entry}
use Rattle.hs_ledger.specs.Books.{AreNumbered, record_count, BookFits, BooksFit, IsOfGotPage}
use Rattle.hs_ledger.specs.Fates.{FatedPage, fated_by, has_piece_of, page_fate, fated_pages, entry_on, record_entry, book_entries, entries_of}
use Rattle.hs_ledger.specs.Making.{newest, all_standings, drawn_fate}
use Rattle.hs_ledger.proofs.Ranges.{length-flat_map_one}
use Rattle.hs_ledger.proofs.Pieces.{notes_of, IsSome, each_has_piece}
use Rattle.hs_ledger.proofs.Walks.{fated_by-notes}
use Rattle.hs_ledger.proofs.Found.{AreAtNode, fated-found}

one_entry : (client : ClientId) (number : ℕ) (pages : List FatedPage) → IsSome pages → length (entry_on client number pages) ≡ 1
one_entry client number pages some = ap (λ ps. length (entry_on client number ps)) some.is

-- one entry for each record
length-book : (client : ClientId) (pages : List FatedPage) → AreNumbered (notes_of pages) → length (book_entries client pages) ≡ record_count (notes_of pages)
length-book client pages numbered =
    length-flat_map_one (record_entry client pages) 0 (record_count (notes_of pages))
    (λ number low high. one_entry client number (filter (has_piece_of number) pages) (each_has_piece number pages numbered (omega arith)))

abbrev records_in : PlainClientBook → ℕ
records_in book = record_count book.pages

abbrev entries_in : List PlainAgentBook → PlainClientBook → List Entry
entries_in agents book = book_entries book.client (fated_pages agents book)

pub length-entries_of : (agents : List PlainAgentBook) (books : List PlainClientBook) → All (BookFits agents) books → length (entries_of books agents) ≡ sum_by (λ (book : PlainClientBook). record_count book.pages) books
length-entries_of agents [] fit = refl
length-entries_of agents (book ∷ books) fit =
    let fits = fit 0 book (omega arith) in
    let notes = fated_by-notes (page_fate agents book.client) 0 book.draws book.pages fits.drawn in
    let here = length-book book.client (fated_pages agents book) (subst AreNumbered (sym notes) fits.numbered) in
    let later = length-entries_of agents books (All-tail (BookFits agents) book books fit) in
    omega (arith, here, ap record_count notes, later, sum_by-cons records_in book books, length-append (entries_in agents book) (entries_of books agents))

pub at_node_each : (clients : List PlainClientBook) (agents : List PlainAgentBook) → All (λ (book : PlainAgentBook). All (IsOfGotPage clients book.node.0) book.standings) agents → All AreAtNode agents
at_node_each clients agents got = λ k d within. λ i s inside. (got k d within i s inside).0

-- the entries of the books in memory
abbrev pub entries_in_memory : List ClientBook → List PlainAgentBook → List Entry
entries_in_memory books agents = entries_of (map client_book_of books) agents

-- what is known of one of the books
pub record Fits (agents : List PlainAgentBook) (book : ClientBook) : Type 0 where
  pub fits : BookFits agents (client_book_of book)
  pub few : record_count book.pages.items < 2 ^ 32

pub one_fits : (agents : List PlainAgentBook) (clients slice : List ClientBook) (i : ℕ) (book : ClientBook) → BooksFit (map client_book_of clients) agents → slice ≡ clients → i < length slice
    → book ≡ get_or slice i book → Fits agents book
one_fits agents clients slice i book fit same within is =
    let plain = client_book_of book in
    let inside : i < length clients = omega (arith, ap length same) in
    let among : i < length (map client_book_of clients) = omega (arith, inside, length-map clients client_book_of) in
    let here : get_or (map client_book_of clients) i plain ≡ plain =
    get_or-map client_book_of clients i book plain inside ∙ ap client_book_of (sym (is ∙ ap (λ books. get_or books i book) same)) in
    let below = get_or-le-sum_by (λ (b : PlainClientBook). record_count b.pages) (map client_book_of clients) i plain among in
    record { fits = subst (BookFits agents) here (fit.each i plain among); few = omega (arith, below, ap (λ (b : PlainClientBook). record_count b.pages) here, fit.few) }

-- one book more
pub book_more : (agents : List PlainAgentBook) (clients slice : List ClientBook) (i : ℕ) (book : ClientBook) (look : ℕ → Option Fate) (old new : List Entry) → BooksFit (map client_book_of clients) agents
    → slice ≡ clients → i < length slice → book ≡ get_or slice i book → ((page : ℕ) → look page ≡ newest None book.client page (all_standings agents))
    → old ≡ entries_in_memory (take i clients) agents → new ≡ old ++ book_entries book.client (fated_by (λ page draw. drawn_fate (look page) draw) 0 book.draws.items book.pages.items)
    → new ≡ entries_in_memory (take (i + 1) clients) agents
book_more agents clients slice i book look old new fit same within is looked so_far added =
    let inside : i < length clients = omega (arith, ap length same) in
    let at : book ≡ get_or clients i book = is ∙ ap (λ books. get_or books i book) same in
    let fits = (one_fits agents clients slice i book fit same within is).fits in
    let pages = fated-found agents (client_book_of book) look (at_node_each (map client_book_of clients) agents fit.got) fits.standing looked in
    added
    ∙ ap₂ (λ xs ps. xs ++ book_entries book.client ps) so_far pages
    ∙ ap (λ b. entries_in_memory (take i clients) agents ++ entries_in agents (client_book_of b)) at
    ∙ ap (λ xs. entries_in_memory (take i clients) agents ++ xs) (sym (append-nil (entries_in agents (client_book_of (get_or clients i book)))))
    ∙ sym (flat_map-append (entries_in agents) (map client_book_of (take i clients)) (client_book_of (get_or clients i book) ∷ []))
    ∙ ap (λ books. entries_of books agents) (sym (map-append client_book_of (take i clients) (get_or clients i book ∷ [])))
    ∙ ap (λ books. entries_in_memory books agents) (sym (take_more clients i book inside))

-- all books
pub all_books : (agents : List PlainAgentBook) (clients slice : List ClientBook) (i : ℕ) (found : List Entry) → slice ≡ clients → length slice ≤ i → found ≡ entries_in_memory (take i clients) agents
    → found ≡ entries_in_memory clients agents
all_books agents clients slice i found same past so_far = so_far ∙ ap (λ books. entries_in_memory books agents) (take_all i clients (omega (arith, ap length same)))
