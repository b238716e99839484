-- The entries of a run, from the books of its clients and agents. Where a draw got no buffer, the
-- pieces of that page are null with its stamp, and any other piece has its page's standing. A record has the fate of its first piece
-- that was discarded (null, evicted or abandoned), and else that of its first piece.
use Rattle.std.specs.Prelude.{◌≡◌, ℕ, ◌+◌, ◌&&◌, nat_lt, nat_le, Bool, true, false, List, [], ◌∷◌, filter, map, option_map, unwrap_or, refl}
use Rattle.std.specs.List.{flat_map, find, range_with_len}
use Rattle.hs_base.specs.declared.ids.ClientId.{ClientId}
use Rattle.hs_base.specs.declared.told.Fate.{Fate}
use Rattle.hs_base.specs.declared.told.Fate.TheVariants.{Null, Live, Reported, Evicted, Abandoned}
use Rattle.hs_records.specs.declared.journal.Draw.{Draw}
use Rattle.hs_records.specs.declared.journal.Draw.TheVariants.{Got, Empty}
use Rattle.hs_records.specs.declared.books.PageNote.{PageNote}
use Rattle.hs_records.specs.declared.books.Standing.{Standing}
use Rattle.hs_records.specs.Books.{PlainClientBook, PlainAgentBook}
use Rattle.hs_ledger.specs.declared.ledger.Entry.{Entry}
use Rattle.hs_ledger.specs.Books.{end_of, record_count, is_of, standings_at}

-- the fate of a client's page with this draw. Where the books fit, a page with a buffer has a standing
abbrev pub page_fate : List PlainAgentBook → ClientId → ℕ → Draw → Fate
page_fate agents client page (Empty stamp) = Null stamp
page_fate agents client page (Got buffer stamp) = unwrap_or (option_map (λ standing. standing.fate) (find (is_of client page) (standings_at agents client.node))) Live

-- a page with its fate
pub record FatedPage : Type 0 where
  pub note : PageNote
  pub fate : Fate

-- the pages from this one on, by a rule for their fates
abbrev pub fated_by : (ℕ → Draw → Fate) → ℕ → List Draw → List PageNote → List FatedPage
fated_by fate page [] notes = []
fated_by fate page (draw ∷ draws) [] = []
fated_by fate page (draw ∷ draws) (note ∷ notes) = record { note = note; fate = fate page draw } ∷ fated_by fate (page + 1) draws notes

-- a client's pages with their fates
abbrev pub fated_pages : List PlainAgentBook → PlainClientBook → List FatedPage
fated_pages agents book = fated_by (page_fate agents book.client) 0 book.draws book.pages

-- whether a page has a piece of the record of this number
abbrev pub has_piece_of : ℕ → FatedPage → Bool
has_piece_of number page = nat_le page.note.first number && nat_lt number (end_of page.note)

abbrev pub is_discarded : Fate → Bool
is_discarded (Null stamp) = true
is_discarded Live = false
is_discarded (Reported trigger lead) = false
is_discarded (Evicted chunks traces) = true
is_discarded (Abandoned trigger lead rank) = true

-- the fate of a record whose pieces have these fates, in their order
abbrev pub record_fate : Fate → List Fate → Fate
record_fate first others = unwrap_or (find is_discarded (first ∷ others)) first

-- the entry of the record of this number whose pieces stand on these pages
abbrev pub entry_on : ClientId → ℕ → List FatedPage → List Entry
entry_on client number [] = []
entry_on client number (page ∷ pages) =
    record {
      id = record { client = client; number = number };
      trace = page.note.trace;
      fate = record_fate page.fate (map (λ other. other.fate) pages);
    } ∷ []

-- the entry of the record of this number, of a client with these pages
abbrev pub record_entry : ClientId → List FatedPage → ℕ → List Entry
record_entry client pages number = entry_on client number (filter (has_piece_of number) pages)

-- the entries of a client with these pages, by number
abbrev pub book_entries : ClientId → List FatedPage → List Entry
book_entries client pages = flat_map (record_entry client pages) (range_with_len 0 (record_count (map (λ page. page.note) pages)))

-- the entries of a run, client by client
abbrev pub entries_of : List PlainClientBook → List PlainAgentBook → List Entry
entries_of clients agents = flat_map (λ book. book_entries book.client (fated_pages agents book)) clients

-- worked examples
-- a page of the trace 1
abbrev page_from : ℕ → ℕ → PageNote
page_from first count = record { trace = record { 0 = 1 }; first = first; count = count }

abbrev book_of : ℕ → ℕ → List Draw → List PageNote → PlainClientBook
book_of node number draws pages = record { client = record { node = node; number = number }; draws = draws; pages = pages }

-- a client's page has this fate
abbrev standing_of : ℕ → ℕ → ℕ → Fate → Standing
standing_of node number page fate = record { client = record { node = node; number = number }; page = page; fate = fate }

abbrev agent_of : ℕ → List Standing → PlainAgentBook
agent_of node standings = record { node = record { 0 = node }; log = []; standings = standings; claims = []; sent = [] }

-- the fates of the one client's records, whose pages have these standings
abbrev fates : List Draw → List PageNote → List Standing → List Fate
fates draws pages standings = map (λ entry. entry.fate) (entries_of (book_of 0 0 draws pages ∷ []) (agent_of 0 standings ∷ []))

abbrev reported : Fate
reported = Reported (record { 0 = 7 }) (record { 0 = 1 })

abbrev abandoned : Fate
abandoned = Abandoned (record { 0 = 7 }) (record { 0 = 1 }) (record { word = 9; trace = 1 })

third_record_is_null : fates (Got 0 0 ∷ Empty 1 ∷ []) (page_from 0 2 ∷ page_from 2 1 ∷ []) (standing_of 0 0 0 Live ∷ []) ≡ Live ∷ Live ∷ Null 1 ∷ []
third_record_is_null = refl

-- a record on three pages has one entry, with the fate of the first piece that was discarded
first_discarded : (fates (Got 0 0 ∷ Empty 3 ∷ Empty 5 ∷ []) (page_from 0 1 ∷ page_from 0 1 ∷ page_from 0 2 ∷ []) (standing_of 0 0 0 Live ∷ []) ≡ Null 3 ∷ Null 5 ∷ [])
    × (fates (Got 0 0 ∷ Empty 3 ∷ []) (page_from 0 1 ∷ page_from 0 1 ∷ []) (standing_of 0 0 0 (Evicted 4 4) ∷ []) ≡ Evicted 4 4 ∷ [])
    × (fates (Got 0 0 ∷ Got 1 1 ∷ []) (page_from 0 1 ∷ page_from 0 2 ∷ []) (standing_of 0 0 1 (Evicted 4 4) ∷ standing_of 0 0 0 Live ∷ []) ≡ Evicted 4 4 ∷ Evicted 4 4 ∷ [])
first_discarded = (refl, refl, refl)

-- without such a piece it has that of its first
first_piece : (fates (Got 0 0 ∷ Got 1 1 ∷ []) (page_from 0 1 ∷ page_from 0 1 ∷ []) (standing_of 0 0 0 reported ∷ standing_of 0 0 1 reported ∷ []) ≡ reported ∷ [])
    × (fates (Got 0 0 ∷ Got 1 1 ∷ []) (page_from 0 1 ∷ page_from 0 1 ∷ []) (standing_of 0 0 0 abandoned ∷ standing_of 0 0 1 abandoned ∷ []) ≡ abandoned ∷ [])
first_piece = (refl, refl)

-- pages of one number, of two clients and of two nodes, in the order of the clients
by_client : entries_of
    (book_of 0 0 (Got 0 0 ∷ []) (page_from 0 1 ∷ []) ∷ book_of 0 1 (Got 1 1 ∷ []) (page_from 0 1 ∷ []) ∷ book_of 1 0 (Got 0 0 ∷ []) (page_from 0 1 ∷ []) ∷ [])
    (agent_of 0 (standing_of 0 1 0 (Evicted 3 3) ∷ standing_of 0 0 0 Live ∷ []) ∷ agent_of 1 (standing_of 1 0 0 reported ∷ []) ∷ [])
    ≡ record { id = record { client = record { node = 0; number = 0 }; number = 0 }; trace = record { 0 = 1 }; fate = Live }
    ∷ record { id = record { client = record { node = 0; number = 1 }; number = 0 }; trace = record { 0 = 1 }; fate = Evicted 3 3 }
    ∷ record { id = record { client = record { node = 1; number = 0 }; number = 0 }; trace = record { 0 = 1 }; fate = reported } ∷ []
by_client = refl

no_books : entries_of [] [] ≡ []
no_books = refl
