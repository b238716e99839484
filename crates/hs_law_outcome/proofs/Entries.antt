-- The pages of a client carry its records without a gap, so each number below the count of records is that of a piece on some page,
-- and the first such page names the record's trace.
use Rattle.std.proofs.Common.{◌≡◌, ◌⊎◌, inl, inr, ℕ, zero, suc, ◌+◌, ◌<◌, ◌≤◌, Bool, true, false, ◌&&◌, cond, List, [], ◌∷◌, ◌++◌, length, refl, sym, ap, subst, ◌∙◌, Some, None, arith, map, filter, option_map, slice_get, unwrap_or, leb, ltb, leb-true, ltb-true, leb-false, ltb-false, eqb-true, eq-or-lt_of_le, nat_eq}
use Rattle.hs_law_outcome.proofs.Prelude.{AllByRecursion, flat_map, range_with_len, and_parts, length-map, flat_map-map, same_Some, map_flat, ClientId, TraceId, MIN_SIZE, Fate, note_of, Draw, PageNote, PlainClientBook, PlainJournal, Entry, record_count, FatedPage, page_fate, fated_by, fated_pages, has_piece_of, record_fate, entry_on, record_entry, book_entries, Traces, RiseFrom, CarriesRecords, AllFollow, AreNumberedFrom, end_of, end_from, traces_of, PlainPage, first_record, pages_of, Operation, PlainWorkload, AreBracketed, Piece, Record, records_of, operations_at, draws_at, followed, played, same_counts, has_shape, client_at, client_book, client_books, agent_books, named_from, client_records, name_of, EachRecordHasOneEntry}
use Rattle.std.proofs.lemmas.Bool.{and_cases}
use Rattle.hs_base.proofs.Ranges.{flat_range_alike}
use Rattle.hs_ledger.specs.Books.{count_from}
use Rattle.hs_records.specs.Laws.{CarryRecords}
pub use Rattle.hs_law_journal.proofs.Workloads.{ends_at}

-- what is said of the pages of a client
abbrev pub PagesCarryTheRecords : Type 0
PagesCarryTheRecords =
    (size : ℕ) (operations : List Operation) → MIN_SIZE ≤ size → AreBracketed false operations
    → CarryRecords (traces_of (records_of operations)) 0 (pages_of size operations) (length (records_of operations))

-- ---- the trace of a number

pub piece_traced : (traces : Traces) (trace : TraceId) (n first : ℕ) (pieces : List Piece) → RiseFrom first pieces → AllByRecursion (λ (piece : Piece). traces piece.number ≡ Some trace) pieces
    → first ≤ n → n < first + length pieces → traces n ≡ Some trace
piece_traced traces trace n first [] rises traced low high = absurd (omega (arith, low, high))
piece_traced traces trace n first (piece ∷ pieces) rises traced low high =
    elim (eq-or-lt_of_le low) as (λ _. traces n ≡ Some trace) [
      | inl same ↦ ap traces (sym same ∙ sym rises.0) ∙ traced.0
      | inr more ↦
          let behind : first + 1 ≤ n = omega (arith, more) in
          let below : n < (first + 1) + length pieces = omega (arith, high) in
          piece_traced traces trace n (first + 1) pieces rises.1 traced.1 behind below
    ]

-- ---- an entry for each number

-- there is one entry of this number, with the trace of its record
record HasEntry (traces : Traces) (client : ClientId) (n : ℕ) (entries : List Entry) : Type 0 where
  trace : TraceId
  fate : Fate
  is : entries ≡ record { id = record { client = client; number = n }; trace = trace; fate = fate } ∷ []
  traced : traces n ≡ Some trace

module _ (traces : Traces) (client : ClientId) (n : ℕ) where
  on_page : (page : PlainPage) (pages : List FatedPage) (fate : Fate) → CarriesRecords traces page → first_record page ≤ n → n < end_of page
      → HasEntry traces client n (entry_on client n (record { note = note_of page; fate = fate } ∷ pages))
  on_page page pages fate carries low high =
      record {
        trace = page.trace;
        fate = record_fate fate (map (λ (other : FatedPage). other.fate) pages);
        is = refl;
        traced = piece_traced traces page.trace n (first_record page) page.pieces carries.rises carries.traced low high;
      }

  page_case : (page : PlainPage) (rest : List FatedPage) (fate : Fate) (next : ℕ) (b : Bool) → (leb (first_record page) n && ltb n (end_of page)) ≡ b → CarriesRecords traces page
      → first_record page ≤ next → next ≤ n → (end_of page ≤ n → HasEntry traces client n (entry_on client n rest))
      → HasEntry traces client n (entry_on client n (cond b (record { note = note_of page; fate = fate } ∷ rest) rest))
  page_case page rest fate next true test carries low high on =
      let both = and_parts (leb (first_record page) n) (ltb n (end_of page)) test in
      on_page page rest fate carries (leb-true (first_record page) n both.0) (ltb-true n (end_of page) both.1)
  page_case page rest fate next false test carries low high on =
      elim (and_cases (leb (first_record page) n) (ltb n (end_of page)) test) as (λ _. HasEntry traces client n (entry_on client n rest)) [
        | inl not_low ↦ let less = leb-false (first_record page) n not_low in absurd (omega (arith, less, low, high))
        | inr not_high ↦ on (ltb-false n (end_of page) not_high)
      ]

  first_low : (page : PlainPage) (next : ℕ) (trace : TraceId) → (first_record page ≡ next) ⊎ ((page.trace ≡ trace) × (first_record page + 1 ≡ next)) → first_record page ≤ next
  first_low page next trace (inl same) = omega (arith, same)
  first_low page next trace (inr goes) = let one = goes.1 in omega (arith, one)

  has_entry : (fates : ℕ → Draw → Fate) (k next : ℕ) (trace : TraceId) (pages : List PlainPage) (draws : List Draw) → length draws ≡ length pages → AllFollow next trace pages → AllByRecursion (CarriesRecords traces) pages
      → next ≤ n → n < end_from next pages → HasEntry traces client n (entry_on client n (filter (has_piece_of n) (fated_by fates k draws (map note_of pages))))
  has_entry fates k next trace [] draws same follow carry low high = absurd (omega (arith, low, high))
  has_entry fates k next trace (page ∷ pages) [] same follow carry low high = let no : 0 ≡ suc (length pages) = same in absurd (omega (arith, no))
  has_entry fates k next trace (page ∷ pages) (draw ∷ draws) same follow carry low high =
      let tails : suc (length draws) ≡ suc (length pages) = same in
      page_case page (filter (has_piece_of n) (fated_by fates (k + 1) draws (map note_of pages))) (fates k draw) next (leb (first_record page) n && ltb n (end_of page)) refl carry.0
      (first_low page next trace follow.0) low
      (λ behind. has_entry fates (k + 1) (end_of page) page.trace pages draws (omega (arith, tails)) follow.1 carry.1 behind high)

-- ---- a client

notes_stay : (fates : ℕ → Draw → Fate) (k : ℕ) (draws : List Draw) (notes : List PageNote) → length draws ≡ length notes → map (λ (page : FatedPage). page.note) (fated_by fates k draws notes) ≡ notes
notes_stay fates k [] [] same = refl
notes_stay fates k [] (note ∷ notes) same = let no : 0 ≡ suc (length notes) = same in absurd (omega (arith, no))
notes_stay fates k (draw ∷ draws) [] same = let no : suc (length draws) ≡ 0 = same in absurd (omega (arith, no))
notes_stay fates k (draw ∷ draws) (note ∷ notes) same =
    let tails : suc (length draws) ≡ suc (length notes) = same in ap (λ rest. note ∷ rest) (notes_stay fates (k + 1) draws notes (omega (arith, tails)))

pub counts_end : (before : ℕ) (pages : List PlainPage) → count_from before (map note_of pages) ≡ end_from before pages
counts_end before [] = refl
counts_end before (page ∷ pages) = counts_end (end_of page) pages

-- the first page behind nothing begins with record 0
pub follow_first : (trace : TraceId) (pages : List PlainPage) → AreNumberedFrom 0 pages → AllFollow 0 trace pages
follow_first trace [] h = tt
follow_first trace (page ∷ pages) h = (inl h.0, h.1)

named_each : (client : ClientId) (entries : ℕ → List Entry) (start : ℕ) (records : List Record)
    → ((i : ℕ) (r : Record) → slice_get records i ≡ Some r → map name_of (entries (start + i)) ≡ record { id = record { client = client; number = start + i }; trace = r.trace } ∷ [])
    → map name_of (flat_map entries (range_with_len start (length records))) ≡ named_from client start records
named_each client entries start [] each = refl
named_each client entries start (r ∷ records) each =
    let here : start + 0 ≡ start = omega arith in
    let first = subst (λ (n : ℕ). map name_of (entries n) ≡ record { id = record { client = client; number = n }; trace = r.trace } ∷ []) here (each 0 r refl) in
    let later =
    named_each client entries (start + 1) records
    (λ i q h. let more : start + suc i ≡ start + 1 + i = omega arith in subst (λ (n : ℕ). map name_of (entries n) ≡ record { id = record { client = client; number = n }; trace = q.trace } ∷ []) more (each (suc i) q h))
    in
    map_flat entries name_of (start ∷ range_with_len (start + 1) (length records))
    ∙ ap (λ front. front ++ flat_map (λ n. map name_of (entries n)) (range_with_len (start + 1) (length records))) first
    ∙ ap (λ rest. record { id = record { client = client; number = start }; trace = r.trace } ∷ rest) (sym (map_flat entries name_of (range_with_len (start + 1) (length records))) ∙ later)

trace_is : (records : List Record) (n : ℕ) (r : Record) (trace : TraceId) → slice_get records n ≡ Some r → traces_of records n ≡ Some trace → trace ≡ r.trace
trace_is records n r trace h traced = same_Some trace r.trace (sym traced ∙ ap (option_map (λ (r : Record). r.trace)) h)

module _ (carried : PagesCarryTheRecords) (client : ClientId) (fates : ℕ → Draw → Fate) (size : ℕ) (ops : List Operation) (draws : List Draw) where
  abbrev fated : List FatedPage
  fated = fated_by fates 0 draws (map note_of (pages_of size ops))

  number_named : MIN_SIZE ≤ size → AreBracketed false ops → length draws ≡ length (pages_of size ops) → (n : ℕ) (r : Record) → slice_get (records_of ops) n ≡ Some r
      → map name_of (record_entry client fated n) ≡ record { id = record { client = client; number = n }; trace = r.trace } ∷ []
  number_named least ends same n r h =
      let carry = carried size ops least ends in
      let within : n < length (records_of ops) = get_within (records_of ops) n r h in
      let below : n < end_from 0 (pages_of size ops) = subst (λ last. n < last) (sym carry.ends) within in
      let low : 0 ≤ n = omega arith in
      let e = has_entry (traces_of (records_of ops)) client n fates 0 0 r.trace (pages_of size ops) draws same (follow_first r.trace (pages_of size ops) carry.numbered) carry.each low below in
      ap (map name_of) e.is ∙ ap (λ trace. record { id = record { client = client; number = n }; trace = trace } ∷ []) (trace_is (records_of ops) n r e.trace h e.traced)
    where
      get_within : (records : List Record) (n : ℕ) (r : Record) → slice_get records n ≡ Some r → n < length records
      get_within [] n r h = let no : None ≡ Some r = h in absurd cc
      get_within (q ∷ records) zero r h = omega arith
      get_within (q ∷ records) (suc n) r h = let rest = get_within records n r h in omega (arith, rest)

  book_named : MIN_SIZE ≤ size → AreBracketed false ops → length draws ≡ length (pages_of size ops) → map name_of (book_entries client fated) ≡ named_from client 0 (records_of ops)
  book_named least ends same =
      let carry = carried size ops least ends in
      let noted : length draws ≡ length (map note_of (pages_of size ops)) = same ∙ sym (length-map (pages_of size ops) note_of) in
      let count : record_count (map (λ (page : FatedPage). page.note) fated) ≡ length (records_of ops) =
      ap record_count (notes_stay fates 0 draws (map note_of (pages_of size ops)) noted) ∙ counts_end 0 (pages_of size ops) ∙ carry.ends
      in
      ap (λ last. map name_of (flat_map (record_entry client fated) (range_with_len 0 last))) count
      ∙ named_each client (record_entry client fated) 0 (records_of ops)
      (λ i r h. let here : i ≡ 0 + i = omega arith in subst (λ (n : ℕ). map name_of (record_entry client fated n) ≡ record { id = record { client = client; number = n }; trace = r.trace } ∷ []) here (number_named least ends same i r h))

-- ---- all clients

pub same_length : (draws : List (List Draw)) (clients : List (List Operation)) (size place : ℕ)
    → same_counts (map length draws) (map (λ ops. length (pages_of size ops)) clients) ≡ true
    → length (unwrap_or (slice_get draws place) []) ≡ length (pages_of size (unwrap_or (slice_get clients place) []))
same_length [] [] size place h = refl
same_length [] (ops ∷ clients) size place h = let no : false ≡ true = h in absurd cc
same_length (drawn ∷ draws) [] size place h = let no : false ≡ true = h in absurd cc
same_length (drawn ∷ draws) (ops ∷ clients) size zero h =
    eqb-true (length drawn) (length (pages_of size ops)) (and_parts (nat_eq (length drawn) (length (pages_of size ops))) (same_counts (map length draws) (map (λ ops. length (pages_of size ops)) clients)) h).0
same_length (drawn ∷ draws) (ops ∷ clients) size (suc place) h =
    same_length draws clients size place (and_parts (nat_eq (length drawn) (length (pages_of size ops))) (same_counts (map length draws) (map (λ ops. length (pages_of size ops)) clients)) h).1

pub shape_counts : (W : PlainWorkload) (J : PlainJournal) → has_shape (played W J) ≡ true
    → same_counts (map length J.draws) (map (λ ops. length (pages_of W.settings.size ops)) W.clients) ≡ true
shape_counts W J h =
    (and_parts (nat_eq J.nodes W.settings.nodes && nat_eq J.clients W.settings.clients && nat_eq (length J.logs) W.settings.nodes)
    (same_counts (map length J.draws) (map (λ ops. length (pages_of W.settings.size ops)) W.clients)) h).1

pub each_record_has_one_entry : PagesCarryTheRecords → EachRecordHasOneEntry
each_record_has_one_entry carried W J ends shape =
    let agents = agent_books (followed W J) in
    let counts = shape_counts W J shape in
    map_flat (λ (book : PlainClientBook). book_entries book.client (fated_pages agents book)) name_of (client_books W J)
    ∙ flat_map-map (λ (book : PlainClientBook). map name_of (book_entries book.client (fated_pages agents book))) (client_book W J) (range_with_len 0 (length W.clients))
    ∙ flat_range_alike (λ place. map name_of (book_entries (client_at W.settings.clients place) (fated_pages agents (client_book W J place)))) (client_records W) 0 (length W.clients)
    (λ place h. book_named carried (client_at W.settings.clients place) (page_fate agents (client_at W.settings.clients place)) W.settings.size (operations_at W place) (draws_at J place) ends.size
    (ends_at W.clients place ends.ends) (same_length J.draws W.clients W.settings.size place counts))

pub same_many : (draws : List (List Draw)) (clients : List (List Operation)) (size : ℕ) → same_counts (map length draws) (map (λ ops. length (pages_of size ops)) clients) ≡ true → length draws ≡ length clients
same_many [] [] size h = refl
same_many [] (ops ∷ clients) size h = let never : false ≡ true = h in absurd cc
same_many (drawn ∷ draws) [] size h = let never : false ≡ true = h in absurd cc
same_many (drawn ∷ draws) (ops ∷ clients) size h =
    ap suc (same_many draws clients size (and_parts (nat_eq (length drawn) (length (pages_of size ops))) (same_counts (map length draws) (map (λ ops. length (pages_of size ops)) clients)) h).1)
