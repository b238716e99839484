-- What one more page makes of a client's entries.
use Rattle.std.proofs.Common.{◌≡◌, ℕ, ◌+◌, ◌-◌, ◌<◌, ◌≤◌, true, false, cond, List, [], ◌∷◌, ◌++◌, All, map, filter, sym, ap, ap₂, ◌∙◌, inl, inr, append_assoc, arith}
use Rattle.std.specs.List.{flat_map, range_with_len}
use Rattle.std.specs.Prelude.{nat_lt}
use Rattle.std.proofs.lemmas.List.{append-nil, map-append}
use Rattle.std.proofs.lemmas.List.Elements.{filter-append}
use Rattle.std.proofs.lemmas.List.Concat.{flat_map_single}
use Rattle.std.proofs.lemmas.Bool.Decides.{nat_tests}
use Rattle.hs_base.specs.declared.ids.ClientId.{ClientId}
use Rattle.hs_ledger.specs.declared.ledger.Entry.{Entry}
use Rattle.hs_ledger.specs.Books.{end_of, AreNumbered, record_count}
use Rattle.hs_ledger.specs.Fates.{FatedPage, has_piece_of, record_fate, entry_on, record_entry, book_entries}
use Rattle.hs_ledger.specs.Making.{joined, last_joined, entry_of, with_page}
use Rattle.hs_ledger.proofs.Ranges.{flat_map-split, flat_map-agree}
use Rattle.hs_ledger.proofs.Numbering.{IsCounted, Begins, record_count-more}
use Rattle.hs_ledger.proofs.Pieces.{notes_of, piece_within, piece_before, none_behind, IsSome, last_has_piece, entry_on-more, entry_on-one, last_joined-append}

-- the pieces of a record with those on one more page
pieces-with : (number : ℕ) (pages : List FatedPage) (page : FatedPage) → has_piece_of number page ≡ true
    → filter (has_piece_of number) (pages ++ page ∷ []) ≡ filter (has_piece_of number) pages ++ page ∷ []
pieces-with number pages page has =
    filter-append (has_piece_of number) pages (page ∷ [])
    ∙ ap (λ b. filter (has_piece_of number) pages ++ cond b (page ∷ []) []) has

pieces-without : (number : ℕ) (pages : List FatedPage) (page : FatedPage) → has_piece_of number page ≡ false
    → filter (has_piece_of number) (pages ++ page ∷ []) ≡ filter (has_piece_of number) pages
pieces-without number pages page misses =
    filter-append (has_piece_of number) pages (page ∷ [])
    ∙ ap (λ b. filter (has_piece_of number) pages ++ cond b (page ∷ []) []) misses
    ∙ append-nil (filter (has_piece_of number) pages)

-- a record before the page
entry-before : (client : ClientId) (pages : List FatedPage) (page : FatedPage) (number : ℕ) → number < page.note.first
    → record_entry client (pages ++ page ∷ []) number ≡ record_entry client pages number
entry-before client pages page number low = ap (entry_on client number) (pieces-without number pages page (piece_before number page low))

-- a record that begins on the page
entry-new : (client : ClientId) (pages : List FatedPage) (page : FatedPage) (number : ℕ) → AreNumbered (notes_of pages) → All IsCounted (notes_of pages)
    → record_count (notes_of pages) ≤ number → page.note.first ≤ number → number < end_of page.note
    → record_entry client (pages ++ page ∷ []) number ≡ entry_of client page number ∷ []
entry-new client pages page number numbered counted behind low high =
    ap (entry_on client number)
    (pieces-with number pages page (piece_within number page low high) ∙ ap (λ found. found ++ page ∷ []) (none_behind number pages numbered counted behind))
    ∙ entry_on-one client number page

-- the record that goes on on the page
pub record Goes (client : ClientId) (pages : List FatedPage) (page : FatedPage) (number : ℕ) : Type 0 where
  pub entry : Entry
  pub before : record_entry client pages number ≡ entry ∷ []
  pub after : record_entry client (pages ++ page ∷ []) number ≡ joined page.fate entry ∷ []

entry-on_from : (client : ClientId) (pages : List FatedPage) (page : FatedPage) (number : ℕ) → has_piece_of number page ≡ true → IsSome (filter (has_piece_of number) pages)
    → Goes client pages page number
entry-on_from client pages page number has some =
    let first = some.first in
    let others = some.others in
    let entry : Entry =
    record {
      id = record { client = client; number = number };
      trace = first.note.trace;
      fate = record_fate first.fate (map (λ (other : FatedPage). other.fate) others);
    } in
    record {
      entry = entry;
      before = ap (entry_on client number) some.is;
      after =
          ap (entry_on client number) (pieces-with number pages page has ∙ ap (λ found. found ++ page ∷ []) some.is)
          ∙ entry_on-more client number first others page;
    }

goes_on : (client : ClientId) (pages : List FatedPage) (page : FatedPage) → All IsCounted (notes_of pages) → 1 ≤ page.note.count
    → page.note.first + 1 ≡ record_count (notes_of pages) → Goes client pages page page.note.first
goes_on client pages page counted some on =
    entry-on_from client pages page page.note.first (piece_within page.note.first page (omega arith) (omega arith)) (last_has_piece page.note.first pages counted on)

-- the records that begin on the page
new_entries : (client : ClientId) (pages : List FatedPage) (page : FatedPage) (next : ℕ) → AreNumbered (notes_of pages) → All IsCounted (notes_of pages)
    → next ≡ record_count (notes_of pages) → page.note.first ≤ next → (count : ℕ) → next + count ≡ end_of page.note
    → flat_map (record_entry client (pages ++ page ∷ [])) (range_with_len next count) ≡ map (entry_of client page) (range_with_len next count)
new_entries client pages page next numbered counted is low count all =
    flat_map-agree (record_entry client (pages ++ page ∷ [])) (λ number. entry_of client page number ∷ []) next count
    (λ number from to. entry-new client pages page number numbered counted (omega arith) (omega arith) (omega arith))
    ∙ flat_map_single (entry_of client page) (range_with_len next count)

old_entries : (client : ClientId) (pages : List FatedPage) (page : FatedPage)
    → flat_map (record_entry client (pages ++ page ∷ [])) (range_with_len 0 page.note.first) ≡ flat_map (record_entry client pages) (range_with_len 0 page.note.first)
old_entries client pages page =
    flat_map-agree (record_entry client (pages ++ page ∷ [])) (record_entry client pages) 0 page.note.first
    (λ number from to. entry-before client pages page number (omega arith))

count-with : (pages : List FatedPage) (page : FatedPage) → record_count (notes_of (pages ++ page ∷ [])) ≡ end_of page.note
count-with pages page = ap record_count (map-append (λ (p : FatedPage). p.note) pages (page ∷ [])) ∙ record_count-more (notes_of pages) page.note

step_new : (client : ClientId) (init : List Entry) (pages : List FatedPage) (page : FatedPage) (next : ℕ) → AreNumbered (notes_of pages) → All IsCounted (notes_of pages)
    → next ≡ record_count (notes_of pages) → page.note.first ≡ next
    → with_page client next page (init ++ book_entries client pages) ≡ init ++ book_entries client (pages ++ page ∷ [])
step_new client init pages page next numbered counted is begins =
    let count = end_of page.note - next in
    let f = record_entry client pages in
    let g = record_entry client (pages ++ page ∷ []) in
    let more = map (entry_of client page) (range_with_len next count) in
    let here : nat_lt page.note.first next ≡ false = grind (arith, nat_tests) in
    ap (λ b. cond b (last_joined page.fate (init ++ book_entries client pages)) (init ++ book_entries client pages) ++ more) here
    ∙ append_assoc init (book_entries client pages) more
    ∙ ap (λ entries. init ++ entries)
    (ap₂ (λ n entries. flat_map f (range_with_len 0 n) ++ entries) (sym is ∙ sym begins) (sym (new_entries client pages page next numbered counted is (omega arith) count (omega arith)))
    ∙ ap (λ entries. entries ++ flat_map g (range_with_len next count)) (sym (old_entries client pages page))
    ∙ sym (flat_map-split g 0 page.note.first count (end_of page.note) next (omega arith) (omega arith))
    ∙ ap (λ n. flat_map g (range_with_len 0 n)) (sym (count-with pages page)))

step_on : (client : ClientId) (init : List Entry) (pages : List FatedPage) (page : FatedPage) (next : ℕ) → AreNumbered (notes_of pages) → All IsCounted (notes_of pages) → 1 ≤ page.note.count
    → next ≡ record_count (notes_of pages) → page.note.first + 1 ≡ next
    → with_page client next page (init ++ book_entries client pages) ≡ init ++ book_entries client (pages ++ page ∷ [])
step_on client init pages page next numbered counted some is on =
    let count = end_of page.note - next in
    let first = page.note.first in
    let f = record_entry client pages in
    let g = record_entry client (pages ++ page ∷ []) in
    let more = map (entry_of client page) (range_with_len next count) in
    let front = flat_map f (range_with_len 0 first) in
    let goes = goes_on client pages page counted some (on ∙ is) in
    let here : nat_lt first next ≡ true = grind (arith, nat_tests) in
    let before : book_entries client pages ≡ front ++ goes.entry ∷ [] =
    ap (λ n. flat_map f (range_with_len 0 n)) (sym is)
    ∙ flat_map-split f 0 first 1 next first (omega arith) (omega arith)
    ∙ ap (λ entries. front ++ entries) (append-nil (f first) ∙ goes.before) in
    let after : book_entries client (pages ++ page ∷ []) ≡ (front ++ joined page.fate goes.entry ∷ []) ++ more =
    ap (λ n. flat_map g (range_with_len 0 n)) (count-with pages page)
    ∙ flat_map-split g 0 next count (end_of page.note) next (omega arith) (omega arith)
    ∙ ap₂ (λ xs ys. xs ++ ys)
    (flat_map-split g 0 first 1 next first (omega arith) (omega arith) ∙ ap₂ (λ xs ys. xs ++ ys) (old_entries client pages page) (append-nil (g first) ∙ goes.after))
    (new_entries client pages page next numbered counted is (omega arith) count (omega arith)) in
    ap (λ b. cond b (last_joined page.fate (init ++ book_entries client pages)) (init ++ book_entries client pages) ++ more) here
    ∙ ap (λ entries. last_joined page.fate entries ++ more) (ap (λ entries. init ++ entries) before ∙ sym (append_assoc init front (goes.entry ∷ [])))
    ∙ ap (λ entries. entries ++ more) (last_joined-append page.fate (init ++ front) goes.entry ∙ append_assoc init front (joined page.fate goes.entry ∷ []))
    ∙ append_assoc init (front ++ joined page.fate goes.entry ∷ []) more
    ∙ ap (λ entries. init ++ entries) (sym after)

-- the entries with one more page
pub page_more : (client : ClientId) (init : List Entry) (pages : List FatedPage) (page : FatedPage) (next : ℕ) → AreNumbered (notes_of pages) → All IsCounted (notes_of pages) → 1 ≤ page.note.count
    → next ≡ record_count (notes_of pages) → Begins (notes_of pages) page.note
    → with_page client next page (init ++ book_entries client pages) ≡ init ++ book_entries client (pages ++ page ∷ [])
page_more client init pages page next numbered counted some is begins =
    elim begins [ inl new ↦ step_new client init pages page next numbered counted is (new ∙ sym is) | inr on ↦ step_on client init pages page next numbered counted some is (on ∙ sym is) ]
