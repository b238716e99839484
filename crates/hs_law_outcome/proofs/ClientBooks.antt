-- Clients come in order of node and number, and what the laws of records say of a client's pages is what a ledger asks of its notes.
use Rattle.std.proofs.Common.{◌≡◌, ◌⊎◌, inl, inr, ℕ, zero, suc, ◌+◌, ◌*◌, ◌/◌, ◌%◌, ◌<◌, ◌≤◌, Bool, true, false, List, [], ◌∷◌, length, refl, sym, ap, subst, ◌∙◌, arith, map, sum_by, ltb, ltb-true, ltb-false, eq-or-lt_of_le, eq-zero-or-pos, div-lt_iff_lt-mul, div-add-mod'}
use Rattle.hs_law_outcome.proofs.Prelude.{AllByRecursion, flat_map, range_with_len, length-map, length-append, All-from_recursion, sum_by-cons, ClientId, note_of, PageNote, PlainClientBook, PlainJournal, record_count, Traces, CarriesRecords, AreNumberedFrom, end_of, traces_of, PlainPage, pages_of, PlainWorkload, Record, records_of, operations_at, played, has_shape, StandsAlone, BooksOfClientsFit, HasItsClients, client_at, client_book, client_books, EndsItsTraces, named_from, client_records}
use Rattle.hs_ledger.specs.Books.{IsBefore, AreInOrder, AreNumbered, AllFollow}
use Rattle.hs_records.specs.Laws.{AllFollow as PagesFollow}
use Rattle.hs_law_outcome.proofs.Entries.{PagesCarryTheRecords, counts_end, ends_at, same_length, shape_counts}

-- ---- order

pub compare : (a b : ℕ) → (a < b) ⊎ ((a ≡ b) ⊎ (b < a))
compare a b = either (ltb a b) refl
  where
    not_below : (b ≡ a) ⊎ (b < a) → (a < b) ⊎ ((a ≡ b) ⊎ (b < a))
    not_below (inl same) = inr (inl (sym same))
    not_below (inr less) = inr (inr less)

    either : (t : Bool) → ltb a b ≡ t → (a < b) ⊎ ((a ≡ b) ⊎ (b < a))
    either true e = inl (ltb-true a b e)
    either false e = not_below (eq-or-lt_of_le (ltb-false a b e))

no_gap : {X : Type 0} (a b whole rest : ℕ) → whole + rest ≡ a → b < whole → a < b → X
no_gap a b whole rest is less below = absurd (omega (arith, is, less, below))

rests : (a b whole first second : ℕ) → whole + first ≡ a → whole + second ≡ b → a < b → first < second
rests a b whole first second is other below = omega (arith, is, other, below)

module _ (each : ℕ) (some : 0 < each) where
  before : (a b : ℕ) → a < b → IsBefore (client_at each a) (client_at each b)
  before a b less = either (compare (a / each) (b / each))
    where
      either : (a / each < b / each) ⊎ ((a / each ≡ b / each) ⊎ (b / each < a / each)) → IsBefore (client_at each a) (client_at each b)
      either (inl below) = inl below
      either (inr (inl same)) =
          inr (same, rests a b (b / each * each) (a % each) (b % each) (ap (λ n. n * each + a % each) (sym same) ∙ div-add-mod' a each) (div-add-mod' b each) less)
      either (inr (inr above)) = no_gap a b (a / each * each) (a % each) (div-add-mod' a each) ((div-lt_iff_lt-mul {k = each} {x = b} {y = a / each} some).0 above) less

  module _ (W : PlainWorkload) (J : PlainJournal) (of : W.settings.clients ≡ each) where
    before_there : (a b : ℕ) → a < b → IsBefore (client_at W.settings.clients a) (client_at W.settings.clients b)
    before_there a b less = subst (λ n. IsBefore (client_at n a) (client_at n b)) (sym of) (before a b less)

    before_all : (place start count : ℕ) → place < start
        → AllByRecursion (λ (later : PlainClientBook). IsBefore (client_at W.settings.clients place) later.client) (map (client_book W J) (range_with_len start count))
    before_all place start zero less = tt
    before_all place start (suc count) less = (before_there place start less, before_all place (start + 1) count (omega (arith, less)))

    in_order : (start count : ℕ) → AreInOrder (map (client_book W J) (range_with_len start count))
    in_order start zero = tt
    in_order start (suc count) = (All-from_recursion (λ (later : PlainClientBook). IsBefore (client_at W.settings.clients start) later.client) (map (client_book W J) (range_with_len (start + 1) count)) (before_all start (start + 1) count (omega arith)), in_order (start + 1) count)

-- ---- pages

notes_counted : (traces : Traces) (pages : List PlainPage) → AllByRecursion (CarriesRecords traces) pages → AllByRecursion (λ (note : PageNote). 1 ≤ note.count) (map note_of pages)
notes_counted traces [] all = tt
notes_counted traces (page ∷ pages) all = (all.0.some, notes_counted traces pages all.1)

notes_follow : (page : PlainPage) (pages : List PlainPage) → PagesFollow (end_of page) page.trace pages → AllFollow (note_of page) (map note_of pages)
notes_follow page [] h = tt
notes_follow page (next ∷ pages) h = (h.0, notes_follow next pages h.1)

notes_numbered : (pages : List PlainPage) → AreNumberedFrom 0 pages → AreNumbered (map note_of pages)
notes_numbered [] h = tt
notes_numbered (page ∷ pages) h = (h.0, notes_follow page pages h.1)

pub length_named : (client : ClientId) (number : ℕ) (records : List Record) → length (named_from client number records) ≡ length records
length_named client number [] = refl
length_named client number (r ∷ records) = ap suc (length_named client (number + 1) records)

module _ (carried : PagesCarryTheRecords) (W : PlainWorkload) (J : PlainJournal) (ends : EndsItsTraces W) where
  stands_alone : has_shape (played W J) ≡ true → (place : ℕ) → StandsAlone (client_book W J place)
  stands_alone shape place =
      let pages = pages_of W.settings.size (operations_at W place) in
      let carry = carried W.settings.size (operations_at W place) ends.size (ends_at W.clients place ends.ends) in
      record {
        drawn = same_length J.draws W.clients W.settings.size place (shape_counts W J shape) ∙ sym (length-map pages note_of);
        counted = All-from_recursion (λ (note : PageNote). 1 ≤ note.count) (map note_of pages) (notes_counted (traces_of (records_of (operations_at W place))) pages carry.each);
        numbered = notes_numbered pages carry.numbered;
      }

  all_alone : has_shape (played W J) ≡ true → (places : List ℕ) → AllByRecursion StandsAlone (map (client_book W J) places)
  all_alone shape [] = tt
  all_alone shape (place ∷ places) = (stands_alone shape place, all_alone shape places)

  abbrev count : PlainClientBook → ℕ
  count book = record_count book.pages

  totals : (places : List ℕ) → sum_by count (map (client_book W J) places) ≡ length (flat_map (client_records W) places)
  totals [] = refl
  totals (place ∷ places) =
      let carry = carried W.settings.size (operations_at W place) ends.size (ends_at W.clients place ends.ends) in
      let first : count (client_book W J place) ≡ length (client_records W place) =
      counts_end 0 (pages_of W.settings.size (operations_at W place)) ∙ carry.ends ∙ sym (length_named (client_at W.settings.clients place) 0 (records_of (operations_at W place)))
      in
      let rest = totals places in
      let sums = sum_by-cons count (client_book W J place) (map (client_book W J) places) in
      let joined = length-append (client_records W place) (flat_map (client_records W) places) in
      omega (arith, first, rest, sums, joined)

ordered : (W : PlainWorkload) (J : PlainJournal) → HasItsClients W → AreInOrder (client_books W J)
ordered W J laid = either (eq-zero-or-pos W.settings.clients)
  where
    either : (W.settings.clients ≡ 0) ⊎ (0 < W.settings.clients) → AreInOrder (client_books W J)
    either (inl none) =
        let zeroed : W.settings.nodes * W.settings.clients ≡ W.settings.nodes * 0 = ap (λ (n : ℕ). W.settings.nodes * n) none in
        let nothing : W.settings.nodes * 0 ≡ 0 = omega arith in
        subst (λ (n : ℕ). AreInOrder (map (client_book W J) (range_with_len 0 n))) (sym (laid ∙ zeroed ∙ nothing)) tt
    either (inr some) = in_order W.settings.clients some W J refl 0 (length W.clients)

pub books_of_clients_fit : PagesCarryTheRecords → BooksOfClientsFit
books_of_clients_fit carried W J ends laid shape =
    record {
      ordered = ordered W J laid;
      each = All-from_recursion StandsAlone (client_books W J) (all_alone carried W J ends shape (range_with_len 0 (length W.clients)));
      total = totals carried W J ends (range_with_len 0 (length W.clients));
    }
