-- The pieces of a record among pages that are numbered from 0, and what one more page adds to them.
use Rattle.std.proofs.Common.{◌≡◌, ℕ, zero, suc, length, get_or, set, ◌+◌, ◌<◌, ◌≤◌, Bool, true, false, cond, List, [], ◌∷◌, ◌++◌, All, map, filter, unwrap_or, Option, Some, None, refl, sym, ap, ◌∙◌, inl, inr, arith}
use Rattle.std.specs.List.{find}
use Rattle.std.proofs.lemmas.List.{map-append}
use Rattle.std.proofs.lemmas.List.Elements.{All-tail}
use Rattle.std.proofs.lemmas.Bool.{cases_lt}
use Rattle.std.proofs.lemmas.Bool.Decides.{nat_tests}
use Rattle.hs_base.proofs.Filters.{find_passes}
use Rattle.hs_base.specs.declared.ids.ClientId.{ClientId}
use Rattle.hs_base.specs.declared.told.Fate.{Fate}
use Rattle.hs_records.specs.declared.books.PageNote.{PageNote}
use Rattle.hs_ledger.specs.declared.ledger.Entry.{Entry}
use Rattle.hs_ledger.specs.Books.{end_of, AllFollow, AreNumbered, count_from, record_count}
use Rattle.hs_ledger.specs.Fates.{FatedPage, has_piece_of, is_discarded, record_fate, entry_on}
use Rattle.hs_ledger.specs.Making.{joined_fate, joined, last_joined, entry_of}
use Rattle.hs_ledger.proofs.Numbering.{IsCounted, rises}

abbrev pub notes_of : List FatedPage → List PageNote
notes_of pages = map (λ page. page.note) pages

pub piece_within : (number : ℕ) (page : FatedPage) → page.note.first ≤ number → number < end_of page.note → has_piece_of number page ≡ true
piece_within number page low high = grind (arith, nat_tests)

pub piece_before : (number : ℕ) (page : FatedPage) → number < page.note.first → has_piece_of number page ≡ false
piece_before number page low = grind (arith, nat_tests)

pub piece_behind : (number : ℕ) (page : FatedPage) → end_of page.note ≤ number → has_piece_of number page ≡ false
piece_behind number page high = grind (arith, nat_tests)

filter-no : (number : ℕ) (page : FatedPage) (pages : List FatedPage) → has_piece_of number page ≡ false → filter (has_piece_of number) (page ∷ pages) ≡ filter (has_piece_of number) pages
filter-no number page pages misses = ap (λ b. cond b (page ∷ filter (has_piece_of number) pages) (filter (has_piece_of number) pages)) misses

filter-yes : (number : ℕ) (page : FatedPage) (pages : List FatedPage) → has_piece_of number page ≡ true → filter (has_piece_of number) (page ∷ pages) ≡ page ∷ filter (has_piece_of number) pages
filter-yes number page pages has = ap (λ b. cond b (page ∷ filter (has_piece_of number) pages) (filter (has_piece_of number) pages)) has

none_after : (number : ℕ) (page : FatedPage) (pages : List FatedPage) → AllFollow page.note (notes_of pages) → All IsCounted (notes_of pages)
    → count_from (end_of page.note) (notes_of pages) ≤ number → filter (has_piece_of number) (page ∷ pages) ≡ []
none_after number page [] follow counted high = filter-no number page [] (piece_behind number page high)
none_after number page (next ∷ pages) follow counted high =
    let rising = rises page.note (next.note ∷ notes_of pages) follow counted in
    filter-no number page (next ∷ pages) (piece_behind number page (omega arith))
    ∙ none_after number next pages follow.1 (All-tail IsCounted next.note (notes_of pages) counted) high

-- no page has a piece of a later record
pub none_behind : (number : ℕ) (pages : List FatedPage) → AreNumbered (notes_of pages) → All IsCounted (notes_of pages) → record_count (notes_of pages) ≤ number
    → filter (has_piece_of number) pages ≡ []
none_behind number [] numbered counted high = refl
none_behind number (page ∷ pages) numbered counted high = none_after number page pages numbered.1 (All-tail IsCounted page.note (notes_of pages) counted) high

-- some page
pub record IsSome (pages : List FatedPage) : Type 0 where
  pub first : FatedPage
  pub others : List FatedPage
  pub is : pages ≡ first ∷ others

some_with : (number : ℕ) (page : FatedPage) (pages : List FatedPage) → IsSome (filter (has_piece_of number) pages) → IsSome (filter (has_piece_of number) (page ∷ pages))
some_with number page pages some = by_test (has_piece_of number page) refl
  where
    by_test : (b : Bool) → has_piece_of number page ≡ b → IsSome (filter (has_piece_of number) (page ∷ pages))
    by_test true has = record { first = page; others = filter (has_piece_of number) pages; is = filter-yes number page pages has }
    by_test false misses = record { first = some.first; others = some.others; is = filter-no number page pages misses ∙ some.is }

some_among : (number : ℕ) (page : FatedPage) (pages : List FatedPage) → AllFollow page.note (notes_of pages) → page.note.first ≤ number
    → number < count_from (end_of page.note) (notes_of pages) → IsSome (filter (has_piece_of number) (page ∷ pages))
some_among number page [] follow low high = record { first = page; others = []; is = filter-yes number page [] (piece_within number page low high) }
some_among number page (next ∷ pages) follow low high =
    elim (cases_lt number (end_of page.note)) [
      | inr behind ↦
          let begins : next.note.first ≤ number = elim follow.0 [ inl e ↦ omega arith | inr e ↦ omega (arith, e.1) ] in
          some_with number page (next ∷ pages) (some_among number next pages follow.1 begins high)
      | inl within ↦ record { first = page; others = filter (has_piece_of number) (next ∷ pages); is = filter-yes number page (next ∷ pages) (piece_within number page low within) }
    ]

-- each record has a piece
pub each_has_piece : (number : ℕ) (pages : List FatedPage) → AreNumbered (notes_of pages) → number < record_count (notes_of pages) → IsSome (filter (has_piece_of number) pages)
each_has_piece number [] numbered high = absurd (omega arith)
each_has_piece number (page ∷ pages) numbered high = some_among number page pages numbered.1 (omega (arith, numbered.0)) high

some_last : (number : ℕ) (page : FatedPage) (pages : List FatedPage) → 1 ≤ page.note.count → All IsCounted (notes_of pages) → number + 1 ≡ count_from (end_of page.note) (notes_of pages)
    → IsSome (filter (has_piece_of number) (page ∷ pages))
some_last number page [] some counted is = record { first = page; others = []; is = filter-yes number page [] (piece_within number page (omega arith) (omega arith)) }
some_last number page (next ∷ pages) some counted is =
    some_with number page (next ∷ pages) (some_last number next pages (counted 0 next.note (omega arith)) (All-tail IsCounted next.note (notes_of pages) counted) is)

-- the last record has a piece
pub last_has_piece : (number : ℕ) (pages : List FatedPage) → All IsCounted (notes_of pages) → number + 1 ≡ record_count (notes_of pages) → IsSome (filter (has_piece_of number) pages)
last_has_piece number [] counted is = absurd (omega arith)
last_has_piece number (page ∷ pages) counted is = some_last number page pages (counted 0 page.note (omega arith)) (All-tail IsCounted page.note (notes_of pages) counted) is

-- the first that passes, where there is one more at the end
find-more : (test : Fate → Bool) (fates : List Fate) (more other : Fate) → unwrap_or (find test (fates ++ more ∷ [])) other ≡ unwrap_or (find test fates) (cond (test more) more other)
find-more test [] more other = by_test (test more)
  where
    by_test : (b : Bool) → unwrap_or (cond b (Some more) None) other ≡ cond b more other
    by_test true = refl
    by_test false = refl
find-more test (fate ∷ fates) more other = by_test (test fate) (find-more test fates more other)
  where
    by_test : (b : Bool) → unwrap_or (find test (fates ++ more ∷ [])) other ≡ unwrap_or (find test fates) (cond (test more) more other)
        → unwrap_or (cond b (Some fate) (find test (fates ++ more ∷ []))) other ≡ unwrap_or (cond b (Some fate) (find test fates)) (cond (test more) more other)
    by_test true later = refl
    by_test false later = later

find-none : (test : Fate → Bool) (first : Fate) (fates : List Fate) → find test (first ∷ fates) ≡ None → test first ≡ false
find-none test first fates none = by_test (test first) refl
  where
    by_test : (b : Bool) → test first ≡ b → test first ≡ false
    by_test true passes =
        let e : Some first ≡ None = sym (ap (λ b. cond b (Some first) (find test fates)) passes) ∙ none in
        absurd (cc)
    by_test false fails = fails

fate-join : (first : Fate) (others : List Fate) (more : Fate) → record_fate first (others ++ more ∷ []) ≡ joined_fate (record_fate first others) more
fate-join first others more = by_found (find is_discarded (first ∷ others)) refl
  where
    by_found : (o : Option Fate) → find is_discarded (first ∷ others) ≡ o → record_fate first (others ++ more ∷ []) ≡ joined_fate (record_fate first others) more
    by_found (Some fate) found =
        find-more is_discarded (first ∷ others) more first
        ∙ ap (λ o. unwrap_or o (cond (is_discarded more) more first)) found
        ∙ sym (ap (λ o. joined_fate (unwrap_or o first) more) found ∙ ap (λ b. cond b fate (cond (is_discarded more) more fate)) (find_passes is_discarded (first ∷ others) fate found))
    by_found None none =
        find-more is_discarded (first ∷ others) more first
        ∙ ap (λ o. unwrap_or o (cond (is_discarded more) more first)) none
        ∙ sym (ap (λ o. joined_fate (unwrap_or o first) more) none ∙ ap (λ b. cond b first (cond (is_discarded more) more first)) (find-none is_discarded first others none))

-- a piece more of a record that has some
pub entry_on-more : (client : ClientId) (number : ℕ) (first : FatedPage) (others : List FatedPage) (page : FatedPage)
    → entry_on client number (first ∷ (others ++ page ∷ [])) ≡ map (joined page.fate) (entry_on client number (first ∷ others))
entry_on-more client number first others page =
    let entry_with : Fate → List Entry = λ fate. record { id = record { client = client; number = number }; trace = first.note.trace; fate = fate } ∷ [] in
    ap entry_with (ap (record_fate first.fate) (map-append (λ (other : FatedPage). other.fate) others (page ∷ [])) ∙ fate-join first.fate (map (λ other. other.fate) others) page.fate)

-- a record with one piece
pub entry_on-one : (client : ClientId) (number : ℕ) (page : FatedPage) → entry_on client number (page ∷ []) ≡ entry_of client page number ∷ []
entry_on-one client number page =
    ap (λ fate. record { id = record { client = client; number = number }; trace = page.note.trace; fate = fate } ∷ []) (by_test (is_discarded page.fate))
  where
    by_test : (b : Bool) → unwrap_or (cond b (Some page.fate) None) page.fate ≡ page.fate
    by_test true = refl
    by_test false = refl

pub last_joined-append : (more : Fate) (entries : List Entry) (entry : Entry) → last_joined more (entries ++ entry ∷ []) ≡ entries ++ joined more entry ∷ []
last_joined-append more [] entry = refl
last_joined-append more (first ∷ []) entry = refl
last_joined-append more (first ∷ next ∷ entries) entry = ap (λ rest. first ∷ rest) (last_joined-append more (next ∷ entries) entry)

-- the last entry changed in place
pub last_joined-set : (more : Fate) (entries : List Entry) (i : ℕ) (entry : Entry) → i + 1 ≡ length entries → entry ≡ get_or entries i entry
    → set entries i (joined more entry) ≡ last_joined more entries
last_joined-set more [] i entry at is = absurd (omega arith)
last_joined-set more (first ∷ []) zero entry at is = ap (λ e. joined more e ∷ []) is
last_joined-set more (first ∷ []) (suc i) entry at is = absurd (omega arith)
last_joined-set more (first ∷ next ∷ entries) zero entry at is = absurd (omega arith)
last_joined-set more (first ∷ next ∷ entries) (suc i) entry at is = ap (λ rest. first ∷ rest) (last_joined-set more (next ∷ entries) i entry (omega arith) is)
