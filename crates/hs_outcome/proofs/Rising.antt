-- Pages that are sorted by the places of their traces show these traces in that order.
use Rattle.std.proofs.Common.{◌≡◌, ◌==◌, ℕ, suc, ◌+◌, ◌<◌, ◌≤◌, Bool, true, false, ◌||◌, cond, List, [], ◌∷◌, length, get_or, drop, map, Some, slice_get, sym, ap, ◌∙◌, refl, subst, arith, inl, inr, ◌⊎◌, add-one}
use Rattle.hs_outcome.proofs.Prelude.{filter, list_any, IsDistinct, IsPermutation, IsSortedBy, nat_tests, get_or-drop, All-from_recursion, slice_get_within, TraceId, first_seen, Sheets, Reported, Traces, Note, note_of, noted}
use Rattle.std.proofs.lemmas.Bool.{cases_lt, cases_order}
use Rattle.std.proofs.lemmas.List.{length-drop, drop_all, drop_more}
use Rattle.std.proofs.lemmas.List.Sorted.{list_any-IsPermutation}
use Rattle.std.proofs.lemmas.Map.Keys.{apart_from_distinct}
use Rattle.std.proofs.lemmas.Option.{get_or_from_slice_get, slice_get-get_or}
use Rattle.hs_collect.specs.Collected.{is_of}
use Rattle.hs_base.proofs.Filters.{filter_whole}
use Rattle.hs_outcome.proofs.Seen.{is_trace, is_other, seen_once, seen_of_page}

-- whether a page names its trace by this place
abbrev pub is_at : ℕ → Reported → Bool
is_at place page = page.seen == place

-- the places of pages rise, from this one on
Rise : ℕ → List Reported → Type 0
Rise place [] = Unit {0}
Rise place (page ∷ pages) = (place ≤ page.seen) × Rise page.seen pages

-- a test that puts earlier places first
abbrev pub PutsEarlierFirst : (Reported → Reported → Bool) → Type 0
PutsEarlierFirst lt = (x y : Reported) → lt x y ≡ false → y.seen ≤ x.seen

sorted_rise : (lt : Reported → Reported → Bool) → PutsEarlierFirst lt → (place : ℕ) (page : Reported) (pages : List Reported) → place ≤ page.seen → IsSortedBy lt (page ∷ pages) → Rise place (page ∷ pages)
unfolding Rise
sorted_rise lt puts place page [] le up = (le, tt)
sorted_rise lt puts place page (next ∷ pages) le up = (
  le,
  sorted_rise lt puts page.seen next pages (puts next page (up 0 page (omega arith) (omega arith))) (λ k d least inside.
      let e : suc k + 1 ≡ suc (k + 1) = omega arith in
      subst (λ n. lt (get_or (page ∷ next ∷ pages) n d) (get_or (next ∷ pages) k d) ≡ false) e (up (suc k) d (omega arith) (omega arith))),
)

sorted_rise_all : (lt : Reported → Reported → Bool) → PutsEarlierFirst lt → (pages : List Reported) → IsSortedBy lt pages → Rise 0 pages
unfolding Rise
sorted_rise_all lt puts [] up = tt
sorted_rise_all lt puts (page ∷ pages) up = sorted_rise lt puts 0 page pages (omega arith) up

-- no page names an earlier place
none_before : (place first : ℕ) (pages : List Reported) → Rise first pages → place < first → list_any (is_at place) pages ≡ false
unfolding Rise
none_before place first [] rise before = refl
none_before place first (page ∷ pages) rise before =
    let rest = none_before place page.seen pages rise.1 (omega (arith, rise.0)) in
    let here = rise.0 in
    let apart : is_at place page ≡ false = grind (arith, nat_tests) in
    ap (λ b. b || list_any (is_at place) pages) apart ∙ rest

rise_behind : (place : ℕ) (pages : List Reported) → Rise place pages → list_any (is_at place) pages ≡ false → Rise (suc place) pages
unfolding Rise
rise_behind place [] rise none = tt
rise_behind place (page ∷ pages) rise none = (by_test (is_at place page) refl none, rise.1)
  where
    by_test : (b : Bool) → is_at place page ≡ b → (b || list_any (is_at place) pages) ≡ false → suc place ≤ page.seen
    by_test true is none = absurd cc
    by_test false is none = let le = rise.0 in grind (arith, nat_tests)

-- a later place is that of a page behind the first one
behind_one : (place later : ℕ) (page : Reported) (pages : List Reported) → page.seen ≡ place → place < later → list_any (is_at later) (page ∷ pages) ≡ true → list_any (is_at later) pages ≡ true
behind_one place later page pages is lt some =
    let differs : is_at later page ≡ false = grind (arith, nat_tests) in
    ap (λ b. b || list_any (is_at later) pages) (sym differs) ∙ some

module _ (traces : Traces) (distinct : IsDistinct is_trace traces) where
  -- a trace stands at one place
  one_place : (i j : ℕ) (trace : TraceId) → slice_get traces i ≡ Some trace → slice_get traces j ≡ Some trace → i < j → ⊥
  one_place i j trace a b lt =
      let x = get_or_from_slice_get traces i trace trace a in
      let y = get_or_from_slice_get traces j trace trace b in
      let inside = slice_get_within traces j trace b in
      let apart = apart_from_distinct is_trace traces i j trace distinct lt inside in
      let same : is_trace trace trace ≡ false = ap (λ (t : TraceId). is_trace t trace) (sym x) ∙ ap (is_trace (get_or traces i trace)) (sym y) ∙ apart in
      grind (arith, nat_tests)

  pub same_place : (i j : ℕ) (trace : TraceId) → slice_get traces i ≡ Some trace → slice_get traces j ≡ Some trace → i ≡ j
  same_place i j trace a b = by (cases_order i j)
    where
      by : (i ≡ j) ⊎ ((i < j) ⊎ (j < i)) → i ≡ j
      by (inl same) = same
      by (inr (inl lt)) = absurd (one_place i j trace a b lt)
      by (inr (inr gt)) = absurd (one_place j i trace b a gt)

  -- behind its place a trace does not stand again
  others_behind : (place : ℕ) (trace : TraceId) → slice_get traces place ≡ Some trace → filter (is_other trace) (drop (suc place) traces) ≡ drop (suc place) traces
  others_behind place trace at =
      filter_whole (is_other trace) (drop (suc place) traces) (λ k d inside.
      let there : suc place + k < length traces = omega (arith, length-drop (suc place) traces) in
      let apart = apart_from_distinct is_trace traces place (suc place + k) d distinct (omega arith) there in
      let first = get_or_from_slice_get traces place trace d at in
      let later = get_or-drop (suc place) traces k d in
      let differs : is_trace trace (get_or (drop (suc place) traces) k d) ≡ false = ap (is_trace trace) later ∙ ap (λ (t : TraceId). is_trace t (get_or traces (suc place + k) d)) (sym first) ∙ apart in
      grind (arith, nat_tests))

  from_place : (place : ℕ) (trace : TraceId) → slice_get traces place ≡ Some trace → drop place traces ≡ trace ∷ drop (suc place) traces
  from_place place trace at =
      drop_more traces place trace (slice_get_within traces place trace at) ∙ ap (λ t. t ∷ drop (place + 1) traces) (get_or_from_slice_get traces place trace trace at)
      ∙ ap (λ n. trace ∷ drop n traces) (add-one place)

  -- each place from this one on is that of a page
  Reach : ℕ → List Reported → Type 0
  Reach place pages = (k : ℕ) → place ≤ k → k < length traces → list_any (is_at k) pages ≡ true

  at_the_end : (place : ℕ) → Reach place [] → [] ≡ drop place traces
  unfolding Reach
  at_the_end place reach = by (cases_lt place (length traces))
    where
      by : (place < length traces) ⊎ (length traces ≤ place) → [] ≡ drop place traces
      by (inl lt) = let none : false ≡ true = reach place (omega arith) lt in absurd cc
      by (inr le) = sym (drop_all place traces le)

  -- the first page is at the first place
  begins : (place : ℕ) (page : Reported) (pages : List Reported) → Rise place (page ∷ pages) → Reach place (page ∷ pages) → page.seen < length traces → page.seen ≡ place
  unfolding Rise Reach
  begins place page pages rise reach inside = by (cases_lt place page.seen)
    where
      by : (place < page.seen) ⊎ (page.seen ≤ place) → page.seen ≡ place
      by (inl lt) =
          let le = rise.0 in
          let none : list_any (is_at place) (page ∷ pages) ≡ false = none_before place page.seen (page ∷ pages) (omega arith, rise.1) lt in
          let some = reach place (omega arith) (omega arith) in
          absurd cc
      by (inr le) = let least = rise.0 in omega arith

  reach_behind : (place : ℕ) (page : Reported) (pages : List Reported) → page.seen ≡ place → Reach place (page ∷ pages) → Reach (suc place) pages
  unfolding Reach
  reach_behind place page pages is reach k least inside = behind_one place k page pages is (omega arith) (reach k (omega arith) inside)

  reach_here : (place : ℕ) (page : Reported) (pages : List Reported) → page.seen ≡ place → Reach place (page ∷ pages) → list_any (is_at place) pages ≡ true → Reach place pages
  unfolding Reach
  reach_here place page pages is reach again k least inside = by (cases_lt place k)
    where
      by : (place < k) ⊎ (k ≤ place) → list_any (is_at k) pages ≡ true
      by (inl lt) = behind_one place k page pages is lt (reach k least inside)
      by (inr le) =
          let same : place ≡ k = omega arith in
          ap (λ n. list_any (is_at n) pages) (sym same) ∙ again

  -- rising pages, one at each place at least, show the traces in their order
  shown : (place : ℕ) (pages : List Reported) (sheets : Sheets) → map (noted traces) pages ≡ map note_of sheets → Rise place pages → Reach place pages → first_seen sheets ≡ drop place traces
  unfolding Rise
  shown place [] [] notes rise reach = at_the_end place reach
  shown place [] (sheet ∷ sheets) notes rise reach = absurd cc
  shown place (page ∷ pages) [] notes rise reach = absurd cc
  shown place (page ∷ pages) (sheet ∷ sheets) notes rise reach =
      let first : noted traces page ≡ note_of sheet = cc in
      let rest : map (noted traces) pages ≡ map note_of sheets = cc in
      let at : slice_get traces page.seen ≡ Some sheet.header.trace = ap (λ (n : Note). n.trace) first in
      let here = begins place page pages rise reach (slice_get_within traces page.seen sheet.header.trace at) in
      let there : slice_get traces place ≡ Some sheet.header.trace = ap (slice_get traces) (sym here) ∙ at in
      let rises : Rise place pages = subst (λ n. Rise n pages) here rise.1 in
      ap (λ ts. sheet.header.trace ∷ ts)
      (by_test place pages sheets sheet.header.trace there (list_any (is_at place) pages) refl (λ again. shown place pages sheets rest rises (reach_here place page pages here reach again))
      (λ none. shown (suc place) pages sheets rest (rise_behind place pages rises none) (reach_behind place page pages here reach)))
      ∙ sym (from_place place sheet.header.trace there)
    where
      by_test : (place : ℕ) (pages : List Reported) (sheets : Sheets) (trace : TraceId) → slice_get traces place ≡ Some trace → (b : Bool) → list_any (is_at place) pages ≡ b
          → (list_any (is_at place) pages ≡ true → first_seen sheets ≡ drop place traces) → (list_any (is_at place) pages ≡ false → first_seen sheets ≡ drop (suc place) traces)
          → filter (is_other trace) (first_seen sheets) ≡ drop (suc place) traces
      by_test place pages sheets trace there true is again behind =
          let left_out : is_other trace trace ≡ false = grind (arith, nat_tests) in
          ap (filter (is_other trace)) (again is ∙ from_place place trace there)
          ∙ ap (λ b. cond b (trace ∷ filter (is_other trace) (drop (suc place) traces)) (filter (is_other trace) (drop (suc place) traces))) left_out ∙ others_behind place trace there
      by_test place pages sheets trace there false is again behind = ap (filter (is_other trace)) (behind is) ∙ others_behind place trace there

  -- the place of a page's trace is that of a page
  place_of_page : (place : ℕ) (trace : TraceId) → slice_get traces place ≡ Some trace → (pages : List Reported) (sheets : Sheets) → map (noted traces) pages ≡ map note_of sheets → list_any (is_of trace) sheets ≡ true
      → list_any (is_at place) pages ≡ true
  place_of_page place trace at pages [] notes some = absurd cc
  place_of_page place trace at [] (sheet ∷ sheets) notes some = absurd cc
  place_of_page place trace at (page ∷ pages) (sheet ∷ sheets) notes some =
      let first : noted traces page ≡ note_of sheet = cc in
      let rest : map (noted traces) pages ≡ map note_of sheets = cc in
      by_test (is_of trace sheet) refl (ap (λ (n : Note). n.trace) first) (place_of_page place trace at pages sheets rest) some
    where
      either : (a : Bool) → list_any (is_at place) pages ≡ true → (a || list_any (is_at place) pages) ≡ true
      either true some = refl
      either false some = some

      by_test : (b : Bool) → is_of trace sheet ≡ b → slice_get traces page.seen ≡ Some sheet.header.trace → (list_any (is_of trace) sheets ≡ true → list_any (is_at place) pages ≡ true) → (b || list_any (is_of trace) sheets) ≡ true
          → (is_at place page || list_any (is_at place) pages) ≡ true
      by_test true is names later some =
          let number : sheet.header.trace.0 ≡ trace.0 = grind (arith, nat_tests) in
          let same : sheet.header.trace ≡ trace = ap (λ n. record { 0 = n }) number in
          let here = same_place page.seen place trace (names ∙ ap (λ (t : TraceId). Some t) same) at in
          let is_here : is_at place page ≡ true = grind (arith, nat_tests) in
          ap (λ b. b || list_any (is_at place) pages) is_here
      by_test false is names later some = either (is_at place page) (later some)

-- the traces of sorted pages are first seen in the order in which they were seen before
pub seen_as_before : (lt : Reported → Reported → Bool) (sheets others : Sheets) (pages sorted : List Reported) → PutsEarlierFirst lt → map (noted (first_seen sheets)) pages ≡ map note_of sheets
    → map (noted (first_seen sheets)) sorted ≡ map note_of others → IsPermutation pages sorted → IsSortedBy lt sorted → first_seen others ≡ first_seen sheets
unfolding Reach
seen_as_before lt sheets others pages sorted puts before after perm up =
    let traces = first_seen sheets in
    let once = seen_once sheets in
    let P = λ (trace : TraceId). list_any (is_of trace) sheets ≡ true in
    let zeroth : TraceId = record { 0 = 0 } in
    shown traces once 0 sorted others after (sorted_rise_all lt puts sorted up) (λ k least inside.
    sym (list_any-IsPermutation (is_at k) pages sorted perm)
    ∙ place_of_page traces once k (get_or traces k zeroth) (slice_get-get_or traces k zeroth inside) pages sheets before (All-from_recursion P traces (seen_of_page sheets) k zeroth inside))
