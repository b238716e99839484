-- Where pages are cut between two operations: some are sent before, one may be started before and be sent later, and the others are
-- started later. Of the pages of pieces that have others behind them all but the last stay as they are, and the last may take more.
use Rattle.std.proofs.Common.{◌≡◌, ℕ, zero, suc, ◌+◌, ◌-◌, ◌<◌, ◌≤◌, Bool, true, false, cond, leb, ltb, List, [], ◌∷◌, ◌++◌, length, refl, sym, ap, ap₂, subst, ◌∙◌, ⊎_elim, arith, map, filter, take, drop, get_or, append_assoc, length-append, length-drop}
use Rattle.hs_client.proofs.Prelude.{AllByRecursion, lt-ltb, le-ltb, append-nil, filter-append, all_append, TraceId, count_beside, PlainPage, cost_of, page_room, fits, Piece, pages_within, TimedPage, started_by, timed}
use Rattle.std.proofs.lemmas.Bool.{cases_lt}
use Rattle.std.proofs.lemmas.List.{take-append-le, drop-append-le}
use Rattle.std.proofs.Math.Seq.{drop-append-add}
use Rattle.hs_base.proofs.Alls.{all_drop}
use Rattle.hs_base.proofs.Parts.{drop_length}
use Rattle.hs_client.specs.SoFar.{started_within}
use Rattle.hs_client.specs.Timing.{sent_by}
use Rattle.hs_client.proofs.Timed.{page_in}
use Rattle.hs_client.proofs.Timely.{page_with, HasPieces, runs_then}

-- ---- pages before and behind an operation

all_kept : {A : Type 0} (keeps : A → Bool) (P : A → Type 0) (xs : List A) → ((x : A) → P x → keeps x ≡ true) → AllByRecursion P xs → filter keeps xs ≡ xs
all_kept keeps P [] is all = refl
all_kept keeps P (x ∷ xs) is all = rw (is x all.0) (ap (λ xs. x ∷ xs) (all_kept keeps P xs is all.1))

none_kept : {A : Type 0} (keeps : A → Bool) (P : A → Type 0) (xs : List A) → ((x : A) → P x → keeps x ≡ false) → AllByRecursion P xs → filter keeps xs ≡ []
none_kept keeps P [] is all = refl
none_kept keeps P (x ∷ xs) is all = rw (is x all.0) (none_kept keeps P xs is all.1)

module _ (n : ℕ) where
  abbrev pub Early : TimedPage → Type 0
  Early p = (p.started < n) × (p.sent < n)

  abbrev pub Open : TimedPage → Type 0
  Open p = (p.started < n) × (n ≤ p.sent)

  abbrev pub Late : TimedPage → Type 0
  Late p = (n ≤ p.started) × (n ≤ p.sent)

  -- These pages are cut before the operation of this number, where one is open there or not. By then they were these.
  pub record Cut (is_open : Bool) (pages : List TimedPage) (front : List PlainPage) : Type 0 where
    pub sent : List TimedPage
    pub kept : List TimedPage
    pub later : List TimedPage
    pub fronts : List PlainPage
    pub whole : pages ≡ sent ++ (kept ++ later)
    pub early : AllByRecursion Early sent
    pub opens : AllByRecursion Open kept
    pub late : AllByRecursion Late later
    pub front_is : front ≡ map page_in sent ++ fronts
    pub same : length fronts ≡ length kept
    pub one : length kept ≡ cond is_open 1 0

  -- with pages before them that were sent
  pub behind_early : (is_open : Bool) (early pages : List TimedPage) (front : List PlainPage) → AllByRecursion Early early → Cut is_open pages front → Cut is_open (early ++ pages) (map page_in early ++ front)
  behind_early is_open early pages front all cut =
      record {
        sent = early ++ cut.sent;
        kept = cut.kept;
        later = cut.later;
        fronts = cut.fronts;
        whole = ap (λ pages. early ++ pages) cut.whole ∙ sym (append_assoc early cut.sent (cut.kept ++ cut.later));
        early = all_append Early early cut.sent all cut.early;
        opens = cut.opens;
        late = cut.late;
        front_is = ap (λ front. map page_in early ++ front) cut.front_is ∙ sym (append_assoc (map page_in early) (map page_in cut.sent) cut.fronts)
            ∙ ap (λ pages. pages ++ cut.fronts) (sym (both_mapped early cut.sent));
        same = cut.same;
        one = cut.one;
      }
    where
      both_mapped : (a b : List TimedPage) → map page_in (a ++ b) ≡ map page_in a ++ map page_in b
      both_mapped [] b = refl
      both_mapped (p ∷ a) b = ap (λ pages. page_in p ∷ pages) (both_mapped a b)

  -- with pages behind them that are started later
  pub before_late : (is_open : Bool) (pages late : List TimedPage) (front : List PlainPage) → AllByRecursion Late late → Cut is_open pages front → Cut is_open (pages ++ late) front
  before_late is_open pages late front all cut =
      record {
        sent = cut.sent;
        kept = cut.kept;
        later = cut.later ++ late;
        fronts = cut.fronts;
        whole = ap (λ pages. pages ++ late) cut.whole ∙ append_assoc cut.sent (cut.kept ++ cut.later) late ∙ ap (λ pages. cut.sent ++ pages) (append_assoc cut.kept cut.later late);
        early = cut.early;
        opens = cut.opens;
        late = all_append Late cut.later late cut.late all;
        front_is = cut.front_is;
        same = cut.same;
        one = cut.one;
      }

  -- all of them are started later
  pub all_late : (pages : List TimedPage) → AllByRecursion Late pages → Cut false pages []
  all_late pages all =
      record { sent = []; kept = []; later = pages; fronts = []; whole = refl; early = tt; opens = tt; late = all; front_is = refl; same = refl; one = refl }

  -- ---- what the cut says of started and sent pages

  started_are : (is_open : Bool) (pages : List TimedPage) (front : List PlainPage) (cut : Cut is_open pages front) → started_within n pages ≡ cut.sent ++ cut.kept
  started_are is_open pages front cut =
      let test : TimedPage → Bool = λ p. ltb p.started n in
      let early : filter test cut.sent ≡ cut.sent = all_kept test Early cut.sent (λ p is. lt-ltb p.started n is.0) cut.early in
      let kept : filter test cut.kept ≡ cut.kept = all_kept test Open cut.kept (λ p is. lt-ltb p.started n is.0) cut.opens in
      let late : filter test cut.later ≡ [] = none_kept test Late cut.later (λ p is. le-ltb p.started n is.0) cut.late in
      ap (filter test) cut.whole ∙ filter-append test cut.sent (cut.kept ++ cut.later) ∙ ap (λ pages. filter test cut.sent ++ pages) (filter-append test cut.kept cut.later)
      ∙ ap₂ (λ a b. a ++ b) early (ap₂ (λ a b. a ++ b) kept late ∙ append-nil cut.kept)

  pub sent_are : (is_open : Bool) (pages : List TimedPage) (front : List PlainPage) (cut : Cut is_open pages front) → pages_within n pages ≡ cut.sent
  sent_are is_open pages front cut =
      let test : TimedPage → Bool = λ p. ltb p.sent n in
      let early : filter test cut.sent ≡ cut.sent = all_kept test Early cut.sent (λ p is. lt-ltb p.sent n is.1) cut.early in
      let kept : filter test cut.kept ≡ [] = none_kept test Open cut.kept (λ p is. le-ltb p.sent n is.1) cut.opens in
      let late : filter test cut.later ≡ [] = none_kept test Late cut.later (λ p is. le-ltb p.sent n is.1) cut.late in
      ap (filter test) cut.whole ∙ filter-append test cut.sent (cut.kept ++ cut.later) ∙ ap (λ pages. filter test cut.sent ++ pages) (filter-append test cut.kept cut.later)
      ∙ ap₂ (λ a b. a ++ b) early (ap₂ (λ a b. a ++ b) kept late) ∙ append-nil cut.sent

  mapped_length : (pages : List TimedPage) → length (map page_in pages) ≡ length pages
  mapped_length [] = refl
  mapped_length (p ∷ pages) = ap suc (mapped_length pages)

  pub started_count : (is_open : Bool) (pages : List TimedPage) (front : List PlainPage) (cut : Cut is_open pages front) → length (started_within n pages) ≡ length front
  started_count is_open pages front cut =
      let a = ap length (started_are is_open pages front cut) in
      let b = length-append cut.sent cut.kept in
      let c = ap length cut.front_is in
      let d = length-append (map page_in cut.sent) cut.fronts in
      let e = mapped_length cut.sent in
      let f = cut.same in
      omega (arith, a, b, c, d, e, f)

-- ---- how many pieces a page takes

count_case : (b : Bool) (few many len : ℕ) → (many ≤ len → few ≡ many) → (len ≤ many → few ≡ len)
    → (cond b (1 + many) 0 ≤ suc len → cond b (1 + few) 0 ≡ cond b (1 + many) 0) × (suc len ≤ cond b (1 + many) 0 → cond b (1 + few) 0 ≡ suc len)
count_case true few many len a b = (λ h. let e = a (omega (arith, h)) in omega (arith, e), λ h. let e = b (omega (arith, h)) in omega (arith, e))
count_case false few many len a b = (λ h. refl, λ h. absurd (omega (arith, h)))

-- With more pieces behind these a page takes as many of them, or all.
count_front : (budget spent : ℕ) (xs ys : List Piece)
    → (count_beside budget spent (map cost_of (xs ++ ys)) ≤ length xs → count_beside budget spent (map cost_of xs) ≡ count_beside budget spent (map cost_of (xs ++ ys)))
    × (length xs ≤ count_beside budget spent (map cost_of (xs ++ ys)) → count_beside budget spent (map cost_of xs) ≡ length xs)
count_front budget spent [] ys = (λ h. omega (arith, h), λ h. refl)
count_front budget spent (x ∷ xs) ys =
    let rest = count_front budget (spent + cost_of x) xs ys in
    count_case (leb (spent + cost_of x) budget) (count_beside budget (spent + cost_of x) (map cost_of xs)) (count_beside budget (spent + cost_of x) (map cost_of (xs ++ ys))) (length xs) rest.0 rest.1

abbrev pub has_some : List Piece → Bool
has_some [] = false
has_some (piece ∷ pieces) = true

-- ---- the pages of pieces

module _ (n end : ℕ) (is_late : n ≤ end) (points : List ℕ) (size : ℕ) (trace : TraceId) where
  abbrev at : Piece → ℕ
  at piece = get_or points piece.number 0

  abbrev pub Low : Piece → Type 0
  Low piece = at piece < n

  abbrev pub High : Piece → Type 0
  High piece = n ≤ at piece

  abbrev runs : ℕ → List Piece → List PlainPage
  runs most pieces = runs_then points most size trace pieces

  abbrev AllHave : List PlainPage → Type 0
  AllHave pages = AllByRecursion (HasPieces points) pages

  late_page : (piece : Piece) (run : List Piece) (pages : List PlainPage) → High piece → (n ≤ sent_by points end pages) × AllByRecursion (Late n) (timed points end pages)
      → (n ≤ sent_by points end (page_with points trace (piece ∷ run) ∷ pages)) × AllByRecursion (Late n) (timed points end (page_with points trace (piece ∷ run) ∷ pages))
  late_page piece run pages high later = (high, ((high, later.0), later.1))

  late_case : (most k : ℕ) (y : Piece) (ys : List Piece) → High y → AllHave (page_with points trace (take k (y ∷ ys)) ∷ runs most (drop k (y ∷ ys)))
      → ((zs : List Piece) → AllByRecursion High zs → AllHave (runs most zs) → (n ≤ sent_by points end (runs most zs)) × AllByRecursion (Late n) (timed points end (runs most zs)))
      → AllByRecursion High ys
      → (n ≤ sent_by points end (page_with points trace (take k (y ∷ ys)) ∷ runs most (drop k (y ∷ ys))))
      × AllByRecursion (Late n) (timed points end (page_with points trace (take k (y ∷ ys)) ∷ runs most (drop k (y ∷ ys))))
  late_case most zero y ys high have on all = let none = have.0 in absurd (omega (arith, none))
  late_case most (suc k) y ys high have on all = late_page y (take k ys) (runs most (drop k ys)) high (on (drop k ys) (all_drop High k ys all) have.1)

  -- pages of pieces that come later are started later
  late_runs : (most : ℕ) (ys : List Piece) → AllByRecursion High ys → AllHave (runs most ys) → (n ≤ sent_by points end (runs most ys)) × AllByRecursion (Late n) (timed points end (runs most ys))
  late_runs zero ys all have = (is_late, tt)
  late_runs (suc most) [] all have = (is_late, tt)
  late_runs (suc most) (y ∷ ys) all have = late_case most (fits size (y ∷ ys)) y ys all.0 have (λ zs all have. late_runs most zs all have) all.1

  -- the page before the first of these pieces is sent where that piece comes
  sent_low : (most : ℕ) (x : Piece) (xs : List Piece) → Low x → AllHave (runs (suc most) (x ∷ xs)) → sent_by points end (runs (suc most) (x ∷ xs)) < n
  sent_low most x xs low have = low_case (fits size (x ∷ xs)) have.0
    where
      low_case : (k : ℕ) → HasPieces points (page_with points trace (take k (x ∷ xs))) → started_by points (page_with points trace (take k (x ∷ xs))) < n
      low_case zero some = absurd (omega (arith, some))
      low_case (suc k) some = low

  sent_page : (x : Piece) (run : List Piece) (pages front : List PlainPage) → Low x → sent_by points end pages < n → Cut n true (timed points end pages) front
      → Cut n true (timed points end (page_with points trace (x ∷ run) ∷ pages)) (page_with points trace (x ∷ run) ∷ front)
  sent_page x run pages front low sent cut =
      let page = page_with points trace (x ∷ run) in
      behind_early n true (record { page = page; started = started_by points page; sent = sent_by points end pages } ∷ []) (timed points end pages) front ((low, sent), tt) cut

  kept_page : (x : Piece) (run few : List Piece) (pages : List PlainPage) → Low x → (n ≤ sent_by points end pages) × AllByRecursion (Late n) (timed points end pages)
      → Cut n true (timed points end (page_with points trace (x ∷ run) ∷ pages)) (page_with points trace (x ∷ few) ∷ [])
  kept_page x run few pages low later =
      let page = page_with points trace (x ∷ run) in
      record {
        sent = [];
        kept = record { page = page; started = started_by points page; sent = sent_by points end pages } ∷ [];
        later = timed points end pages;
        fronts = page_with points trace (x ∷ few) ∷ [];
        whole = refl;
        early = tt;
        opens = ((low, later.0), tt);
        late = later.1;
        front_is = refl;
        same = refl;
        one = refl;
      }

  no_runs : (m : ℕ) → runs m [] ≡ []
  no_runs zero = refl
  no_runs (suc m) = refl

  cut_none : (m : ℕ) (pages : List TimedPage) → AllByRecursion (Late n) pages → Cut n false pages (runs m [])
  cut_none m pages late = subst (λ (front : List PlainPage). Cut n false pages front) (sym (no_runs m)) (all_late n pages late)

  next_low : (most : ℕ) (zs ys : List Piece) → 1 ≤ length zs → length zs ≤ most → AllByRecursion Low zs → AllHave (runs most (zs ++ ys)) → (sent_by points end (runs most (zs ++ ys)) < n) × (has_some zs ≡ true)
  next_low most [] ys some few lows have = absurd (omega (arith, some))
  next_low zero (z ∷ zs) ys some few lows have = absurd (omega (arith, few))
  next_low (suc most) (z ∷ zs) ys some few lows have = (sent_low most z (zs ++ ys) lows.0 have, refl)

  -- the first page of pieces that came before, where the others are cut
  run_case : (most m k j : ℕ) (x : Piece) (xs ys : List Piece) → (k ≤ suc (length xs) → j ≡ k) → (suc (length xs) ≤ k → j ≡ suc (length xs))
      → AllHave (page_with points trace (take k (x ∷ (xs ++ ys))) ∷ runs most (drop k (x ∷ (xs ++ ys)))) → length xs ≤ most → length xs ≤ m → Low x → AllByRecursion Low xs → AllByRecursion High ys
      → ((zs : List Piece) → length zs ≤ most → length zs ≤ m → AllByRecursion Low zs → AllHave (runs most (zs ++ ys)) → Cut n (has_some zs) (timed points end (runs most (zs ++ ys))) (runs m zs))
      → Cut n true (timed points end (page_with points trace (take k (x ∷ (xs ++ ys))) ∷ runs most (drop k (x ∷ (xs ++ ys))))) (page_with points trace (take j (x ∷ xs)) ∷ runs m (drop j (x ∷ xs)))
  run_case most m zero j x xs ys same all have few fewer low lows highs on = let none = have.0 in absurd (omega (arith, none))
  run_case most m (suc k) j x xs ys same all have few fewer low lows highs on = ⊎_elim within behind (cases_lt k (length xs))
    where
      within : k < length xs
          → Cut n true (timed points end (page_with points trace (x ∷ take k (xs ++ ys)) ∷ runs most (drop k (xs ++ ys)))) (page_with points trace (take j (x ∷ xs)) ∷ runs m (drop j (x ∷ xs)))
      within h =
          let zs = drop k xs in
          let long = length-drop k xs in
          let some : 1 ≤ length zs = omega (arith, long, h) in
          let less : length zs ≤ most = omega (arith, long, few) in
          let fewest : length zs ≤ m = omega (arith, long, fewer) in
          let lower = all_drop Low k xs lows in
          let low_k : k ≤ length xs = omega (arith, h) in
          let dropped : drop k (xs ++ ys) ≡ zs ++ ys = drop-append-le k xs ys low_k in
          let have_rest : AllHave (runs most (zs ++ ys)) = subst (λ (rest : List Piece). AllHave (runs most rest)) dropped have.1 in
          let next = next_low most zs ys some less lower have_rest in
          let cut : Cut n true (timed points end (runs most (zs ++ ys))) (runs m zs) =
          subst (λ (b : Bool). Cut n b (timed points end (runs most (zs ++ ys))) (runs m zs)) next.1 (on zs less fewest lower have_rest) in
          let count : j ≡ suc k = same (omega (arith, h)) in
          subst (λ (j : ℕ). Cut n true (timed points end (page_with points trace (x ∷ take k (xs ++ ys)) ∷ runs most (drop k (xs ++ ys)))) (page_with points trace (take j (x ∷ xs)) ∷ runs m (drop j (x ∷ xs)))) (sym count)
          (subst (λ (run : List Piece). Cut n true (timed points end (page_with points trace (x ∷ run) ∷ runs most (drop k (xs ++ ys)))) (page_with points trace (x ∷ take k xs) ∷ runs m zs)) (sym (take-append-le k xs ys low_k))
          (subst (λ (rest : List Piece). Cut n true (timed points end (page_with points trace (x ∷ take k xs) ∷ runs most rest)) (page_with points trace (x ∷ take k xs) ∷ runs m zs)) (sym dropped)
          (sent_page x (take k xs) (runs most (zs ++ ys)) (runs m zs) low next.0 cut)))

      behind : length xs ≤ k
          → Cut n true (timed points end (page_with points trace (x ∷ take k (xs ++ ys)) ∷ runs most (drop k (xs ++ ys)))) (page_with points trace (take j (x ∷ xs)) ∷ runs m (drop j (x ∷ xs)))
      behind h =
          let count : j ≡ suc (length xs) = all (omega (arith, h)) in
          let sum : length xs + (k - length xs) ≡ k = omega (arith, h) in
          let rest = drop (k - length xs) ys in
          let dropped : drop k (xs ++ ys) ≡ rest = ap (λ (k : ℕ). drop k (xs ++ ys)) (sym sum) ∙ drop-append-add xs ys (k - length xs) in
          let none : drop (length xs) xs ≡ [] = drop_length xs in
          let later = late_runs most rest (all_drop High (k - length xs) ys highs) (subst (λ (rest : List Piece). AllHave (runs most rest)) dropped have.1) in
          subst (λ (j : ℕ). Cut n true (timed points end (page_with points trace (x ∷ take k (xs ++ ys)) ∷ runs most (drop k (xs ++ ys)))) (page_with points trace (take j (x ∷ xs)) ∷ runs m (drop j (x ∷ xs)))) (sym count)
          (subst (λ (left : List Piece). Cut n true (timed points end (page_with points trace (x ∷ take k (xs ++ ys)) ∷ runs most (drop k (xs ++ ys)))) (page_with points trace (x ∷ take (length xs) xs) ∷ runs m left)) (sym none)
          (subst (λ (front : List PlainPage). Cut n true (timed points end (page_with points trace (x ∷ take k (xs ++ ys)) ∷ runs most (drop k (xs ++ ys)))) (page_with points trace (x ∷ take (length xs) xs) ∷ front)) (sym (no_runs m))
          (subst (λ (rest : List Piece). Cut n true (timed points end (page_with points trace (x ∷ take k (xs ++ ys)) ∷ runs most rest)) (page_with points trace (x ∷ take (length xs) xs) ∷ [])) (sym dropped)
          (kept_page x (take k (xs ++ ys)) (take (length xs) xs) (runs most rest) low later))))

  pub cut_runs : (most m : ℕ) (xs ys : List Piece) → length xs ≤ most → length xs ≤ m → AllByRecursion Low xs → AllByRecursion High ys → AllHave (runs most (xs ++ ys))
      → Cut n (has_some xs) (timed points end (runs most (xs ++ ys))) (runs m xs)
  cut_runs most m [] ys few fewer lows highs have = cut_none m (timed points end (runs most ys)) (late_runs most ys highs have).1
  cut_runs zero m (x ∷ xs) ys few fewer lows highs have = absurd (omega (arith, few))
  cut_runs (suc most) zero (x ∷ xs) ys few fewer lows highs have = absurd (omega (arith, fewer))
  cut_runs (suc most) (suc m) (x ∷ xs) ys few fewer lows highs have =
      let counts = count_front (page_room size) 0 (x ∷ xs) ys in
      let a : length xs ≤ most = omega (arith, few) in
      let b : length xs ≤ m = omega (arith, fewer) in
      run_case most m (fits size (x ∷ (xs ++ ys))) (fits size (x ∷ xs)) x xs ys counts.0 counts.1 have a b lows.0 lows.1 highs
      (λ zs few fewer lows have. cut_runs most m zs ys few fewer lows highs have)
