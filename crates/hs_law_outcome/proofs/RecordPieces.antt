-- The pieces of a record on the pages of its client. Over all pages they are the pieces of its payload; and pages in rising order, among
-- which each is that has a piece of the record, give the same as all pages.
use Rattle.std.proofs.Common.{◌≡◌, ◌⊎◌, inl, inr, ℕ, zero, suc, ◌+◌, ◌<◌, ◌≤◌, ◌==◌, ◌&&◌, Bool, true, false, cond, List, [], ◌∷◌, ◌++◌, length, refl, sym, ap, subst, ◌∙◌, Some, None, arith, map, filter, slice_get, eq-eqb, nat_eq, append-nil}
use Rattle.hs_law_outcome.proofs.Prelude.{AllByRecursion, flat_map, concat, length-map, map-append, same_Some, IsIn, all_at, all_each, ClientId, RecordId, TraceId, written, sheet_for, Placed, is_same, is_piece_of, pieces_from, page_pieces, Traces, RiseFrom, CarriesRecords, pieces_of_records, pieces_on, PlainPage, first_record, Piece, Record, payload_pieces, record_pieces, Sheet}
use Rattle.std.proofs.lemmas.List.Elements.{filter-append}
use Rattle.hs_base.proofs.Numbers.{nat_eq_below, nat_eq_above}
use Rattle.hs_collect.specs.Collected.{is_of, is_by}
use Rattle.hs_collect.proofs.Reordered.{none_from}
use Rattle.hs_words.specs.Pages as words
use Rattle.hs_law_outcome.proofs.Among.{at_head}

abbrev pub id_of : ClientId → ℕ → RecordId
id_of client number = record { client = client; number = number }

-- a piece with its record
abbrev pub placed_as : ClientId → Piece → Placed
placed_as client piece = record { id = record { client = client; number = piece.number }; moment = piece.moment; payload = piece.payload }

-- ---- the pieces of all pages

abbrev pub sheets_from : ClientId → ℕ → List PlainPage → List Sheet
sheets_from client number [] = []
sheets_from client number (page ∷ pages) = sheet_for client number page ∷ sheets_from client (number + 1) pages

placed_from : (client : ClientId) (first : ℕ) (pieces : List Piece) → RiseFrom first pieces → pieces_from client first (map written pieces) ≡ map (placed_as client) pieces
placed_from client first [] rises = refl
placed_from client first (piece ∷ pieces) rises =
    ap (λ n. record { id = record { client = client; number = n }; moment = piece.moment; payload = piece.payload } ∷ pieces_from client (first + 1) (map written pieces)) (sym rises.0)
    ∙ ap (λ rest. placed_as client piece ∷ rest) (placed_from client (first + 1) pieces rises.1)

pieces_joined : (traces : Traces) (client : ClientId) (number : ℕ) (pages : List PlainPage) → AllByRecursion (CarriesRecords traces) pages
    → flat_map page_pieces (sheets_from client number pages) ≡ map (placed_as client) (pieces_on pages)
pieces_joined traces client number [] each = refl
pieces_joined traces client number (page ∷ pages) each =
    ap (λ front. front ++ flat_map page_pieces (sheets_from client (number + 1) pages)) (placed_from client (first_record page) page.pieces each.0.rises)
    ∙ ap (λ rest. map (placed_as client) page.pieces ++ rest) (pieces_joined traces client (number + 1) pages each.1)
    ∙ sym (map-append (placed_as client) page.pieces (pieces_on pages))

-- ---- those of one record

abbrev is_numbered : ℕ → Piece → Bool
is_numbered n piece = n == piece.number

own_number : (client : ClientId) (n m : ℕ) → is_same (id_of client n) (id_of client m) ≡ nat_eq n m
own_number client n m =
    ap (λ t. t && nat_eq client.number client.number && nat_eq n m) (eq-eqb client.node client.node refl) ∙ ap (λ t. true && t && nat_eq n m) (eq-eqb client.number client.number refl)

filter_placed : (client : ClientId) (n : ℕ) (pieces : List Piece) → filter (is_piece_of (id_of client n)) (map (placed_as client) pieces) ≡ map (placed_as client) (filter (is_numbered n) pieces)
filter_placed client n [] = refl
filter_placed client n (piece ∷ pieces) =
    ap (λ b. cond b (placed_as client piece ∷ filter (is_piece_of (id_of client n)) (map (placed_as client) pieces)) (filter (is_piece_of (id_of client n)) (map (placed_as client) pieces))) (own_number client n piece.number)
    ∙ go (nat_eq n piece.number) (filter_placed client n pieces)
  where
    go : (b : Bool) → filter (is_piece_of (id_of client n)) (map (placed_as client) pieces) ≡ map (placed_as client) (filter (is_numbered n) pieces)
        → cond b (placed_as client piece ∷ filter (is_piece_of (id_of client n)) (map (placed_as client) pieces)) (filter (is_piece_of (id_of client n)) (map (placed_as client) pieces))
        ≡ map (placed_as client) (cond b (piece ∷ filter (is_numbered n) pieces) (filter (is_numbered n) pieces))
    go true h = ap (λ rest. placed_as client piece ∷ rest) h
    go false h = h

abbrev parts : ℕ → ℕ → List (List ℕ) → List Piece
parts number moment payloads = map (λ bytes. record { number = number; moment = moment; payload = bytes }) payloads

none_numbered : (n number moment : ℕ) (payloads : List (List ℕ)) → nat_eq n number ≡ false → filter (is_numbered n) (parts number moment payloads) ≡ []
none_numbered n number moment [] e = refl
none_numbered n number moment (bytes ∷ payloads) e =
    ap (λ b. cond b (record { number = number; moment = moment; payload = bytes } ∷ filter (is_numbered n) (parts number moment payloads)) (filter (is_numbered n) (parts number moment payloads))) e
    ∙ none_numbered n number moment payloads e

all_numbered : (n number moment : ℕ) (payloads : List (List ℕ)) → nat_eq n number ≡ true → filter (is_numbered n) (parts number moment payloads) ≡ parts number moment payloads
all_numbered n number moment [] e = refl
all_numbered n number moment (bytes ∷ payloads) e =
    ap (λ b. cond b (record { number = number; moment = moment; payload = bytes } ∷ filter (is_numbered n) (parts number moment payloads)) (filter (is_numbered n) (parts number moment payloads))) e
    ∙ ap (λ rest. record { number = number; moment = moment; payload = bytes } ∷ rest) (all_numbered n number moment payloads e)

-- records with higher numbers have no piece of it
none_later : (size n start : ℕ) (records : List Record) → n < start → filter (is_numbered n) (pieces_of_records size start records) ≡ []
none_later size n start [] less = refl
none_later size n start (r ∷ records) less =
    filter-append (is_numbered n) (record_pieces size start r.moment r.payload) (pieces_of_records size (start + 1) records)
    ∙ ap (λ front. front ++ filter (is_numbered n) (pieces_of_records size (start + 1) records)) (none_numbered n start r.moment (payload_pieces size r.payload) (nat_eq_below n start less))
    ∙ none_later size n (start + 1) records (omega (arith, less))

of_record : (size start i : ℕ) (records : List Record) (r : Record) → slice_get records i ≡ Some r
    → filter (is_numbered (start + i)) (pieces_of_records size start records) ≡ record_pieces size (start + i) r.moment r.payload
of_record size start i [] r h = let no : None ≡ Some r = h in absurd cc
of_record size start zero (q ∷ records) r h =
    let n = start + 0 in
    let here : nat_eq n start ≡ true = let same : n ≡ start = omega arith in eq-eqb n start same in
    let zeroth : start ≡ n = omega arith in
    filter-append (is_numbered n) (record_pieces size start q.moment q.payload) (pieces_of_records size (start + 1) records)
    ∙ ap (λ front. front ++ filter (is_numbered n) (pieces_of_records size (start + 1) records)) (all_numbered n start q.moment (payload_pieces size q.payload) here)
    ∙ ap (λ rest. record_pieces size start q.moment q.payload ++ rest) (none_later size n (start + 1) records (omega arith))
    ∙ append-nil (record_pieces size start q.moment q.payload)
    ∙ ap (λ (q : Record). record_pieces size start q.moment q.payload) (same_Some q r h)
    ∙ ap (λ k. record_pieces size k r.moment r.payload) zeroth
of_record size start (suc i) (q ∷ records) r h =
    let n = start + suc i in
    let more : start + 1 + i ≡ n = omega arith in
    filter-append (is_numbered n) (record_pieces size start q.moment q.payload) (pieces_of_records size (start + 1) records)
    ∙ ap (λ front. front ++ filter (is_numbered n) (pieces_of_records size (start + 1) records)) (none_numbered n start q.moment (payload_pieces size q.payload) (nat_eq_above n start (omega arith)))
    ∙ subst (λ k. filter (is_numbered k) (pieces_of_records size (start + 1) records) ≡ record_pieces size k r.moment r.payload) more (of_record size (start + 1) i records r h)

-- over all pages of a client, the pieces of a record
pub on_all_pages : (traces : Traces) (client : ClientId) (size n : ℕ) (pages : List PlainPage) (records : List Record) (r : Record) → AllByRecursion (CarriesRecords traces) pages → pieces_on pages ≡ pieces_of_records size 0 records
    → slice_get records n ≡ Some r → filter (is_piece_of (id_of client n)) (flat_map page_pieces (sheets_from client 0 pages)) ≡ map (placed_as client) (record_pieces size n r.moment r.payload)
on_all_pages traces client size n pages records r each held h =
    let zeroth : 0 + n ≡ n = omega arith in
    ap (filter (is_piece_of (id_of client n))) (pieces_joined traces client 0 pages each)
    ∙ filter_placed client n (pieces_on pages)
    ∙ ap (λ (all : List Piece). map (placed_as client) (filter (is_numbered n) all)) held
    ∙ ap (map (placed_as client)) (subst (λ k. filter (is_numbered k) (pieces_of_records size 0 records) ≡ record_pieces size k r.moment r.payload) zeroth (of_record size 0 n records r h))

-- what the pieces of a payload say of the record
pub joined_payload : (client : ClientId) (number moment : ℕ) (payloads : List (List ℕ)) → flat_map (λ (piece : Placed). piece.payload) (map (placed_as client) (parts number moment payloads)) ≡ concat payloads
joined_payload client number moment [] = refl
joined_payload client number moment (bytes ∷ payloads) = ap (λ rest. bytes ++ rest) (joined_payload client number moment payloads)

-- ---- pages without a piece of it

none_outside : (client : ClientId) (n first : ℕ) (pieces : List words.Piece) → (n < first) ⊎ (first + length pieces ≤ n) → filter (is_piece_of (id_of client n)) (pieces_from client first pieces) ≡ []
none_outside client n first [] out = refl
none_outside client n first (piece ∷ pieces) out =
    let one : Placed = record { id = record { client = client; number = first }; moment = piece.moment; payload = piece.payload } in
    ap (λ b. cond b (one ∷ filter (is_piece_of (id_of client n)) (pieces_from client (first + 1) pieces)) (filter (is_piece_of (id_of client n)) (pieces_from client (first + 1) pieces)))
    (own_number client n first ∙ other out)
    ∙ none_outside client n (first + 1) pieces (rest out)
  where
    other : (n < first) ⊎ (first + suc (length pieces) ≤ n) → nat_eq n first ≡ false
    other (inl less) = nat_eq_below n first less
    other (inr more) = nat_eq_above n first (omega (arith, more))

    rest : (n < first) ⊎ (first + suc (length pieces) ≤ n) → (n < first + 1) ⊎ (first + 1 + length pieces ≤ n)
    rest (inl less) = inl (omega (arith, less))
    rest (inr more) = inr (omega (arith, more))

pub outside_page : (client : ClientId) (n number : ℕ) (page : PlainPage) → (n < first_record page) ⊎ (first_record page + length page.pieces ≤ n) → filter (is_piece_of (id_of client n)) (page_pieces (sheet_for client number page)) ≡ []
outside_page client n number page out = none_outside client n (first_record page) (map written page.pieces) (either out)
  where
    either : (n < first_record page) ⊎ (first_record page + length page.pieces ≤ n) → (n < first_record page) ⊎ (first_record page + length (map written page.pieces) ≤ n)
    either (inl less) = inl less
    either (inr more) = let same = length-map page.pieces written in inr (omega (arith, more, same))

-- ---- pages of its client and trace

-- the pieces of a record on a page
abbrev pub own_pieces : RecordId → Sheet → List Placed
own_pieces id sheet = filter (is_piece_of id) (page_pieces sheet)

pub by_page : (id : RecordId) (sheets : List Sheet) → filter (is_piece_of id) (flat_map page_pieces sheets) ≡ flat_map (own_pieces id) sheets
by_page id [] = refl
by_page id (sheet ∷ sheets) =
    filter-append (is_piece_of id) (page_pieces sheet) (flat_map page_pieces sheets) ∙ ap (λ rest. own_pieces id sheet ++ rest) (by_page id sheets)

pub by_run : (id : RecordId) (trace : TraceId) (sheets : List Sheet) → flat_map (own_pieces id) (filter (is_of trace) sheets) ≡ flat_map (own_pieces id) (filter (is_by id.client trace) sheets)
by_run id trace [] = refl
by_run id trace (sheet ∷ sheets) = go (sheet.header.client.node == id.client.node && sheet.header.client.number == id.client.number) refl (is_of trace sheet) (by_run id trace sheets)
  where
    go : (own : Bool) → (sheet.header.client.node == id.client.node && sheet.header.client.number == id.client.number) ≡ own → (its : Bool)
        → flat_map (own_pieces id) (filter (is_of trace) sheets) ≡ flat_map (own_pieces id) (filter (is_by id.client trace) sheets)
        → flat_map (own_pieces id) (cond its (sheet ∷ filter (is_of trace) sheets) (filter (is_of trace) sheets))
        ≡ flat_map (own_pieces id) (cond (own && its) (sheet ∷ filter (is_by id.client trace) sheets) (filter (is_by id.client trace) sheets))
    go true same true later = ap (λ rest. own_pieces id sheet ++ rest) later
    go true same false later = later
    go false apart true later = ap (λ front. front ++ flat_map (own_pieces id) (filter (is_of trace) sheets)) (none_from id sheet.header.client sheet.header.first sheet.pieces apart) ∙ later
    go false apart false later = later

-- ---- some of the pages, in rising order

abbrev pub Rise : List Sheet → Type 0
Rise [] = Unit {0}
Rise (sheet ∷ sheets) = AllByRecursion (λ (later : Sheet). sheet.header.page < later.header.page) sheets × Rise sheets

-- a sheet is that of the page of its number, where the first of these pages has this one
pub record IsPage (client : ClientId) (first : ℕ) (pages : List PlainPage) (sheet : Sheet) : Type 0 where
  pub at : ℕ
  pub page : PlainPage
  pub there : slice_get pages at ≡ Some page
  pub is : sheet ≡ sheet_for client (first + at) page

number_of : (client : ClientId) (first : ℕ) (pages : List PlainPage) (sheet : Sheet) (i : IsPage client first pages sheet) → sheet.header.page ≡ first + i.at
number_of client first pages sheet i = ap (λ (s : Sheet). s.header.page) i.is

is_behind : (client : ClientId) (first : ℕ) (page : PlainPage) (pages : List PlainPage) (sheet : Sheet) → IsPage client first (page ∷ pages) sheet → first < sheet.header.page → IsPage client (first + 1) pages sheet
is_behind client first page pages sheet i less = go i.at i.there i.is
  where
    go : (at : ℕ) → slice_get (page ∷ pages) at ≡ Some i.page → sheet ≡ sheet_for client (first + at) i.page → IsPage client (first + 1) pages sheet
    go zero there is = let number = ap (λ (s : Sheet). s.header.page) is in absurd (omega (arith, less, number))
    go (suc at) there is =
        let more : first + suc at ≡ first + 1 + at = omega arith in record { at = at; page = i.page; there = there; is = is ∙ ap (λ n. sheet_for client n i.page) more }

module _ {X : Type 0} (give : Sheet → List X) (client : ClientId) where
  -- each of the pages gives nothing, or is among these
  abbrev pub HasAll : ℕ → List PlainPage → List Sheet → Type 0
  HasAll first pages sheets = (at : ℕ) (page : PlainPage) → slice_get pages at ≡ Some page → (give (sheet_for client (first + at) page) ≡ []) ⊎ IsIn sheets (sheet_for client (first + at) page)

  later_all : (first : ℕ) (p : PlainPage) (pages : List PlainPage) (sheets : List Sheet) → HasAll first (p ∷ pages) sheets → HasAll (first + 1) pages sheets
  later_all first p pages sheets has at page h =
      let more : first + suc at ≡ first + 1 + at = omega arith in
      subst (λ n. (give (sheet_for client n page) ≡ []) ⊎ IsIn sheets (sheet_for client n page)) more (has (suc at) page h)

  -- a page below all of these is not among them
  below_none : (number : ℕ) (page : PlainPage) (sheets : List Sheet) → AllByRecursion (λ (sheet : Sheet). number < sheet.header.page) sheets
      → (give (sheet_for client number page) ≡ []) ⊎ IsIn sheets (sheet_for client number page) → give (sheet_for client number page) ≡ []
  below_none number page sheets all (inl none) = none
  below_none number page sheets all (inr among) =
      let less = all_at (λ (sheet : Sheet). number < sheet.header.page) sheets among.place (sheet_for client number page) all among.there in absurd (omega (arith, less))

  pub same_as_all : (first : ℕ) (pages : List PlainPage) (sheets : List Sheet) → Rise sheets → AllByRecursion (IsPage client first pages) sheets → HasAll first pages sheets
      → flat_map give sheets ≡ flat_map give (sheets_from client first pages)
  same_as_all first [] [] rise all has = refl
  same_as_all first [] (sheet ∷ sheets) rise all has = let no : None ≡ Some all.0.page = all.0.there in absurd cc
  same_as_all first (p ∷ pages) [] rise all has =
      let zeroth : first + 0 ≡ first = omega arith in
      let none = below_none (first + 0) p [] tt (has 0 p refl) in
      let rest = same_as_all (first + 1) pages [] tt tt (later_all first p pages [] has) in
      rest ∙ ap (λ front. front ++ flat_map give (sheets_from client (first + 1) pages)) (sym none) ∙ ap (λ n. give (sheet_for client n p) ++ flat_map give (sheets_from client (first + 1) pages)) zeroth
  same_as_all first (p ∷ pages) (sheet ∷ sheets) rise all has =
      go all.0.at all.0.there all.0.is (λ r a h. same_as_all (first + 1) pages sheets r a h) (λ r a h. same_as_all (first + 1) pages (sheet ∷ sheets) r a h)
    where
      behind : (least : ℕ) → first < least + 1 → (least ≤ sheet.header.page) → AllByRecursion (λ (later : Sheet). first < later.header.page) sheets
      behind least low h =
          all_each (λ (later : Sheet). sheet.header.page < later.header.page) (λ (later : Sheet). first < later.header.page) sheets (λ later less. omega (arith, low, h, less)) rise.0

      pages_behind : (some : List Sheet) → AllByRecursion (IsPage client first (p ∷ pages)) some → AllByRecursion (λ (later : Sheet). first < later.header.page) some → AllByRecursion (IsPage client (first + 1) pages) some
      pages_behind [] is less = tt
      pages_behind (one ∷ some) is less = (is_behind client first p pages one is.0 less.0, pages_behind some is.1 less.1)

      without_first : sheet.header.page ≡ first → HasAll (first + 1) pages (sheet ∷ sheets) → HasAll (first + 1) pages sheets
      without_first number has at page h = either (has at page h)
        where
          either : (give (sheet_for client (first + 1 + at) page) ≡ []) ⊎ IsIn (sheet ∷ sheets) (sheet_for client (first + 1 + at) page) → (give (sheet_for client (first + 1 + at) page) ≡ []) ⊎ IsIn sheets (sheet_for client (first + 1 + at) page)
          either (inl none) = inl none
          either (inr among) =
              at_head sheet (sheet_for client (first + 1 + at) page) sheets among
              (λ same. let other = ap (λ (s : Sheet). s.header.page) same in absurd (omega (arith, other, number))) (λ later. inr later)

      go : (at : ℕ) → slice_get (p ∷ pages) at ≡ Some all.0.page → sheet ≡ sheet_for client (first + at) all.0.page
          → (Rise sheets → AllByRecursion (IsPage client (first + 1) pages) sheets → HasAll (first + 1) pages sheets → flat_map give sheets ≡ flat_map give (sheets_from client (first + 1) pages))
          → (Rise (sheet ∷ sheets) → AllByRecursion (IsPage client (first + 1) pages) (sheet ∷ sheets) → HasAll (first + 1) pages (sheet ∷ sheets)
          → flat_map give (sheet ∷ sheets) ≡ flat_map give (sheets_from client (first + 1) pages))
          → flat_map give (sheet ∷ sheets) ≡ flat_map give (sheets_from client first (p ∷ pages))
      go zero there is rest whole =
          let zeroth : first + 0 ≡ first = omega arith in
          let number : sheet.header.page ≡ first = ap (λ (s : Sheet). s.header.page) is ∙ zeroth in
          let same : sheet ≡ sheet_for client first p = is ∙ ap (λ n. sheet_for client n all.0.page) zeroth ∙ ap (sheet_for client first) (sym (same_Some p all.0.page there)) in
          let low = behind first (omega arith) (omega (arith, number)) in
          ap (λ (s : Sheet). give s ++ flat_map give sheets) same
          ∙ ap (λ rest. give (sheet_for client first p) ++ rest) (rest rise.1 (pages_behind sheets all.1 low) (without_first number (later_all first p pages (sheet ∷ sheets) has)))
      go (suc at) there is rest whole =
          let zeroth : first + 0 ≡ first = omega arith in
          let number : sheet.header.page ≡ first + suc at = ap (λ (s : Sheet). s.header.page) is in
          let above : first < sheet.header.page = omega (arith, number) in
          let low : AllByRecursion (λ (later : Sheet). first < later.header.page) (sheet ∷ sheets) = (above, behind (first + 1) (omega arith) (omega (arith, above))) in
          let none : give (sheet_for client first p) ≡ [] = below_none first p (sheet ∷ sheets) low (subst (λ n. (give (sheet_for client n p) ≡ []) ⊎ IsIn (sheet ∷ sheets) (sheet_for client n p)) zeroth (has 0 p refl)) in
          whole rise (pages_behind (sheet ∷ sheets) all low) (later_all first p pages (sheet ∷ sheets) has)
          ∙ ap (λ front. front ++ flat_map give (sheets_from client (first + 1) pages)) (sym none)
