-- Pages in another order, which keeps that of each client and trace, have the same pieces of each record in the same order.
use Rattle.std.proofs.Common.{◌≡◌, ◌≢◌, ℕ, zero, suc, ◌+◌, ◌<◌, ◌≤◌, ◌^◌, ◌==◌, ◌&&◌, Bool, true, false, cond, List, [], ◌∷◌, ◌++◌, filter, length, get_or, All, Some, option_map, inl, inr, refl, sym, ap, ◌∙◌, subst, arith}
use Rattle.hs_collect.proofs.Prelude.{slice_get, find, flat_map, Any, AllPairs, All-nil, All-cons, All-head, All-tail, filter-append, nat_tests, pairs_head, pairs_tail, TraceId, ClientId, RecordId, Piece, Sheet, Placed, is_of, is_same, is_piece_of, pieces_from, page_pieces, pieces_of, AreWholes, AreCollected, end_of, CanPrecede, CanBeAdded, Collection}
use Rattle.std.proofs.lemmas.List.Elements.{All-filter}
use Rattle.std.proofs.lemmas.List.Kept.{AllPairs-cons, AllPairs-filter}
use Rattle.std.proofs.lemmas.Bool.{cases_eq}
use Rattle.hs_collect.specs.Collected.{is_by, KeepsRuns, IsReordering}
use Rattle.hs_collect.proofs.Ids.{same_itself}
use Rattle.hs_collect.proofs.Lower.{found_holds}

-- the pieces of a record on pages
abbrev record_on : RecordId → List Sheet → List Placed
record_on id sheets = filter (is_piece_of id) (flat_map page_pieces sheets)

-- ---- pages of other clients have no piece of a record

pub none_from : (id : RecordId) (client : ClientId) (number : ℕ) (pieces : List Piece) → (client.node == id.client.node && client.number == id.client.number) ≡ false
    → filter (is_piece_of id) (pieces_from client number pieces) ≡ []
none_from id client number [] apart = refl
none_from id client number (piece ∷ pieces) apart =
    let other : is_same id (record { client = client; number = number }) ≡ false = grind (arith, nat_tests) in
    let piece : Placed = record { id = record { client = client; number = number }; moment = piece.moment; payload = piece.payload } in
    let rest = filter (is_piece_of id) (pieces_from client (number + 1) pieces) in
    ap (λ b. cond b (piece ∷ rest) rest) other ∙ none_from id client (number + 1) pieces apart

-- the pieces of a record of a trace stand on the pages of its client and trace
by-run : (id : RecordId) (trace : TraceId) (sheets : List Sheet) → record_on id (filter (is_of trace) sheets) ≡ record_on id (filter (is_by id.client trace) sheets)
by-run id trace [] = refl
by-run id trace (sheet ∷ sheets) =
    by_test (sheet.header.client.node == id.client.node && sheet.header.client.number == id.client.number) refl (is_of trace sheet) (by-run id trace sheets)
  where
    by_test : (own : Bool) → (sheet.header.client.node == id.client.node && sheet.header.client.number == id.client.number) ≡ own → (its : Bool)
        → record_on id (filter (is_of trace) sheets) ≡ record_on id (filter (is_by id.client trace) sheets)
        → record_on id (cond its (sheet ∷ filter (is_of trace) sheets) (filter (is_of trace) sheets))
        ≡ record_on id (cond (own && its) (sheet ∷ filter (is_by id.client trace) sheets) (filter (is_by id.client trace) sheets))
    by_test true same true later =
        filter-append (is_piece_of id) (page_pieces sheet) (flat_map page_pieces (filter (is_of trace) sheets))
        ∙ ap (λ rest. filter (is_piece_of id) (page_pieces sheet) ++ rest) later
        ∙ sym (filter-append (is_piece_of id) (page_pieces sheet) (flat_map page_pieces (filter (is_by id.client trace) sheets)))
    by_test true same false later = later
    by_test false apart true later =
        filter-append (is_piece_of id) (page_pieces sheet) (flat_map page_pieces (filter (is_of trace) sheets))
        ∙ ap (λ front. front ++ record_on id (filter (is_of trace) sheets)) (none_from id sheet.header.client sheet.header.first sheet.pieces apart)
        ∙ later
    by_test false apart false later = later

same-record : (sheets others : List Sheet) → KeepsRuns sheets others → (id : RecordId) (trace : TraceId)
    → filter (is_piece_of id) (pieces_of trace sheets) ≡ filter (is_piece_of id) (pieces_of trace others)
same-record sheets others is id trace = by-run id trace sheets ∙ ap (record_on id) (is id.client trace) ∙ sym (by-run id trace others)

-- ---- the records

find-filter : (test : Placed → Bool) (pieces : List Placed) → find test pieces ≡ slice_get (filter test pieces) 0
find-filter test [] = refl
find-filter test (piece ∷ pieces) = by_test (test piece) (find-filter test pieces)
  where
    by_test : (b : Bool) → find test pieces ≡ slice_get (filter test pieces) 0
        → cond b (Some piece) (find test pieces) ≡ slice_get (cond b (piece ∷ filter test pieces) (filter test pieces)) 0
    by_test true later = refl
    by_test false later = later

first-same : (test : Placed → Bool) (pieces others : List Placed) → filter test pieces ≡ filter test others
    → option_map (λ (first : Placed). first.moment) (find test others) ≡ option_map (λ (first : Placed). first.moment) (find test pieces)
first-same test pieces others same =
    ap (option_map (λ (first : Placed). first.moment)) (find-filter test others ∙ ap (λ own. slice_get own 0) (sym same) ∙ sym (find-filter test pieces))

-- a piece is among those of its own record
own_piece : (pieces : List Placed) (k : ℕ) (d : Placed) → k < length pieces
    → (moment : ℕ) × (option_map (λ (first : Placed). first.moment) (find (is_piece_of (get_or pieces k d).id) pieces) ≡ Some moment)
own_piece [] k d within = absurd (omega arith)
own_piece (piece ∷ pieces) zero d within = (piece.moment, ap (λ b. option_map (λ (first : Placed). first.moment) (cond b (Some piece) (find (is_piece_of piece.id) pieces))) (same_itself piece.id))
own_piece (piece ∷ pieces) (suc k) d within = by_test (is_piece_of (get_or pieces k d).id piece) (own_piece pieces k d (omega arith))
  where
    by_test : (b : Bool) → (moment : ℕ) × (option_map (λ (first : Placed). first.moment) (find (is_piece_of (get_or pieces k d).id) pieces) ≡ Some moment)
        → (moment : ℕ) × (option_map (λ (first : Placed). first.moment) (cond b (Some piece) (find (is_piece_of (get_or pieces k d).id) pieces)) ≡ Some moment)
    by_test true later = (piece.moment, refl)
    by_test false later = later

wholes-same : (pieces others wholes : List Placed) → ((id : RecordId) → filter (is_piece_of id) pieces ≡ filter (is_piece_of id) others) → AreWholes pieces wholes → AreWholes others wholes
wholes-same pieces others wholes same are =
    record {
      ordered = are.ordered;
      each = λ k d within.
          let id = (get_or wholes k d).id in
          record {
            moment = first-same (is_piece_of id) pieces others (same id) ∙ (are.each k d within).moment;
            payload = (are.each k d within).payload ∙ ap (flat_map (λ (piece : Placed). piece.payload)) (same id);
          };
      all = λ k d within.
          let id = (get_or others k d).id in
          let own = own_piece others k d within in
          found_holds (λ id. Any (λ whole. whole.id ≡ id) wholes) id pieces own.0 are.all (sym (first-same (is_piece_of id) pieces others (same id)) ∙ own.1);
    }

pub records-same : (sheets others : List Sheet) (trace : TraceId) (wholes : List Placed) → KeepsRuns sheets others → AreWholes (pieces_of trace sheets) wholes → AreWholes (pieces_of trace others) wholes
records-same sheets others trace wholes is = wholes-same (pieces_of trace sheets) (pieces_of trace others) wholes (λ id. same-record sheets others is id trace)

pub collect-same : (sheets others : List Sheet) (collection : Collection) → IsReordering sheets others → AreCollected sheets collection → AreCollected others collection
collect-same sheets others collection is are =
    record {
      seen = are.seen ∙ is.seen;
      each = λ k d within.
          let entry = get_or collection k d in
          records-same sheets others entry.0 entry.1 is.pages (are.each k d within);
    }

-- ---- they can be added too

passing : {X : Type 0} (p : X → Bool) (P : X → Type 0) (xs : List X) → All P (filter p xs) → All (λ x. p x ≡ true → P x) xs
passing p P [] each = All-nil (λ x. p x ≡ true → P x)
passing p P (x ∷ xs) each = by_test (p x) refl each (passing p P xs)
  where
    by_test : (b : Bool) → p x ≡ b → All P (cond b (x ∷ filter p xs) (filter p xs)) → (All P (filter p xs) → All (λ y. p y ≡ true → P y) xs) → All (λ y. p y ≡ true → P y) (x ∷ xs)
    by_test true passes here later = All-cons (λ y. p y ≡ true → P y) x xs (λ yes. All-head P x (filter p xs) here) (later (All-tail P x (filter p xs) here))
    by_test false fails here later = All-cons (λ y. p y ≡ true → P y) x xs (λ yes. let no : true ≡ false = sym yes ∙ fails in absurd (cc)) (later here)

passing_pairs : {X : Type 0} (p : X → Bool) (R : X → X → Type 0) (xs : List X) → AllPairs R (filter p xs) → AllPairs (λ a b. p a ≡ true → p b ≡ true → R a b) xs
passing_pairs p R [] pairs = λ i j d lt within. absurd (omega arith)
passing_pairs p R (x ∷ xs) pairs = by_test (p x) refl pairs (passing_pairs p R xs)
  where
    by_test : (b : Bool) → p x ≡ b → AllPairs R (cond b (x ∷ filter p xs) (filter p xs)) → (AllPairs R (filter p xs) → AllPairs (λ a b. p a ≡ true → p b ≡ true → R a b) xs)
        → AllPairs (λ a b. p a ≡ true → p b ≡ true → R a b) (x ∷ xs)
    by_test true passes here later =
        AllPairs-cons (λ a b. p a ≡ true → p b ≡ true → R a b) x xs
        (λ k d within yes. passing p (R x) xs (pairs_head R x (filter p xs) here) k d within)
        (later (pairs_tail R x (filter p xs) here))
    by_test false fails here later =
        AllPairs-cons (λ a b. p a ≡ true → p b ≡ true → R a b) x xs (λ k d within yes. let no : true ≡ false = sym yes ∙ fails in absurd (cc)) (later here)

pub own_run : (sheet : Sheet) → is_by sheet.header.client sheet.header.trace sheet ≡ true
own_run sheet = grind (arith, nat_tests)

-- what holds of each page holds of each in the other order
along : (P : Sheet → Type 0) (sheets others : List Sheet) → KeepsRuns sheets others → All P sheets → All P others
along P sheets others is each = λ k d within.
    let sheet = get_or others k d in
    let its = is_by sheet.header.client sheet.header.trace in
    passing its P others (subst (All P) (is sheet.header.client sheet.header.trace) (All-filter its P sheets each)) k d within (own_run sheet)

-- pages of one client and two traces differ in number, whichever comes first
abbrev AreApart : Sheet → Sheet → Type 0
AreApart a b = a.header.client ≡ b.header.client → a.header.trace.0 ≢ b.header.trace.0 → a.header.page ≢ b.header.page

all_apart : (sheets : List Sheet) → AllPairs CanPrecede sheets → All (λ a. All (AreApart a) sheets) sheets
all_apart [] pairs = All-nil (λ a. All (AreApart a) [])
all_apart (sheet ∷ sheets) pairs =
    let behind : All (AreApart sheet) sheets = λ k d within. λ client trace. (pairs_head CanPrecede sheet sheets pairs k d within).differ client in
    let rest = all_apart sheets (pairs_tail CanPrecede sheet sheets pairs) in
    All-cons (λ a. All (AreApart a) (sheet ∷ sheets)) sheet sheets
    (All-cons (AreApart sheet) sheet sheets (λ client trace. absurd (trace refl)) behind)
    (λ k d within.
    All-cons (AreApart (get_or sheets k d)) sheet sheets
    (λ client trace page. behind k d within (sym client) (λ same. trace (sym same)) (sym page))
    (rest k d within))

same_run : (a b : Sheet) → a.header.client ≡ b.header.client → a.header.trace.0 ≡ b.header.trace.0 → is_by a.header.client a.header.trace b ≡ true
same_run a b client trace =
    let node : a.header.client.node ≡ b.header.client.node = ap (λ (c : ClientId). c.node) client in
    let number : a.header.client.number ≡ b.header.client.number = ap (λ (c : ClientId). c.number) client in
    grind (arith, nat_tests)

pub can-same : (sheets others : List Sheet) → KeepsRuns sheets others → CanBeAdded sheets → CanBeAdded others
can-same sheets others is can =
    record {
      pairs = λ i j d lt within.
          let a = get_or others i d in
          let b = get_or others j d in
          let its = is_by a.header.client a.header.trace in
          let run : AllPairs (λ x y. its x ≡ true → its y ≡ true → CanPrecede x y) others =
          passing_pairs its CanPrecede others (subst (AllPairs CanPrecede) (is a.header.client a.header.trace) (AllPairs-filter CanPrecede its sheets can.pairs)) in
          let precede : a.header.client ≡ b.header.client → a.header.trace.0 ≡ b.header.trace.0 → CanPrecede a b = λ client trace. run i j d lt within (own_run a) (same_run a b client trace) in
          let apart : AreApart a b =
          along (AreApart a) sheets others is (along (λ x. All (AreApart x) sheets) sheets others is (all_apart sheets can.pairs) i d (omega arith)) j d within in
          record {
            differ = λ client. elim (cases_eq a.header.trace.0 b.header.trace.0) [ inl same ↦ (precede client same).differ client | inr other ↦ apart client other ];
            rise = λ client trace. (precede client (ap (λ (t : TraceId). t.0) trace)).rise client trace;
          };
      fits = along (λ sheet. end_of sheet ≤ 2 ^ 32) sheets others is can.fits;
    }
