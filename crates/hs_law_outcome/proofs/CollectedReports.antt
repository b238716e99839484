-- What is collected of a trace, without the records that were not reported, and the records of its report stand in one order and are the
-- same records. Each that was reported has all its pieces, in order, so it is joined to the whole record of the workload.
use Rattle.std.proofs.Common.{◌≡◌, ◌⊎◌, inl, inr, ℕ, zero, suc, ◌+◌, ◌<◌, ◌≤◌, ◌&&◌, Bool, true, false, cond, List, [], ◌∷◌, length, refl, sym, ap, subst, ◌∙◌, Option, Some, None, arith, map, filter, option_map, slice_get, eqb-true, eq-eqb, nat_eq, find}
use Rattle.hs_law_outcome.proofs.Prelude.{AllByRecursion, AllPairs, flat_map, concat, and_parts, and_from, length-map, recursion_from_All, same_Some, all_each_both, all_filter, all_unmap, IsIn, ClientId, RecordId, TraceId, written, sheet_for, Placed, Precedes, is_same, is_piece_of, pieces_from, page_pieces, KeepsRuns, PlainJournal, Entry, is_reported, ClientsPagesRise, PagesHoldThePieces, end_of, traces_of, PlainPage, first_record, pages_of, Operation, PlainWorkload, AreBracketed, Record, payload_pieces, record_pieces, records_of, TimedPagesAreThePages, operations_at, place_of, Sheet, RunsAreOfTheJournal, AgentsComeByEvents, IsLawful, FollowingPlaysOut, TakenPagesRise, IsClientsPage, HasAllItsPages, ReportedRecordsHaveAllPages, HasItsClients, TakenPagesWereDrawn, outcome_of, EndsItsTraces, EachRecordHasOneEntry, name_of, placed_ids, ComeInOrder, whole_of, is_of, report_of}
use Rattle.std.specs.List.{Any}
use Rattle.hs_collect.specs.Collected.{is_of as is_page_of, pieces_of, IsWhole, AreWholes, is_by}
use Rattle.hs_collect.proofs.Ids.{same_ids}
use Rattle.hs_records.specs.Records.{piece_count}
use Rattle.hs_words.specs.Pages as words
use Rattle.hs_law_outcome.specs.CollectedReports.{was_reported, reported_wholes, CollectedRecordsAreWhole}
use Rattle.hs_law_outcome.proofs.Among.{is_first, is_later, at_head, none_in, from_contained, of_all, in_filter, from_filter, from_any, to_any, from_find, find_first, in_filter_map, from_filter_map}
use Rattle.hs_law_outcome.proofs.ClientBooks.{compare}
use Rattle.hs_law_outcome.proofs.ClientPages.{trace_on}
use Rattle.hs_law_outcome.proofs.Entries.{PagesCarryTheRecords, ends_at}
use Rattle.hs_law_outcome.proofs.Lists.{filter_passes}
use Rattle.hs_law_outcome.proofs.Origins.{in_parts, same_client}
use Rattle.hs_law_outcome.proofs.RecordPieces.{placed_as, sheets_from, own_pieces, by_page, by_run, outside_page, on_all_pages, joined_payload, Rise, IsPage, same_as_all}
use Rattle.hs_law_outcome.proofs.ReportedRuns.{Above, RunsRise, reported_rise, reported_paged}
use Rattle.hs_law_outcome.proofs.Shown.{IsKnown, all_known, same_trace, shows}

-- ---- records in order

abbrev Before : Placed → Placed → Type 0
Before a b = Precedes a.id b.id

abbrev Ordered : List Placed → Type 0
Ordered [] = Unit {0}
Ordered (whole ∷ wholes) = AllByRecursion (Before whole) wholes × Ordered wholes

pairs_ordered : (wholes : List Placed) → AllPairs Before wholes → Ordered wholes
pairs_ordered [] pairs = tt
pairs_ordered (whole ∷ wholes) pairs = (
  recursion_from_All (Before whole) wholes (λ k d within. pairs 0 (suc k) d (omega arith) (omega (arith, within))),
  pairs_ordered wholes (λ i j d less within. pairs (suc i) (suc j) d (omega (arith, less)) (omega (arith, within))),
)

ids_ordered : (wholes : List Placed) → ComeInOrder (placed_ids wholes) → Ordered wholes
ids_ordered [] order = tt
ids_ordered (whole ∷ wholes) order = (all_unmap (Precedes whole.id) (λ (p : Placed). p.id) wholes order.0, ids_ordered wholes order.1)

filter_ordered : (p : Placed → Bool) (wholes : List Placed) → Ordered wholes → Ordered (filter p wholes)
filter_ordered p [] order = tt
filter_ordered p (whole ∷ wholes) order = go (p whole) (all_filter (Before whole) p wholes order.0) (filter_ordered p wholes order.1)
  where
    go : (b : Bool) → AllByRecursion (Before whole) (filter p wholes) → Ordered (filter p wholes) → Ordered (cond b (whole ∷ filter p wholes) (filter p wholes))
    go true first rest = (first, rest)
    go false first rest = rest

one_way : {X : Type 0} (a b : RecordId) → Precedes a b → Precedes b a → X
one_way a b (inl less) (inl more) = absurd (omega (arith, less, more))
one_way a b (inl less) (inr more) = let same = more.0 in absurd (omega (arith, less, same))
one_way a b (inr less) (inl more) = let same = less.0 in absurd (omega (arith, more, same))
one_way {X = X} a b (inr less) (inr more) = go less.1 more.1
  where
    go : (a.client.number < b.client.number) ⊎ ((a.client.number ≡ b.client.number) × (a.number < b.number)) → (b.client.number < a.client.number) ⊎ ((b.client.number ≡ a.client.number) × (b.number < a.number)) → X
    go (inl first) (inl second) = absurd (omega (arith, first, second))
    go (inl first) (inr second) = let same = second.0 in absurd (omega (arith, first, same))
    go (inr first) (inl second) = let same = first.0 in absurd (omega (arith, second, same))
    go (inr first) (inr second) = let one = first.1 in let other = second.1 in absurd (omega (arith, one, other))

-- two lists in order with the same records are the same
same_records : (xs ys : List Placed) → Ordered xs → Ordered ys → ((x : Placed) → IsIn xs x → IsIn ys x) → ((y : Placed) → IsIn ys y → IsIn xs y) → xs ≡ ys
same_records [] [] a b to from = refl
same_records [] (y ∷ ys) a b to from = none_in y (from y (is_first y y ys refl))
same_records (x ∷ xs) [] a b to from = none_in x (to x (is_first x x xs refl))
same_records (x ∷ xs) (y ∷ ys) a b to from = ap (λ z. z ∷ xs) same ∙ ap (λ rest. y ∷ rest) (same_records xs ys a.1 b.1 to_rest from_rest)
  where
    same : x ≡ y
    same =
        at_head y x ys (to x (is_first x x xs refl)) (λ is. sym is)
        (λ later. at_head x y xs (from y (is_first y y ys refl)) (λ is. is) (λ other. one_way x.id y.id (of_all (Before x) xs y a.0 other) (of_all (Before y) ys x b.0 later)))

    to_rest : (z : Placed) → IsIn xs z → IsIn ys z
    to_rest z h =
        at_head y z ys (to z (is_later x z xs h))
        (λ is. let before = of_all (Before x) xs z a.0 h in let back = subst (λ (w : Placed). Before x w) (sym is ∙ sym same) before in one_way x.id x.id back back) (λ later. later)

    from_rest : (z : Placed) → IsIn ys z → IsIn xs z
    from_rest z h =
        at_head x z xs (from z (is_later y z ys h))
        (λ is. let before = of_all (Before y) ys z b.0 h in let back = subst (λ (w : Placed). Before y w) (sym is ∙ same) before in one_way y.id y.id back back) (λ later. later)

-- ---- tests

ids_same : (a b : RecordId) → a ≡ b → is_same a b ≡ true
ids_same a b same =
    and_from (nat_eq a.client.node b.client.node && nat_eq a.client.number b.client.number) (nat_eq a.number b.number)
    (and_from (nat_eq a.client.node b.client.node) (nat_eq a.client.number b.client.number) (eq-eqb a.client.node b.client.node (ap (λ (i : RecordId). i.client.node) same))
    (eq-eqb a.client.number b.client.number (ap (λ (i : RecordId). i.client.number) same)))
    (eq-eqb a.number b.number (ap (λ (i : RecordId). i.number) same))

of_run : (client : ClientId) (trace : TraceId) (sheet : Sheet) → is_by client trace sheet ≡ true → (sheet.header.client ≡ client) × (sheet.header.trace ≡ trace)
of_run client trace sheet h =
    let outer = and_parts (nat_eq sheet.header.client.node client.node && nat_eq sheet.header.client.number client.number) (nat_eq sheet.header.trace.0 trace.0) h in
    let inner = and_parts (nat_eq sheet.header.client.node client.node) (nat_eq sheet.header.client.number client.number) outer.0 in (
      same_client sheet.header.client client (eqb-true sheet.header.client.node client.node inner.0) (eqb-true sheet.header.client.number client.number inner.1),
      same_trace sheet.header.trace trace outer.1,
    )

is_of_run : (client : ClientId) (trace : TraceId) (sheet : Sheet) → sheet.header.client ≡ client → sheet.header.trace ≡ trace → is_by client trace sheet ≡ true
is_of_run client trace sheet own its =
    and_from (nat_eq sheet.header.client.node client.node && nat_eq sheet.header.client.number client.number) (nat_eq sheet.header.trace.0 trace.0)
    (and_from (nat_eq sheet.header.client.node client.node) (nat_eq sheet.header.client.number client.number) (eq-eqb sheet.header.client.node client.node (ap (λ (c : ClientId). c.node) own))
    (eq-eqb sheet.header.client.number client.number (ap (λ (c : ClientId). c.number) own)))
    (eq-eqb sheet.header.trace.0 trace.0 (ap (λ (t : TraceId). t.0) its))

run_rises : (client : ClientId) (trace : TraceId) (sheets : List Sheet) → RunsRise sheets → Rise (filter (is_by client trace) sheets)
run_rises client trace [] rise = tt
run_rises client trace (sheet ∷ sheets) rise = go (is_by client trace sheet) refl (run_rises client trace sheets rise.1)
  where
    its : Sheet → Bool
    its s = is_by client trace s

    above : its sheet ≡ true → AllByRecursion (λ (later : Sheet). sheet.header.page < later.header.page) (filter (is_by client trace) sheets)
    above own =
        let here = of_run client trace sheet own in
        all_each_both (Above sheet) (λ (later : Sheet). is_by client trace later ≡ true) (λ (later : Sheet). sheet.header.page < later.header.page) (filter (is_by client trace) sheets)
        (λ later less passes. let there = of_run client trace later passes in less (there.0 ∙ sym here.0) (there.1 ∙ sym here.1)) (all_filter (Above sheet) (is_by client trace) sheets rise.0) (filter_passes (is_by client trace) sheets)

    go : (b : Bool) → its sheet ≡ b → Rise (filter (is_by client trace) sheets) → Rise (cond b (sheet ∷ filter (is_by client trace) sheets) (filter (is_by client trace) sheets))
    go true e rest = (above e, rest)
    go false e rest = rest

-- ---- where a piece stands

-- the piece of a page at this place
record IsPieceOf (client : ClientId) (first : ℕ) (pieces : List words.Piece) (placed : Placed) : Type 0 where
  at : ℕ
  low : at < length pieces
  is : placed.id ≡ record { client = client; number = first + at }

piece_at : (client : ClientId) (first : ℕ) (pieces : List words.Piece) (k : ℕ) (placed : Placed) → slice_get (pieces_from client first pieces) k ≡ Some placed → IsPieceOf client first pieces placed
piece_at client first [] k placed h = let no : None ≡ Some placed = h in absurd cc
piece_at client first (piece ∷ pieces) zero placed h =
    let zeroth : first ≡ first + 0 = omega arith in
    record {
      at = 0;
      low = omega arith;
      is = ap (λ (p : Placed). p.id) (sym (same_Some (record { id = record { client = client; number = first }; moment = piece.moment; payload = piece.payload }) placed h)) ∙ ap (λ n. record { client = client; number = n }) zeroth;
    }
piece_at client first (piece ∷ pieces) (suc k) placed h =
    let rest = piece_at client (first + 1) pieces k placed h in
    let low = rest.low in
    let more : first + 1 + rest.at ≡ first + suc rest.at = omega arith in
    record { at = suc rest.at; low = omega (arith, low); is = rest.is ∙ ap (λ n. record { client = client; number = n }) more }

below_or_not : (a b : ℕ) → (a ≤ b) ⊎ (b < a)
below_or_not a b = either (compare a b)
  where
    either : (a < b) ⊎ ((a ≡ b) ⊎ (b < a)) → (a ≤ b) ⊎ (b < a)
    either (inl less) = inl (omega (arith, less))
    either (inr (inl same)) = inl (omega (arith, same))
    either (inr (inr more)) = inr more

-- ---- a list that has a first item

first_of : {X Y : Type 0} (f : X → Y) (xs : List X) → 1 ≤ length xs → (x : X) × (slice_get (map f xs) 0 ≡ Some (f x))
first_of f [] some = absurd (omega (arith, some))
first_of f (x ∷ xs) some = (x, refl)

-- ---- the records of a journal

module _ (plays : FollowingPlaysOut) (runs : RunsAreOfTheJournal) (timed : TimedPagesAreThePages) (drawn : TakenPagesWereDrawn) (risen : TakenPagesRise) (clients_rise : ClientsPagesRise) (comes : AgentsComeByEvents)
    (carried : PagesCarryTheRecords) (held : PagesHoldThePieces) (join : (size : ℕ) (payload : List ℕ) → concat (payload_pieces size payload) ≡ payload)
    (counted : (size : ℕ) (payload : List ℕ) → length (payload_pieces size payload) ≡ piece_count size (length payload)) (have_all : ReportedRecordsHaveAllPages) (named : EachRecordHasOneEntry) (W : PlainWorkload) (J : PlainJournal)
    (ends : EndsItsTraces W) (laid : HasItsClients W) (lawful : IsLawful W J)
  where
    abbrev reported : List Sheet
    reported = (outcome_of W J).reported

    abbrev entries : List Entry
    entries = (outcome_of W J).entries

    abbrev size : ℕ
    size = W.settings.size

    abbrev ops_of : ClientId → List Operation
    ops_of client = operations_at W (place_of W.settings.clients client.node client.number)

    brackets : (client : ClientId) → AreBracketed false (ops_of client)
    brackets client = ends_at W.clients (place_of W.settings.clients client.node client.number) ends.ends

    rising : RunsRise reported
    rising = reported_rise plays runs timed drawn risen clients_rise comes W J ends

    paged : AllByRecursion (IsClientsPage W) reported
    paged = reported_paged plays runs timed drawn W J ends

    known : AllByRecursion (λ (e : Entry). IsKnown W (name_of e)) entries
    known = all_unmap (IsKnown W) name_of entries (subst (AllByRecursion (IsKnown W)) (sym (named W J ends lawful.L1)) (all_known W))

    -- a reported record with its trace
    module _ (entry : Entry) (among : IsIn entries entry) (shown : is_reported entry.fate ≡ true) where
      abbrev client : ClientId
      client = entry.id.client

      abbrev n : ℕ
      n = entry.id.number

      abbrev pages : List PlainPage
      pages = pages_of size (ops_of client)

      known_record : IsKnown W (name_of entry)
      known_record = of_all (λ (e : Entry). IsKnown W (name_of e)) entries entry known among

      abbrev r : Record
      r = known_record.known

      there : slice_get (records_of (ops_of client)) n ≡ Some r
      there = known_record.there

      abbrev whole : Placed
      whole = record { id = entry.id; moment = r.moment; payload = r.payload }

      is_whole : whole_of W entry ≡ Some whole
      is_whole = ap (option_map (λ (r : Record). record { id = entry.id; moment = r.moment; payload = r.payload })) known_record.there

      all_pages : HasAllItsPages W reported entry
      all_pages = of_all (λ (entry : Entry). is_reported entry.fate ≡ true → HasAllItsPages W reported entry) entries entry (have_all W J ends laid lawful) among shown

      abbrev run : List Sheet
      run = filter (is_by client entry.trace) reported

      trace_is : (at : ℕ) (page : PlainPage) → slice_get pages at ≡ Some page → first_record page ≤ n → n < end_of page → page.trace ≡ entry.trace
      trace_is at page h low high =
          same_Some page.trace entry.trace
          (sym (trace_on carried size (ops_of client) ends.size (brackets client) at n page h low high) ∙ ap (option_map (λ (r : Record). r.trace)) there ∙ ap Some known_record.traced)

      own_page : (sheet : Sheet) → IsClientsPage W sheet → is_by client entry.trace sheet ≡ true → IsPage client 0 pages sheet
      own_page sheet p its =
          let own = (of_run client entry.trace sheet its).0 in
          let zeroth : sheet.header.page ≡ 0 + sheet.header.page = omega arith in
          record {
            at = sheet.header.page;
            page = p.page;
            there = subst (λ (c : ClientId). slice_get (pages_of size (ops_of c)) sheet.header.page ≡ Some p.page) own p.there;
            is = p.is ∙ ap (λ (c : ClientId). sheet_for c sheet.header.page p.page) own ∙ ap (λ k. sheet_for client k p.page) zeroth;
          }

      own_pages : AllByRecursion (IsPage client 0 pages) run
      own_pages =
          all_each_both (IsClientsPage W) (λ (sheet : Sheet). is_by client entry.trace sheet ≡ true) (IsPage client 0 pages) run own_page (all_filter (IsClientsPage W) (is_by client entry.trace) reported paged)
          (filter_passes (is_by client entry.trace) reported)

      has_page : (at : ℕ) (page : PlainPage) → slice_get pages at ≡ Some page → (own_pieces entry.id (sheet_for client (0 + at) page) ≡ []) ⊎ IsIn run (sheet_for client (0 + at) page)
      has_page at page h = either (below_or_not (first_record page) n) (below_or_not (n + 1) (end_of page))
        where
          inside : first_record page ≤ n → n < end_of page → IsIn run (sheet_for client (0 + at) page)
          inside low high =
              let zeroth : at ≡ 0 + at = omega arith in
              let is_in = from_contained reported (sheet_for client at page) (all_pages at page h low high) in
              in_filter (is_by client entry.trace) reported (sheet_for client (0 + at) page) (subst (λ k. IsIn reported (sheet_for client k page)) zeroth is_in)
              (is_of_run client entry.trace (sheet_for client (0 + at) page) refl (trace_is at page h low high))

          either : (first_record page ≤ n) ⊎ (n < first_record page) → (n + 1 ≤ end_of page) ⊎ (end_of page < n + 1) → (own_pieces entry.id (sheet_for client (0 + at) page) ≡ []) ⊎ IsIn run (sheet_for client (0 + at) page)
          either (inr below) other = inl (outside_page client n (0 + at) page (inl below))
          either (inl low) (inr beyond) = inl (outside_page client n (0 + at) page (inr (omega (arith, beyond))))
          either (inl low) (inl high) = inr (inside low (omega (arith, high)))

      -- the pieces of the record on the reported pages of its trace
      pieces_are : filter (is_piece_of entry.id) (pieces_of entry.trace reported) ≡ map (placed_as client) (record_pieces size n r.moment r.payload)
      pieces_are =
          by_page entry.id (filter (is_page_of entry.trace) reported)
          ∙ by_run entry.id entry.trace reported
          ∙ same_as_all (own_pieces entry.id) client 0 pages run (run_rises client entry.trace reported rising) own_pages has_page
          ∙ sym (by_page entry.id (sheets_from client 0 pages))
          ∙ on_all_pages (traces_of (records_of (ops_of client))) client size n pages (records_of (ops_of client)) r (carried size (ops_of client) ends.size (brackets client)).each
          (held size (ops_of client) ends.size (brackets client)) there

      some_pieces : 1 ≤ length (record_pieces size n r.moment r.payload)
      some_pieces =
          let mapped : length (record_pieces size n r.moment r.payload) ≡ length (payload_pieces size r.payload) = length-map (payload_pieces size r.payload) (λ bytes. record { number = n; moment = r.moment; payload = bytes }) in
          let count = counted size r.payload in
          omega (arith, mapped, count)

      -- a record that is joined of them is the whole one
      joined_is : (w : Placed) → IsWhole (pieces_of entry.trace reported) w → w.id ≡ entry.id → w ≡ whole
      joined_is w is same =
          let pieces = pieces_of entry.trace reported in
          let own : filter (is_piece_of w.id) pieces ≡ map (placed_as client) (record_pieces size n r.moment r.payload) = ap (λ id. filter (is_piece_of id) pieces) same ∙ pieces_are in
          let payload : w.payload ≡ r.payload =
          is.payload ∙ ap (flat_map (λ (piece : Placed). piece.payload)) own ∙ joined_payload client n r.moment (payload_pieces size r.payload) ∙ join size r.payload
          in
          let moment : w.moment ≡ r.moment =
          same_Some w.moment r.moment
          (sym is.moment ∙ ap (option_map (λ (first : Placed). first.moment)) (find_first (is_piece_of w.id) pieces ∙ ap (λ ps. slice_get ps 0) own) ∙ first_moment (payload_pieces size r.payload) (counted_some r.payload))
          in
          ap (λ id. record { id = id; moment = w.moment; payload = w.payload }) same
          ∙ ap (λ m. record { id = entry.id; moment = m; payload = w.payload }) moment
          ∙ ap (λ p. record { id = entry.id; moment = r.moment; payload = p }) payload
        where
          counted_some : (payload : List ℕ) → 1 ≤ length (payload_pieces size payload)
          counted_some payload = let count = counted size payload in omega (arith, count)

          first_moment : (parts : List (List ℕ)) → 1 ≤ length parts
              → option_map (λ (first : Placed). first.moment) (slice_get (map (placed_as client) (map (λ bytes. record { number = n; moment = r.moment; payload = bytes }) parts)) 0) ≡ Some r.moment
          first_moment [] some = absurd (omega (arith, some))
          first_moment (bytes ∷ parts) some = refl

      -- and one is joined
      is_joined : (wholes : List Placed) → AreWholes (pieces_of entry.trace reported) wholes → IsIn wholes whole
      is_joined wholes are =
          let pieces = pieces_of entry.trace reported in
          let first = first_of (placed_as client) (record_pieces size n r.moment r.payload) some_pieces in
          let kept : IsIn (filter (is_piece_of entry.id) pieces) (placed_as client first.0) = record { place = 0; there = ap (λ ps. slice_get ps 0) pieces_are ∙ first.1 } in
          let q = from_filter (is_piece_of entry.id) pieces (placed_as client first.0) kept in
          let any = of_all (λ piece. Any (λ whole. whole.id ≡ piece.id) wholes) pieces (placed_as client first.0) (recursion_from_All (λ piece. Any (λ whole. whole.id ≡ piece.id) wholes) pieces are.all) q.0 in
          let w = any.1 in
          let here : IsIn wholes w = from_contained wholes w (any.0, any.2, any.3) in
          let whole_is = of_all (IsWhole pieces) wholes w (recursion_from_All (IsWhole pieces) wholes are.each) here in
          let same : w.id ≡ entry.id = any.4 ∙ sym (same_ids entry.id (placed_as client first.0).id q.1) in
          subst (IsIn wholes) (joined_is w whole_is same) here

    -- ---- the two lists

    module _ (trace : TraceId) (wholes : List Placed) (are : AreWholes (pieces_of trace reported) wholes) where
      abbrev its : Entry → Bool
      its entry = is_of trace entry && is_reported entry.fate

      abbrev records : List Placed
      records = (report_of W entries trace).records

      abbrev left : List Placed
      left = reported_wholes entries wholes

      from_report : (x : Placed) → IsIn records x → IsIn left x
      from_report x h =
          let e = from_filter_map (whole_of W) (filter its entries) x h in
          let entry = e.0 in
          let f = from_filter its entries entry e.1 in
          let parts = and_parts (is_of trace entry) (is_reported entry.fate) f.1 in
          let same : entry.trace ≡ trace = same_trace entry.trace trace parts.0 in
          let is : whole entry f.0 parts.1 ≡ x = same_Some (whole entry f.0 parts.1) x (sym (is_whole entry f.0 parts.1) ∙ e.2) in
          let here : IsIn wholes x = subst (IsIn wholes) is (is_joined entry f.0 parts.1 wholes (subst (λ (t : TraceId). AreWholes (pieces_of t reported) wholes) (sym same) are)) in
          in_filter (λ (w : Placed). was_reported entries w.id) wholes x here
          (to_any (λ (other : Entry). is_same other.id x.id && is_reported other.fate) entries entry f.0
          (and_from (is_same entry.id x.id) (is_reported entry.fate) (ids_same entry.id x.id (ap (λ (w : Placed). w.id) is)) parts.1))

      -- a record of which the trace has a piece is of the trace
      traced : (entry : Entry) → IsIn entries entry → is_reported entry.fate ≡ true → (x : Placed) → IsWhole (pieces_of trace reported) x → entry.id ≡ x.id → entry.trace ≡ trace
      traced entry among shown x is same = by_first (find (is_piece_of x.id) (pieces_of trace reported)) refl is.moment
        where
          by_piece : (piece : Placed) → find (is_piece_of x.id) (pieces_of trace reported) ≡ Some piece → entry.trace ≡ trace
          by_piece piece found =
              let f = from_find (is_piece_of x.id) (pieces_of trace reported) piece found in
              let p = in_parts page_pieces (filter (is_page_of trace) reported) f.0.place piece f.0.there in
              let s = from_filter (is_page_of trace) reported p.part (record { place = p.at; there = p.part_there }) in
              let sheet = p.part in
              let page = of_all (IsClientsPage W) reported sheet paged s.0 in
              let at = piece_at sheet.header.client sheet.header.first sheet.pieces p.place piece p.there in
              let id : entry.id ≡ record { client = sheet.header.client; number = sheet.header.first + at.at } = same ∙ same_ids x.id piece.id f.1 ∙ at.is in
              let own : sheet.header.client ≡ entry.id.client = ap (λ (i : RecordId). i.client) (sym id) in
              let number : entry.id.number ≡ sheet.header.first + at.at = ap (λ (i : RecordId). i.number) id in
              let first : sheet.header.first ≡ first_record page.page = ap (λ (s : Sheet). s.header.first) page.is in
              let count : length sheet.pieces ≡ length page.page.pieces = ap (λ (s : Sheet). length s.pieces) page.is ∙ length-map page.page.pieces written in
              let low = at.low in
              let page_there = subst (λ (c : ClientId). slice_get (pages_of size (ops_of c)) sheet.header.page ≡ Some page.page) own page.there in
              sym (trace_is entry among shown sheet.header.page page.page page_there (omega (arith, number, first)) (omega (arith, number, first, count, low)))
              ∙ ap (λ (s : Sheet). s.header.trace) (sym page.is)
              ∙ same_trace sheet.header.trace trace s.1

          by_first : (o : Option Placed) → find (is_piece_of x.id) (pieces_of trace reported) ≡ o → option_map (λ (first : Placed). first.moment) o ≡ Some x.moment → entry.trace ≡ trace
          by_first None e h = let no : None ≡ Some x.moment = h in absurd cc
          by_first (Some piece) e h = by_piece piece e

      to_report : (x : Placed) → IsIn left x → IsIn records x
      to_report x h =
          let f = from_filter (λ (w : Placed). was_reported entries w.id) wholes x h in
          let e = from_any (λ (other : Entry). is_same other.id x.id && is_reported other.fate) entries f.1 in
          let entry = e.0 in
          let parts = and_parts (is_same entry.id x.id) (is_reported entry.fate) e.2 in
          let id = same_ids entry.id x.id parts.0 in
          let is = of_all (IsWhole (pieces_of trace reported)) wholes x (recursion_from_All (IsWhole (pieces_of trace reported)) wholes are.each) f.0 in
          let same = traced entry e.1 parts.1 x is id in
          let joined = joined_is entry e.1 parts.1 x (subst (λ (t : TraceId). IsWhole (pieces_of t reported) x) (sym same) is) (sym id) in
          in_filter_map (whole_of W) (filter its entries) entry x
          (in_filter its entries entry e.1 (and_from (is_of trace entry) (is_reported entry.fate) (eq-eqb entry.trace.0 trace.0 (ap (λ (t : TraceId). t.0) same)) parts.1))
          (is_whole entry e.1 parts.1 ∙ ap Some (sym joined))

      both_same : left ≡ records
      both_same =
          same_records left records (filter_ordered (λ (w : Placed). was_reported entries w.id) wholes (pairs_ordered wholes are.ordered))
          (ids_ordered records (shows W trace entries (named W J ends lawful.L1)).records_in_order) to_report from_report

pub collected_records_are_whole : FollowingPlaysOut → RunsAreOfTheJournal → TimedPagesAreThePages → TakenPagesWereDrawn → TakenPagesRise → ClientsPagesRise → AgentsComeByEvents → PagesCarryTheRecords → PagesHoldThePieces
    → ((size : ℕ) (payload : List ℕ) → concat (payload_pieces size payload) ≡ payload) → ((size : ℕ) (payload : List ℕ) → length (payload_pieces size payload) ≡ piece_count size (length payload))
    → ReportedRecordsHaveAllPages → EachRecordHasOneEntry
    → ((sheets others : List Sheet) (trace : TraceId) (wholes : List Placed) → KeepsRuns sheets others → AreWholes (pieces_of trace sheets) wholes → AreWholes (pieces_of trace others) wholes) → CollectedRecordsAreWhole
collected_records_are_whole plays runs timed drawn risen clients_rise comes carried held join counted have_all named decide W J sheets trace wholes ends laid lawful kept are =
    both_same plays runs timed drawn risen clients_rise comes carried held join counted have_all named W J ends laid lawful trace wholes
    (decide sheets (outcome_of W J).reported trace wholes (λ client trace. sym (kept client trace)) are)
