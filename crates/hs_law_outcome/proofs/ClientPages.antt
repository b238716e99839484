-- The pages of a client carry the pieces of its records, with their traces and moments. None goes past the last record, and a later
-- page goes on behind an earlier one: with a later record, or with that page's last one, whose moment is the same.
use Rattle.std.proofs.Common.{◌≡◌, ◌⊎◌, inl, inr, ℕ, zero, suc, ◌+◌, ◌<◌, ◌≤◌, false, List, [], ◌∷◌, length, sym, ap, subst, ◌∙◌, Option, Some, None, arith, map, option_map, slice_get, eq-or-lt_of_le}
use Rattle.hs_law_outcome.proofs.Prelude.{AllByRecursion, length-map, same_Some, all_append, all_front, all_back, all_at, ClientId, TraceId, MIN_SIZE, written, sheet_for, GoesOn, Traces, RiseFrom, CarriesRecords, AllFollow, end_of, end_from, traces_of, pieces_of_records, pieces_on, PagesHoldThePieces, PlainPage, first_record, pages_of, Operation, AreBracketed, Piece, Record, payload_pieces, records_of}
use Rattle.std.specs.List.{last_or}
use Rattle.hs_collect.specs.Collected.{first_moment, last_moment}
use Rattle.hs_words.specs.Pages as words
use Rattle.hs_law_outcome.proofs.Entries.{PagesCarryTheRecords, piece_traced, follow_first}

-- ---- where pages end

abbrev Near : PlainPage → ℕ → TraceId → Type 0
Near page next trace = (first_record page ≡ next) ⊎ ((page.trace ≡ trace) × (first_record page + 1 ≡ next))

near : (page : PlainPage) (next : ℕ) (trace : TraceId) → Near page next trace → (first_record page ≤ next) × (next ≤ first_record page + 1)
near page next trace (inl same) = (omega (arith, same), omega (arith, same))
near page next trace (inr goes) = let one = goes.1 in (omega (arith, one), omega (arith, one))

module _ (traces : Traces) where
  next_below : (page : PlainPage) (next : ℕ) (trace : TraceId) → Near page next trace → CarriesRecords traces page → next ≤ end_of page
  next_below page next trace follow carries = let close = (near page next trace follow).1 in let some = carries.some in omega (arith, close, some)

  ends_rise : (next : ℕ) (trace : TraceId) (pages : List PlainPage) → AllFollow next trace pages → AllByRecursion (CarriesRecords traces) pages → next ≤ end_from next pages
  ends_rise next trace [] follow each = omega arith
  ends_rise next trace (page ∷ pages) follow each =
      let below = next_below page next trace follow.0 each.0 in let rest = ends_rise (end_of page) page.trace pages follow.1 each.1 in omega (arith, below, rest)

  page_ends : (next : ℕ) (trace : TraceId) (pages : List PlainPage) (i : ℕ) (page : PlainPage) → AllFollow next trace pages → AllByRecursion (CarriesRecords traces) pages → slice_get pages i ≡ Some page
      → end_of page ≤ end_from next pages
  page_ends next trace [] i page follow each h = let no : None ≡ Some page = h in absurd cc
  page_ends next trace (p ∷ pages) zero page follow each h = subst (λ (q : PlainPage). end_of q ≤ end_from (end_of p) pages) (same_Some p page h) (ends_rise (end_of p) p.trace pages follow.1 each.1)
  page_ends next trace (p ∷ pages) (suc i) page follow each h = page_ends (end_of p) p.trace pages i page follow.1 each.1 h

  behind_next : (next : ℕ) (trace : TraceId) (pages : List PlainPage) (i : ℕ) (page : PlainPage) → AllFollow next trace pages → AllByRecursion (CarriesRecords traces) pages → slice_get pages i ≡ Some page
      → next ≤ first_record page + 1
  behind_next next trace [] i page follow each h = let no : None ≡ Some page = h in absurd cc
  behind_next next trace (p ∷ pages) zero page follow each h = subst (λ (q : PlainPage). next ≤ first_record q + 1) (same_Some p page h) (near p next trace follow.0).1
  behind_next next trace (p ∷ pages) (suc i) page follow each h =
      let below = next_below p next trace follow.0 each.0 in let rest = behind_next (end_of p) p.trace pages i page follow.1 each.1 h in omega (arith, below, rest)

  later_behind : (next : ℕ) (trace : TraceId) (pages : List PlainPage) (i j : ℕ) (a b : PlainPage) → AllFollow next trace pages → AllByRecursion (CarriesRecords traces) pages → i < j
      → slice_get pages i ≡ Some a → slice_get pages j ≡ Some b → end_of a ≤ first_record b + 1
  later_behind next trace [] i j a b follow each less h g = let no : None ≡ Some a = h in absurd cc
  later_behind next trace (p ∷ pages) i zero a b follow each less h g = absurd (omega (arith, less))
  later_behind next trace (p ∷ pages) zero (suc j) a b follow each less h g =
      subst (λ (q : PlainPage). end_of q ≤ first_record b + 1) (same_Some p a h) (behind_next (end_of p) p.trace pages j b follow.1 each.1 g)
  later_behind next trace (p ∷ pages) (suc i) (suc j) a b follow each less h g = later_behind (end_of p) p.trace pages i j a b follow.1 each.1 (omega (arith, less)) h g

-- ---- moments

-- the moment of the record of each number
abbrev Moments : Type 0
Moments = ℕ → Option ℕ

abbrev moments_of : List Record → Moments
moments_of records number = option_map (λ (r : Record). r.moment) (slice_get records number)

abbrev IsTimed : Moments → Piece → Type 0
IsTimed moments piece = moments piece.number ≡ Some piece.moment

module _ (moments : Moments) where
  of_record : (number moment : ℕ) (parts : List (List ℕ)) → moments number ≡ Some moment → AllByRecursion (IsTimed moments) (map (λ bytes. record { number = number; moment = moment; payload = bytes }) parts)
  of_record number moment [] is = tt
  of_record number moment (bytes ∷ parts) is = (is, of_record number moment parts is)

  of_records : (size start : ℕ) (records : List Record) → ((i : ℕ) → moments (start + i) ≡ option_map (λ (r : Record). r.moment) (slice_get records i)) → AllByRecursion (IsTimed moments) (pieces_of_records size start records)
  of_records size start [] agree = tt
  of_records size start (r ∷ records) agree =
      let here : start ≡ start + 0 = omega arith in
      all_append (IsTimed moments) (map (λ bytes. record { number = start; moment = r.moment; payload = bytes }) (payload_pieces size r.payload)) (pieces_of_records size (start + 1) records)
      (of_record start r.moment (payload_pieces size r.payload) (ap moments here ∙ agree 0))
      (of_records size (start + 1) records (λ i. let more : start + 1 + i ≡ start + suc i = omega arith in ap moments more ∙ agree (suc i)))

  first_is : (first : ℕ) (pieces : List Piece) → 1 ≤ length pieces → RiseFrom first pieces → AllByRecursion (IsTimed moments) pieces
      → option_map (λ (piece : words.Piece). piece.moment) (slice_get (map written pieces) 0) ≡ moments first
  first_is first [] some rises timed = absurd (omega (arith, some))
  first_is first (piece ∷ pieces) some rises timed = sym timed.0 ∙ ap moments rises.0

  last_behind : (n : ℕ) (piece : Piece) (pieces : List Piece) → IsTimed moments piece → RiseFrom (piece.number + 1) pieces → AllByRecursion (IsTimed moments) pieces → piece.number + 1 + length pieces ≡ n + 1
      → option_map (λ (piece : words.Piece). piece.moment) (last_or (Some (written piece)) (map written pieces)) ≡ moments n
  last_behind n piece [] timed rises each ends = let here : piece.number ≡ n = omega (arith, ends) in sym timed ∙ ap moments here
  last_behind n piece (next ∷ pieces) timed rises each ends =
      let number = rises.0 in
      last_behind n next pieces each.0 (subst (λ k. RiseFrom (k + 1) pieces) (sym number) rises.1) each.1 (omega (arith, ends, number))

  last_is : (n first : ℕ) (pieces : List Piece) → 1 ≤ length pieces → RiseFrom first pieces → AllByRecursion (IsTimed moments) pieces → first + length pieces ≡ n + 1
      → option_map (λ (piece : words.Piece). piece.moment) (last_or None (map written pieces)) ≡ moments n
  last_is n first [] some rises timed ends = absurd (omega (arith, some))
  last_is n first (piece ∷ pieces) some rises timed ends =
      let number = rises.0 in last_behind n piece pieces timed.0 (subst (λ k. RiseFrom (k + 1) pieces) (sym number) rises.1) timed.1 (omega (arith, ends, number))

-- what holds of all pieces on pages holds of those of each page
by_page : (P : Piece → Type 0) (pages : List PlainPage) (i : ℕ) (page : PlainPage) → AllByRecursion P (pieces_on pages) → slice_get pages i ≡ Some page → AllByRecursion P page.pieces
by_page P [] i page all h = let no : None ≡ Some page = h in absurd cc
by_page P (p ∷ pages) zero page all h = subst (λ (q : PlainPage). AllByRecursion P q.pieces) (same_Some p page h) (all_front P p.pieces (pieces_on pages) all)
by_page P (p ∷ pages) (suc i) page all h = by_page P pages i page (all_back P p.pieces (pieces_on pages) all) h

-- ---- the pages of a client

module _ (carried : PagesCarryTheRecords) (size : ℕ) (ops : List Operation) (least : MIN_SIZE ≤ size) (brackets : AreBracketed false ops) where
  abbrev pages : List PlainPage
  pages = pages_of size ops

  abbrev records : List Record
  records = records_of ops

  no_trace : TraceId
  no_trace = record { 0 = 0 }

  follow : AllFollow 0 no_trace pages
  follow = follow_first no_trace pages (carried size ops least brackets).numbered

  pub page_carries : (i : ℕ) (page : PlainPage) → slice_get pages i ≡ Some page → CarriesRecords (traces_of records) page
  page_carries i page h = all_at (CarriesRecords (traces_of records)) pages i page (carried size ops least brackets).each h

  -- no page goes past the last record
  pub ends_within : (i : ℕ) (page : PlainPage) → slice_get pages i ≡ Some page → end_of page ≤ length records
  ends_within i page h =
      let carry = carried size ops least brackets in
      subst (λ n. end_of page ≤ n) carry.ends (page_ends (traces_of records) 0 no_trace pages i page follow carry.each h)

  -- a page with a piece of a record has that record's trace
  pub trace_on : (i n : ℕ) (page : PlainPage) → slice_get pages i ≡ Some page → first_record page ≤ n → n < end_of page → traces_of records n ≡ Some page.trace
  trace_on i n page h low high =
      let carries = page_carries i page h in piece_traced (traces_of records) page.trace n (first_record page) page.pieces carries.rises carries.traced low high

  module _ (held : PagesHoldThePieces) where
    all_timed : AllByRecursion (IsTimed (moments_of records)) (pieces_on pages)
    all_timed =
        subst (AllByRecursion (IsTimed (moments_of records))) (sym (held size ops least brackets))
        (of_records (moments_of records) size 0 records (λ i. let here : 0 + i ≡ i = omega arith in ap (moments_of records) here))

    page_timed : (i : ℕ) (page : PlainPage) → slice_get pages i ≡ Some page → AllByRecursion (IsTimed (moments_of records)) page.pieces
    page_timed i page h = by_page (IsTimed (moments_of records)) pages i page all_timed h

    same_moment : (client : ClientId) (i j : ℕ) (a b : PlainPage) → slice_get pages i ≡ Some a → slice_get pages j ≡ Some b → end_of a ≡ first_record b + 1
        → last_moment (sheet_for client i a) ≡ first_moment (sheet_for client j b)
    same_moment client i j a b h g joins =
        let one = page_carries i a h in
        let two = page_carries j b g in
        last_is (moments_of records) (first_record b) (first_record a) a.pieces one.some one.rises (page_timed i a h) joins
        ∙ sym (first_is (moments_of records) (first_record b) b.pieces two.some two.rises (page_timed j b g))

    -- a later page goes on behind an earlier one
    pub goes_on : (client : ClientId) (i j : ℕ) (a b : PlainPage) → i < j → slice_get pages i ≡ Some a → slice_get pages j ≡ Some b → GoesOn (sheet_for client i a) (sheet_for client j b)
    goes_on client i j a b less h g =
        either (eq-or-lt_of_le (later_behind (traces_of records) 0 no_trace pages i j a b follow (carried size ops least brackets).each less h g))
      where
        written_all : length (map written a.pieces) ≡ length a.pieces
        written_all = length-map a.pieces written

        either : (end_of a ≡ first_record b + 1) ⊎ (end_of a < first_record b + 1) → GoesOn (sheet_for client i a) (sheet_for client j b)
        either (inl joins) = let count = written_all in inr (omega (arith, count, joins), same_moment client i j a b h g joins)
        either (inr apart) = let count = written_all in inl (omega (arith, count, apart))
