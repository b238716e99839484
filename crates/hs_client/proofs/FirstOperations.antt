-- The pages of a client, cut before an operation: those of the segments that were ended before it were sent, the segment that is open
-- there has its pages so far, and all other pages are started later.
use Rattle.std.proofs.Common.{◌≡◌, ◌⊎◌, inl, inr, ⊎_elim, ℕ, zero, suc, ◌+◌, ◌<◌, ◌≤◌, Bool, true, false, cond, leb, List, [], ◌∷◌, ◌++◌, length, refl, sym, ap, subst, ◌∙◌, Option, Some, None, arith, map, take, drop, get_or, append_assoc, length-append}
use Rattle.hs_client.proofs.Prelude.{AllByRecursion, flat_map, append-nil, all_append, TraceId, MIN_SIZE, CarryRecords, CarriesRecords, traces_of, PlainPage, segment_pages, pages_of, Operation, Begin, Point, Crumb, End, Fire, Sample, Piece, Segment, AreBracketed, numbered_from, payload_pieces, pieces_until_end, records_of, segments_from, IsTimely, has_open_page, FirstOperationsSend, TimedPage, point_numbers, timed, timed_pages}
use Rattle.hs_records.specs.Records.{cut_within, piece_limit, record_pieces}
use Rattle.hs_client.proofs.Cutting.{Early, Late, Cut, behind_early, before_late, all_late, started_count, sent_are, has_some, cut_runs}
use Rattle.hs_client.proofs.Timed.{page_in, page_each}
use Rattle.hs_client.proofs.Timely.{HasPieces, Rise, sooner, highest, runs_timely, same_point, points_in, ends_in, get_behind, all_pages, Points, Full, full_parts, closed, opened}

-- ---- pages in time

late_all : (n from to : ℕ) (pages : List TimedPage) → n ≤ from → IsTimely from to pages → AllByRecursion (Late n) pages
late_all n from to [] low h = tt
late_all n from to (page ∷ pages) low h =
    let a = h.0 in
    let b = h.1 in
    ((omega (arith, low, a), omega (arith, low, a, b)), late_all n page.sent to pages (omega (arith, low, a, b)) h.3)

early_all : (n from to : ℕ) (pages : List TimedPage) → to ≤ n → IsTimely from to pages → AllByRecursion (Early n) pages
early_all n from to [] low h = tt
early_all n from to (page ∷ pages) low h =
    let b = h.1 in
    let c = h.2 in
    ((omega (arith, low, b, c), omega (arith, low, c)), early_all n page.sent to pages low h.3)

-- ---- pieces

cut_some : (most limit : ℕ) (payload : List ℕ) → 1 ≤ length (cut_within most limit payload)
cut_some zero limit payload = omega arith
cut_some (suc most) limit payload = either (leb (length payload) limit) (cut_within most limit (drop limit payload))
  where
    either : (b : Bool) (more : List (List ℕ)) → 1 ≤ length {A = List ℕ} (elim b as (λ _. List (List ℕ)) [ true ↦ payload ∷ [] | false ↦ take limit payload ∷ more ])
    either true more = omega arith
    either false more = omega arith

some_pieces : (pieces more : List Piece) → 1 ≤ length pieces → has_some (pieces ++ more) ≡ true
some_pieces [] more some = absurd (omega (arith, some))
some_pieces (piece ∷ pieces) more some = refl

module _ (points : List ℕ) (n : ℕ) where
  abbrev at : Piece → ℕ
  at piece = get_or points piece.number 0

  highs_in : (from to : ℕ) (pieces : List Piece) → n ≤ from → Rise points from to pieces → AllByRecursion (λ piece. n ≤ at piece) pieces
  highs_in from to [] low h = tt
  highs_in from to (piece ∷ pieces) low h = let a = h.0 in (omega (arith, low, a), highs_in (at piece) to pieces (omega (arith, low, a)) h.1)

  lows_in : (number r moment : ℕ) (payloads : List (List ℕ)) → get_or points r 0 ≡ number → number < n → AllByRecursion (λ piece. at piece < n) (map (λ bytes. record { number = r; moment = moment; payload = bytes }) payloads)
  lows_in number r moment [] is low = tt
  lows_in number r moment (bytes ∷ payloads) is low = (omega (arith, is, low), lows_in number r moment payloads is low)

-- ---- operations

module _ (n size : ℕ) (points : List ℕ) where
  abbrev pages_in : List Segment → List PlainPage
  pages_in segments = flat_map (segment_pages size) segments

  abbrev LowPiece : Piece → Type 0
  LowPiece piece = get_or points piece.number 0 < n

  abbrev HighPiece : Piece → Type 0
  HighPiece piece = n ≤ get_or points piece.number 0

  -- A trace that is open stays open: its end is still to come. Beside the pieces and the segments of all operations are those so far.
  record StaysOpen (is flag : Bool) (all_ends : List ℕ) (whole front : List Piece) (segments front_segments : List Segment) : Type 0 where
    end : ℕ
    ends : List ℕ
    ends_are : all_ends ≡ end ∷ ends
    is_late : n ≤ end
    more : List Piece
    whole_is : whole ≡ front ++ more
    lows : AllByRecursion LowPiece front
    highs : AllByRecursion HighPiece more
    none : front_segments ≡ []
    later : AllByRecursion (Late n) (all_pages size points ends segments)
    flag_is : flag ≡ cond is true (has_some front)

  -- The trace is ended.
  record Closes (number : ℕ) (flag : Bool) (all_ends : List ℕ) (whole front : List Piece) (segments front_segments : List Segment) : Type 0 where
    end : ℕ
    ends : List ℕ
    ends_are : all_ends ≡ end ∷ ends
    soon : end < n
    same : whole ≡ front
    rises : Rise points number end whole
    later : Cut n flag (all_pages size points ends segments) (pages_in front_segments)

  abbrev EndsOrStays : ℕ → (is flag : Bool) → List ℕ → (whole front : List Piece) → (segments front_segments : List Segment) → Type 0
  EndsOrStays number is flag all_ends whole front segments front_segments =
      StaysOpen is flag all_ends whole front segments front_segments ⊎ Closes number flag all_ends whole front segments front_segments

  -- from an operation that adds no piece
  one_back : (number : ℕ) (is flag : Bool) (all_ends : List ℕ) (whole front : List Piece) (segments front_segments : List Segment)
      → EndsOrStays (number + 1) is flag all_ends whole front segments front_segments → EndsOrStays number is flag all_ends whole front segments front_segments
  one_back number is flag all_ends whole front segments front_segments h =
      ⊎_elim (λ stays. inl stays)
      (λ c.
      let low : number ≤ number + 1 = omega arith in
      inr (record { end = c.end; ends = c.ends; ends_are = c.ends_are; soon = c.soon; same = c.same; rises = sooner points number (number + 1) c.end whole low c.rises; later = c.later })) h

  -- from a point with these pieces
  point_back : (number r moment : ℕ) (payload : List ℕ) (is flag : Bool) (all_ends : List ℕ) (whole front : List Piece) (segments front_segments : List Segment) → get_or points r 0 ≡ number → number < n
      → EndsOrStays (number + 1) true flag all_ends whole front segments front_segments
      → EndsOrStays number is flag all_ends (record_pieces size r moment payload ++ whole) (record_pieces size r moment payload ++ front) segments front_segments
  point_back number r moment payload is flag all_ends whole front segments front_segments at low h =
      let pieces = record_pieces size r moment payload in
      let some : 1 ≤ length pieces = mapped_some (payload_pieces size payload) (cut_some (length payload) (piece_limit size) payload) in
      ⊎_elim
      (λ s.
      inl (record {
        end = s.end;
        ends = s.ends;
        ends_are = s.ends_are;
        is_late = s.is_late;
        more = s.more;
        whole_is = ap (λ whole. pieces ++ whole) s.whole_is ∙ sym (append_assoc pieces front s.more);
        lows = all_append LowPiece pieces front (lows_in points n number r moment (payload_pieces size payload) at low) s.lows;
        highs = s.highs;
        none = s.none;
        later = s.later;
        flag_is = s.flag_is ∙ sym (either is) ∙ ap (λ (b : Bool). cond is true b) (sym (some_pieces pieces front some));
      }))
      (λ c.
      let sooner_low : number ≤ number + 1 = omega arith in
      inr (record {
        end = c.end;
        ends = c.ends;
        ends_are = c.ends_are;
        soon = c.soon;
        same = ap (λ whole. pieces ++ whole) c.same;
        rises = same_point points number c.end size moment r (payload_pieces size payload) whole at (sooner points number (number + 1) c.end whole sooner_low c.rises);
        later = c.later;
      })) h
    where
      mapped_some : (payloads : List (List ℕ)) → 1 ≤ length payloads → 1 ≤ length (map (λ bytes. let p : Piece = record { number = r; moment = moment; payload = bytes } in p) payloads)
      mapped_some [] some = some
      mapped_some (p ∷ payloads) some = omega arith

      either : (is : Bool) → cond is true true ≡ true
      either true = refl
      either false = refl

  -- ---- the first operations, one by one

  abbrev ends_from : ℕ → Option TraceId → List Operation → List ℕ
  ends_from number trace ops = ends_in (numbered_from number trace ops)

  abbrev PointsFrom : ℕ → ℕ → Option TraceId → List Operation → Type 0
  PointsFrom number r trace ops = Points size points r (points_in (numbered_from number trace ops))

  -- what is known where a trace is open that has a point or not
  abbrev OpenCut : (number r : ℕ) (is : Bool) → TraceId → (front rest : List Operation) → Type 0
  OpenCut number r is trace front rest =
      EndsOrStays number is (has_open_page is front) (ends_from number (Some trace) (front ++ rest)) (pieces_until_end size r (front ++ rest)) (pieces_until_end size r front)
      (segments_from size r (front ++ rest)) (segments_from size r front)

  -- what is known where none is open
  abbrev ClosedCut : ℕ → ℕ → List Operation → List Operation → Type 0
  ClosedCut number r front rest = Cut n (has_open_page false front) (all_pages size points (ends_from number None (front ++ rest)) (segments_from size r (front ++ rest))) (pages_in (segments_from size r front))

  -- The segment that this operation begins, and those behind it.
  begun : (number r : ℕ) (trace : TraceId) (flag : Bool) (all_ends : List ℕ) (whole front : List Piece) (segments front_segments : List Segment)
      → AllByRecursion (HasPieces points) (segment_pages size (record { trace = trace; pieces = whole }))
      → EndsOrStays number false flag all_ends whole front segments front_segments
      → Cut n flag (all_pages size points all_ends (record { trace = trace; pieces = whole } ∷ segments)) (pages_in (record { trace = trace; pieces = front } ∷ front_segments))
  begun number r trace flag all_ends whole front segments front_segments have h = ⊎_elim stays closes h
    where
      stays : StaysOpen false flag all_ends whole front segments front_segments
          → Cut n flag (all_pages size points all_ends (record { trace = trace; pieces = whole } ∷ segments)) (pages_in (record { trace = trace; pieces = front } ∷ front_segments))
      stays s =
          let now : Segment = record { trace = trace; pieces = front } in
          let later : Segment = record { trace = trace; pieces = whole } in
          let few : length front ≤ length (front ++ s.more) = omega (arith, length-append front s.more) in
          let no_fewer : length front ≤ length front = omega arith in
          let have_all = subst (λ (pieces : List Piece). AllByRecursion (HasPieces points) (segment_pages size (record { trace = trace; pieces = pieces }))) s.whole_is have in
          let cut : Cut n (has_some front) (timed points s.end (segment_pages size later)) (segment_pages size now) =
          subst (λ (pieces : List Piece). Cut n (has_some front) (timed points s.end (segment_pages size (record { trace = trace; pieces = pieces }))) (segment_pages size now)) (sym s.whole_is)
          (cut_runs n s.end s.is_late points size trace (length (front ++ s.more)) (length front) front s.more few no_fewer s.lows s.highs have_all)
          in
          subst (λ (ends : List ℕ). Cut n flag (all_pages size points ends (later ∷ segments)) (pages_in (now ∷ front_segments))) (sym s.ends_are)
          (subst (λ (others : List Segment). Cut n flag (all_pages size points (s.end ∷ s.ends) (later ∷ segments)) (pages_in (now ∷ others))) (sym s.none)
          (subst (λ (b : Bool). Cut n b (all_pages size points (s.end ∷ s.ends) (later ∷ segments)) (pages_in (now ∷ []))) (sym s.flag_is)
          (before_late n (has_some front) (timed points s.end (segment_pages size later)) (all_pages size points s.ends segments) (pages_in (now ∷ [])) s.later
          (subst (λ (pages : List PlainPage). Cut n (has_some front) (timed points s.end (segment_pages size later)) pages) (sym (append-nil (segment_pages size now))) cut))))

      closes : Closes number flag all_ends whole front segments front_segments
          → Cut n flag (all_pages size points all_ends (record { trace = trace; pieces = whole } ∷ segments)) (pages_in (record { trace = trace; pieces = front } ∷ front_segments))
      closes c =
          let now : Segment = record { trace = trace; pieces = front } in
          let later : Segment = record { trace = trace; pieces = whole } in
          let pages = timed points c.end (segment_pages size later) in
          let soon : suc c.end ≤ n = omega (arith, c.soon) in
          let early = early_all n number (suc c.end) pages soon (runs_timely points (length whole) size c.end number trace whole c.rises have) in
          let same : map page_in pages ≡ segment_pages size now =
          page_each points c.end (segment_pages size later) ∙ ap (λ (pieces : List Piece). segment_pages size (record { trace = trace; pieces = pieces })) c.same
          in
          subst (λ (ends : List ℕ). Cut n flag (all_pages size points ends (later ∷ segments)) (pages_in (now ∷ front_segments))) (sym c.ends_are)
          (subst (λ (first : List PlainPage). Cut n flag (all_pages size points (c.end ∷ c.ends) (later ∷ segments)) (first ++ pages_in front_segments)) same
          (behind_early n flag pages (all_pages size points c.ends segments) (pages_in front_segments) early c.later))

  mutual
    closed_cut : (number r : ℕ) (front rest : List Operation) → number + length front ≡ n → AreBracketed false (front ++ rest) → PointsFrom number r None (front ++ rest) → Full size points (segments_from size r (front ++ rest))
        → ClosedCut number r front rest
    closed_cut number r [] rest is h p full =
        let low : n ≤ number = omega (arith, is) in
        all_late n (all_pages size points (ends_from number None rest) (segments_from size r rest)) (late_all n number (number + length rest) _ low (closed size points number r rest h p full))
    closed_cut number r (Begin trace ∷ front) rest is h p full =
        let segment : Segment = record { trace = trace; pieces = pieces_until_end size r (front ++ rest) } in
        let parts = full_parts size points (segment_pages size segment) (pages_in (segments_from size r (front ++ rest))) full in
        begun (number + 1) r trace (has_open_page false front) (ends_from (number + 1) (Some trace) (front ++ rest)) (pieces_until_end size r (front ++ rest)) (pieces_until_end size r front)
        (segments_from size r (front ++ rest)) (segments_from size r front) parts.0
        (opened_cut (number + 1) r false trace front rest (omega (arith, is)) h.1 (record { front = p.front; is = p.is; count = p.count }) parts.1)
    closed_cut number r (Point moment payload ∷ front) rest is h p full = let no : false ≡ true = h.0 in absurd cc
    closed_cut number r (Crumb node ∷ front) rest is h p full = let no : false ≡ true = h.0 in absurd cc
    closed_cut number r (End ∷ front) rest is h p full = let no : false ≡ true = h.0 in absurd cc
    closed_cut number r (Fire trigger ∷ front) rest is h p full = closed_cut (number + 1) r front rest (omega (arith, is)) h (record { front = p.front; is = p.is; count = p.count }) full
    closed_cut number r (Sample moment auto value ∷ front) rest is h p full = let no : false ≡ true = h.0 in absurd cc

    opened_cut : (number r : ℕ) (is_some : Bool) (trace : TraceId) (front rest : List Operation) → number + length front ≡ n → AreBracketed true (front ++ rest) → PointsFrom number r (Some trace) (front ++ rest)
        → Full size points (segments_from size r (front ++ rest)) → OpenCut number r is_some trace front rest
    opened_cut number r b trace [] rest is h p full =
        let low : n ≤ number = omega (arith, is) in
        let o = opened size points number r trace rest h p full in
        let up = highest points number o.end (pieces_until_end size r rest) o.rises in
        let later : n ≤ suc o.end = omega (arith, low, up) in
        inl (record {
          end = o.end;
          ends = o.ends;
          ends_are = o.ends_are;
          is_late = omega (arith, low, up);
          more = pieces_until_end size r rest;
          whole_is = refl;
          lows = tt;
          highs = highs_in points n number o.end (pieces_until_end size r rest) low o.rises;
          none = refl;
          later = late_all n (suc o.end) (number + length rest) (all_pages size points o.ends (segments_from size r rest)) later o.later;
          flag_is = either b;
        })
      where
        either : (b : Bool) → b ≡ cond b true false
        either true = refl
        either false = refl
    opened_cut number r b trace (Begin next ∷ front) rest is h p full = let no : true ≡ false = h.0 in absurd cc
    opened_cut number r b trace (Point moment payload ∷ front) rest is h p full =
        let both = length-append p.front (number ∷ []) in
        let count = p.count in
        let low : number < n = omega (arith, is) in
        let at : get_or points r 0 ≡ number =
        ap (λ (all : List ℕ). get_or all r 0) p.is ∙ get_behind p.front (points_in (numbered_from (number + 1) (Some trace) (front ++ rest))) number r p.count
        in
        point_back number r moment payload b (has_open_page true front) (ends_from (number + 1) (Some trace) (front ++ rest)) (pieces_until_end size (r + 1) (front ++ rest)) (pieces_until_end size (r + 1) front)
        (segments_from size (r + 1) (front ++ rest)) (segments_from size (r + 1) front) at low
        (opened_cut (number + 1) (r + 1) true trace front rest (omega (arith, is)) h.1
        (record {
          front = p.front ++ number ∷ [];
          is = p.is ∙ sym (append_assoc p.front (number ∷ []) (points_in (numbered_from (number + 1) (Some trace) (front ++ rest))));
          count = omega (arith, both, count);
        })
        full)
    opened_cut number r b trace (Crumb node ∷ front) rest is h p full =
        one_back number b (has_open_page b front) _ _ _ _ _ (opened_cut (number + 1) r b trace front rest (omega (arith, is)) h.1 (record { front = p.front; is = p.is; count = p.count }) full)
    opened_cut number r b trace (End ∷ front) rest is h p full =
        inr (record {
          end = number;
          ends = ends_from (number + 1) None (front ++ rest);
          ends_are = refl;
          soon = omega (arith, is);
          same = refl;
          rises = omega arith;
          later = closed_cut (number + 1) r front rest (omega (arith, is)) h.1 (record { front = p.front; is = p.is; count = p.count }) full;
        })
    opened_cut number r b trace (Fire trigger ∷ front) rest is h p full =
        one_back number b (has_open_page b front) _ _ _ _ _ (opened_cut (number + 1) r b trace front rest (omega (arith, is)) h (record { front = p.front; is = p.is; count = p.count }) full)
    opened_cut number r b trace (Sample moment auto value ∷ front) rest is h p full =
        one_back number b (has_open_page b front) _ _ _ _ _ (opened_cut (number + 1) r b trace front rest (omega (arith, is)) h.1 (record { front = p.front; is = p.is; count = p.count }) full)

-- ---- all

abbrev pub AllCarry : Type 0
AllCarry = (size : ℕ) (operations : List Operation) → MIN_SIZE ≤ size → AreBracketed false operations → CarryRecords (traces_of (records_of operations)) 0 (pages_of size operations) (length (records_of operations))

pub first_cut : AllCarry → (size : ℕ) (front rest : List Operation) → MIN_SIZE ≤ size → AreBracketed false (front ++ rest)
    → Cut (length front) (has_open_page false front) (timed_pages size (front ++ rest)) (pages_of size front)
first_cut carry size front rest least h =
    let from : 0 + length front ≡ length front = omega arith in
    closed_cut (length front) size (point_numbers (front ++ rest)) 0 0 front rest from h (record { front = []; is = refl; count = refl })
    (each (pages_of size (front ++ rest)) (carry size (front ++ rest) least h).each)
  where
    each : (pages : List PlainPage) → AllByRecursion (CarriesRecords (traces_of (records_of (front ++ rest)))) pages → AllByRecursion (HasPieces (point_numbers (front ++ rest))) pages
    each [] all = tt
    each (page ∷ pages) all = (all.0.some, each pages all.1)

pub first_operations_send : AllCarry → FirstOperationsSend
first_operations_send carry size front rest least h =
    let n = length front in
    let pages = timed_pages size (front ++ rest) in
    let cut = first_cut carry size front rest least h in
    record {
      started = started_count n (has_open_page false front) pages (pages_of size front) cut;
      kept = cut.fronts;
      sent = cut.front_is ∙ ap (λ (pages : List TimedPage). map page_in pages ++ cut.fronts) (sym (sent_are n (has_open_page false front) pages (pages_of size front) cut));
      one = cut.same ∙ cut.one;
    }
