-- A page is sent no earlier than it is started, and the next page of the client is started no earlier than that.
use Rattle.std.proofs.Common.{◌≡◌, ℕ, zero, suc, ◌+◌, ◌≤◌, true, false, List, [], ◌∷◌, ◌++◌, length, refl, sym, ap, subst, ◌∙◌, Option, Some, None, arith, map, filter, take, drop, get_or, zip, append_assoc, length-append}
use Rattle.hs_client.proofs.Prelude.{AllByRecursion, flat_map, TraceId, MIN_SIZE, CarryRecords, CarriesRecords, traces_of, PlainPage, fits, runs_within, segment_pages, pages_of, Operation, Begin, Point, Crumb, End, Fire, Sample, NumberedOperation, Piece, Segment, AreBracketed, numbered_from, payload_pieces, records_of, pieces_until_end, segments_from, IsTimely, TimedPagesAreTimely, TimedPage, is_end, point_numbers, started_by, timed, timed_pages}
use Rattle.hs_records.specs.Records.{record_at}

-- ---- lists of pages in time

pub earlier : (a b to : ℕ) (pages : List TimedPage) → a ≤ b → IsTimely b to pages → IsTimely a to pages
earlier a b to [] low h = omega (arith, low, h)
earlier a b to (page ∷ pages) low h = let first = h.0 in (omega (arith, low, first), h.1, h.2, h.3)

reaches : (from to : ℕ) (pages : List TimedPage) → IsTimely from to pages → from ≤ to
reaches from to [] h = h
reaches from to (page ∷ pages) h = let a = h.0 in let b = h.1 in let c = h.2 in omega (arith, a, b, c)

one_after : (from middle to : ℕ) (pages more : List TimedPage) → IsTimely from middle pages → IsTimely middle to more → IsTimely from to (pages ++ more)
one_after from middle to [] more a b = earlier from middle to more a b
one_after from middle to (page ∷ pages) more a b =
    let c = a.2 in
    let high = reaches middle to more b in
    (a.0, a.1, omega (arith, c, high), one_after page.sent middle to pages more a.3 b)

-- ---- pieces in time

module _ (points : List ℕ) where
  abbrev at : Piece → ℕ
  at piece = get_or points piece.number 0

  -- the points of these pieces rise between two operations
  abbrev pub Rise : ℕ → ℕ → List Piece → Type 0
  Rise from to [] = from ≤ to
  Rise from to (piece ∷ pieces) = (from ≤ at piece) × Rise (at piece) to pieces

  pub sooner : (a b to : ℕ) (pieces : List Piece) → a ≤ b → Rise b to pieces → Rise a to pieces
  sooner a b to [] low h = omega (arith, low, h)
  sooner a b to (piece ∷ pieces) low h = let first = h.0 in (omega (arith, low, first), h.1)

  dropped : (n from to : ℕ) (pieces : List Piece) → Rise from to pieces → Rise from to (drop n pieces)
  dropped zero from to pieces h = h
  dropped (suc n) from to [] h = h
  dropped (suc n) from to (piece ∷ pieces) h = dropped n from to pieces (sooner from (at piece) to pieces h.0 h.1)

  pub highest : (from to : ℕ) (pieces : List Piece) → Rise from to pieces → from ≤ to
  highest from to [] h = h
  highest from to (piece ∷ pieces) h = let first = h.0 in let rest = highest (at piece) to pieces h.1 in omega (arith, first, rest)

  abbrev pub page_with : TraceId → List Piece → PlainPage
  page_with trace pieces = record { trace = trace; pieces = pieces }

  abbrev pub HasPieces : PlainPage → Type 0
  HasPieces page = 1 ≤ length page.pieces

  -- a page before others that are in time
  page_before : (started from end : ℕ) (page : PlainPage) (pages : List PlainPage) → started_by points page ≡ started → from ≤ started → started ≤ end → IsTimely started (suc end) (timed points end pages)
      → IsTimely from (suc end) (timed points end (page ∷ pages))
  page_before started from end page [] is low high h = (omega (arith, is, low), omega (arith, is, high), omega arith, omega arith)
  page_before started from end page (next ∷ pages) is low high h =
      let first = h.0 in
      let second = h.1 in
      let third = h.2 in
      (omega (arith, is, low), omega (arith, is, first), omega (arith, second, third), (omega arith, h.1, h.2, h.3))

  abbrev pub runs_then : ℕ → ℕ → TraceId → List Piece → List PlainPage
  runs_then most size trace pieces = map (page_with trace) (runs_within most size pieces)

  run_case : (size end from : ℕ) (trace : TraceId) (piece : Piece) (pieces : List Piece) (n most : ℕ) → Rise from end (piece ∷ pieces) → 1 ≤ length (take n (piece ∷ pieces))
      → ((rest : List Piece) → Rise (at piece) end rest → AllByRecursion HasPieces (runs_then most size trace rest) → IsTimely (at piece) (suc end) (timed points end (runs_then most size trace rest)))
      → AllByRecursion HasPieces (runs_then most size trace (drop n (piece ∷ pieces)))
      → IsTimely from (suc end) (timed points end (page_with trace (take n (piece ∷ pieces)) ∷ runs_then most size trace (drop n (piece ∷ pieces))))
  run_case size end from trace piece pieces zero most h some on all = absurd (omega (arith, some))
  run_case size end from trace piece pieces (suc n) most h some on all =
      page_before (at piece) from end (page_with trace (take (suc n) (piece ∷ pieces))) (runs_then most size trace (drop n pieces)) refl h.0 (highest (at piece) end pieces h.1)
      (on (drop n pieces) (dropped n (at piece) end pieces h.1) all)

  pub runs_timely : (most size end from : ℕ) (trace : TraceId) (pieces : List Piece) → Rise from end pieces → AllByRecursion HasPieces (runs_then most size trace pieces)
      → IsTimely from (suc end) (timed points end (runs_then most size trace pieces))
  runs_timely zero size end from trace pieces h all = let high = highest from end pieces h in omega (arith, high)
  runs_timely (suc most) size end from trace [] h all = let high : from ≤ end = h in omega (arith, high)
  runs_timely (suc most) size end from trace (piece ∷ pieces) h all =
      run_case size end from trace piece pieces (fits size (piece ∷ pieces)) most h all.0 (λ rest h all. runs_timely most size end (at piece) trace rest h all) all.1

  pub same_point : (number end size moment r : ℕ) (payloads : List (List ℕ)) (rest : List Piece) → get_or points r 0 ≡ number → Rise number end rest
      → Rise number end (map (λ bytes. record { number = r; moment = moment; payload = bytes }) payloads ++ rest)
  same_point number end size moment r [] rest is h = h
  same_point number end size moment r (bytes ∷ payloads) rest is h =
      (omega (arith, is), subst (λ (n : ℕ). Rise n end (map (λ bytes. record { number = r; moment = moment; payload = bytes }) payloads ++ rest)) (sym is) (same_point number end size moment r payloads rest is h))

-- ---- operations

abbrev pub points_in : List NumberedOperation → List ℕ
points_in ops = flat_map (λ (op : NumberedOperation). map (λ _. op.number) (record_at op)) ops

abbrev pub ends_in : List NumberedOperation → List ℕ
ends_in ops = map (λ (op : NumberedOperation). op.number) (filter (λ (op : NumberedOperation). is_end op.operation) ops)

pub get_behind : (front rest : List ℕ) (n r : ℕ) → length front ≡ r → get_or (front ++ n ∷ rest) r 0 ≡ n
get_behind [] rest n zero e = refl
get_behind [] rest n (suc r) e = absurd (omega (arith, e))
get_behind (x ∷ front) rest n zero e = absurd (omega (arith, e))
get_behind (x ∷ front) rest n (suc r) e = get_behind front rest n r (omega (arith, e))

module _ (size : ℕ) (points : List ℕ) where
  abbrev pub pages_with : ℕ × Segment → List TimedPage
  pages_with s = timed points s.0 (segment_pages size s.1)

  abbrev pub all_pages : List ℕ → List Segment → List TimedPage
  all_pages ends segments = flat_map pages_with (zip ends segments)

  -- the points of these operations stand behind those before them
  pub record Points (r : ℕ) (behind : List ℕ) : Type 0 where
    pub front : List ℕ
    pub is : points ≡ front ++ behind
    pub count : length front ≡ r

  abbrev pub Full : List Segment → Type 0
  Full segments = AllByRecursion (HasPieces points) (flat_map (segment_pages size) segments)

  -- within a trace: its end, its pieces up to there, and what comes behind
  pub record IsOpen (number r : ℕ) (trace : Option TraceId) (ops : List Operation) : Type 0 where
    pub end : ℕ
    pub ends : List ℕ
    pub ends_are : ends_in (numbered_from number trace ops) ≡ end ∷ ends
    pub rises : Rise points number end (pieces_until_end size r ops)
    pub later : IsTimely (suc end) (number + length ops) (all_pages ends (segments_from size r ops))

  -- the same from an operation further back
  back_one : (number r s : ℕ) (trace next : Option TraceId) (op : Operation) (ops : List Operation) → ends_in (numbered_from number trace (op ∷ ops)) ≡ ends_in (numbered_from (number + 1) next ops)
      → segments_from size r (op ∷ ops) ≡ segments_from size s ops → (o : IsOpen (number + 1) s next ops) → Rise points number o.end (pieces_until_end size r (op ∷ ops)) → IsOpen number r trace (op ∷ ops)
  back_one number r s trace next op ops ends segments o rises =
      let same : number + 1 + length ops ≡ number + suc (length ops) = omega arith in
      record {
        end = o.end;
        ends = o.ends;
        ends_are = ends ∙ o.ends_are;
        rises = rises;
        later =
            subst (λ (segments : List Segment). IsTimely (suc o.end) (number + suc (length ops)) (all_pages o.ends segments)) (sym segments)
            (subst (λ (n : ℕ). IsTimely (suc o.end) n (all_pages o.ends (segments_from size s ops))) same o.later);
      }

  abbrev pub IsClosed : ℕ → ℕ → List Operation → Type 0
  IsClosed number r ops = IsTimely number (number + length ops) (all_pages (ends_in (numbered_from number None ops)) (segments_from size r ops))

  pub full_parts : (xs ys : List PlainPage) → AllByRecursion (HasPieces points) (xs ++ ys) → AllByRecursion (HasPieces points) xs × AllByRecursion (HasPieces points) ys
  full_parts [] ys all = (tt, all)
  full_parts (x ∷ xs) ys all = let rest = full_parts xs ys all.1 in ((all.0, rest.0), rest.1)

  mutual
    pub closed : (number r : ℕ) (ops : List Operation) → AreBracketed false ops → Points r (points_in (numbered_from number None ops)) → Full (segments_from size r ops) → IsClosed number r ops
    closed number r [] h p full = omega arith
    closed number r (Begin trace ∷ ops) h p full =
        let pieces = pieces_until_end size r ops in
        let segment : Segment = record { trace = trace; pieces = pieces } in
        let parts = full_parts (segment_pages size segment) (flat_map (segment_pages size) (segments_from size r ops)) full in
        let o = opened (number + 1) r trace ops h.1 (record { front = p.front; is = p.is; count = p.count }) parts.1 in
        let same : number + 1 + length ops ≡ number + suc (length ops) = omega arith in
        let first = runs_timely points (length pieces) size o.end (number + 1) trace pieces o.rises parts.0 in
        let low : number ≤ number + 1 = omega arith in
        subst (λ (ends : List ℕ). IsTimely number (number + suc (length ops)) (all_pages ends (segments_from size r (Begin trace ∷ ops)))) (sym o.ends_are)
        (earlier number (number + 1) (number + suc (length ops)) (pages_with (o.end, segment) ++ all_pages o.ends (segments_from size r ops)) low
        (one_after (number + 1) (suc o.end) (number + suc (length ops)) (pages_with (o.end, segment)) (all_pages o.ends (segments_from size r ops)) first
        (subst (λ (n : ℕ). IsTimely (suc o.end) n (all_pages o.ends (segments_from size r ops))) same o.later)))
    closed number r (Point moment payload ∷ ops) h p full = let no : false ≡ true = h.0 in absurd cc
    closed number r (Crumb node ∷ ops) h p full = let no : false ≡ true = h.0 in absurd cc
    closed number r (End ∷ ops) h p full = let no : false ≡ true = h.0 in absurd cc
    closed number r (Fire trigger ∷ ops) h p full =
        let rest = closed (number + 1) r ops h (record { front = p.front; is = p.is; count = p.count }) full in
        let same : number + 1 + length ops ≡ number + suc (length ops) = omega arith in
        let low : number ≤ number + 1 = omega arith in
        let pages = all_pages (ends_in (numbered_from (number + 1) None ops)) (segments_from size r ops) in
        earlier number (number + 1) (number + suc (length ops)) pages low (subst (λ (n : ℕ). IsTimely (number + 1) n pages) same rest)
    closed number r (Sample moment auto value ∷ ops) h p full = let no : false ≡ true = h.0 in absurd cc

    pub opened : (number r : ℕ) (trace : TraceId) (ops : List Operation) → AreBracketed true ops → Points r (points_in (numbered_from number (Some trace) ops)) → Full (segments_from size r ops) → IsOpen number r (Some trace) ops
    opened number r trace [] h p full = let no : true ≡ false = h in absurd cc
    opened number r trace (Begin next ∷ ops) h p full = let no : true ≡ false = h.0 in absurd cc
    opened number r trace (Point moment payload ∷ ops) h p full =
        let o =
        opened (number + 1) (r + 1) trace ops h.1
        (let both = length-append p.front (number ∷ []) in
        let count = p.count in
        record {
          front = p.front ++ number ∷ [];
          is = p.is ∙ sym (append_assoc p.front (number ∷ []) (points_in (numbered_from (number + 1) (Some trace) ops)));
          count = omega (arith, both, count);
        })
        full
        in
        let is : get_or points r 0 ≡ number =
        ap (λ (all : List ℕ). get_or all r 0) p.is ∙ get_behind p.front (points_in (numbered_from (number + 1) (Some trace) ops)) number r p.count
        in
        let low : number ≤ number + 1 = omega arith in
        back_one number r (r + 1) (Some trace) (Some trace) (Point moment payload) ops refl refl o
        (same_point points number o.end size moment r (payload_pieces size payload) (pieces_until_end size (r + 1) ops) is (sooner points number (number + 1) o.end (pieces_until_end size (r + 1) ops) low o.rises))
    opened number r trace (Crumb node ∷ ops) h p full =
        let o = opened (number + 1) r trace ops h.1 (record { front = p.front; is = p.is; count = p.count }) full in
        let low : number ≤ number + 1 = omega arith in
        back_one number r r (Some trace) (Some trace) (Crumb node) ops refl refl o (sooner points number (number + 1) o.end (pieces_until_end size r ops) low o.rises)
    opened number r trace (End ∷ ops) h p full =
        let rest = closed (number + 1) r ops h.1 (record { front = p.front; is = p.is; count = p.count }) full in
        let same : number + 1 + length ops ≡ number + suc (length ops) = omega arith in
        let up : number + 1 ≡ suc number = omega arith in
        let pages = all_pages (ends_in (numbered_from (number + 1) None ops)) (segments_from size r ops) in
        record {
          end = number;
          ends = ends_in (numbered_from (number + 1) None ops);
          ends_are = refl;
          rises = omega arith;
          later = subst (λ (n : ℕ). IsTimely n (number + suc (length ops)) pages) up (subst (λ (n : ℕ). IsTimely (number + 1) n pages) same rest);
        }
    opened number r trace (Fire trigger ∷ ops) h p full =
        let o = opened (number + 1) r trace ops h (record { front = p.front; is = p.is; count = p.count }) full in
        let low : number ≤ number + 1 = omega arith in
        back_one number r r (Some trace) (Some trace) (Fire trigger) ops refl refl o (sooner points number (number + 1) o.end (pieces_until_end size r ops) low o.rises)
    opened number r trace (Sample moment auto value ∷ ops) h p full =
        let o = opened (number + 1) r trace ops h.1 (record { front = p.front; is = p.is; count = p.count }) full in
        let low : number ≤ number + 1 = omega arith in
        back_one number r r (Some trace) (Some trace) (Sample moment auto value) ops refl refl o (sooner points number (number + 1) o.end (pieces_until_end size r ops) low o.rises)

pub timed_pages_are_timely : ((size : ℕ) (operations : List Operation) → MIN_SIZE ≤ size → AreBracketed false operations → CarryRecords (traces_of (records_of operations)) 0 (pages_of size operations) (length (records_of operations)))
    → TimedPagesAreTimely
timed_pages_are_timely carry size ops least h =
    let zeroth : 0 + length ops ≡ length ops = omega arith in
    subst (λ (n : ℕ). IsTimely 0 n (timed_pages size ops)) zeroth
    (closed size (point_numbers ops) 0 0 ops h (record { front = []; is = refl; count = refl })
    (each (pages_of size ops) (carry size ops least h).each))
  where
    each : (pages : List PlainPage) → AllByRecursion (CarriesRecords (traces_of (records_of ops))) pages → AllByRecursion (HasPieces (point_numbers ops)) pages
    each [] all = tt
    each (page ∷ pages) all = (all.0.some, each pages all.1)
