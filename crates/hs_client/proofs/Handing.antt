-- A core's chunks beside the pages of its operations: the last of them is with the core where the core has a page, and all others were
-- handed out.
use Rattle.std.proofs.Common.{◌≡◌, ℕ, suc, ◌+◌, Bool, true, false, cond, List, [], ◌∷◌, ◌++◌, length, refl, sym, ap, ap₂, ◌∙◌, Option, Some, None, arith, map, option_map, length-append}
use Rattle.hs_client.proofs.Prelude.{is_some, flat_map, append-nil, ClientId, TraceId, sheet_for, Draw, PlainPage, segment_pages, pages_of, Sheet, drawn_from, sent_chunks, has_open_page, FirstOperationsSend, FirstChunksAreSent, pages_within, TimedPage, timed_pages}
use Rattle.std.specs.Option.{option_to_list, option_and_then}
use Rattle.hs_client.specs.Calls.{IsBook, AreSteps, after, pages_of_steps, draws_supplied, chunks_supplied, handed_out, filled, filled_chunks}
use Rattle.hs_client.specs.Core.{Core, Current, CoreStep, Began, Wrote, Needed, Supplied, Ended_, Refused, new_core, handed, draw_of}
use Rattle.hs_words.specs.Buffers.{Buffer}
use Rattle.hs_client.specs.Drawn.{has_buffer}
use Rattle.hs_client.specs.HandedOut.{CoresHandOutSoFar, sheets_in, sheets_of_items}
use Rattle.hs_client.proofs.Timed.{page_in}

-- ---- the chunk that a core has

-- The last that was supplied is with the core, or it was none.
record LastIs {L : Type 0} (supplied : List (Option (Buffer L))) (current : Current L) : Type 0 where
  before : List (Option (Buffer L))
  last : Option (Buffer L)
  is : supplied ≡ before ++ last ∷ []
  same : is_some current.buffer ≡ is_some last

mapped_some : {X Y : Type 0} (f : X → Y) (o : Option X) → is_some (option_map f o) ≡ is_some o
mapped_some f None = refl
mapped_some f (Some x) = refl

snoc_same : {X : Type 0} (xs ys : List X) (a b : X) → xs ++ a ∷ [] ≡ ys ++ b ∷ [] → xs ≡ ys
snoc_same [] [] a b h = refl
snoc_same [] (y ∷ ys) a b h = let counts = ap length h in let more = length-append ys (b ∷ []) in absurd (omega (arith, counts, more))
snoc_same (x ∷ xs) [] a b h = let counts = ap length h in let more = length-append xs (a ∷ []) in absurd (omega (arith, counts, more))
snoc_same (x ∷ xs) (y ∷ ys) a b h =
    let first : x ≡ y = cc in
    let rest : xs ++ a ∷ [] ≡ ys ++ b ∷ [] = cc in
    ap₂ (λ z zs. z ∷ zs) first (snoc_same xs ys a b rest)

-- what stands before the last, where both have one or neither
before_same : {X : Type 0} (xs ys : List X) (o p : Option X) → is_some o ≡ is_some p → xs ++ option_to_list o ≡ ys ++ option_to_list p → xs ≡ ys
before_same xs ys None None same h = sym (append-nil xs) ∙ h ∙ append-nil ys
before_same xs ys None (Some b) same h = let no : false ≡ true = same in absurd cc
before_same xs ys (Some a) None same h = let no : true ≡ false = same in absurd cc
before_same xs ys (Some a) (Some b) same h = snoc_same xs ys a b h

module _ {L : Type 0} where
  abbrev Keeps : List (Option (Buffer L)) → Option (Current L) → Type 0
  Keeps supplied current = (c : Current L) → current ≡ Some c → LastIs supplied c

  wrote_keeps : (f : Current L → Current L) (supplied : List (Option (Buffer L))) (current : Option (Current L)) → ((c : Current L) → is_some (f c).buffer ≡ is_some c.buffer) → Keeps supplied current → Keeps supplied (option_map f current)
  wrote_keeps f supplied None same keeps c is = let no : None ≡ Some c = is in absurd cc
  wrote_keeps f supplied (Some d) same keeps c is =
      let l = keeps d refl in
      let there : f d ≡ c = let both : Some (f d) ≡ Some c = is in cc in
      record { before = l.before; last = l.last; is = l.is; same = ap (λ (c : Current L). is_some c.buffer) (sym there) ∙ same d ∙ l.same }

  supplied_keeps : (f : TraceId → Current L) (before : List (Option (Buffer L))) (last : Option (Buffer L)) (trace : Option TraceId) → ((t : TraceId) → is_some (f t).buffer ≡ is_some last) → Keeps (before ++ last ∷ []) (option_map f trace)
  supplied_keeps f before last None same c is = let no : None ≡ Some c = is in absurd cc
  supplied_keeps f before last (Some t) same c is =
      let there : f t ≡ c = let both : Some (f t) ≡ Some c = is in cc in
      record { before = before; last = last; is = refl; same = ap (λ (c : Current L). is_some c.buffer) (sym there) ∙ same t }

  none_keeps : (supplied : List (Option (Buffer L))) → Keeps supplied None
  none_keeps supplied c is = let no : None ≡ Some c = is in absurd cc

  last_kept : (client : ClientId) (size calls : ℕ) (steps : List (CoreStep L)) → Keeps (chunks_supplied steps) (after (new_core client size calls) steps).current
  last_kept client size calls [] = none_keeps []
  last_kept client size calls (Began trace ∷ earlier) = last_kept client size calls earlier
  last_kept client size calls (Wrote moment payload more ∷ earlier) =
      wrote_keeps _ (chunks_supplied earlier) (after (new_core client size calls) earlier).current (λ c. mapped_some _ c.buffer) (last_kept client size calls earlier)
  last_kept client size calls (Needed len ∷ earlier) = none_keeps (chunks_supplied earlier)
  last_kept client size calls (Supplied buffer stamp moment payload more ∷ earlier) =
      supplied_keeps _ (chunks_supplied earlier) buffer (after (new_core client size calls) earlier).trace (λ t. mapped_some _ buffer)
  last_kept client size calls (Ended_ ∷ earlier) = none_keeps (chunks_supplied earlier)
  last_kept client size calls (Refused ∷ earlier) = last_kept client size calls earlier

  -- ---- draws and chunks

  -- where a draw is noted with a buffer, one was supplied
  abbrev Agree : List (Option (Buffer L)) → List Draw → Type 0
  Agree [] [] = Unit {0}
  Agree [] (draw ∷ draws) = ⊥
  Agree (buffer ∷ buffers) [] = ⊥
  Agree (buffer ∷ buffers) (draw ∷ draws) = (has_buffer draw ≡ is_some buffer) × Agree buffers draws

  one_agrees : (buffer : Option (Buffer L)) (stamp : ℕ) → has_buffer (draw_of buffer stamp) ≡ is_some buffer
  one_agrees None stamp = refl
  one_agrees (Some buffer) stamp = refl

  more_agree : (buffers : List (Option (Buffer L))) (draws : List Draw) (buffer : Option (Buffer L)) (draw : Draw) → Agree buffers draws → has_buffer draw ≡ is_some buffer → Agree (buffers ++ buffer ∷ []) (draws ++ draw ∷ [])
  more_agree [] [] buffer draw h one = (one, tt)
  more_agree [] (d ∷ draws) buffer draw h one = absurd h
  more_agree (b ∷ buffers) [] buffer draw h one = absurd h
  more_agree (b ∷ buffers) (d ∷ draws) buffer draw h one = (h.0, more_agree buffers draws buffer draw h.1 one)

  all_agree : (steps : List (CoreStep L)) → Agree (chunks_supplied steps) (draws_supplied steps)
  all_agree [] = tt
  all_agree (Supplied buffer stamp moment payload more ∷ earlier) = more_agree (chunks_supplied earlier) (draws_supplied earlier) buffer (draw_of buffer stamp) (all_agree earlier) (one_agrees buffer stamp)
  all_agree (Began trace ∷ earlier) = all_agree earlier
  all_agree (Wrote moment payload more ∷ earlier) = all_agree earlier
  all_agree (Needed len ∷ earlier) = all_agree earlier
  all_agree (Ended_ ∷ earlier) = all_agree earlier
  all_agree (Refused ∷ earlier) = all_agree earlier

  sheets_agree : (client : ClientId) (number : ℕ) (timed : List TimedPage) (buffers : List (Option (Buffer L))) (draws : List Draw) → Agree buffers draws
      → sheets_in (filled_chunks client number (map page_in timed) buffers) ≡ sheets_of_items (sent_chunks (drawn_from client number timed draws))
  sheets_agree client number [] buffers draws h = refl
  sheets_agree client number (t ∷ timed) [] [] h = refl
  sheets_agree client number (t ∷ timed) [] (d ∷ draws) h = absurd h
  sheets_agree client number (t ∷ timed) (b ∷ buffers) [] h = absurd h
  sheets_agree client number (t ∷ timed) (None ∷ buffers) (d ∷ draws) h = rw h.0 (sheets_agree client (number + 1) timed buffers draws h.1)
  sheets_agree client number (t ∷ timed) (Some b ∷ buffers) (d ∷ draws) h =
      rw h.0 (ap (λ (l : List (Option Sheet)). Some (sheet_for client number t.page) ∷ l) (sheets_agree client (number + 1) timed buffers draws h.1))

  -- ---- what was handed out

  filled_last : (client : ClientId) (number : ℕ) (pages : List PlainPage) (page : PlainPage) (before : List (Option (Buffer L))) (last : Option (Buffer L)) → length before ≡ length pages
      → filled_chunks client number (pages ++ page ∷ []) (before ++ last ∷ []) ≡ filled_chunks client number pages (before ++ last ∷ []) ++ option_to_list (option_map (filled client (number + length pages) page) last)
  filled_last client number [] page [] None e = refl
  filled_last client number [] page [] (Some b) e = let zeroth : number ≡ number + 0 = omega arith in ap (λ (n : ℕ). filled client n page b ∷ []) zeroth
  filled_last client number [] page (c ∷ before) last e = absurd (omega (arith, e))
  filled_last client number (p ∷ pages) page [] last e = absurd (omega (arith, e))
  filled_last client number (p ∷ pages) page (None ∷ before) last e =
      let more : number + 1 + length pages ≡ number + suc (length pages) = omega arith in
      filled_last client (number + 1) pages page before last (omega (arith, e))
      ∙ ap (λ (n : ℕ). filled_chunks client (number + 1) pages (before ++ last ∷ []) ++ option_to_list (option_map (filled client n page) last)) more
  filled_last client number (p ∷ pages) page (Some b ∷ before) last e =
      let more : number + 1 + length pages ≡ number + suc (length pages) = omega arith in
      ap (λ (chunks : List (Buffer L)). filled client number p b ∷ chunks)
      (filled_last client (number + 1) pages page before last (omega (arith, e))
      ∙ ap (λ (n : ℕ). filled_chunks client (number + 1) pages (before ++ last ∷ []) ++ option_to_list (option_map (filled client n page) last)) more)

  module _ (client : ClientId) (size calls : ℕ) (steps : List (CoreStep L)) where
    abbrev core : Core L
    core = after (new_core client size calls) steps

    abbrev out : List (Buffer L)
    out = handed_out (new_core client size calls) steps

    abbrev Whole : List PlainPage → Type 0
    Whole pages = out ++ option_to_list (handed core) ≡ filled_chunks client 0 pages (chunks_supplied steps)

    none_with_core : (pages : List PlainPage) → Whole pages → is_some core.current ≡ false → out ≡ filled_chunks client 0 pages (chunks_supplied steps)
    none_with_core pages whole none = either core.current none whole
      where
        either : (current : Option (Current L)) → is_some current ≡ false → out ++ option_to_list (option_and_then (λ (c : Current L). c.buffer) current) ≡ filled_chunks client 0 pages (chunks_supplied steps)
            → out ≡ filled_chunks client 0 pages (chunks_supplied steps)
        either None e h = sym (append-nil out) ∙ h
        either (Some c) e h = let no : true ≡ false = e in absurd cc

    last_with_core : (pages : List PlainPage) (page : PlainPage) → Whole (pages ++ page ∷ []) → length (chunks_supplied steps) ≡ length (pages ++ page ∷ []) → is_some core.current ≡ true
        → out ≡ filled_chunks client 0 pages (chunks_supplied steps)
    last_with_core pages page whole each some = either core.current refl some
      where
        either : (current : Option (Current L)) → core.current ≡ current → is_some current ≡ true → out ≡ filled_chunks client 0 pages (chunks_supplied steps)
        either None is e = let no : false ≡ true = e in absurd cc
        either (Some c) is e =
            let l = last_kept client size calls steps c is in
            let counts = ap length l.is in
            let first = length-append l.before (l.last ∷ []) in
            let second = length-append pages (page ∷ []) in
            let same : length l.before ≡ length pages = omega (arith, each, counts, first, second) in
            let held : handed core ≡ c.buffer = ap (λ (current : Option (Current L)). option_and_then (λ (c : Current L). c.buffer) current) is in
            let with_last : out ++ option_to_list c.buffer ≡ filled_chunks client 0 pages (l.before ++ l.last ∷ []) ++ option_to_list (option_map (filled client (0 + length pages) page) l.last) =
            ap (λ (o : Option (Buffer L)). out ++ option_to_list o) (sym held) ∙ whole ∙ ap (filled_chunks client 0 (pages ++ page ∷ [])) l.is ∙ filled_last client 0 pages page l.before l.last same
            in
            before_same out (filled_chunks client 0 pages (l.before ++ l.last ∷ [])) c.buffer (option_map (filled client (0 + length pages) page) l.last)
            (l.same ∙ sym (mapped_some (filled client (0 + length pages) page) l.last)) with_last
            ∙ ap (filled_chunks client 0 pages) (sym l.is)

one_page : (pages : List PlainPage) → length pages ≡ 1 → (page : PlainPage) × (pages ≡ page ∷ [])
one_page [] e = absurd (omega (arith, e))
one_page (page ∷ []) e = (page, refl)
one_page (page ∷ next ∷ pages) e = absurd (omega (arith, e))

no_page : (pages : List PlainPage) → length pages ≡ 0 → pages ≡ []
no_page [] e = refl
no_page (page ∷ pages) e = absurd (omega (arith, e))

module _ {L : Type 0} where
  same_count : (buffers : List (Option (Buffer L))) (draws : List Draw) → Agree buffers draws → length buffers ≡ length draws
  same_count [] [] h = refl
  same_count [] (draw ∷ draws) h = absurd h
  same_count (buffer ∷ buffers) [] h = absurd h
  same_count (buffer ∷ buffers) (draw ∷ draws) h = ap suc (same_count buffers draws h.1)

  -- without the page that is with the core, if one is
  handed_is : (client : ClientId) (size calls : ℕ) (steps : List (CoreStep L)) (all pages kept : List PlainPage) (is_open : Bool) → Whole client size calls steps all → length (chunks_supplied steps) ≡ length all → all ≡ pages ++ kept
      → length kept ≡ cond is_open 1 0 → is_some (core client size calls steps).current ≡ is_open → out client size calls steps ≡ filled_chunks client 0 pages (chunks_supplied steps)
  handed_is client size calls steps all pages kept true whole each are one some =
      let last = one_page kept one in
      let whole_is : all ≡ pages ++ last.0 ∷ [] = are ∙ ap (λ (kept : List PlainPage). pages ++ kept) last.1 in
      last_with_core client size calls steps pages last.0 (whole ∙ ap (λ (all : List PlainPage). filled_chunks client 0 all (chunks_supplied steps)) whole_is) (each ∙ ap length whole_is) some
  handed_is client size calls steps all pages kept false whole each are one some =
      let whole_is : all ≡ pages = are ∙ ap (λ (kept : List PlainPage). pages ++ kept) (no_page kept one) ∙ append-nil pages in
      none_with_core client size calls steps pages (whole ∙ ap (λ (all : List PlainPage). filled_chunks client 0 all (chunks_supplied steps)) whole_is) some

  pub cores_hand_out_so_far : ((client : ClientId) (size calls : ℕ) (steps : List (CoreStep L)) → AreSteps (new_core client size calls) steps → IsBook (new_core client size calls) steps) → FirstOperationsSend → FirstChunksAreSent
      → CoresHandOutSoFar L
  cores_hand_out_so_far books sends first client size calls front rest steps least h are =
      let n = length front in
      let pages = pages_within n (timed_pages size (front ++ rest)) in
      let draws = draws_supplied steps in
      let book = books client size calls steps are.may in
      let s = sends size front rest least h in
      let same : pages_of_steps size steps ≡ pages_of size front = ap (flat_map (segment_pages size)) are.segments in
      let each : length draws ≡ length (pages_of size front) = book.each ∙ ap length same in
      let whole : Whole client size calls steps (pages_of size front) = book.chunks ∙ ap (λ (all : List PlainPage). filled_chunks client 0 all (chunks_supplied steps)) same in
      let chunks : out client size calls steps ≡ filled_chunks client 0 (map page_in pages) (chunks_supplied steps) =
      handed_is client size calls steps (pages_of size front) (map page_in pages) s.kept (has_open_page false front) whole (same_count (chunks_supplied steps) draws (all_agree steps) ∙ each) s.sent s.one are.page
      in
      record {
        drawn = each ∙ sym s.started;
        chunks = chunks;
        sheets = λ more.
            ap sheets_in chunks ∙ sheets_agree client 0 pages (chunks_supplied steps) draws (all_agree steps)
            ∙ ap sheets_of_items (sym (first size client front rest draws more least h each));
      }
