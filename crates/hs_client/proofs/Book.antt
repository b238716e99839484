-- What holds of a core after each step.
use Rattle.std.proofs.Common.{◌≡◌, ℕ, ◌+◌, ◌<◌, ◌≤◌, Bool, List, [], ◌∷◌, ◌++◌, length, map, reverse, Some, None, Option, refl, sym, ap, ap₂, ◌∙◌, arith, length-append, append_assoc}
use Rattle.std.specs.Option.{option_map, option_to_list, option_and_then}
use Rattle.std.specs.List.{flat_map}
use Rattle.std.proofs.lemmas.List.{append-nil, length-map, map-append, reverse-append}
use Rattle.std.proofs.lemmas.Grind.{flat_map-append}
use Rattle.hs_base.specs.declared.limits.TheConstants.{HEADER_COST, PIECE_COST}
use Rattle.hs_base.specs.declared.ids.TraceId.{TraceId}
use Rattle.hs_base.specs.declared.ids.ClientId.{ClientId}
use Rattle.hs_records.specs.Records.{Piece, Segment}
use Rattle.hs_records.specs.Pages.{PlainPage, segment_pages, first_record}
use Rattle.hs_records.specs.declared.books.PageNote.{PageNote}
use Rattle.hs_words.specs.Chunks.{with_page}
use Rattle.hs_client.specs.Core.{Core, Current, Began, Wrote, Supplied, after_step, closed, handed, all_pages, one_more, current_with, buffer_with, next_page, piece, MaySupply}
use Rattle.hs_words.specs.Buffers.{Buffer}
use Rattle.hs_client.specs.Calls.{with_last, note_of, written, filled, filled_chunks}
use Rattle.hs_records.specs.Laws.{costs, joined, AreRuns}
use Rattle.hs_client.proofs.Runs.{AreLongest, used_of, add_run, grow_run, used_last, joined-append, costs-append}

abbrev pub page_with : TraceId → List Piece → PlainPage
page_with trace pieces = record { trace = trace; pieces = pieces }

abbrev pub segment_with : TraceId → List Piece → Segment
segment_with trace pieces = record { trace = trace; pieces = pieces }

-- the piece with its record's number
abbrev pub numbered : ℕ → ℕ → List ℕ → Piece
numbered number moment payload = record { number = number; moment = moment; payload = payload }

-- ---- chunks and notes of one page more

pub one_chunk_more : {L : Type 0} (client : ClientId) (number : ℕ) (pages : List PlainPage) (chunks : List (Option (Buffer L))) (p : PlainPage) (chunk : Option (Buffer L)) → length chunks ≡ length pages
    → filled_chunks client number (pages ++ p ∷ []) (chunks ++ chunk ∷ []) ≡ filled_chunks client number pages chunks ++ option_to_list (option_map (filled client (number + length pages) p) chunk)
one_chunk_more client number [] [] p None same = refl
one_chunk_more {L} client number [] [] p (Some chunk) same = ap (λ (n : ℕ). filled client n p chunk ∷ []) (omega arith)
one_chunk_more client number [] (c ∷ chunks) p chunk same = absurd (omega arith)
one_chunk_more client number (q ∷ pages) [] p chunk same = absurd (omega arith)
one_chunk_more {L} client number (q ∷ pages) (None ∷ chunks) p chunk same =
    one_chunk_more client (number + 1) pages chunks p chunk (omega arith)
    ∙ ap (λ (n : ℕ). filled_chunks client (number + 1) pages chunks ++ option_to_list (option_map (filled client n p) chunk)) (omega arith)
one_chunk_more {L} client number (q ∷ pages) (Some c ∷ chunks) p chunk same =
    ap (λ (l : List (Buffer L)). filled client number q c ∷ l)
    (one_chunk_more client (number + 1) pages chunks p chunk (omega arith)
    ∙ ap (λ (n : ℕ). filled_chunks client (number + 1) pages chunks ++ option_to_list (option_map (filled client n p) chunk)) (omega arith))

same_first : (trace : TraceId) (run : List Piece) (p : Piece) → 0 < length run → first_record (page_with trace (run ++ p ∷ [])) ≡ first_record (page_with trace run)
same_first trace [] p some = absurd (omega arith)
same_first trace (q ∷ run) p some = refl

one_note_more : (trace : TraceId) (run : List Piece) (p : Piece) → 0 < length run → one_more (note_of (page_with trace run)) ≡ note_of (page_with trace (run ++ p ∷ []))
one_note_more trace run p some =
    ap₂ (λ (first count : ℕ). let note : PageNote = record { trace = trace; first = first; count = count } in note) (sym (same_first trace run p some)) (sym (length-append run (p ∷ [])))

one_piece_more : {L : Type 0} (client : ClientId) (at : ℕ) (trace : TraceId) (run : List Piece) (number moment : ℕ) (payload : List ℕ) (chunk : Option (Buffer L)) → 0 < length run
    → option_map (buffer_with (piece moment payload)) (option_map (filled client at (page_with trace run)) chunk) ≡ option_map (filled client at (page_with trace (run ++ numbered number moment payload ∷ []))) chunk
one_piece_more client at trace run number moment payload None some = refl
one_piece_more {L} client at trace run number moment payload (Some chunk) some =
    let p = numbered number moment payload in
    ap₂ (λ (first : ℕ) (pieces : List Rattle.hs_words.specs.Pages.Piece).
    let b : Buffer L = record { chunk = with_page chunk.chunk (Some (record { header = record { trace = trace; client = client; page = at; first = first }; pieces = pieces })); lease = chunk.lease } in Some b)
    (sym (same_first trace run p some)) (sym (map-append written run (p ∷ [])))

-- ---- the pages of segments

-- the pages of segments, of which the newest stands first; the pages are in order
abbrev pub pages_back : ℕ → List Segment → List PlainPage
pages_back size [] = []
pages_back size (segment ∷ older) = pages_back size older ++ segment_pages size segment

pub pages_in_order : (size : ℕ) (segments : List Segment) → pages_back size segments ≡ flat_map (segment_pages size) (reverse segments)
pages_in_order size [] = refl
pages_in_order size (segment ∷ older) =
    ap₂ (λ (xs ys : List PlainPage). xs ++ ys) (pages_in_order size older) (sym (append-nil (segment_pages size segment)))
    ∙ sym (flat_map-append (segment_pages size) (reverse older) (segment ∷ []))
    ∙ ap (flat_map (segment_pages size)) (sym (reverse-append (segment ∷ []) older))

pub pages_with_runs : AreLongest → (size : ℕ) (trace : TraceId) (runs : List (List Piece)) (older : List Segment) → AreRuns size runs
    → pages_back size (segment_with trace (joined runs) ∷ older) ≡ pages_back size older ++ map (page_with trace) runs
pages_with_runs longest size trace runs older are = ap (λ (rs : List (List Piece)). pages_back size older ++ map (page_with trace) rs) (longest size runs are)

last_page : (older : List PlainPage) (trace : TraceId) (front : List (List Piece)) (run : List Piece)
    → older ++ map (page_with trace) (front ++ run ∷ []) ≡ (older ++ map (page_with trace) front) ++ page_with trace run ∷ []
last_page older trace front run = ap (λ (l : List PlainPage). older ++ l) (map-append (page_with trace) front (run ∷ [])) ∙ sym (append_assoc older (map (page_with trace) front) (page_with trace run ∷ []))

-- ---- what holds

-- the newest segment's runs, and the used bytes of the last
pub record HasRuns (size : ℕ) (trace : TraceId) (segments : List Segment) (used : ℕ) : Type 0 where
  pub runs : List (List Piece)
  pub older : List Segment
  pub segments_are : segments ≡ segment_with trace (joined runs) ∷ older
  pub are : AreRuns size runs
  pub used_is : used ≡ used_of runs

-- The core keeps no page: all pages are noted and their chunks handed out.
pub record KeepsNone {L : Type 0} (client : ClientId) (size : ℕ) (core : Core L) (segments : List Segment) (supplied : List (Option (Buffer L))) (out : List (Buffer L)) : Type 0 where
  pub none : core.current ≡ None
  pub pages : core.pages ≡ map note_of (pages_back size segments)
  pub each : length supplied ≡ length (pages_back size segments)
  pub chunks : out ≡ filled_chunks client 0 (pages_back size segments) supplied
  pub last : (trace : TraceId) → core.trace ≡ Some trace → HasRuns size trace segments core.used

-- The core keeps the last page.
pub record KeepsLast {L : Type 0} (client : ClientId) (size : ℕ) (core : Core L) (segments : List Segment) (supplied : List (Option (Buffer L))) (out : List (Buffer L)) : Type 0 where
  pub trace : TraceId
  pub front : List (List Piece)
  pub run : List Piece
  pub older : List Segment
  pub before : List (Option (Buffer L))
  pub chunk : Option (Buffer L)
  pub trace_is : core.trace ≡ Some trace
  pub segments_are : segments ≡ segment_with trace (joined (front ++ run ∷ [])) ∷ older
  pub are : AreRuns size (front ++ run ∷ [])
  pub used_is : core.used ≡ HEADER_COST + costs run
  pub supplied_are : supplied ≡ before ++ chunk ∷ []
  pub each : length before ≡ length (pages_back size older ++ map (page_with trace) front)
  pub current : core.current
      ≡ Some (record { note = note_of (page_with trace run); buffer = option_map (filled client (length (pages_back size older ++ map (page_with trace) front)) (page_with trace run)) chunk })
  pub pages : core.pages ≡ map note_of (pages_back size older ++ map (page_with trace) front)
  pub chunks : out ≡ filled_chunks client 0 (pages_back size older ++ map (page_with trace) front) before

-- the last run has a piece
last_some : (size : ℕ) (front : List (List Piece)) (run : List Piece) → AreRuns size (front ++ run ∷ []) → 0 < length run
last_some size [] run are = are.0.some
last_some size (f ∷ front) run are = last_some size front run are.2

-- ---- the steps

module _ {L : Type 0} (longest : AreLongest) (client : ClientId) (size : ℕ) (core : Core L) (segments : List Segment) (supplied : List (Option (Buffer L))) (out : List (Buffer L)) where
  pub begun : (trace : TraceId) → KeepsNone client size core segments supplied out → KeepsNone client size (after_step core (Began trace)) (segment_with trace [] ∷ segments) supplied out
  begun trace is =
      let same : pages_back size (segment_with trace [] ∷ segments) ≡ pages_back size segments = append-nil (pages_back size segments) in
      record {
        none = is.none;
        pages = is.pages ∙ ap (map note_of) (sym same);
        each = is.each ∙ ap length (sym same);
        chunks = is.chunks ∙ ap (λ (ps : List PlainPage). filled_chunks client 0 ps supplied) (sym same);
        last = λ other e.
            let t : trace ≡ other = cc in
            record { runs = []; older = segments; segments_are = ap (λ (u : TraceId). segment_with u [] ∷ segments) t; are = tt; used_is = refl };
      }

  -- the pages with the one that is kept
  whole : (is : KeepsLast client size core segments supplied out)
      → pages_back size segments ≡ (pages_back size is.older ++ map (page_with is.trace) is.front) ++ page_with is.trace is.run ∷ []
  whole is =
      ap (pages_back size) is.segments_are ∙ pages_with_runs longest size is.trace (is.front ++ is.run ∷ []) is.older is.are ∙ last_page (pages_back size is.older) is.trace is.front is.run

  pub all_noted : (is : KeepsLast client size core segments supplied out) → all_pages core ≡ map note_of (pages_back size segments)
  all_noted is =
      let kept = pages_back size is.older ++ map (page_with is.trace) is.front in
      let current : Current L = record { note = note_of (page_with is.trace is.run); buffer = option_map (filled client (length kept) (page_with is.trace is.run)) is.chunk } in
      ap (λ (c : Option (Current L)). all_pages (record core { current = c })) is.current
      ∙ ap (λ (notes : List PageNote). notes ++ note_of (page_with is.trace is.run) ∷ []) is.pages
      ∙ sym (map-append note_of kept (page_with is.trace is.run ∷ [])) ∙ ap (map note_of) (sym (whole is))

  pub all_handed : (is : KeepsLast client size core segments supplied out) → out ++ option_to_list (handed core) ≡ filled_chunks client 0 (pages_back size segments) supplied
  all_handed is =
      let kept = pages_back size is.older ++ map (page_with is.trace) is.front in
      let chunk = option_map (filled client (length kept) (page_with is.trace is.run)) is.chunk in
      let held : handed core ≡ chunk = ap (λ (c : Option (Current L)). option_and_then (λ (current : Current L). current.buffer) c) is.current in
      ap₂ (λ (l : List (Buffer L)) (c : Option (Buffer L)). l ++ option_to_list c) is.chunks held
      ∙ ap (λ (n : ℕ). filled_chunks client 0 kept is.before ++ option_to_list (option_map (filled client n (page_with is.trace is.run)) is.chunk)) (let zero_plus : length kept ≡ 0 + length kept = omega arith in zero_plus)
      ∙ sym (one_chunk_more client 0 kept is.before (page_with is.trace is.run) is.chunk is.each)
      ∙ ap₂ (λ (ps : List PlainPage) (cs : List (Option (Buffer L))). filled_chunks client 0 ps cs) (sym (whole is)) (sym is.supplied_are)

  pub all_each : (is : KeepsLast client size core segments supplied out) → length supplied ≡ length (pages_back size segments)
  all_each is =
      let kept = pages_back size is.older ++ map (page_with is.trace) is.front in
      omega (arith, ap length is.supplied_are, length-append is.before (is.chunk ∷ []), is.each, ap length (whole is), length-append kept (page_with is.trace is.run ∷ []))

  pub needed : KeepsLast client size core segments supplied out → KeepsNone client size (closed core) segments supplied (out ++ option_to_list (handed core))
  needed is =
      record {
        none = refl;
        pages = all_noted is;
        each = all_each is;
        chunks = all_handed is;
        last = λ other e.
            let t : is.trace ≡ other = let both : Some is.trace ≡ Some other = sym is.trace_is ∙ e in cc in
            record {
              runs = is.front ++ is.run ∷ [];
              older = is.older;
              segments_are = is.segments_are ∙ ap (λ (u : TraceId). segment_with u (joined (is.front ++ is.run ∷ [])) ∷ is.older) t;
              are = is.are;
              used_is = is.used_is ∙ sym (used_last is.front is.run);
            };
      }

  pub needed_none : KeepsNone client size core segments supplied out → KeepsNone client size (closed core) segments supplied (out ++ option_to_list (handed core))
  needed_none is =
      let held : handed core ≡ None = ap (λ (c : Option (Current L)). option_and_then (λ (current : Current L). current.buffer) c) is.none in
      let notes : all_pages core ≡ core.pages = ap (λ (c : Option (Current L)). all_pages (record core { current = c })) is.none ∙ append-nil core.pages in
      record {
        none = refl;
        pages = notes ∙ is.pages;
        each = is.each;
        chunks = ap (λ (c : Option (Buffer L)). out ++ option_to_list c) held ∙ append-nil out ∙ is.chunks;
        last = is.last;
      }

  pub wrote : (moment : ℕ) (payload : List ℕ) (more : Bool) (number : ℕ) → KeepsLast client size core segments supplied out → core.used + (PIECE_COST + length payload) ≤ size
      → KeepsLast client size (after_step core (Wrote moment payload more)) (with_last (numbered number moment payload) segments) supplied out
  wrote moment payload more number is room =
      let p = numbered number moment payload in
      let some = last_some size is.front is.run is.are in
      let kept = pages_back size is.older ++ map (page_with is.trace) is.front in
      record {
        trace = is.trace;
        front = is.front;
        run = is.run ++ p ∷ [];
        older = is.older;
        before = is.before;
        chunk = is.chunk;
        trace_is = is.trace_is;
        segments_are = ap (with_last p) is.segments_are ∙ ap (λ (ps : List Piece). segment_with is.trace ps ∷ is.older) (grown is.front is.run p);
        are = grow_run size is.front is.run p (omega (arith, room, is.used_is)) is.are;
        used_is = omega (arith, is.used_is, costs-append is.run (p ∷ []));
        supplied_are = is.supplied_are;
        each = is.each;
        current = ap (option_map (current_with (piece moment payload))) is.current
            ∙ ap₂ (λ (note : PageNote) (buffer : Option (Buffer L)). let c : Current L = record { note = note; buffer = buffer } in Some c) (one_note_more is.trace is.run p some)
            (one_piece_more client (length kept) is.trace is.run number moment payload is.chunk some);
        pages = is.pages;
        chunks = is.chunks;
      }
    where
      grown : (front : List (List Piece)) (run : List Piece) (p : Piece) → joined (front ++ run ∷ []) ++ p ∷ [] ≡ joined (front ++ (run ++ p ∷ []) ∷ [])
      grown front run p =
          ap (λ (l : List Piece). l ++ p ∷ []) (joined-append front (run ∷ [])) ∙ append_assoc (joined front) (run ++ []) (p ∷ [])
          ∙ ap (λ (l : List Piece). joined front ++ l) (ap (λ (l : List Piece). l ++ p ∷ []) (append-nil run) ∙ sym (append-nil (run ++ p ∷ [])))
          ∙ sym (joined-append front ((run ++ p ∷ []) ∷ []))

  pub supplied_more : (buffer : Option (Buffer L)) (stamp moment : ℕ) (payload : List ℕ) (more : Bool) (trace : TraceId) → core.client ≡ client → core.size ≡ size → core.trace ≡ Some trace
      → KeepsNone client size core segments supplied out → MaySupply core (length payload)
      → KeepsLast client size (after_step core (Supplied buffer stamp moment payload more)) (with_last (numbered core.number moment payload) segments) (supplied ++ buffer ∷ []) out
  supplied_more buffer stamp moment payload more trace same_client same_size opened is may =
      let p = numbered core.number moment payload in
      let last = is.last trace opened in
      let kept = pages_back size last.older ++ map (page_with trace) last.runs in
      let pages : pages_back size segments ≡ kept = ap (pages_back size) last.segments_are ∙ pages_with_runs longest size trace last.runs last.older last.are in
      let many : length core.pages ≡ length kept = ap length is.pages ∙ length-map (pages_back size segments) note_of ∙ ap length pages in
      record {
        trace = trace;
        front = last.runs;
        run = p ∷ [];
        older = last.older;
        before = supplied;
        chunk = buffer;
        trace_is = opened;
        segments_are = ap (with_last p) last.segments_are ∙ ap (λ (ps : List Piece). segment_with trace ps ∷ last.older) (sym (joined-append last.runs ((p ∷ []) ∷ [])));
        are = add_run size last.runs p (omega (arith, may.narrow, same_size)) last.are (λ used. let full = may.full (omega (arith, used, last.used_is)) in omega (arith, full, last.used_is, same_size));
        used_is = omega arith;
        supplied_are = refl;
        each = is.each ∙ ap length pages;
        current = ap (option_map (next_page core buffer (piece moment payload))) opened
            ∙ ap₂ (λ (owner : ClientId) (at : ℕ).
            let c : Current L = record { note = note_of (page_with trace (p ∷ [])); buffer = option_map (filled owner at (page_with trace (p ∷ []))) buffer } in Some c) same_client many;
        pages = is.pages ∙ ap (map note_of) pages;
        chunks = is.chunks ∙ ap (λ (ps : List PlainPage). filled_chunks client 0 ps supplied) pages;
      }
