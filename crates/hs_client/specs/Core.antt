-- What contracts see of a client's core: what it has noted, the open trace, and the current page with its chunk, if
-- that page has one. Each call answers by what is seen here, and changes it by one step.
use Rattle.std.specs.Prelude.{◌≡◌, ℕ, ◌+◌, ◌<◌, ◌≤◌, Bool, true, false, if◌then◌else◌, List, [], ◌∷◌, ◌++◌, length, Option, Some, None, IsSome, MatchOption}
use Rattle.std.specs.Option.{option_map, option_and_then}
use Rattle.hs_base.specs.declared.ids.TraceId.{TraceId}
use Rattle.hs_base.specs.declared.ids.ClientId.{ClientId}
use Rattle.hs_records.specs.declared.journal.Draw.{Draw}
use Rattle.hs_records.specs.declared.journal.Draw.TheVariants as draws
use Rattle.hs_records.specs.declared.books.PageNote.{PageNote}
use Rattle.hs_words.specs.declared.page.Header.{Header}
use Rattle.hs_words.specs.declared.token.Drawn.{Drawn}
use Rattle.hs_words.specs.declared.token.Drawn.TheVariants as drawn
use Rattle.hs_words.specs.Pages.{Piece, with_piece}
use Rattle.hs_words.specs.Chunks.{with_page}
use Rattle.hs_words.specs.Buffers.{Buffer, buffer_of, buffer_in}
use Rattle.hs_base.specs.declared.limits.TheConstants.{HEADER_COST, PIECE_COST, FRAME_COST}
use Rattle.hs_client.specs.declared.answers.Begun.{Begun}
use Rattle.hs_client.specs.declared.answers.Begun.TheVariants as begun
use Rattle.hs_client.specs.declared.answers.Pointed.{Pointed}
use Rattle.hs_client.specs.declared.answers.Pointed.TheVariants as pointed
use Rattle.hs_client.specs.declared.answers.Ended.{Ended}
use Rattle.hs_client.specs.declared.answers.Ended.TheVariants as ended

-- the current page: its note, and its chunk unless it is a null page
pub record Current (L : Type 0) : Type 0 where
  pub note : PageNote
  pub buffer : Option (Buffer L)

-- The calls that may be counted and those that were, the open trace, the number of the record that the next piece is
-- of, the used bytes of the last page of the trace (0 where it has none), and the notes of the pages that ended.
pub record Core (L : Type 0) : Type 0 where
  pub client : ClientId
  pub size : ℕ
  pub calls : ℕ
  pub counted : ℕ
  pub trace : Option TraceId
  pub number : ℕ
  pub used : ℕ
  pub current : Option (Current L)
  pub draws : List Draw
  pub pages : List PageNote
  -- whether the draws and the pages are kept, to be had at the end
  pub keeps : Bool
  -- how often it was renewed
  pub renewed : ℕ

abbrev pub new_core : {L : Type 0} → ClientId → ℕ → ℕ → Core L
new_core client size calls =
    record { client = client; size = size; calls = calls; counted = 0; trace = None; number = 0; used = 0; current = None; draws = []; pages = []; keeps = true; renewed = 0 }

-- a core that keeps no book, after so many renewals
abbrev pub bare_after : {L : Type 0} → ClientId → ℕ → ℕ → ℕ → Core L
bare_after client size calls renewed = record (new_core client size calls) { keeps = false; renewed = renewed }

abbrev pub bare_core : {L : Type 0} → ClientId → ℕ → ℕ → Core L
bare_core client size calls = bare_after client size calls 0

-- the bare core that comes in the place of this one, with the number of the next renewal
abbrev pub renewed_core : {L : Type 0} → ℕ → Core L → Core L
renewed_core calls core = bare_after core.client core.size calls (core.renewed + 1)

-- ---- what may happen

-- A call that is accepted, or a page that ends because a piece of so many bytes needs the next one. `more` says that the
-- piece's record goes on. A page that was drawn has a clear chunk or none.
pub data CoreStep (L : Type 0) : Type 0 where
  Began : (trace : TraceId) → CoreStep L
  Wrote : (moment : ℕ) (payload : List ℕ) (more : Bool) → CoreStep L
  Needed : (len : ℕ) → CoreStep L
  Supplied : (buffer : Option (Buffer L)) (stamp moment : ℕ) (payload : List ℕ) (more : Bool) → CoreStep L
  Ended_ : CoreStep L
  Refused : CoreStep L

abbrev pub piece : ℕ → List ℕ → Piece
piece moment payload = record { moment = moment; payload = payload }

-- the note with one piece more
abbrev pub one_more : PageNote → PageNote
one_more note = record { trace = note.trace; first = note.first; count = note.count + 1 }

-- the chunk with one piece more on its page
abbrev pub buffer_with : {L : Type 0} → Piece → Buffer L → Buffer L
buffer_with p buffer = record { chunk = with_page buffer.chunk (option_map (λ sheet. with_piece sheet p) buffer.chunk.page); lease = buffer.lease }

abbrev pub current_with : {L : Type 0} → Piece → Current L → Current L
current_with p current = record { note = one_more current.note; buffer = option_map (buffer_with p) current.buffer }

-- the chunk with a new page of one piece
abbrev pub started : {L : Type 0} → Header → Piece → Buffer L → Buffer L
started header p buffer = record { chunk = with_page buffer.chunk (Some (record { header = header; pieces = p ∷ [] })); lease = buffer.lease }

-- what is noted of a draw
abbrev pub draw_of : {L : Type 0} → Option (Buffer L) → ℕ → Draw
draw_of (Some buffer) stamp = draws.Got buffer.chunk.number stamp
draw_of None stamp = draws.Empty stamp

abbrev note_in : {L : Type 0} → Option (Current L) → List PageNote
note_in None = []
note_in (Some current) = current.note ∷ []

-- the notes of all pages, with that of the current one
abbrev pub all_pages : {L : Type 0} → Core L → List PageNote
all_pages core = core.pages ++ note_in core.current

-- the current page's chunk, if it has one
abbrev pub handed : {L : Type 0} → Core L → Option (Buffer L)
handed core = option_and_then (λ current. current.buffer) core.current

-- without a current page
abbrev pub closed : {L : Type 0} → Core L → Core L
closed core = record core { current = None; pages = all_pages core }

-- the number after a piece of a record, which goes on or not
abbrev pub number_after : Bool → ℕ → ℕ
number_after more number = if more then number else number + 1

-- the header of the page that comes next in this trace
abbrev pub next_header : {L : Type 0} → Core L → TraceId → Header
next_header core trace = record { trace = trace; client = core.client; page = length core.pages; first = core.number }

-- the page that comes next in this trace, with its first piece
abbrev pub next_page : {L : Type 0} → Core L → Option (Buffer L) → Piece → TraceId → Current L
next_page core buffer p trace =
    record { note = record { trace = trace; first = core.number; count = 1 }; buffer = option_map (started (next_header core trace) p) buffer }

-- the core after a step
abbrev pub after_step : {L : Type 0} → Core L → CoreStep L → Core L
after_step core (Began trace) = record core { counted = core.counted + 1; trace = Some trace; used = 0 }
after_step core (Wrote moment payload more) =
    record core {
      counted = core.counted + 1;
      number = number_after more core.number;
      used = core.used + (PIECE_COST + length payload);
      current = option_map (current_with (piece moment payload)) core.current;
    }
after_step core (Needed len) = closed core
after_step core (Supplied buffer stamp moment payload more) =
    record core {
      counted = core.counted + 1;
      number = number_after more core.number;
      used = HEADER_COST + (PIECE_COST + length payload);
      current = option_map (next_page core buffer (piece moment payload)) core.trace;
      draws = core.draws ++ draw_of buffer stamp ∷ [];
    }
after_step core Ended_ = record core { counted = core.counted + 1; trace = None; current = None; pages = all_pages core }
after_step core Refused = core

-- ---- when it may

-- Fewer calls were counted than may be.
abbrev pub IsLeft : {L : Type 0} → Core L → Type 0
IsLeft core = core.counted < core.calls

-- So many bytes fit a page.
abbrev pub IsNarrow : {L : Type 0} → Core L → ℕ → Type 0
IsNarrow core len = FRAME_COST + len ≤ core.size

-- There is a current page, and a piece of so many bytes fits it.
abbrev pub Fits : {L : Type 0} → Core L → ℕ → Type 0
Fits core len = IsSome core.current × (core.used + (PIECE_COST + len) ≤ core.size)

-- There is no current page, or a piece of so many bytes does not fit it.
abbrev pub NeedsPage : {L : Type 0} → Core L → ℕ → Type 0
NeedsPage core len = MatchOption core.current (Unit {0}) (λ current. core.size < core.used + (PIECE_COST + len))

-- A chunk is clear and has the core's size.
abbrev pub IsFresh : {L : Type 0} → Core L → Option (Buffer L) → Type 0
IsFresh core buffer = MatchOption buffer (Unit {0}) (λ b. (b.chunk.page ≡ None) × (b.chunk.size ≡ core.size))

-- The next page may be supplied for a piece of so many bytes.
pub record MaySupply {L : Type 0} (core : Core L) (len : ℕ) : Type 0 where
  pub left : core.counted < core.calls
  pub opened : IsSome core.trace
  pub none : core.current ≡ None
  pub narrow : FRAME_COST + len ≤ core.size
  -- a page that is in use already has too little room for the piece
  pub full : 0 < core.used → core.size < core.used + (PIECE_COST + len)

-- ---- what the calls answer

abbrev pub BeginsBy : {L : Type 0} → Core L → Begun → Type 0
BeginsBy core begun.Began = IsLeft core × (core.trace ≡ None)
BeginsBy core begun.Spent = core.counted ≡ core.calls
BeginsBy core begun.AlreadyOpen = IsLeft core × IsSome core.trace

abbrev pub PointsBy : {L : Type 0} {g : _} → Core L → ℕ → Pointed L g → Type 0
PointsBy core len pointed.Written = IsLeft core × IsSome core.trace × IsNarrow core len × Fits core len
PointsBy core len pointed.Spent = core.counted ≡ core.calls
PointsBy core len pointed.NoTrace = IsLeft core × (core.trace ≡ None)
PointsBy core len pointed.TooWide = IsLeft core × IsSome core.trace × (core.size < FRAME_COST + len)
PointsBy core len (pointed.NeedPage held) = IsLeft core × IsSome core.trace × IsNarrow core len × NeedsPage core len × (buffer_in held ≡ handed core)

abbrev pub EndsBy : {L : Type 0} {g : _} → Core L → Ended L g → Type 0
EndsBy core (ended.Ended held) = IsLeft core × IsSome core.trace × (buffer_in held ≡ handed core)
EndsBy core ended.Spent = core.counted ≡ core.calls
EndsBy core ended.NoTrace = IsLeft core × (core.trace ≡ None)

-- ---- the step that an answer stands for

abbrev pub began : {L : Type 0} → TraceId → Begun → CoreStep L
began trace begun.Began = Began trace
began trace begun.Spent = Refused
began trace begun.AlreadyOpen = Refused

abbrev pub pointed_step : {L : Type 0} {g : _} → ℕ → List ℕ → Bool → Pointed L g → CoreStep L
pointed_step moment payload more pointed.Written = Wrote moment payload more
pointed_step moment payload more pointed.Spent = Refused
pointed_step moment payload more pointed.NoTrace = Refused
pointed_step moment payload more pointed.TooWide = Refused
pointed_step moment payload more (pointed.NeedPage held) = Needed (length payload)

abbrev pub supplied : {L : Type 0} {g : _} → Drawn L g → ℕ → List ℕ → Bool → CoreStep L
supplied (drawn.Got held stamp) moment payload more = Supplied (Some (buffer_of held)) stamp moment payload more
supplied (drawn.Empty stamp) moment payload more = Supplied None stamp moment payload more

abbrev pub ended_step : {L : Type 0} {g : _} → Ended L g → CoreStep L
ended_step (ended.Ended held) = Ended_
ended_step ended.Spent = Refused
ended_step ended.NoTrace = Refused

-- What was drawn is clear and has the core's size.
abbrev pub HasClearChunk : {L : Type 0} {g : _} → Core L → Drawn L g → Type 0
HasClearChunk core (drawn.Got held stamp) = IsFresh core (Some (buffer_of held))
HasClearChunk core (drawn.Empty stamp) = Unit {0}

abbrev pub is_null : Draw → Bool
is_null (draws.Got buffer stamp) = false
is_null (draws.Empty stamp) = true
