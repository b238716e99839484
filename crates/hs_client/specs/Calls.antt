-- What a whole list of steps of a core says, looked back over from its end: in each list of steps the last stands first.
-- The pieces of a trace are those that were written or supplied while it was open, each of the record whose number is
-- the count of records that were finished before. The pages are the longest runs of these pieces.
use Rattle.std.specs.Prelude.{◌≡◌, ℕ, ◌+◌, true, false, List, [], ◌∷◌, ◌++◌, length, map, reverse, replicate, Option, Some, None, IsSome, refl}
use Rattle.std.specs.Option.{option_to_list}
use Rattle.std.specs.List.{flat_map}
use Rattle.hs_base.specs.declared.ids.TraceId.{TraceId}
use Rattle.hs_base.specs.declared.ids.ClientId.{ClientId}
use Rattle.hs_base.specs.Samples.{owner}
use Rattle.hs_records.specs.Records.{Piece, Segment}
use Rattle.hs_records.specs.Pages.{PlainPage, segment_pages, first_record}
use Rattle.hs_records.specs.declared.journal.Draw.{Draw}
use Rattle.hs_records.specs.declared.books.PageNote.{PageNote}
use Rattle.hs_words.specs.Pages.{Sheet}
use Rattle.hs_words.specs.Pages as page
use Rattle.hs_words.specs.Chunks.{with_page, clear_chunk}
use Rattle.hs_client.specs.Core.{Core, CoreStep, Began, Wrote, Needed, Supplied, Ended_, Refused, after_step, new_core, handed, all_pages, draw_of, number_after, IsLeft, IsNarrow, Fits, NeedsPage, MaySupply, IsFresh}
use Rattle.hs_words.specs.Buffers.{Buffer}

-- A core as it is may do this step.
abbrev pub May : {L : Type 0} → Core L → CoreStep L → Type 0
May core (Began trace) = IsLeft core × (core.trace ≡ None)
May core (Wrote moment payload more) = IsLeft core × IsSome core.trace × IsNarrow core (length payload) × Fits core (length payload)
May core (Needed len) = IsLeft core × IsSome core.trace × IsNarrow core len × NeedsPage core len
May core (Supplied buffer stamp moment payload more) = MaySupply core (length payload) × IsFresh core buffer
May core Ended_ = IsLeft core × IsSome core.trace
May core Refused = Unit {0}

-- the core after these steps
abbrev pub after : {L : Type 0} → Core L → List (CoreStep L) → Core L
after new [] = new
after new (step ∷ earlier) = after_step (after new earlier) step

-- Each step may be done after those before it.
abbrev pub AreSteps : {L : Type 0} → Core L → List (CoreStep L) → Type 0
AreSteps new [] = Unit {0}
AreSteps new (step ∷ earlier) = AreSteps new earlier × May (after new earlier) step

-- ---- what the steps were

-- how many records were finished
abbrev pub next_number : {L : Type 0} → List (CoreStep L) → ℕ
next_number [] = 0
next_number (Wrote moment payload more ∷ earlier) = number_after more (next_number earlier)
next_number (Supplied buffer stamp moment payload more ∷ earlier) = number_after more (next_number earlier)
next_number (Began trace ∷ earlier) = next_number earlier
next_number (Needed len ∷ earlier) = next_number earlier
next_number (Ended_ ∷ earlier) = next_number earlier
next_number (Refused ∷ earlier) = next_number earlier

-- the segments, the newest of which stands first, with a piece more in the newest
abbrev pub with_last : Piece → List Segment → List Segment
with_last piece [] = []
with_last piece (segment ∷ older) = record { trace = segment.trace; pieces = segment.pieces ++ piece ∷ [] } ∷ older

-- the same with these pieces more in the newest
abbrev pub with_all : List Piece → List Segment → List Segment
with_all [] segments = segments
with_all (piece ∷ pieces) segments = with_all pieces (with_last piece segments)

-- the segments that were begun; the newest stands first
abbrev pub segments_of_steps : {L : Type 0} → List (CoreStep L) → List Segment
segments_of_steps [] = []
segments_of_steps (Began trace ∷ earlier) = record { trace = trace; pieces = [] } ∷ segments_of_steps earlier
segments_of_steps (Wrote moment payload more ∷ earlier) = with_last (record { number = next_number earlier; moment = moment; payload = payload }) (segments_of_steps earlier)
segments_of_steps (Supplied buffer stamp moment payload more ∷ earlier) = with_last (record { number = next_number earlier; moment = moment; payload = payload }) (segments_of_steps earlier)
segments_of_steps (Needed len ∷ earlier) = segments_of_steps earlier
segments_of_steps (Ended_ ∷ earlier) = segments_of_steps earlier
segments_of_steps (Refused ∷ earlier) = segments_of_steps earlier

-- the trace that is open
abbrev pub open_trace : {L : Type 0} → List (CoreStep L) → Option TraceId
open_trace [] = None
open_trace (Began trace ∷ earlier) = Some trace
open_trace (Ended_ ∷ earlier) = None
open_trace (Wrote moment payload more ∷ earlier) = open_trace earlier
open_trace (Supplied buffer stamp moment payload more ∷ earlier) = open_trace earlier
open_trace (Needed len ∷ earlier) = open_trace earlier
open_trace (Refused ∷ earlier) = open_trace earlier

-- what was supplied: the chunk, or none, and what is noted of the draw; in order
abbrev pub chunks_supplied : {L : Type 0} → List (CoreStep L) → List (Option (Buffer L))
chunks_supplied [] = []
chunks_supplied (Supplied buffer stamp moment payload more ∷ earlier) = chunks_supplied earlier ++ buffer ∷ []
chunks_supplied (Began trace ∷ earlier) = chunks_supplied earlier
chunks_supplied (Wrote moment payload more ∷ earlier) = chunks_supplied earlier
chunks_supplied (Needed len ∷ earlier) = chunks_supplied earlier
chunks_supplied (Ended_ ∷ earlier) = chunks_supplied earlier
chunks_supplied (Refused ∷ earlier) = chunks_supplied earlier

abbrev pub draws_supplied : {L : Type 0} → List (CoreStep L) → List Draw
draws_supplied [] = []
draws_supplied (Supplied buffer stamp moment payload more ∷ earlier) = draws_supplied earlier ++ draw_of buffer stamp ∷ []
draws_supplied (Began trace ∷ earlier) = draws_supplied earlier
draws_supplied (Wrote moment payload more ∷ earlier) = draws_supplied earlier
draws_supplied (Needed len ∷ earlier) = draws_supplied earlier
draws_supplied (Ended_ ∷ earlier) = draws_supplied earlier
draws_supplied (Refused ∷ earlier) = draws_supplied earlier

-- the chunks that the steps handed out, in order
abbrev pub handed_out : {L : Type 0} → Core L → List (CoreStep L) → List (Buffer L)
handed_out new [] = []
handed_out new (Needed len ∷ earlier) = handed_out new earlier ++ option_to_list (handed (after new earlier))
handed_out new (Ended_ ∷ earlier) = handed_out new earlier ++ option_to_list (handed (after new earlier))
handed_out new (Began trace ∷ earlier) = handed_out new earlier
handed_out new (Wrote moment payload more ∷ earlier) = handed_out new earlier
handed_out new (Supplied buffer stamp moment payload more ∷ earlier) = handed_out new earlier
handed_out new (Refused ∷ earlier) = handed_out new earlier

-- ---- what they should come to

-- the pages of what was written and supplied, segment by segment in order
abbrev pub pages_of_steps : {L : Type 0} → ℕ → List (CoreStep L) → List PlainPage
pages_of_steps size steps = flat_map (segment_pages size) (reverse (segments_of_steps steps))

-- what is noted of a page
abbrev pub note_of : PlainPage → PageNote
note_of p = record { trace = p.trace; first = first_record p; count = length p.pieces }

-- a piece as it stands on a page, without its record's number
abbrev pub written : Piece → page.Piece
written piece = record { moment = piece.moment; payload = piece.payload }

-- the page as it stands in a chunk, with its number among the client's pages
abbrev pub sheet_for : ClientId → ℕ → PlainPage → Sheet
sheet_for client number p = record { header = record { trace = p.trace; client = client; page = number; first = first_record p }; pieces = map written p.pieces }

-- the chunk with this page
abbrev pub filled : {L : Type 0} → ClientId → ℕ → PlainPage → Buffer L → Buffer L
filled client number p buffer = record { chunk = with_page buffer.chunk (Some (sheet_for client number p)); lease = buffer.lease }

-- The chunks of pages with these numbers on, each filled with its page; a page whose draw got none has none.
abbrev pub filled_chunks : {L : Type 0} → ClientId → ℕ → List PlainPage → List (Option (Buffer L)) → List (Buffer L)
filled_chunks client number [] chunks = []
filled_chunks client number (p ∷ pages) [] = []
filled_chunks client number (p ∷ pages) (None ∷ chunks) = filled_chunks client (number + 1) pages chunks
filled_chunks client number (p ∷ pages) (Some buffer ∷ chunks) = filled client number p buffer ∷ filled_chunks client (number + 1) pages chunks

-- What a new core is after these steps. The pages that it noted are those of what was written and supplied, its draws
-- are those that were supplied, one for each page, and the chunks that it handed out, with the one that it keeps, are
-- those of the pages, each filled with its page.
pub record IsBook {L : Type 0} (new : Core L) (steps : List (CoreStep L)) : Type 0 where
  pub trace : (after new steps).trace ≡ open_trace steps
  pub number : (after new steps).number ≡ next_number steps
  pub pages : all_pages (after new steps) ≡ map note_of (pages_of_steps new.size steps)
  pub draws : (after new steps).draws ≡ draws_supplied steps
  pub each : length (draws_supplied steps) ≡ length (pages_of_steps new.size steps)
  pub chunks : handed_out new steps ++ option_to_list (handed (after new steps)) ≡ filled_chunks new.client 0 (pages_of_steps new.size steps) (chunks_supplied steps)
  -- where no trace is open, the core keeps no page
  pub closed : open_trace steps ≡ None → (after new steps).current ≡ None

-- ---- examples, at the least size: a page has room for costs of 40

abbrev pub t1 : TraceId
t1 = record { 0 = 1 }

abbrev t2 : TraceId
t2 = record { 0 = 2 }

abbrev pub clear : ℕ → Buffer ℕ
clear number = record { chunk = clear_chunk 64 number; lease = 7 }

-- A record of 30 bytes, which fills a page, a record of one byte on a null page, which a last record joins; the last
-- step stands first.
abbrev three_records : List (CoreStep ℕ)
three_records =
    Ended_ ∷ Wrote 7 (8 ∷ []) false ∷ Supplied None 1 6 (9 ∷ []) false ∷ Needed 1 ∷ Supplied (Some (clear 0)) 0 5 (replicate 30 9) false ∷ Needed 30 ∷ Began t1 ∷ []

abbrev pub new_64 : Core ℕ
new_64 = new_core owner 64 9

three_are_finished : next_number three_records ≡ 3
three_are_finished = refl

none_is_open : open_trace three_records ≡ None
none_is_open = refl

notes_of_three : map note_of (pages_of_steps 64 three_records) ≡ record { trace = t1; first = 0; count = 1 } ∷ record { trace = t1; first = 1; count = 2 } ∷ []
notes_of_three = refl

noted_by_steps : all_pages (after new_64 three_records) ≡ record { trace = t1; first = 0; count = 1 } ∷ record { trace = t1; first = 1; count = 2 } ∷ []
noted_by_steps = refl

-- only the first page has a chunk, which the second `Needed` hands out
handed_of_three : handed_out new_64 three_records ≡ filled owner 0 (record { trace = t1; pieces = record { number = 0; moment = 5; payload = replicate 30 9 } ∷ [] }) (clear 0) ∷ []
handed_of_three = refl

chunks_of_three : filled_chunks owner 0 (pages_of_steps 64 three_records) (chunks_supplied three_records) ≡ handed_out new_64 three_records
chunks_of_three = refl

-- a record that goes on keeps its number over two pages, and a new trace starts a page
abbrev two_traces : List (CoreStep ℕ)
two_traces =
    Supplied None 2 8 [] false ∷ Needed 0 ∷ Began t2 ∷ Ended_ ∷ Supplied None 1 5 (9 ∷ []) false ∷ Needed 1 ∷ Supplied None 0 5 (replicate 30 9) true ∷ Needed 30 ∷ Began t1 ∷ []

notes_of_two : map note_of (pages_of_steps 64 two_traces) ≡ record { trace = t1; first = 0; count = 1 } ∷ record { trace = t1; first = 0; count = 1 } ∷ record { trace = t2; first = 1; count = 1 } ∷ []
notes_of_two = refl

second_is_open : open_trace two_traces ≡ Some t2
second_is_open = refl

noted_of_two : all_pages (after new_64 two_traces) ≡ map note_of (pages_of_steps 64 two_traces)
noted_of_two = refl
