-- One client, as its notes tell. Its notes are numbered from 0, and each number is one more than the one before. So a note with
-- another number shows that a note was missed, and so does one that a client with this segment open, or with none, cannot make: it
-- cannot end a segment before a page that it wrote in it.
use Rattle.std.specs.Prelude.{◌≡◌, ℕ, ◌+◌, Bool, true, false, not, ◌&&◌, ◌||◌, ◌==◌, None, Some, is_some, unwrap_or, if◌then◌else◌, refl}
use Rattle.std.specs.Option.{option_map_or}
use Rattle.hs_base.specs.declared.ids.TraceId.{TraceId}
use Rattle.hs_base.specs.Ids.{same_trace}
use Rattle.hs_base.specs.Samples.{t}
use Rattle.hs_whole.specs.declared.page.PageName.{PageName}
use Rattle.hs_whole.specs.declared.track.Track.{Track}
use Rattle.hs_whole.specs.Pages.{first_page, is_before, later_page, p}

-- a client of which no note was heard
abbrev pub no_notes : Track
no_notes = record { next = 0; current = None; from = Some first_page; end = first_page; reached = None }

-- whether its open segment is of this trace
abbrev pub is_open : TraceId → Track → Bool
is_open trace track = option_map_or (λ current. same_trace current trace) track.current false

-- ---- which note comes next

-- whether the next note of a client can be that a segment begins, by this number
abbrev pub begins_next : Track → ℕ → Bool
begins_next track number = (number == track.next) && not (is_some track.current)

-- whether the open segment can end at this page: neither its begin nor a page that was handed out of it lies behind
abbrev pub can_end : Track → PageName → Bool
can_end track end = not (is_before end track.end) && option_map_or (λ reached. is_before reached end) track.reached true

-- whether the next note of a client can be that a segment of the trace ends at this page, by this number
abbrev pub ends_next : Track → ℕ → TraceId → PageName → Bool
ends_next track number trace end = (number == track.next) && (is_open trace track && can_end track end)

-- whether the next note of a client can be that a crumb was refused, by this number: whatever is open
abbrev pub refuses_next : Track → ℕ → Bool
refuses_next track number = number == track.next

-- ---- a note comes

-- the first page since the last note that was missed, behind a note that names this page and is the next one or not
abbrev pub known_from : Track → Bool → PageName → PageName
known_from track is_next page = if is_next then unwrap_or track.from page else page

-- the client behind a note that a segment of the trace begins, with this page
abbrev pub begun : Track → ℕ → TraceId → PageName → Track
begun track number trace first = record { next = number + 1; current = Some trace; from = Some (known_from track (begins_next track number) first); end = first; reached = None }

-- behind one that a segment of the trace ends, before this page
abbrev pub ended : Track → ℕ → TraceId → PageName → Track
ended track number trace end = record { next = number + 1; current = None; from = Some (known_from track (ends_next track number trace end) end); end = end; reached = None }

-- behind one that a crumb was refused: where a note was missed before it, no more is known than the number of the next one
abbrev pub passed : Track → ℕ → Track
passed track number = if refuses_next track number then record track { next = number + 1 } else record track { next = number + 1; current = None; from = None; reached = None }

-- ---- a page is handed out

-- whether a page of the trace is heard of: since the client's notes came to this page none was missed, and it lies before the end of
-- the last segment that was heard, or in the open one, which is of this trace
abbrev pub is_heard_of : TraceId → PageName → Track → Bool
is_heard_of trace page track = option_map_or (λ from. not (is_before page from)) track.from false && (is_before page track.end || is_open trace track)

-- the client once a page of the trace is handed out: it may be the last of the open segment so far
abbrev pub handed : TraceId → PageName → Track → Track
handed trace page track = if is_heard_of trace page track && not (is_before page track.end) then record track { reached = Some (later_page track.reached page) } else track

-- ---- worked examples

-- note 0 begins a segment of trace 9 with page 0; then note 1 ends it behind page 1, and neither note 2 nor the end of another trace
-- can come next
abbrev open_nine : Track
open_nine = begun no_notes 0 (t 9) (p 0 0)

nine : (begins_next no_notes 0 ≡ true) × (ends_next open_nine 1 (t 9) (p 0 2) ≡ true) × (ends_next open_nine 2 (t 9) (p 0 2) ≡ false) × (ends_next open_nine 1 (t 8) (p 0 2) ≡ false)
nine = (refl, refl, refl, refl)

-- a client has one segment open at most
abbrev two_of_nine : Track
two_of_nine = ended open_nine 1 (t 9) (p 0 2)

one_at_most : (begins_next open_nine 1 ≡ false) × (begins_next two_of_nine 2 ≡ true) × (ends_next two_of_nine 2 (t 9) (p 0 2) ≡ false)
one_at_most = (refl, refl, refl)

-- a crumb can be refused at any time
any_time : (refuses_next open_nine 1 ≡ true) × (refuses_next two_of_nine 2 ≡ true) × (refuses_next two_of_nine 3 ≡ false)
any_time = (refl, refl, refl)

-- while the segment is open each page of it is heard of, and none of another trace; once it is closed, those before its end are
in_it : (is_heard_of (t 9) (p 0 7) open_nine ≡ true) × (is_heard_of (t 8) (p 0 7) open_nine ≡ false) × (is_heard_of (t 9) (p 0 1) two_of_nine ≡ true) × (is_heard_of (t 9) (p 0 2) two_of_nine ≡ false)
in_it = (refl, refl, refl, refl)

-- once page 4 is handed out of it, the segment cannot end before page 4, nor before its first page
with_four : (ends_next (handed (t 9) (p 0 4) open_nine) 1 (t 9) (p 0 4) ≡ false) × (ends_next (handed (t 9) (p 0 4) open_nine) 1 (t 9) (p 0 5) ≡ true) × (ends_next (handed (t 8) (p 0 4) open_nine) 1 (t 9) (p 0 4) ≡ true)
    × (ends_next (begun two_of_nine 2 (t 9) (p 0 2)) 3 (t 9) (p 0 1) ≡ false)
with_four = (refl, refl, refl, refl)

-- where notes 2 and 3 are missed, pages 2 to 5 are not heard of, and neither are those before them any more
behind_a_gap : (is_heard_of (t 9) (p 0 5) (begun two_of_nine 4 (t 9) (p 0 6)) ≡ false) × (is_heard_of (t 9) (p 0 1) (begun two_of_nine 4 (t 9) (p 0 6)) ≡ false) × (is_heard_of (t 9) (p 0 6) (begun two_of_nine 4 (t 9) (p 0 6)) ≡ true)
behind_a_gap = (refl, refl, refl)

-- where a refused crumb shows that a note was missed, no page is heard of before the next segment begins
refused_behind_a_gap : (is_heard_of (t 9) (p 0 1) (passed two_of_nine 2) ≡ true) × (is_heard_of (t 9) (p 0 1) (passed two_of_nine 3) ≡ false) × (is_heard_of (t 9) (p 0 1) (begun (passed two_of_nine 3) 4 (t 9) (p 0 6)) ≡ false)
    × (is_heard_of (t 9) (p 0 6) (begun (passed two_of_nine 3) 4 (t 9) (p 0 6)) ≡ true)
refused_behind_a_gap = (refl, refl, refl, refl)
