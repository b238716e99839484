-- Which operation of a client starts a page, and which one sends it. A page is started by the point to which its first piece
-- belongs. It goes to the agent when it can take no more: with the operation that opens the page behind it in the segment,
-- and else with the end of the segment. Operations are numbered from 0.
use Rattle.std.specs.Prelude.{ℕ, Bool, true, false, List, [], ◌∷◌, map, filter, get_or, zip}
use Rattle.std.specs.List.{flat_map}
use Rattle.hs_records.specs.Plain.{Operation, Begin, Point, Crumb, End, Fire, Sample}
use Rattle.hs_records.specs.Records.{NumberedOperation, Segment, numbered_of, record_at, segments_of}
use Rattle.hs_records.specs.Pages.{PlainPage, segment_pages, first_record}

-- a page with the operations that start and send it
pub record TimedPage : Type 0 where
  pub page : PlainPage
  pub started : ℕ
  pub sent : ℕ

abbrev pub is_end : Operation → Bool
is_end (Begin trace) = false
is_end (Point moment payload) = false
is_end (Crumb node) = false
is_end End = true
is_end (Fire trigger) = false
is_end (Sample moment auto value) = false

-- the operations that are the client's points, one for each of its records
abbrev pub point_numbers : List Operation → List ℕ
point_numbers ops = flat_map (λ (op : NumberedOperation). map (λ _. op.number) (record_at op)) (numbered_of ops)

-- the operations that end a segment, one for each
abbrev pub end_numbers : List Operation → List ℕ
end_numbers ops = map (λ op. op.number) (filter (λ (op : NumberedOperation). is_end op.operation) (numbered_of ops))

-- the operation that starts a page, where these are the points
abbrev pub started_by : List ℕ → PlainPage → ℕ
started_by points page = get_or points (first_record page) 0

-- the operation that sends a page behind which the segment has these pages
abbrev pub sent_by : List ℕ → ℕ → List PlainPage → ℕ
sent_by points end [] = end
sent_by points end (next ∷ pages) = started_by points next

-- the pages of a segment that this operation ends
abbrev pub timed : List ℕ → ℕ → List PlainPage → List TimedPage
timed points end [] = []
timed points end (page ∷ pages) = record { page = page; started = started_by points page; sent = sent_by points end pages } ∷ timed points end pages

-- the pages of a client
abbrev pub timed_pages : ℕ → List Operation → List TimedPage
timed_pages size ops = flat_map (λ (s : ℕ × Segment). timed (point_numbers ops) s.0 (segment_pages size s.1)) (zip (end_numbers ops) (segments_of size ops))
