-- What a node heard of its segments. The horizon is a count of segments that were heard: none that was heard later is missed or
-- forgotten. It moves to the present count where a note was missed, and behind the segments of a trace that is forgotten.
use Rattle.std.specs.Prelude.{◌≡◌, ◌⊎◌, ℕ, zero, suc, ◌-◌, ◌<◌, max, Bool, true, false, not, ◌&&◌, ◌||◌, ◌==◌, replicate, List, [], ◌∷◌, length, take, slice_set, slice_get, unwrap_or, count_by, nat_lt, nat_le, Option, Some, None, is_some, if◌then◌else◌, refl}
use Rattle.std.specs.Option.{option_map_or}
use Rattle.std.specs.Map.{lookup, set_value}
use Rattle.lru.specs.LruCache.{promoted, last_entry}
use Rattle.hs_base.specs.declared.ids.TraceId.{TraceId}
use Rattle.hs_base.specs.declared.ids.GroupId.{GroupId}
use Rattle.hs_base.specs.declared.node_set.NodeSet.{NodeSet}
use Rattle.hs_base.specs.NodeSets.{no_nodes}
use Rattle.hs_base.specs.Ids.{same_trace}
use Rattle.hs_base.specs.Samples.{t}
use Rattle.hs_wire.specs.declared.message.Losses.{Losses}
use Rattle.hs_wire.specs.declared.message.Standing.{Standing}
use Rattle.hs_wire.specs.declared.message.Wholeness.{Wholeness}
use Rattle.hs_wire.specs.declared.message.Wholeness.TheVariants.{WholeSince, Lost, UnheardSince, Unknown, Open}
use Rattle.hs_whole.specs.declared.answers.NoteLimits.{NoteLimits}
use Rattle.hs_whole.specs.declared.answers.SegmentReport.{SegmentReport}
use Rattle.hs_whole.specs.declared.answers.Loss.{Loss}
use Rattle.hs_whole.specs.declared.answers.Loss.TheVariants.{EvictedPages}
use Rattle.hs_whole.specs.declared.answers.NoteOutcome.{NoteOutcome}
use Rattle.hs_whole.specs.declared.answers.NoteOutcome.TheVariants as noting
use Rattle.hs_whole.specs.declared.answers.TheConstants.{MOST_CLIENTS, MOST_LOOKS}
use Rattle.hs_whole.specs.declared.page.PageName.{PageName}
use Rattle.hs_whole.specs.declared.track.Track.{Track}
use Rattle.hs_whole.specs.declared.kept.Kept.{Kept}
use Rattle.hs_whole.specs.Pages.{p}
use Rattle.hs_whole.specs.Tracks.{no_notes, is_open, begins_next, ends_next, refuses_next, begun, ended, passed, is_heard_of, handed}
use Rattle.hs_whole.specs.Kept.{more, no_losses, fresh, misses, begins, ends, loses, goes_out, refuses, leads, is_settled, wholeness, two_pages}

-- how many segments were heard, the horizon, the clients by number, and the traces, the one with the latest note first
pub record PlainNotes : Type 0 where
  pub limits : NoteLimits
  pub heard : ℕ
  pub horizon : ℕ
  pub tracks : List Track
  pub traces : List (TraceId × Kept)

-- a limit is out of its range
abbrev pub AreOut : NoteLimits → Type 0
AreOut limits = (limits.traces ≡ 0) ⊎ (MOST_CLIENTS < limits.clients)

abbrev pub no_notes_in : NoteLimits → PlainNotes
no_notes_in limits = record { limits = limits; heard = 0; horizon = 0; tracks = replicate limits.clients no_notes; traces = [] }

abbrev pub track_of : PlainNotes → ℕ → Track
track_of s client = unwrap_or (slice_get s.tracks client) no_notes

abbrev pub kept_of : PlainNotes → TraceId → Option Kept
kept_of s trace = lookup (same_trace trace) s.traces

-- what is kept of a trace changes, where it is kept
abbrev pub with_kept : (Kept → Kept) → TraceId → List (TraceId × Kept) → List (TraceId × Kept)
with_kept f trace traces = option_map_or (λ k. set_value (same_trace trace) traces (f k)) (lookup (same_trace trace) traces) traces

-- what is kept of a trace changes, and what is known of a client
abbrev pub changed : (Kept → Kept) → TraceId → PlainNotes → PlainNotes
changed f trace s = record s { traces = with_kept f trace s.traces }

abbrev pub tracked : ℕ → Track → PlainNotes → PlainNotes
tracked client track s = record s { tracks = slice_set s.tracks client track }

-- ---- a note that is missed

-- a note may have been missed: the horizon moves to the present count
abbrev pub missed : PlainNotes → PlainNotes
missed s = record s { horizon = s.heard }

-- of a trace a note may have been missed
abbrev pub doubted : PlainNotes → TraceId → PlainNotes
doubted s trace = record s { traces = with_kept misses trace s.traces }

-- a note was missed where this segment is open, or none
abbrev pub missed_open : Option TraceId → PlainNotes → PlainNotes
missed_open None s = missed s
missed_open (Some trace) s = doubted (missed s) trace

-- a client's note is its next one, or shows that one was missed
abbrev pub checked : PlainNotes → ℕ → Bool → PlainNotes
checked s client is_next = if is_next then s else missed_open (track_of s client).current s

-- ---- a trace is kept

-- the horizon where one trace more is kept: it moves behind the segments of the one that is forgotten
abbrev pub moved_horizon : PlainNotes → ℕ
moved_horizon s = if nat_lt (length s.traces) s.limits.traces then s.horizon else option_map_or (λ (oldest : TraceId × Kept). max s.horizon oldest.1.latest) (last_entry s.traces) s.horizon

-- one trace more, where there is none of it yet
abbrev pub with_new : PlainNotes → TraceId → Bool → PlainNotes
with_new s trace is_missed = record s { horizon = moved_horizon s; traces = (trace, fresh s.heard is_missed) ∷ take (s.limits.traces - 1) s.traces }

abbrev pub remembered_as : PlainNotes → TraceId → Bool → Option Kept → PlainNotes
remembered_as s trace is_missed (Some kept) = record s { traces = promoted (same_trace trace) s.traces }
remembered_as s trace is_missed None = with_new s trace is_missed

abbrev pub remembered : PlainNotes → TraceId → Bool → PlainNotes
remembered s trace is_missed = remembered_as s trace is_missed (kept_of s trace)

-- ---- a place for one trace more

-- nothing of a trace is open or to come
abbrev pub is_over : PlainNotes → TraceId × Kept → Bool
is_over s entry = is_settled entry.1 && (count_by (is_open entry.0) s.tracks == 0)

-- a place is free, or nothing of the last trace is open or to come
abbrev pub has_place : PlainNotes → Bool
has_place s = if nat_lt (length s.traces) s.limits.traces then true else option_map_or (is_over s) (last_entry s.traces) true

-- the last trace is the first from now on
abbrev pub turned : PlainNotes → PlainNotes
turned s = option_map_or (λ (last : TraceId × Kept). record s { traces = promoted (same_trace last.0) s.traces }) (last_entry s.traces) s

-- so many traces are looked at, from the last on, until there is a place
unfoldable pub looked : ℕ → PlainNotes → PlainNotes
looked zero s = s
looked (suc n) s = if has_place s then s else looked n (turned s)

-- the notes once a place was looked for, and whether a trace is kept or has one then
abbrev pub searched : PlainNotes → TraceId → PlainNotes
searched s trace = if is_some (kept_of s trace) then s else looked MOST_LOOKS s

abbrev pub finds_place : PlainNotes → TraceId → Bool
finds_place s trace = is_some (kept_of s trace) || has_place (looked MOST_LOOKS s)

-- ---- a note comes

-- a segment of a kept trace begins, with this page
abbrev pub begun_in : PlainNotes → ℕ → ℕ → TraceId → PageName → PlainNotes
begun_in s client number trace first = record s {
  heard = more s.heard 1;
  tracks = slice_set s.tracks client (begun (track_of s client) number trace first);
  traces = with_kept (begins (more s.heard 1)) trace s.traces;
}

-- a segment of a kept trace ends, before this page
abbrev pub ended_in : PlainNotes → ℕ → ℕ → TraceId → PageName → SegmentReport → Bool → PlainNotes
ended_in s client number trace end report is_next = record s {
  tracks = slice_set s.tracks client (ended (track_of s client) number trace end);
  traces = with_kept (ends report (not is_next)) trace s.traces;
}

-- a crumb of a kept trace was refused
abbrev pub refused_in : PlainNotes → ℕ → ℕ → TraceId → PlainNotes
refused_in s client number trace = record s {
  tracks = slice_set s.tracks client (passed (track_of s client) number);
  traces = with_kept refuses trace s.traces;
}

-- crumbs of a kept trace led to these nodes
abbrev pub led_in : PlainNotes → ℕ → ℕ → TraceId → NodeSet → PlainNotes
led_in s client number trace nodes = record s {
  tracks = slice_set s.tracks client (passed (track_of s client) number);
  traces = with_kept (leads nodes) trace s.traces;
}

abbrev pub answer_of : PlainNotes → ℕ → TraceId → NoteOutcome
answer_of s client trace = if nat_le s.limits.clients client then noting.Refused else if finds_place s trace then noting.Kept else noting.Full

abbrev pub opened : PlainNotes → ℕ → ℕ → TraceId → PageName → PlainNotes
opened s client number trace first = begun_in (checked (remembered s trace false) client (begins_next (track_of s client) number)) client number trace first

abbrev pub closed : PlainNotes → ℕ → ℕ → TraceId → PageName → SegmentReport → PlainNotes
closed s client number trace end report = ended_in (checked (remembered s trace true) client (ends_next (track_of s client) number trace end)) client number trace end report (ends_next (track_of s client) number trace end)

-- where the trace was not kept a note of it may have been missed
abbrev pub refused : PlainNotes → ℕ → ℕ → TraceId → PlainNotes
refused s client number trace = refused_in (checked (remembered s trace true) client (refuses_next (track_of s client) number)) client number trace

-- where the trace was not kept no segment of it was heard
abbrev pub led : PlainNotes → ℕ → ℕ → TraceId → NodeSet → PlainNotes
led s client number trace nodes = led_in (checked (remembered s trace false) client (refuses_next (track_of s client) number)) client number trace nodes

-- a note of a client that is not there is a missed one, and one that finds no place may come again
abbrev pub after_opened : PlainNotes → ℕ → ℕ → TraceId → PageName → PlainNotes
after_opened s client number trace first = if nat_le s.limits.clients client then missed s else if finds_place s trace then opened (searched s trace) client number trace first else missed (searched s trace)

abbrev pub after_closed : PlainNotes → ℕ → ℕ → TraceId → PageName → SegmentReport → PlainNotes
after_closed s client number trace end report = if nat_le s.limits.clients client then missed s else if finds_place s trace then closed (searched s trace) client number trace end report else missed (searched s trace)

abbrev pub after_refused : PlainNotes → ℕ → ℕ → TraceId → PlainNotes
after_refused s client number trace = if nat_le s.limits.clients client then missed s else if finds_place s trace then refused (searched s trace) client number trace else missed (searched s trace)

abbrev pub after_led : PlainNotes → ℕ → ℕ → TraceId → NodeSet → PlainNotes
after_led s client number trace nodes = if nat_le s.limits.clients client then missed s else if finds_place s trace then led (searched s trace) client number trace nodes else missed (searched s trace)

-- ---- what becomes of pages and crumbs

abbrev pub after_lost : PlainNotes → TraceId → Loss → ℕ → PlainNotes
after_lost s trace loss count = record s { traces = with_kept (loses loss count) trace s.traces }

-- a page of the trace is handed out, by a client that is there
abbrev pub handed_in : PlainNotes → TraceId → ℕ → PageName → PlainNotes
handed_in s trace client page = record s {
  tracks = slice_set s.tracks client (handed trace page (track_of s client));
  traces = with_kept (goes_out (is_heard_of trace page (track_of s client))) trace s.traces;
}

-- no page of a client that is not there was heard of
abbrev pub after_handed_out : PlainNotes → TraceId → ℕ → PageName → PlainNotes
after_handed_out s trace client page = if nat_le s.limits.clients client then changed (goes_out false) trace s else handed_in s trace client page

-- ---- how whole a trace is

abbrev pub open_segments : PlainNotes → TraceId → ℕ
open_segments s trace = count_by (is_open trace) s.tracks

-- a trace that is not kept is unheard since the horizon, and so is one that is kept of which no segment began
abbrev pub wholeness_of : PlainNotes → TraceId → Wholeness
wholeness_of s trace = option_map_or (wholeness (open_segments s trace)) (kept_of s trace) UnheardSince

abbrev pub losses_of : PlainNotes → TraceId → Losses
losses_of s trace = option_map_or (λ kept. kept.losses) (kept_of s trace) no_losses

abbrev pub pages_of : PlainNotes → TraceId → ℕ
pages_of s trace = option_map_or (λ kept. kept.handed_out) (kept_of s trace) 0

-- the nodes to which crumbs of a trace led, as far as notes of it were heard while it was kept
abbrev pub crumbs_of : PlainNotes → TraceId → NodeSet
crumbs_of s trace = option_map_or (λ kept. kept.crumbs) (kept_of s trace) no_nodes

abbrev pub standing_of : PlainNotes → TraceId → GroupId → Standing
standing_of s trace group = record {
  trace = trace;
  group = group;
  wholeness = wholeness_of s trace;
  open_segments = open_segments s trace;
  horizon = s.horizon;
  pages = pages_of s trace;
  crumbs = crumbs_of s trace;
  losses = losses_of s trace;
}

-- ---- worked examples: two clients, and two traces at a time

abbrev none : PlainNotes
none = no_notes_in (record { clients = 2; traces = 2 })

-- client 0 has a segment of trace 9, which sends pages 0 and 1
abbrev open_9 : PlainNotes
open_9 = opened none 0 0 (t 9) (p 0 0)

abbrev closed_9 : PlainNotes
closed_9 = closed open_9 0 1 (t 9) (p 0 2) two_pages

abbrev one_9 : PlainNotes
one_9 = after_handed_out closed_9 (t 9) 0 (p 0 0)

abbrev pub whole_9 : PlainNotes
whole_9 = after_handed_out one_9 (t 9) 0 (p 0 1)

in_order : (wholeness_of none (t 9) ≡ UnheardSince) × (wholeness_of open_9 (t 9) ≡ Open) × (wholeness_of closed_9 (t 9) ≡ Unknown) × (wholeness_of whole_9 (t 9) ≡ WholeSince) × (whole_9.heard ≡ 1) × (whole_9.horizon ≡ 0)
in_order = (refl, refl, refl, refl, refl, refl)

-- a page of trace 8 is not one of trace 9
another : wholeness_of (after_handed_out one_9 (t 8) 0 (p 0 1)) (t 9) ≡ Unknown
another = refl

-- pages that are handed out while the segment is open count, and it cannot end before them
while_open : (wholeness_of (closed (after_handed_out (after_handed_out open_9 (t 9) 0 (p 0 0)) (t 9) 0 (p 0 1)) 0 1 (t 9) (p 0 2) two_pages) (t 9) ≡ WholeSince)
    × (wholeness_of (closed (after_handed_out (after_handed_out open_9 (t 9) 0 (p 0 0)) (t 9) 0 (p 0 2)) 0 1 (t 9) (p 0 2) two_pages) (t 9) ≡ Unknown)
while_open = (refl, refl)

-- client 1's page of trace 9 comes before its notes: it does not stand for a page of client 0
before_its_notes : (wholeness_of (after_handed_out one_9 (t 9) 1 (p 0 0)) (t 9) ≡ Unknown) × (pages_of (after_handed_out one_9 (t 9) 1 (p 0 0)) (t 9) ≡ 2)
    × (wholeness_of (after_handed_out (after_handed_out one_9 (t 9) 1 (p 0 0)) (t 9) 0 (p 0 1)) (t 9) ≡ Unknown)
before_its_notes = (refl, refl, refl)

-- client 1's first note has number 3: three were missed, so the horizon moves, and trace 9 is whole since then
since_one : (wholeness_of (opened whole_9 1 3 (t 8) (p 0 4)) (t 9) ≡ WholeSince) × ((opened whole_9 1 3 (t 8) (p 0 4)).horizon ≡ 1)
since_one = (refl, refl)

-- client 0's note 1 is missed, so the end of its segment may have been: trace 9 is not known to be whole
gap : (wholeness_of (opened open_9 0 2 (t 8) (p 0 2)) (t 9) ≡ Unknown) × ((opened open_9 0 2 (t 8) (p 0 2)).horizon ≡ 1) × (wholeness_of (opened open_9 0 2 (t 8) (p 0 2)) (t 8) ≡ Open)
gap = (refl, refl, refl)

-- a crumb of trace 9 was refused outside of its segment; one of trace 8, which is not kept, is lost of a trace of which no more is known
crumbs : (wholeness_of (refused whole_9 0 2 (t 9)) (t 9) ≡ Lost) × ((losses_of (refused whole_9 0 2 (t 9)) (t 9)).refused_crumbs ≡ 1) × ((refused whole_9 0 2 (t 9)).horizon ≡ 0)
    × (wholeness_of (refused whole_9 0 2 (t 8)) (t 9) ≡ WholeSince) × (wholeness_of (refused whole_9 0 2 (t 8)) (t 8) ≡ Lost) × (begins_next (track_of (refused whole_9 0 2 (t 8)) 0) 3 ≡ true)
crumbs = (refl, refl, refl, refl, refl, refl)

-- note 1 of client 0, the end of its segment, was missed before it refused a crumb
crumb_behind_a_gap : (wholeness_of (refused open_9 0 2 (t 8)) (t 9) ≡ Unknown) × ((refused open_9 0 2 (t 8)).horizon ≡ 1)
crumb_behind_a_gap = (refl, refl)

-- crumbs of trace 9, which is whole, and of trace 8, of which no segment was heard, led to node 1
abbrev pub led_on : PlainNotes
led_on = led (led whole_9 0 2 (t 9) (record { 0 = 2 })) 0 3 (t 8) (record { 0 = 2 })

crumbs_led_on : (wholeness_of led_on (t 9) ≡ WholeSince) × (crumbs_of led_on (t 9) ≡ record { 0 = 2 }) × (wholeness_of led_on (t 8) ≡ UnheardSince) × (crumbs_of led_on (t 8) ≡ record { 0 = 2 }) × (crumbs_of led_on (t 7) ≡ no_nodes)
    × (wholeness_of (opened led_on 0 4 (t 8) (p 0 2)) (t 8) ≡ Open)
crumbs_led_on = (refl, refl, refl, refl, refl, refl)

-- with a third trace the one whose note is oldest is forgotten, since nothing of it is to come, and the horizon moves behind its one
-- segment
abbrev third : PlainNotes
third = after_opened (after_opened whole_9 1 0 (t 8) (p 0 0)) 0 2 (t 7) (p 0 2)

forgets : (answer_of (after_opened whole_9 1 0 (t 8) (p 0 0)) 0 (t 7) ≡ noting.Kept) × (wholeness_of third (t 9) ≡ UnheardSince) × (third.horizon ≡ 1) × (third.heard ≡ 3)
unfolding looked
forgets = (refl, refl, refl, refl)

-- while a page of trace 9 is to come, and a segment of trace 8 is open, a third trace has no place; once the page has left it has one
abbrev full : PlainNotes
full = opened one_9 1 0 (t 8) (p 0 0)

waits : (answer_of full 0 (t 7) ≡ noting.Full) × (answer_of (after_handed_out full (t 9) 0 (p 0 1)) 0 (t 7) ≡ noting.Kept) × (answer_of (after_lost full (t 9) EvictedPages 1) 0 (t 7) ≡ noting.Kept) × (answer_of full 0 (t 8) ≡ noting.Kept)
unfolding looked
waits = (refl, refl, refl, refl)

abbrev none_for_7 : PlainNotes
none_for_7 = after_opened full 0 2 (t 7) (p 0 2)

is_missed : (none_for_7.heard ≡ 2) × (none_for_7.horizon ≡ 2) × (wholeness_of none_for_7 (t 9) ≡ Unknown) × (wholeness_of none_for_7 (t 7) ≡ UnheardSince)
unfolding looked
is_missed = (refl, refl, refl, refl)

-- there is no client 2
no_such_client : (answer_of none 2 (t 9) ≡ noting.Refused) × ((after_opened whole_9 2 0 (t 9) (p 0 0)).horizon ≡ 1) × ((after_refused whole_9 2 0 (t 9)).horizon ≡ 1) × (wholeness_of (after_handed_out whole_9 (t 9) 2 (p 0 0)) (t 9) ≡ Unknown)
no_such_client = (refl, refl, refl, refl)
