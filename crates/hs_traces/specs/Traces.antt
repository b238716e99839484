-- The pages of claimed traces that are held. What waits of a trace is a part, and so is what is given out of it and not saved.
-- A page joins the part of its trace that waits, or begins it, unless it is held already or exceeds a limit. A part that is given
-- out leaves where it is saved.
use Rattle.std.specs.Prelude.{◌≡◌, ◌⊎◌, ℕ, ◌+◌, ◌-◌, ◌<◌, Bool, not, ◌&&◌, ◌||◌, List, [], ◌∷◌, ◌++◌, length, sum_by, slice_get, nat_lt, nat_le, Option, Some, None, is_some, option_map, unwrap_or, if◌then◌else◌, refl}
use Rattle.std.specs.Option.{option_and_then}
use Rattle.std.specs.Map.{lookup, set_value, remove_entry, values_of}
use Rattle.hs_base.specs.declared.ids.TraceId.{TraceId}
use Rattle.hs_base.specs.Ids.{same_trace}
use Rattle.hs_base.specs.Samples.{t}
use Rattle.hs_words.specs.Pages.{Sheet}
use Rattle.hs_traces.specs.declared.answers.TraceLimits.{TraceLimits}
use Rattle.hs_traces.specs.declared.answers.TraceCounts.{TraceCounts}
use Rattle.hs_traces.specs.declared.answers.TheConstants.{LEAST_BYTES}
use Rattle.hs_traces.specs.declared.answers.Added.{Added as Answer}
use Rattle.hs_traces.specs.declared.answers.Added.TheVariants.{Added, Repeated, Foreign, Full}
use Rattle.hs_traces.specs.declared.answers.Offered.{Offered}
use Rattle.hs_traces.specs.declared.answers.Offered.TheVariants.{Given, Unknown, Unsaved, Busy}
use Rattle.hs_traces.specs.declared.key.CoreId.{CoreId}
use Rattle.hs_traces.specs.declared.key.PageKey.{PageKey}
use Rattle.hs_traces.specs.Keys.{is_own, key_of, key_at}
use Rattle.hs_traces.specs.Parts.{Pages, bytes_of, keys_of, has_key, page_with, with_page, next_page}

abbrev pub Parts : Type 0
Parts = List (TraceId × Pages)

-- what waits, the latest part first, and what is out, in the order in which it was given out
pub record PlainTraces : Type 0 where
  pub limits : TraceLimits
  pub waiting : Parts
  pub out : Parts

-- a limit is too small
abbrev pub AreSmall : TraceLimits → Type 0
AreSmall limits = (limits.hold ≡ 0) ⊎ ((limits.outs ≡ 0) ⊎ (limits.bytes < LEAST_BYTES))

abbrev pub no_traces : TraceLimits → PlainTraces
no_traces limits = record { limits = limits; waiting = []; out = [] }

-- ---- what is held

-- the part of a trace
abbrev pub part_of : Parts → TraceId → Option Pages
part_of parts trace = lookup (same_trace trace) parts

-- the bytes of all pages of these parts
abbrev pub bytes_in : Parts → ℕ
bytes_in parts = sum_by bytes_of (values_of parts)

abbrev pub held_bytes : PlainTraces → ℕ
held_bytes s = bytes_in s.waiting + bytes_in s.out

-- whether these parts have a page of the trace with this key
abbrev pub has_page_in : Parts → TraceId → PageKey → Bool
has_page_in parts trace key = has_key (unwrap_or (part_of parts trace) []) key

-- the keys of the trace's pages among these parts
abbrev pub keys_in : Parts → TraceId → List PageKey
keys_in parts trace = keys_of (unwrap_or (part_of parts trace) [])

abbrev pub has_page : PlainTraces → TraceId → PageKey → Bool
has_page s trace key = has_page_in s.waiting trace key || has_page_in s.out trace key

abbrev pub counts_of : PlainTraces → TraceCounts
counts_of s = record { waiting = length s.waiting; out = length s.out; bytes = held_bytes s }

-- ---- a page comes

-- whether a page of the trace with so many bytes exceeds a limit: that of bytes, or, where none of its trace waits, that of traces
abbrev pub is_full : PlainTraces → TraceId → ℕ → Bool
is_full s trace len =
    nat_lt s.limits.bytes (held_bytes s + len) || (not (is_some (part_of s.waiting trace)) && nat_le s.limits.hold (length s.waiting))

-- the answer to a page of a trace, by its key and the number of its bytes
abbrev pub answer_to : PlainTraces → TraceId → PageKey → ℕ → Answer
answer_to s trace key len = if has_page s trace key then Repeated else if is_full s trace len then Full else Added

-- the answer to the page that a sender's bytes are
abbrev pub answer_for : PlainTraces → CoreId → Sheet → ℕ → Answer
answer_for s sender sheet len = if is_own sender sheet.header then answer_to s sheet.header.trace (key_of sender sheet.header) len else Foreign

-- the parts with one page more: it joins its trace's part, or begins one
abbrev pub with_page_in : Parts → TraceId → PageKey → List ℕ → Option Pages → Parts
with_page_in parts trace key bytes None = (trace, (key, bytes) ∷ []) ∷ parts
with_page_in parts trace key bytes (Some pages) = set_value (same_trace trace) parts (with_page pages key bytes)

abbrev pub with_page_of : PlainTraces → TraceId → PageKey → List ℕ → PlainTraces
with_page_of s trace key bytes = record s { waiting = with_page_in s.waiting trace key bytes (part_of s.waiting trace) }

-- ---- a trace is given out, and saved

-- the trace that waits longest
abbrev pub oldest_of : PlainTraces → Option TraceId
oldest_of s = option_map (λ part. part.0) (slice_get s.waiting (length s.waiting - 1))

-- whether a part of the trace is out
abbrev pub is_out : PlainTraces → TraceId → Bool
is_out s trace = is_some (part_of s.out trace)

-- whether a part of the trace waits
abbrev pub is_waiting : PlainTraces → TraceId → Bool
is_waiting s trace = is_some (part_of s.waiting trace)

abbrev pub answer_of_offer : PlainTraces → TraceId → Offered
answer_of_offer s trace =
    if is_out s trace then Unsaved
    else if nat_le s.limits.outs (length s.out) then Busy
    else if is_some (part_of s.waiting trace) then Given
    else Unknown

-- what waits of the trace is out
abbrev pub offered : PlainTraces → TraceId → PlainTraces
offered s trace = record s {
  waiting = remove_entry (same_trace trace) s.waiting;
  out = s.out ++ (trace, unwrap_or (part_of s.waiting trace) []) ∷ [];
}

-- what is out of the trace is gone
abbrev pub after_saved : PlainTraces → TraceId → PlainTraces
after_saved s trace = record s { out = remove_entry (same_trace trace) s.out }

-- the first page behind a key, or the first of all, of what is out of a trace
abbrev pub page_behind : PlainTraces → TraceId → Option PageKey → Option (PageKey × List ℕ)
page_behind s trace after = option_and_then (next_page after) (part_of s.out trace)

-- the page with this key of what is out of a trace
abbrev pub page_out : PlainTraces → TraceId → PageKey → Option (List ℕ)
page_out s trace key = option_and_then (λ pages. page_with pages key) (part_of s.out trace)

-- ---- worked examples: at most two traces wait, one is out, and ten bytes are held

abbrev few : TraceLimits
few = record { hold = 2; outs = 1; bytes = 10 }

abbrev a_page : PageKey
a_page = key_at 3 1 0 0 0

abbrev one : PlainTraces
one = with_page_of (no_traces few) (t 9) a_page (1 ∷ 2 ∷ 3 ∷ [])

-- the same page comes again, and another epoch's page does not repeat it
a_repeat : (answer_to one (t 9) a_page 3 ≡ Repeated) × (answer_to one (t 9) (key_at 3 2 0 0 0) 3 ≡ Added) × (answer_to one (t 8) a_page 3 ≡ Added)
a_repeat = (refl, refl, refl)

-- the seven bytes that are left
no_more_bytes : (answer_to one (t 9) (key_at 3 1 0 0 1) 7 ≡ Added) × (answer_to one (t 9) (key_at 3 1 0 0 1) 8 ≡ Full)
no_more_bytes = (refl, refl)

abbrev two : PlainTraces
two = with_page_of one (t 8) a_page (4 ∷ [])

-- a third trace may not begin, and a trace that waits may go on
no_more_traces : (answer_to two (t 7) a_page 1 ≡ Full) × (answer_to two (t 8) (key_at 3 1 0 0 1) 1 ≡ Added) × (oldest_of two ≡ Some (t 9))
no_more_traces = (refl, refl, refl)

-- trace 9 is given out: its page is a repeat still, its bytes count, and the next trace has to wait
abbrev out_9 : PlainTraces
out_9 = offered two (t 9)

given_out : (answer_of_offer two (t 9) ≡ Given) × (answer_to out_9 (t 9) a_page 3 ≡ Repeated) × (held_bytes out_9 ≡ 4) × (answer_of_offer out_9 (t 8) ≡ Busy) × (answer_of_offer out_9 (t 9) ≡ Unsaved)
given_out = (refl, refl, refl, refl, refl)

-- a page that comes meanwhile waits as a later part
a_later_part : part_of (with_page_of out_9 (t 9) (key_at 3 1 0 0 1) (5 ∷ [])).waiting (t 9) ≡ Some ((key_at 3 1 0 0 1, 5 ∷ []) ∷ [])
a_later_part = refl

saved_9 : (held_bytes (after_saved out_9 (t 9)) ≡ 1) × (answer_of_offer (after_saved out_9 (t 9)) (t 8) ≡ Given)
saved_9 = (refl, refl)
