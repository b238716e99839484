-- What a node heard, as a list of deeds, the latest one first, and what may be said of a trace then. A note of a client that is not
-- there is a missed one. One for which there was no memory, or no place, is dropped: it is missed, after a place was sought for its trace.
use Rattle.std.specs.Prelude.{◌≡◌, ℕ, ◌+◌, ◌<◌, ◌≤◌, Bool, true, false, not, ◌&&◌, ◌||◌, ◌==◌, List, [], ◌∷◌, ◌++◌, All, if◌then◌else◌, refl}
use Rattle.hs_base.specs.declared.ids.TraceId.{TraceId}
use Rattle.hs_base.specs.declared.node_set.NodeSet.{NodeSet}
use Rattle.hs_base.specs.NodeSets.{has_node, no_nodes}
use Rattle.hs_base.specs.Ids.{same_trace}
use Rattle.hs_base.specs.Samples.{t}
use Rattle.hs_whole.specs.declared.answers.NoteLimits.{NoteLimits}
use Rattle.hs_whole.specs.declared.answers.SegmentReport.{SegmentReport}
use Rattle.hs_whole.specs.declared.answers.Loss.{Loss}
use Rattle.hs_whole.specs.declared.answers.Loss.TheVariants.{EvictedPages, AbandonedPages, EvictedCrumbs, ForgottenCrumbs}
use Rattle.hs_whole.specs.declared.page.PageName.{PageName}
use Rattle.hs_whole.specs.declared.track.Track.{Track}
use Rattle.hs_whole.specs.Pages.{is_before, p}
use Rattle.hs_whole.specs.Tracks.{no_notes, is_open, ends_next, refuses_next, begun, ended, passed, is_heard_of, handed}
use Rattle.hs_whole.specs.Kept.{reports_loss, two_pages}
use Rattle.hs_whole.specs.Notes.{PlainNotes, no_notes_in, missed, searched, finds_place, opened, closed, refused, led, after_lost, after_handed_out}

pub data NoteDeed : Type 0 where
  Opens : (client number : ℕ) → (trace : TraceId) → (first : PageName) → NoteDeed
  Closes : (client number : ℕ) → (trace : TraceId) → (end : PageName) → (report : SegmentReport) → NoteDeed
  Refuses : (client number : ℕ) → (trace : TraceId) → NoteDeed
  Leads : (client number : ℕ) → (trace : TraceId) → (nodes : NodeSet) → NoteDeed
  Loses : (trace : TraceId) → (loss : Loss) → (count : ℕ) → NoteDeed
  HandsOut : (client : ℕ) → (page : PageName) → (trace : TraceId) → NoteDeed
  Misses : NoteDeed
  Drops : (trace : TraceId) → NoteDeed

abbrev pub after : PlainNotes → NoteDeed → PlainNotes
after s (Opens client number trace first) = opened (searched s trace) client number trace first
after s (Closes client number trace end report) = closed (searched s trace) client number trace end report
after s (Refuses client number trace) = refused (searched s trace) client number trace
after s (Leads client number trace nodes) = led (searched s trace) client number trace nodes
after s (Loses trace loss count) = after_lost s trace loss count
after s (HandsOut client page trace) = after_handed_out s trace client page
after s Misses = missed s
after s (Drops trace) = missed (searched s trace)

-- the notes after these deeds
abbrev pub notes_after : NoteLimits → List NoteDeed → PlainNotes
notes_after limits [] = no_notes_in limits
notes_after limits (deed ∷ deeds) = after (notes_after limits deeds) deed

-- ---- what the deeds say

-- a client that makes a note is there
abbrev pub IsOfClient : ℕ → NoteDeed → Type 0
IsOfClient clients (Opens client number trace first) = client < clients
IsOfClient clients (Closes client number trace end report) = client < clients
IsOfClient clients (Refuses client number trace) = client < clients
IsOfClient clients (Leads client number trace nodes) = client < clients
IsOfClient clients (Loses trace loss count) = Unit {0}
IsOfClient clients (HandsOut client page trace) = Unit {0}
IsOfClient clients Misses = Unit {0}
IsOfClient clients (Drops trace) = Unit {0}

abbrev pub AreOfClients : ℕ → List NoteDeed → Type 0
AreOfClients clients [] = Unit {0}
AreOfClients clients (deed ∷ deeds) = IsOfClient clients deed × AreOfClients clients deeds

-- a note finds a place for its trace
abbrev pub HasPlace : PlainNotes → NoteDeed → Type 0
HasPlace s (Opens client number trace first) = finds_place s trace ≡ true
HasPlace s (Closes client number trace end report) = finds_place s trace ≡ true
HasPlace s (Refuses client number trace) = finds_place s trace ≡ true
HasPlace s (Leads client number trace nodes) = finds_place s trace ≡ true
HasPlace s (Loses trace loss count) = Unit {0}
HasPlace s (HandsOut client page trace) = Unit {0}
HasPlace s Misses = Unit {0}
HasPlace s (Drops trace) = Unit {0}

abbrev pub HavePlaces : NoteLimits → List NoteDeed → Type 0
HavePlaces limits [] = Unit {0}
HavePlaces limits (deed ∷ deeds) = HasPlace (notes_after limits deeds) deed × HavePlaces limits deeds

-- whether a segment begins, and whether one of the trace does
abbrev pub opens : NoteDeed → ℕ
opens (Opens client number trace first) = 1
opens (Closes client number trace end report) = 0
opens (Refuses client number trace) = 0
opens (Leads client number trace nodes) = 0
opens (Loses trace loss count) = 0
opens (HandsOut client page trace) = 0
opens Misses = 0
opens (Drops trace) = 0

abbrev pub opens_of : TraceId → NoteDeed → Bool
opens_of trace (Opens client number other first) = same_trace trace other
opens_of trace (Closes client number other end report) = false
opens_of trace (Refuses client number other) = false
opens_of trace (Leads client number other nodes) = false
opens_of trace (Loses other loss count) = false
opens_of trace (HandsOut client page other) = false
opens_of trace Misses = false
opens_of trace (Drops other) = false

-- how many segments began
abbrev pub segments : List NoteDeed → ℕ
segments [] = 0
segments (deed ∷ deeds) = segments deeds + opens deed

-- the latest segment of the trace, by its number among all segments, from 1; 0 where it has none
abbrev pub latest_of : TraceId → List NoteDeed → ℕ
latest_of trace [] = 0
latest_of trace (deed ∷ deeds) = if opens_of trace deed then segments deeds + opens deed else latest_of trace deeds

-- whether the trace has a segment
abbrev pub has_segment : TraceId → List NoteDeed → Bool
has_segment trace [] = false
has_segment trace (deed ∷ deeds) = opens_of trace deed || has_segment trace deeds

-- the pages that a segment's end says were sent of the trace
abbrev pub sends : TraceId → NoteDeed → ℕ
sends trace (Opens client number other first) = 0
sends trace (Closes client number other end report) = if same_trace trace other then report.pages else 0
sends trace (Refuses client number other) = 0
sends trace (Leads client number other nodes) = 0
sends trace (Loses other loss count) = 0
sends trace (HandsOut client page other) = 0
sends trace Misses = 0
sends trace (Drops other) = 0

abbrev pub sent_of : TraceId → List NoteDeed → ℕ
sent_of trace [] = 0
sent_of trace (deed ∷ deeds) = sent_of trace deeds + sends trace deed

-- the pages of the trace that are handed out
abbrev pub hands_out : TraceId → NoteDeed → ℕ
hands_out trace (Opens client number other first) = 0
hands_out trace (Closes client number other end report) = 0
hands_out trace (Refuses client number other) = 0
hands_out trace (Leads client number other nodes) = 0
hands_out trace (Loses other loss count) = 0
hands_out trace (HandsOut client page other) = if same_trace trace other then 1 else 0
hands_out trace Misses = 0
hands_out trace (Drops other) = 0

abbrev pub handed_out_of : TraceId → List NoteDeed → ℕ
handed_out_of trace [] = 0
handed_out_of trace (deed ∷ deeds) = handed_out_of trace deeds + hands_out trace deed

-- whether something of the trace is lost
abbrev pub loses_some : TraceId → NoteDeed → Bool
loses_some trace (Opens client number other first) = false
loses_some trace (Closes client number other end report) = same_trace trace other && reports_loss report
loses_some trace (Refuses client number other) = same_trace trace other
loses_some trace (Leads client number other nodes) = false
loses_some trace (Loses other loss count) = same_trace trace other && not (count == 0)
loses_some trace (HandsOut client page other) = false
loses_some trace Misses = false
loses_some trace (Drops other) = false

abbrev pub is_lost_in : TraceId → List NoteDeed → Bool
is_lost_in trace [] = false
is_lost_in trace (deed ∷ deeds) = is_lost_in trace deeds || loses_some trace deed

-- whether a crumb of the trace led to the node, as the end of a segment says, or a note of its own
abbrev pub leads_to : TraceId → ℕ → NoteDeed → Bool
leads_to trace node (Opens client number other first) = false
leads_to trace node (Closes client number other end report) = same_trace trace other && has_node report.crumbs node
leads_to trace node (Refuses client number other) = false
leads_to trace node (Leads client number other nodes) = same_trace trace other && has_node nodes node
leads_to trace node (Loses other loss count) = false
leads_to trace node (HandsOut client page other) = false
leads_to trace node Misses = false
leads_to trace node (Drops other) = false

abbrev pub has_led_to : TraceId → ℕ → List NoteDeed → Bool
has_led_to trace node [] = false
has_led_to trace node (deed ∷ deeds) = leads_to trace node deed || has_led_to trace node deeds

-- a client after its latest note and the pages that were handed out, of which none was heard at first
abbrev pub track_after : ℕ → List NoteDeed → Track
track_after client [] = no_notes
track_after client (Opens other number trace first ∷ deeds) = if other == client then begun (track_after client deeds) number trace first else track_after client deeds
track_after client (Closes other number trace end report ∷ deeds) = if other == client then ended (track_after client deeds) number trace end else track_after client deeds
track_after client (Refuses other number trace ∷ deeds) = if other == client then passed (track_after client deeds) number else track_after client deeds
track_after client (Leads other number trace nodes ∷ deeds) = if other == client then passed (track_after client deeds) number else track_after client deeds
track_after client (Loses trace loss count ∷ deeds) = track_after client deeds
track_after client (HandsOut other page trace ∷ deeds) = if other == client then handed trace page (track_after client deeds) else track_after client deeds
track_after client (Misses ∷ deeds) = track_after client deeds
track_after client (Drops trace ∷ deeds) = track_after client deeds

-- the pages that a segment's end says were sent of the trace, where it is its client's next note
abbrev pub announces : TraceId → NoteDeed → List NoteDeed → ℕ
announces trace (Opens client number other first) deeds = 0
announces trace (Closes client number other end report) deeds = if same_trace trace other && ends_next (track_after client deeds) number other end then report.pages else 0
announces trace (Refuses client number other) deeds = 0
announces trace (Leads client number other nodes) deeds = 0
announces trace (Loses other loss count) deeds = 0
announces trace (HandsOut client page other) deeds = 0
announces trace Misses deeds = 0
announces trace (Drops other) deeds = 0

abbrev pub announced_of : TraceId → List NoteDeed → ℕ
announced_of trace [] = 0
announced_of trace (deed ∷ deeds) = announced_of trace deeds + announces trace deed deeds

-- the pages of the trace that are evicted or abandoned
abbrev pub pages_in : Loss → ℕ → ℕ
pages_in EvictedPages count = count
pages_in AbandonedPages count = count
pages_in EvictedCrumbs count = 0
pages_in ForgottenCrumbs count = 0

abbrev pub lets_go : TraceId → NoteDeed → ℕ
lets_go trace (Opens client number other first) = 0
lets_go trace (Closes client number other end report) = 0
lets_go trace (Refuses client number other) = 0
lets_go trace (Leads client number other nodes) = 0
lets_go trace (Loses other loss count) = if same_trace trace other then pages_in loss count else 0
lets_go trace (HandsOut client page other) = 0
lets_go trace Misses = 0
lets_go trace (Drops other) = 0

abbrev pub let_go_of : TraceId → List NoteDeed → ℕ
let_go_of trace [] = 0
let_go_of trace (deed ∷ deeds) = let_go_of trace deeds + lets_go trace deed

-- where a segment of the trace is open at a client, the client's next note is that it ends, or that a crumb was refused, by the next
-- number; and where a segment of the trace ends, it was open
abbrev pub IsInOrder : TraceId → NoteDeed → List NoteDeed → Type 0
IsInOrder trace (Opens client number other first) deeds = is_open trace (track_after client deeds) ≡ false
IsInOrder trace (Closes client number other end report) deeds = (is_open trace (track_after client deeds) || same_trace trace other) ≡ true → ends_next (track_after client deeds) number other end ≡ true
IsInOrder trace (Refuses client number other) deeds = is_open trace (track_after client deeds) ≡ true → refuses_next (track_after client deeds) number ≡ true
IsInOrder trace (Leads client number other nodes) deeds = is_open trace (track_after client deeds) ≡ true → refuses_next (track_after client deeds) number ≡ true
IsInOrder trace (Loses other loss count) deeds = Unit {0}
IsInOrder trace (HandsOut client page other) deeds = Unit {0}
IsInOrder trace Misses deeds = Unit {0}
IsInOrder trace (Drops other) deeds = Unit {0}

-- each of the later deeds is so, behind those before it
abbrev pub AreInOrder : TraceId → List NoteDeed → List NoteDeed → Type 0
AreInOrder trace [] earlier = Unit {0}
AreInOrder trace (deed ∷ later) earlier = IsInOrder trace deed (later ++ earlier) × AreInOrder trace later earlier

-- a page of the trace that is handed out was heard of: since its client's notes came to this page none was missed, and it lies before
-- the end of the client's last segment, or in its open segment, which is of this trace
abbrev pub IsHeardOf : TraceId → NoteDeed → List NoteDeed → Type 0
IsHeardOf trace (Opens client number other first) deeds = Unit {0}
IsHeardOf trace (Closes client number other end report) deeds = Unit {0}
IsHeardOf trace (Refuses client number other) deeds = Unit {0}
IsHeardOf trace (Leads client number other nodes) deeds = Unit {0}
IsHeardOf trace (Loses other loss count) deeds = Unit {0}
IsHeardOf trace (HandsOut client page other) deeds = same_trace trace other ≡ true → is_heard_of other page (track_after client deeds) ≡ true
IsHeardOf trace Misses deeds = Unit {0}
IsHeardOf trace (Drops other) deeds = Unit {0}

abbrev pub AreHeardOf : TraceId → List NoteDeed → List NoteDeed → Type 0
AreHeardOf trace [] earlier = Unit {0}
AreHeardOf trace (deed ∷ later) earlier = IsHeardOf trace deed (later ++ earlier) × AreHeardOf trace later earlier

-- the pages of the trace that were handed out of the client's since its last segment began or ended
abbrev pub out_since : TraceId → ℕ → List NoteDeed → List PageName
out_since trace client [] = []
out_since trace client (Opens other number of first ∷ deeds) = if other == client then [] else out_since trace client deeds
out_since trace client (Closes other number of end report ∷ deeds) = if other == client then [] else out_since trace client deeds
out_since trace client (Refuses other number of ∷ deeds) = out_since trace client deeds
out_since trace client (Leads other number of nodes ∷ deeds) = out_since trace client deeds
out_since trace client (Loses of loss count ∷ deeds) = out_since trace client deeds
out_since trace client (HandsOut other page of ∷ deeds) = if (other == client) && same_trace trace of then page ∷ out_since trace client deeds else out_since trace client deeds
out_since trace client (Misses ∷ deeds) = out_since trace client deeds
out_since trace client (Drops of ∷ deeds) = out_since trace client deeds

-- where a segment of the trace ends, no page of the trace that was handed out meanwhile lies behind its end
abbrev pub EndsBehind : TraceId → NoteDeed → List NoteDeed → Type 0
EndsBehind trace (Opens client number other first) deeds = Unit {0}
EndsBehind trace (Closes client number other end report) deeds = same_trace trace other ≡ true → All (λ page. is_before page end ≡ true) (out_since trace client deeds)
EndsBehind trace (Refuses client number other) deeds = Unit {0}
EndsBehind trace (Leads client number other nodes) deeds = Unit {0}
EndsBehind trace (Loses other loss count) deeds = Unit {0}
EndsBehind trace (HandsOut client page other) deeds = Unit {0}
EndsBehind trace Misses deeds = Unit {0}
EndsBehind trace (Drops other) deeds = Unit {0}

abbrev pub EndBehind : TraceId → List NoteDeed → List NoteDeed → Type 0
EndBehind trace [] earlier = Unit {0}
EndBehind trace (deed ∷ later) earlier = EndsBehind trace deed (later ++ earlier) × EndBehind trace later earlier

-- Nothing of a trace is to come: no segment of it is open, and as many pages as its segments announced were handed out, evicted or
-- abandoned.
pub record IsOver (trace : TraceId) (deeds : List NoteDeed) : Type 0 where
  pub settled : announced_of trace deeds ≤ handed_out_of trace deeds + let_go_of trace deeds
  pub closed : (client : ℕ) → is_open trace (track_after client deeds) ≡ false

-- What `whole since` says of a trace: of the deeds, a later part has each segment of the trace behind the horizon.
pub record IsWholeSince (horizon clients : ℕ) (trace : TraceId) (deeds : List NoteDeed) : Type 0 where
  pub later : List NoteDeed
  pub earlier : List NoteDeed
  pub parts : deeds ≡ later ++ earlier
  -- no segment before that part is behind the horizon
  pub horizon_holds : latest_of trace earlier ≤ horizon
  -- and of those before it nothing was to come
  pub over : IsOver trace earlier
  -- there is a segment in it
  pub heard : has_segment trace later ≡ true
  -- each segment in it is closed: its client's next note is its end, and none is open now
  pub in_order : AreInOrder trace later earlier
  pub closed : (client : ℕ) → client < clients → is_open trace (track_after client deeds) ≡ false
  -- each page that is handed out in it was heard of, and lies before the end of its segment
  pub heard_of : AreHeardOf trace later earlier
  pub before_ends : EndBehind trace later earlier
  -- as many pages were handed out in it as its segments sent
  pub handed_out : handed_out_of trace later ≡ sent_of trace later
  -- nothing is lost in it
  pub nothing_lost : is_lost_in trace later ≡ false

-- Each node to which a crumb of the trace led in that part is among these.
abbrev pub AreLed : NodeSet → TraceId → List NoteDeed → Type 0
AreLed nodes trace later = (node : ℕ) → has_led_to trace node later ≡ true → has_node nodes node ≡ true

-- ---- worked examples: trace 9 has a segment at client 0, which sends pages 0 and 1

abbrev one_page_out : List NoteDeed
one_page_out = HandsOut 0 (p 0 0) (t 9) ∷ Opens 0 0 (t 9) (p 0 0) ∷ []

abbrev one_segment : List NoteDeed
one_segment = HandsOut 0 (p 0 1) (t 9) ∷ Closes 0 1 (t 9) (p 0 2) two_pages ∷ one_page_out

counted : (segments one_segment ≡ 1) × (latest_of (t 9) one_segment ≡ 1) × (latest_of (t 8) one_segment ≡ 0) × (sent_of (t 9) one_segment ≡ 2) × (handed_out_of (t 9) one_segment ≡ 2) × (is_lost_in (t 9) one_segment ≡ false)
counted = (refl, refl, refl, refl, refl, refl)

one_page_lost : (is_lost_in (t 9) (Loses (t 9) EvictedPages 1 ∷ one_segment) ≡ true) × (is_lost_in (t 9) (Loses (t 8) EvictedPages 1 ∷ one_segment) ≡ false) × (is_lost_in (t 9) (Refuses 0 2 (t 9) ∷ one_segment) ≡ true)
one_page_lost = (refl, refl, refl)

-- its crumbs led to node 2, and a crumb outside of a segment to node 0
abbrev crumbs_led : List NoteDeed
crumbs_led = Leads 0 2 (t 9) (record { 0 = 1 }) ∷ Closes 0 1 (t 9) (p 0 2) (record two_pages { crumbs = record { 0 = 4 } }) ∷ one_page_out

led_to : (has_led_to (t 9) 2 crumbs_led ≡ true) × (has_led_to (t 9) 0 crumbs_led ≡ true) × (has_led_to (t 9) 1 crumbs_led ≡ false) × (has_led_to (t 8) 2 crumbs_led ≡ false)
led_to = (refl, refl, refl, refl)

open_before : (is_open (t 9) (track_after 0 one_page_out) ≡ true) × (is_open (t 9) (track_after 0 one_segment) ≡ false)
open_before = (refl, refl)

-- the end is its client's next note, so its pages are announced; one that is handed out and one that is evicted are all of them
announced : (announced_of (t 9) one_segment ≡ 2) × (announced_of (t 9) (Closes 0 5 (t 9) (p 0 2) two_pages ∷ []) ≡ 0) × (let_go_of (t 9) (Loses (t 9) EvictedPages 1 ∷ one_segment) ≡ 1) × (let_go_of (t 9) (Loses (t 9) EvictedCrumbs 1 ∷ one_segment) ≡ 0)
announced = (refl, refl, refl, refl)

-- page 0 is handed out while the segment is open, and page 1 when it is closed
meanwhile : (out_since (t 9) 0 one_page_out ≡ p 0 0 ∷ []) × (out_since (t 9) 0 one_segment ≡ p 0 1 ∷ []) × (out_since (t 9) 1 one_segment ≡ []) × (out_since (t 8) 0 one_segment ≡ [])
meanwhile = (refl, refl, refl, refl)
