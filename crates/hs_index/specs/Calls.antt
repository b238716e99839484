-- What a whole list of calls of an index says, looked back over from its end: in each list of calls the last stands first.
-- A trace is touched by each chunk and each crumb of it. Its chunks are those that arrived since it was last not indexed,
-- because it went, was claimed or never came; and so with its crumbs.
use Rattle.std.specs.Prelude.{◌≡◌, ℕ, suc, ◌<◌, ◌≤◌, Bool, true, false, ◌&&◌, ◌||◌, ◌==◌, if◌then◌else◌, List, [], ◌∷◌, ◌++◌, length, map, find, is_some, Some, refl}
use Rattle.hs_base.specs.declared.ids.TraceId.{TraceId}
use Rattle.hs_base.specs.declared.ids.NodeId.{NodeId}
use Rattle.hs_base.specs.NodeSets.{has_node}
use Rattle.hs_base.specs.Ids.{same_trace}
use Rattle.hs_base.specs.Samples.{t}
use Rattle.hs_words.specs.Chunks.{clear_chunk, with_page}
use Rattle.hs_index.specs.Index.{Indexed, Index, new_index, is_of, noted_of, is_over, trace_of, arrived, crumbed, claimed, settled, going, leaving}
use Rattle.hs_words.specs.Buffers.{Buffer}

-- A chunk arrived, a crumb of a trace to a node came, or a trace was claimed.
pub data Call (L : Type 0) : Type 0 where
  Arrived : (buffer : Buffer L) → Call L
  Crumbed : (trace : TraceId) (node : NodeId) → Call L
  Claimed : (trace : TraceId) → Call L

-- the index after one call
abbrev pub after_call : {L : Type 0} → Index L → Call L → Index L
after_call index (Arrived buffer) = settled (arrived index buffer)
after_call index (Crumbed trace node) = settled (crumbed index trace node)
after_call index (Claimed trace) = claimed index trace

-- the index with these limits after these calls
abbrev pub after : {L : Type 0} → ℕ → ℕ → List (Call L) → Index L
after threshold most [] = new_index threshold most
after threshold most (call ∷ earlier) = after_call (after threshold most earlier) call

-- ---- what the calls were

abbrev pub touches : {L : Type 0} → TraceId → Call L → Bool
touches trace (Arrived buffer) = same_trace trace (trace_of buffer)
touches trace (Crumbed t node) = same_trace trace t
touches trace (Claimed t) = false

-- how many calls there were up to the trace's last touch
abbrev pub last_touch : {L : Type 0} → List (Call L) → TraceId → ℕ
last_touch [] trace = 0
last_touch (call ∷ earlier) trace = if touches trace call then suc (length earlier) else last_touch earlier trace

-- the chunk of the trace that the call brought
abbrev pub chunk_in : {L : Type 0} → TraceId → Call L → List (Buffer L)
chunk_in trace (Arrived buffer) = if same_trace trace (trace_of buffer) then buffer ∷ [] else []
chunk_in trace (Crumbed t node) = []
chunk_in trace (Claimed t) = []

-- whether the call brought a crumb of the trace to the node
abbrev pub is_crumb : {L : Type 0} → TraceId → ℕ → Call L → Bool
is_crumb trace node (Arrived buffer) = false
is_crumb trace node (Crumbed t to) = same_trace trace t && node == to.0
is_crumb trace node (Claimed t) = false

-- ---- what they should come to

abbrev pub is_in : {L : Type 0} → TraceId → List (Indexed L) → Bool
is_in trace touched = is_some (find (is_of trace) touched)

-- whether the trace is indexed after these calls
abbrev pub is_indexed : {L : Type 0} → ℕ → ℕ → TraceId → List (Call L) → Bool
is_indexed threshold most trace calls = is_in trace (after threshold most calls).touched

-- the trace's chunks that arrived since it was last not indexed, in the order of arrival
abbrev pub chunks_since : {L : Type 0} → ℕ → ℕ → TraceId → List (Call L) → List (Buffer L)
chunks_since threshold most trace [] = []
chunks_since threshold most trace (call ∷ earlier) =
    if is_indexed threshold most trace (call ∷ earlier) then chunks_since threshold most trace earlier ++ chunk_in trace call else []

-- whether a crumb of the trace to the node came since
abbrev pub has_crumb_since : {L : Type 0} → ℕ → ℕ → TraceId → ℕ → List (Call L) → Bool
has_crumb_since threshold most trace node [] = false
has_crumb_since threshold most trace node (call ∷ earlier) =
    if is_indexed threshold most trace (call ∷ earlier) then has_crumb_since threshold most trace node earlier || is_crumb trace node call else false

-- These traces were touched later than that.
abbrev pub AreLater : {L : Type 0} → (TraceId → ℕ) → ℕ → List (Indexed L) → Type 0
AreLater touch moment [] = Unit {0}
AreLater touch moment (t ∷ ts) = (moment < touch t.trace) × AreLater touch moment ts

-- Each of these traces was touched before those behind it. So none is there twice.
abbrev pub AreInTurn : {L : Type 0} → (TraceId → ℕ) → List (Indexed L) → Type 0
AreInTurn touch [] = Unit {0}
AreInTurn touch (t ∷ ts) = AreLater touch (touch t.trace) ts × AreInTurn touch ts

-- What an index with these limits holds after these calls.
pub record LooksBack {L : Type 0} (threshold most : ℕ) (calls : List (Call L)) : Type 0 where
  pub chunks : (trace : TraceId) → (noted_of trace (after threshold most calls).touched).chunks ≡ chunks_since threshold most trace calls
  pub crumbs : (trace : TraceId) (node : ℕ) → has_node (noted_of trace (after threshold most calls).touched).crumbs node ≡ has_crumb_since threshold most trace node calls
  pub order : AreInTurn (last_touch calls) (after threshold most calls).touched
  pub within : is_over threshold most (after threshold most calls).touched ≡ false

-- What stays is an end of the list that is within the limits, and each longer end is not.
pub record IsLongestEnd {L : Type 0} (threshold most : ℕ) (touched stay : List (Indexed L)) : Type 0 where
  pub rest : (gone : List (Indexed L)) × (touched ≡ gone ++ stay)
  pub within : is_over threshold most stay ≡ false
  pub longest : (front back : List (Indexed L)) → touched ≡ front ++ back → is_over threshold most back ≡ false → length back ≤ length stay

-- ---- examples

-- a chunk with a page of the trace
abbrev b : ℕ → ℕ → Buffer ℕ
b trace number =
    record {
      chunk = with_page (clear_chunk 64 number) (Some (record { header = record { trace = t trace; client = record { node = 0; number = 0 }; page = 0; first = 0 }; pieces = [] }));
      lease = 7;
    }

abbrev chunk : ℕ → ℕ → Call ℕ
chunk trace number = Arrived (b trace number)

abbrev crumb : ℕ → ℕ → Call ℕ
crumb trace node = Crumbed (t trace) (record { 0 = node })

-- the traces from the one touched longest ago
abbrev traces_after : ℕ → ℕ → List (Call ℕ) → List ℕ
traces_after threshold most calls = map (λ (i : Indexed ℕ). i.trace.0) (after threshold most calls).touched

abbrev chunks_after : ℕ → ℕ → List (Call ℕ) → ℕ → List (Buffer ℕ)
chunks_after threshold most calls trace = (noted_of (t trace) (after threshold most calls).touched).chunks

-- a second chunk touches its trace
a_chunk_touches : traces_after 9 9 (chunk 1 2 ∷ chunk 2 1 ∷ chunk 1 0 ∷ []) ≡ 2 ∷ 1 ∷ []
a_chunk_touches = refl

-- its chunks stand in the order of arrival
chunks_stand_in_order : chunks_after 9 9 (chunk 1 2 ∷ chunk 2 1 ∷ chunk 1 0 ∷ []) 1 ≡ b 1 0 ∷ b 1 2 ∷ []
chunks_stand_in_order = refl

-- as many are counted; of a trace with a crumb alone none, and none of a trace that is not there
chunks_are_counted : map (λ trace. length (chunks_after 9 9 (chunk 1 2 ∷ chunk 2 1 ∷ chunk 1 0 ∷ crumb 4 5 ∷ []) trace)) (1 ∷ 2 ∷ 4 ∷ 7 ∷ []) ≡ 2 ∷ 1 ∷ 0 ∷ 0 ∷ []
chunks_are_counted = refl

-- at the threshold all stay
two_may_stay : traces_after 2 9 (chunk 2 1 ∷ chunk 1 0 ∷ []) ≡ 1 ∷ 2 ∷ []
two_may_stay = refl

-- one more, and the first goes
the_first_goes : going (arrived (after 2 9 (chunk 2 1 ∷ chunk 1 0 ∷ [])) (b 3 2)) ≡ leaving 3 3 (b 1 0) ∷ []
the_first_goes = refl

-- the trace that was touched longest ago goes, and not the one that was seen first
the_longest_untouched_goes : going (arrived (after 3 9 (chunk 1 2 ∷ chunk 2 1 ∷ chunk 1 0 ∷ [])) (b 3 3)) ≡ leaving 4 3 (b 2 1) ∷ []
the_longest_untouched_goes = refl

-- a trace that goes takes all its chunks, in the order of arrival
all_its_chunks_go : going (arrived (after 2 9 (chunk 1 1 ∷ chunk 1 0 ∷ [])) (b 2 2)) ≡ leaving 3 2 (b 1 0) ∷ leaving 3 2 (b 1 1) ∷ []
all_its_chunks_go = refl

-- with no room for a chunk each goes at once
it_goes_at_once : going (arrived (after 0 9 []) (b 1 0)) ≡ leaving 1 1 (b 1 0) ∷ []
it_goes_at_once = refl

-- too many traces: the first goes, though there are few chunks
too_many_traces : going (arrived (after 9 2 (chunk 2 1 ∷ chunk 1 0 ∷ [])) (b 3 2)) ≡ leaving 3 3 (b 1 0) ∷ []
too_many_traces = refl

-- A crumb touches its trace too, and a trace without chunks counts.
a_crumb_counts : traces_after 9 2 (crumb 3 0 ∷ chunk 2 1 ∷ chunk 1 0 ∷ []) ≡ 2 ∷ 3 ∷ []
a_crumb_counts = refl

a_crumb_touches : traces_after 9 9 (crumb 1 0 ∷ chunk 2 1 ∷ chunk 1 0 ∷ []) ≡ 2 ∷ 1 ∷ []
a_crumb_touches = refl

-- over the threshold it goes first, which frees no chunk; the next trace goes with the counts as they are by then
counted_anew : going (arrived (after 2 9 (chunk 2 1 ∷ chunk 1 0 ∷ crumb 4 5 ∷ [])) (b 3 2)) ≡ leaving 3 3 (b 1 0) ∷ []
counted_anew = refl

-- and its crumbs are forgotten
crumbs_are_kept : has_node (noted_of (t 4) (after 2 9 (chunk 2 1 ∷ chunk 1 0 ∷ crumb 4 5 ∷ [])).touched).crumbs 5 ≡ true
crumbs_are_kept = refl

crumbs_are_forgotten : has_node (noted_of (t 4) (after 2 9 (chunk 3 2 ∷ chunk 2 1 ∷ chunk 1 0 ∷ crumb 4 5 ∷ [])).touched).crumbs 5 ≡ false
crumbs_are_forgotten = refl

-- a claimed trace is gone, and begins anew
a_claimed_trace_begins_anew : chunks_after 9 9 (chunk 1 2 ∷ Claimed (t 1) ∷ chunk 2 1 ∷ chunk 1 0 ∷ []) 1 ≡ b 1 2 ∷ []
a_claimed_trace_begins_anew = refl

since_the_claim : chunks_since 9 9 (t 1) (chunk 1 2 ∷ Claimed (t 1) ∷ chunk 2 1 ∷ chunk 1 0 ∷ []) ≡ b 1 2 ∷ []
since_the_claim = refl

its_last_touch : last_touch (chunk 1 2 ∷ Claimed (t 1) ∷ chunk 2 1 ∷ chunk 1 0 ∷ []) (t 2) ≡ 2
its_last_touch = refl
