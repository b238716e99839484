-- What contracts see of an index: its two limits, and the indexed traces from the one that was touched longest ago to the
-- one touched last, each with its chunks in the order of arrival and the nodes to which its crumbs lead. A touch moves a
-- trace to the end. While there are more chunks or more traces than the limits allow, the trace touched longest ago goes.
use Rattle.std.specs.Prelude.{◌≤◌, ℕ, Bool, if◌then◌else◌, not, ◌||◌, nat_lt, List, [], ◌∷◌, ◌++◌, length, map, filter, find, flat_map, sum_by}
use Rattle.std.specs.Option.{option_map_or}
use Rattle.hs_base.specs.declared.ids.TraceId.{TraceId}
use Rattle.hs_base.specs.declared.ids.NodeId.{NodeId}
use Rattle.hs_base.specs.declared.node_set.NodeSet.{NodeSet}
use Rattle.hs_base.specs.NodeSets.{no_nodes, with_node}
use Rattle.hs_base.specs.Ids.{same_trace}
use Rattle.hs_words.specs.declared.page.Header.{Header}
use Rattle.hs_words.specs.Chunks.{header_in}
use Rattle.hs_words.specs.Buffers.{Buffer, buffer_of}
use Rattle.hs_index.specs.declared.answers.Gone.{Gone}

-- what is indexed of a trace: its chunks in the order of arrival, and the nodes to which its crumbs lead
pub record PlainIndexedTrace (L : Type 0) : Type 0 where
  pub chunks : List (Buffer L)
  pub crumbs : NodeSet

-- an indexed trace
pub record Indexed (L : Type 0) : Type 0 where
  pub trace : TraceId
  pub noted : PlainIndexedTrace L

-- the most chunks and traces that stay, and the indexed traces; the one touched longest ago stands first
pub record Index (L : Type 0) : Type 0 where
  pub threshold : ℕ
  pub most : ℕ
  pub touched : List (Indexed L)

abbrev pub new_index : {L : Type 0} → ℕ → ℕ → Index L
new_index threshold most = record { threshold = threshold; most = most; touched = [] }

abbrev pub with_touched : {L : Type 0} → Index L → List (Indexed L) → Index L
with_touched index touched = record { threshold = index.threshold; most = index.most; touched = touched }

-- ---- what is indexed of a trace

abbrev pub is_of : {L : Type 0} → TraceId → Indexed L → Bool
is_of trace indexed = same_trace trace indexed.trace

abbrev pub is_other : {L : Type 0} → TraceId → Indexed L → Bool
is_other trace indexed = not (is_of trace indexed)

abbrev pub nothing : {L : Type 0} → PlainIndexedTrace L
nothing = record { chunks = []; crumbs = no_nodes }

-- what is indexed of the trace, which is nothing where the trace is not there
abbrev pub noted_of : {L : Type 0} → TraceId → List (Indexed L) → PlainIndexedTrace L
noted_of trace touched = option_map_or (λ t. t.noted) (find (is_of trace) touched) nothing

-- the other traces, in their order
abbrev pub others : {L : Type 0} → TraceId → List (Indexed L) → List (Indexed L)
others trace touched = filter (is_other trace) touched

abbrev pub with_chunk : {L : Type 0} → PlainIndexedTrace L → Buffer L → PlainIndexedTrace L
with_chunk noted buffer = record { chunks = noted.chunks ++ buffer ∷ []; crumbs = noted.crumbs }

abbrev pub with_crumb : {L : Type 0} → PlainIndexedTrace L → NodeId → PlainIndexedTrace L
with_crumb noted node = record { chunks = noted.chunks; crumbs = with_node noted.crumbs node }

-- The trace with this stands last, and the others as they stood.
abbrev pub touch : {L : Type 0} → TraceId → PlainIndexedTrace L → List (Indexed L) → List (Indexed L)
touch trace noted touched = others trace touched ++ record { trace = trace; noted = noted } ∷ []

-- ---- eviction

abbrev pub chunk_count : {L : Type 0} → PlainIndexedTrace L → ℕ
chunk_count noted = length noted.chunks

-- how many chunks are indexed
abbrev pub count_chunks : {L : Type 0} → List (Indexed L) → ℕ
count_chunks touched = sum_by (λ t. chunk_count t.noted) touched

-- whether there are more chunks or more traces than may stay
abbrev pub is_over : {L : Type 0} → ℕ → ℕ → List (Indexed L) → Bool
is_over threshold most touched = nat_lt threshold (count_chunks touched) || nat_lt most (length touched)

-- within both limits
pub record IsWithin {L : Type 0} (index : Index L) : Type 0 where
  pub chunks : count_chunks index.touched ≤ index.threshold
  pub traces : length index.touched ≤ index.most

-- all chunks, trace after trace from the one touched longest ago, and of each in the order of arrival
abbrev pub chunks_left : {L : Type 0} → List (Indexed L) → List (Buffer L)
chunks_left touched = flat_map (λ t. t.noted.chunks) touched

-- a chunk that goes, with the counts of the indexed chunks and traces just before its trace went
pub record Leaving (L : Type 0) : Type 0 where
  pub buffer : Buffer L
  pub chunks : ℕ
  pub traces : ℕ

abbrev pub leaving_of : {L : Type 0} {g : _} → Gone L g → Leaving L
leaving_of gone = record { buffer = buffer_of gone.held; chunks = gone.chunks; traces = gone.traces }

abbrev pub leaving : {L : Type 0} → ℕ → ℕ → Buffer L → Leaving L
leaving chunks traces buffer = record { buffer = buffer; chunks = chunks; traces = traces }

-- the traces that stay: the longest end of the list that is not over the limits
abbrev pub kept : {L : Type 0} → ℕ → ℕ → List (Indexed L) → List (Indexed L)
kept threshold most [] = []
kept threshold most (oldest ∷ later) = if is_over threshold most (oldest ∷ later) then kept threshold most later else oldest ∷ later

-- the chunks that go, trace after trace, and in each in the order of arrival
abbrev pub evicted : {L : Type 0} → ℕ → ℕ → List (Indexed L) → List (Leaving L)
evicted threshold most [] = []
evicted threshold most (oldest ∷ later) =
    if is_over threshold most (oldest ∷ later)
    then map (leaving (count_chunks (oldest ∷ later)) (length (oldest ∷ later))) oldest.noted.chunks ++ evicted threshold most later
    else []

-- ---- what the calls do

-- the index after a touch, before anything goes
abbrev pub touched_with : {L : Type 0} → Index L → TraceId → PlainIndexedTrace L → Index L
touched_with index trace noted = with_touched index (touch trace noted index.touched)

-- the trace that a chunk's page is of, where it has one
abbrev pub trace_of : {L : Type 0} → Buffer L → TraceId
trace_of buffer = option_map_or (λ (header : Header). header.trace) (header_in buffer.chunk) (record { 0 = 0 })

-- what is there when a chunk came
abbrev pub arrived : {L : Type 0} → Index L → Buffer L → Index L
arrived index buffer = touched_with index (trace_of buffer) (with_chunk (noted_of (trace_of buffer) index.touched) buffer)

-- the same when a crumb came
abbrev pub crumbed : {L : Type 0} → Index L → TraceId → NodeId → Index L
crumbed index trace node = touched_with index trace (with_crumb (noted_of trace index.touched) node)

-- without a trace
abbrev pub claimed : {L : Type 0} → Index L → TraceId → Index L
claimed index trace = with_touched index (others trace index.touched)

-- without what goes
abbrev pub settled : {L : Type 0} → Index L → Index L
settled index = with_touched index (kept index.threshold index.most index.touched)

-- what goes
abbrev pub going : {L : Type 0} → Index L → List (Leaving L)
going index = evicted index.threshold index.most index.touched
