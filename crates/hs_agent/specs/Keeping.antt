-- What an agent keeps, and which run of the model that is. A chunk is where the model says: in the index under its trace,
-- among the pinned, or in the hand; and what is noted of it is its standing there. Of a run contracts say the settings, the
-- node, the events, and with which lease each chunk came last.
use Rattle.std.specs.Prelude.{◌≡◌, ℕ, ◌+◌, ◌<◌, ◌≤◌, ◌^◌, Bool, false, List, [], ◌∷◌, ◌++◌, length, map, filter_map, Option, Some, None, slice_get, if◌then◌else◌}
use Rattle.std.specs.List.{AllByRecursion}
use Rattle.std.specs.Option.{option_map_or, option_to_list}
use Rattle.hs_base.specs.declared.ids.TraceId.{TraceId}
use Rattle.hs_base.specs.declared.node_set.NodeSet.{NodeSet}
use Rattle.hs_base.specs.NodeSets.{has_node}
use Rattle.hs_base.specs.Ids.{same_trace}
use Rattle.hs_records.specs.declared.books.Claim as noted
use Rattle.hs_records.specs.declared.journal.Step.{Step}
use Rattle.hs_records.specs.Plain.{PlainSettings}
use Rattle.hs_words.specs.Buffers.{Buffer}
use Rattle.hs_words.specs.Chunks.{used_of}
use Rattle.hs_index.specs.Index.{Index, Indexed, noted_of, count_chunks, chunks_left}
use Rattle.hs_pins.specs.Remembered.{Claim, Pin, Remembered, claim_of}
use Rattle.hs_pins.specs.PinsLayout.{Pinning, Remembers}
use Rattle.hs_sched.specs.Turns.{Schedule}
use Rattle.hs_law_agent.specs.Standings.{Taken, indexed_places, indexed_count, pinned_for}
use Rattle.hs_law_agent.specs.State.{AgentState, ClaimedTrace, start}
use Rattle.hs_law_agent.specs.Messages.{has_crumb}
use Rattle.hs_law_agent.specs.Books.{claim_note, bytes_at}
use Rattle.hs_agent.specs.declared.placed.Tagged.{Tagged}
use Rattle.hs_agent.specs.declared.hand.Left.{Left}
use Rattle.hs_agent.specs.declared.hand.ChunkNote.{ChunkNote}
use Rattle.hs_agent.specs.Placing.{Placed, place_of, untagged}
use Rattle.hs_agent.specs.Leaving.{mark_of, AreLeft}

-- what an agent keeps of its chunks
pub record Kept (L : Type 0) : Type 0 where
  pub node : ℕ
  pub index : Index (Tagged L)
  pub pins : Pinning (Tagged L)
  -- what the turn that is under way has sent
  pub sent : List (Pin (Tagged L))
  pub hand : List (Placed L)
  -- the place of the chunk that was offered and not answered
  pub offered : Option ℕ
  -- why these left, the one that was offered and not answered first
  pub lefts : List Left
  -- whether the first of the hand was offered before, and came back
  pub again : Bool
  -- what was noted, and whether it can be had at the end
  pub standings : List ChunkNote
  pub claims : List noted.Claim
  pub pages : List (List ℕ)
  pub keeps : Bool

-- what an agent keeps
pub record PlainAgent (L : Type 0) : Type 0 where
  pub kept : Kept L
  pub schedule : Schedule
  pub log : List Step
  -- whether the log is kept
  pub keeps : Bool
  pub spent : Bool

-- ---- where the chunks are

-- the chunk is as it came last, with the lease with which it came
abbrev pub IsKept : {L : Type 0} → List (Buffer L) → Placed L → Type 0
IsKept buffers placed = slice_get buffers (place_of placed) ≡ Some (untagged placed)

-- The chunk has the page with which it was taken at its place, which fits the settings' size. That holds until the chunk is
-- offered to the pool: what comes back may be clear.
pub record HasPage {L : Type 0} (settings : PlainSettings) (taken : List Taken) (placed : Placed L) : Type 0 where
  pub chunk : Taken
  pub at : slice_get taken (place_of placed) ≡ Some chunk
  pub page : placed.chunk.page ≡ Some chunk.sheet
  pub size : used_of chunk.sheet ≤ settings.size

abbrev pub plain_claim : Claim → ClaimedTrace
plain_claim claim = record { trace = claim.trace; group = claim.group; laterals = claim.laterals }

abbrev pub pinned_place : {L : Type 0} → Pin (Tagged L) → ℕ
pinned_place pin = place_of pin.chunk

-- the nodes to which the known crumbs of a trace lead, claimed or not
abbrev pub crumbs_known : {L : Type 0} → List Claim → List (Indexed (Tagged L)) → TraceId → NodeSet
crumbs_known claims touched trace = option_map_or (λ (claim : Claim). claim.crumbs) (claim_of claims trace) (noted_of trace touched).crumbs

-- the pins are those of a node that remembers what the model does
pub record RemembersAs {L : Type 0} (settings : PlainSettings) (node : ℕ) (state : AgentState) (memory : Remembered (Tagged L)) : Type 0 where
  pub node_is : memory.node ≡ node
  pub rules : memory.rules ≡ settings.triggers
  pub most : memory.most ≡ settings.pins
  pub claims : map plain_claim memory.claims ≡ state.claims
  pub pinned : map pinned_place memory.pinned ≡ state.pinned
  pub groups : AllByRecursion (λ (pin : Pin (Tagged L)). pinned_for state.taken (pinned_place pin) ≡ Some pin.group) memory.pinned
  pub abandoned : memory.abandoned ≡ state.abandoned
  pub tried : memory.tried ≡ state.tried
  pub admitted : memory.admitted ≡ state.admitted

-- each trace stands once
abbrev pub AreApart : {L : Type 0} → List (Indexed (Tagged L)) → Type 0
AreApart [] = Unit {0}
AreApart {L} (t ∷ touched) = AllByRecursion (λ (u : Indexed (Tagged L)). same_trace t.trace u.trace ≡ false) touched × AreApart touched

-- These are the model's indexed traces, where these are the claims: each stands once, and none is claimed; each has its
-- chunks; and the known crumbs are those of the model.
pub record IsIndexed {L : Type 0} (claims : List Claim) (state : AgentState) (touched : List (Indexed (Tagged L))) : Type 0 where
  pub traces : state.touched ≡ map (λ (t : Indexed (Tagged L)). t.trace) touched
  pub apart : AreApart touched
  pub free : AllByRecursion (λ (t : Indexed (Tagged L)). claim_of claims t.trace ≡ None) touched
  pub places : (trace : TraceId) → map place_of (noted_of trace touched).chunks ≡ indexed_places state.taken trace
  pub count : indexed_count state.taken ≡ count_chunks touched
  pub crumbs : (trace : TraceId) (n : ℕ) → has_crumb state.crumbs (record { trace = trace; node = record { 0 = n } }) ≡ has_node (crumbs_known claims touched trace) n

-- the index is that of the model
pub record IsIndexOf {L : Type 0} (settings : PlainSettings) (claims : List Claim) (state : AgentState) (index : Index (Tagged L)) : Type 0 where
  pub threshold : index.threshold ≡ settings.threshold
  pub most : index.most ≡ settings.traces
  pub touched : IsIndexed claims state index.touched

-- the chunks that are indexed or pinned
abbrev pub waiting_chunks : {L : Type 0} → Kept L → List (Pin (Tagged L)) → List (Placed L)
waiting_chunks {L} kept pinned = chunks_left kept.index.touched ++ map (λ (pin : Pin (Tagged L)). pin.chunk) pinned

-- all chunks that are indexed, pinned or in the hand
abbrev pub all_held : {L : Type 0} → Kept L → List (Pin (Tagged L)) → List (Placed L)
all_held kept pinned = waiting_chunks kept pinned ++ kept.hand

-- the others
abbrev pub behind : {A : Type 0} → List A → List A
behind [] = []
behind (x ∷ xs) = xs

-- the chunks of the hand that were never offered
abbrev pub unoffered : {A : Type 0} → Option ℕ → Bool → List A → List A
unoffered (Some place) again hand = hand
unoffered None again hand = if again then behind hand else hand

-- where a run of the model has come to: its state, the buffer of each taken chunk as it came last, the place of the chunk that
-- was offered and not answered, and whether the first of the hand came back; and whether what is noted can be had at the end
pub record Point (L : Type 0) : Type 0 where
  pub settings : PlainSettings
  pub node : ℕ
  pub state : AgentState
  pub buffers : List (Buffer L)
  pub offered : Option ℕ
  pub again : Bool
  pub keeps : Bool

-- where nothing was taken
abbrev pub first_point : {L : Type 0} → PlainSettings → ℕ → Bool → Point L
first_point settings node keeps = record { settings = settings; node = node; state = start settings; buffers = []; offered = None; again = false; keeps = keeps }

-- What is kept is what the model's state says, between two steps.
pub record Holds {L : Type 0} (kept : Kept L) (point : Point L) : Type 0 where
  pub node_is : kept.node ≡ point.node
  pub memory : Remembered (Tagged L)
  pub remembers : Remembers kept.pins memory
  pub pins : RemembersAs point.settings point.node point.state memory
  pub index : IsIndexOf point.settings memory.claims point.state kept.index
  pub sent : kept.sent ≡ []
  pub offered : kept.offered ≡ point.offered
  pub hand : option_to_list point.offered ++ map place_of kept.hand ≡ point.state.hand
  pub again : kept.again ≡ point.again
  pub keeps : kept.keeps ≡ point.keeps
  pub lefts : AreLeft kept.standings (option_to_list kept.offered ++ map place_of kept.hand) kept.lefts
  pub standings : kept.standings ≡ map mark_of point.state.taken
  pub claims : kept.claims ≡ map claim_note point.state.claims
  pub pages : kept.pages ≡ filter_map (bytes_at point.state.taken) point.state.reported
  pub reported : AllByRecursion (λ (place : ℕ). place < length point.state.taken) point.state.reported
  -- each chunk that was taken came in a buffer
  pub buffers : length point.buffers ≡ length point.state.taken
  pub each : AllByRecursion (IsKept point.buffers) (all_held kept memory.pinned)
  pub paged : AllByRecursion (HasPage point.settings point.state.taken) (waiting_chunks kept memory.pinned)
  pub untouched : AllByRecursion (HasPage point.settings point.state.taken) (unoffered kept.offered kept.again kept.hand)
  -- the chunks that wait are counted in 32 bits
  pub few : count_chunks kept.index.touched + length memory.pinned < 2 ^ 32
  pub fits : length point.state.taken < 2 ^ 64

-- What is kept is that of some point of a run, of which this holds.
abbrev pub HoldsThat : {L : Type 0} → Kept L → (Point L → Type 0) → Type 0
HoldsThat {L} kept fact = (point : Point L) × Holds kept point × fact point

abbrev pub with_state : {L : Type 0} → AgentState → Point L → Point L
with_state state point = record point { state = state }
