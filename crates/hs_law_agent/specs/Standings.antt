-- The chunks that an agent took, in the order of arrival, each with its page and where it stands: in the index; pinned,
-- reported or abandoned for a group; or evicted, with the counts of chunks and traces that were indexed just before. A
-- chunk is named by its place in that order, from 0.
use Rattle.std.specs.Prelude.{◌≡◌, ℕ, suc, Bool, true, false, ◌&&◌, ◌==◌, List, [], ◌∷◌, length, filter, Option, Some, None, slice_get, if◌then◌else◌, refl}
use Rattle.std.specs.List.{list_any}
use Rattle.std.specs.Option.{option_map_or, option_and_then}
use Rattle.hs_base.specs.declared.ids.TraceId.{TraceId}
use Rattle.hs_base.specs.declared.told.Group.{Group}
use Rattle.hs_base.specs.Ids.{same_trace}
use Rattle.hs_words.specs.Pages.{Sheet}
pub use Rattle.hs_pins.specs.Priorities.{same_group}

pub data ChunkStanding : Type 0 where
  Indexed : ChunkStanding
  Pinned : (group : Group) → ChunkStanding
  Reported : (group : Group) → ChunkStanding
  Evicted : (chunks traces : ℕ) → ChunkStanding
  Abandoned : (group : Group) → ChunkStanding

-- a chunk that was taken: its page, which names its client, its trace and its number, and its standing
pub record Taken : Type 0 where
  pub sheet : Sheet
  pub standing : ChunkStanding

-- ---- one chunk

abbrev pub trace_of : Taken → TraceId
trace_of chunk = chunk.sheet.header.trace

abbrev pub is_indexed : ChunkStanding → Bool
is_indexed Indexed = true
is_indexed (Pinned group) = false
is_indexed (Reported group) = false
is_indexed (Evicted chunks traces) = false
is_indexed (Abandoned group) = false

-- the group for which a chunk is pinned
abbrev pub pinning_group : ChunkStanding → Option Group
pinning_group Indexed = None
pinning_group (Pinned group) = Some group
pinning_group (Reported group) = None
pinning_group (Evicted chunks traces) = None
pinning_group (Abandoned group) = None

-- whether it is pinned, and whether for this group
abbrev pub is_pinned : ChunkStanding → Bool
is_pinned Indexed = false
is_pinned (Pinned group) = true
is_pinned (Reported group) = false
is_pinned (Evicted chunks traces) = false
is_pinned (Abandoned group) = false

abbrev pub is_pinned_to : Group → ChunkStanding → Bool
is_pinned_to group Indexed = false
is_pinned_to group (Pinned other) = same_group group other
is_pinned_to group (Reported other) = false
is_pinned_to group (Evicted chunks traces) = false
is_pinned_to group (Abandoned other) = false

abbrev pub is_reported : ChunkStanding → Bool
is_reported Indexed = false
is_reported (Pinned group) = false
is_reported (Reported group) = true
is_reported (Evicted chunks traces) = false
is_reported (Abandoned group) = false

abbrev pub is_evicted : ChunkStanding → Bool
is_evicted Indexed = false
is_evicted (Pinned group) = false
is_evicted (Reported group) = false
is_evicted (Evicted chunks traces) = true
is_evicted (Abandoned group) = false

-- whether the agent is through with a chunk, so that its buffer is to be given back
abbrev pub is_let_go : ChunkStanding → Bool
is_let_go Indexed = false
is_let_go (Pinned group) = false
is_let_go (Reported group) = true
is_let_go (Evicted chunks traces) = true
is_let_go (Abandoned group) = true

-- whether a chunk of the trace is indexed
abbrev pub is_indexed_of : TraceId → Taken → Bool
is_indexed_of trace chunk = is_indexed chunk.standing && same_trace trace (trace_of chunk)

-- ---- places

-- whether the place is among these
abbrev pub is_among : List ℕ → ℕ → Bool
is_among places place = list_any (λ p. p == place) places

-- whether the chunk at a place passes a test
abbrev pub passes : (Taken → Bool) → List Taken → ℕ → Bool
passes test taken place = option_map_or test (slice_get taken place) false

-- whether there is a chunk at a place that stands so
abbrev pub stands : (ChunkStanding → Bool) → List Taken → ℕ → Bool
stands test taken place = passes (λ chunk. test chunk.standing) taken place

-- the group for which the chunk at a place is pinned
abbrev pub pinned_for : List Taken → ℕ → Option Group
pinned_for taken place = option_and_then (λ (chunk : Taken). pinning_group chunk.standing) (slice_get taken place)

-- whether the chunk at a place is pinned for this group
abbrev pub is_pinned_for : List Taken → Group → ℕ → Bool
is_pinned_for taken group place = stands (is_pinned_to group) taken place

-- whether the chunk at a place is of this trace
abbrev pub is_of_trace : List Taken → TraceId → ℕ → Bool
is_of_trace taken trace place = passes (λ chunk. same_trace trace (trace_of chunk)) taken place

-- the places of the chunks that pass a test, rising, where the first chunk has this place
abbrev pub places_from : ℕ → (Taken → Bool) → List Taken → List ℕ
places_from place test [] = []
places_from place test (chunk ∷ taken) = if test chunk then place ∷ places_from (suc place) test taken else places_from (suc place) test taken

-- the places of the indexed chunks of a trace, in the order of arrival
abbrev pub indexed_places : List Taken → TraceId → List ℕ
indexed_places taken trace = places_from 0 (is_indexed_of trace) taken

-- how many chunks are indexed
abbrev pub indexed_count : List Taken → ℕ
indexed_count taken = length (filter (λ chunk. is_indexed chunk.standing) taken)

-- The chunks whose places are among these stand anew, and the others as they stood; the first chunk has this place.
abbrev pub moved_from : ℕ → List ℕ → (ChunkStanding → ChunkStanding) → List Taken → List Taken
moved_from place places change [] = []
moved_from place places change (chunk ∷ taken) =
    (if is_among places place then record chunk { standing = change chunk.standing } else chunk) ∷ moved_from (suc place) places change taken

abbrev pub moved : List ℕ → (ChunkStanding → ChunkStanding) → List Taken → List Taken
moved places change taken = moved_from 0 places change taken

-- ---- examples

abbrev pub sample_group : ℕ → Group
sample_group lead = record { id = record { node = 0; number = 0 }; trigger = record { 0 = 1 }; lead = record { 0 = lead } }

-- a chunk of client 0, whose page has one piece of one byte, so 35 used bytes
abbrev pub sample_sheet : (node client trace number : ℕ) → Sheet
sample_sheet node client trace number =
    record {
      header = record { trace = record { 0 = trace }; client = record { node = node; number = client }; page = number; first = number };
      pieces = record { moment = number; payload = 0xaa ∷ [] } ∷ [];
    }

abbrev chunk : ℕ → ℕ → ChunkStanding → Taken
chunk trace number standing = record { sheet = sample_sheet 0 0 trace number; standing = standing }

abbrev three : List Taken
three = chunk 7 0 Indexed ∷ chunk 8 1 (Pinned (sample_group 8)) ∷ chunk 7 2 Indexed ∷ []

two_are_indexed : (indexed_places three (record { 0 = 7 }) ≡ 0 ∷ 2 ∷ []) × (indexed_count three ≡ 2) × (indexed_places three (record { 0 = 8 }) ≡ [])
two_are_indexed = (refl, refl, refl)

one_is_pinned : (is_pinned_for three (sample_group 8) 1 ≡ true) × (is_pinned_for three (sample_group 7) 1 ≡ false) × (is_pinned_for three (sample_group 8) 0 ≡ false)
one_is_pinned = (refl, refl, refl)

one_moves : moved (2 ∷ []) (λ _. Evicted 2 1) three ≡ chunk 7 0 Indexed ∷ chunk 8 1 (Pinned (sample_group 8)) ∷ chunk 7 2 (Evicted 2 1) ∷ []
one_moves = refl
