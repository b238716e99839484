-- What contracts see of notes of chunks and pages: what was noted, and whether it is kept, with what room; and how the notes go on.
use Rattle.std.specs.Prelude.{◌≡◌, ℕ, Bool, true, false, List, [], ◌∷◌, ◌++◌, map, filter, not, Option, Some, MatchOption}
use Rattle.std.specs.Option.{option_map_or}
use Rattle.hs_base.specs.Listing.{Listing}
use Rattle.hs_base.specs.Notes.{Noted}
use Rattle.hs_base.specs.declared.told.Group.{Group}
use Rattle.hs_pins.specs.Priorities.{same_group}
use Rattle.hs_records.specs.declared.books.Standing.{Standing}
use Rattle.hs_records.specs.declared.books.Claim.{Claim}
use Rattle.hs_words.specs.Chunks.{Contents}
use Rattle.hs_words.specs.Pages.{page_bytes}
use Rattle.hs_agent.specs.declared.hand.Leave.{Leave}
use Rattle.hs_agent.specs.declared.hand.ChunkNote.{ChunkNote}
use Rattle.hs_agent.specs.Leaving.{with_left, standing_by}

-- ---- chunks

-- the notes go on by a chunk that leaves
abbrev pub marks_after : List ChunkNote → Leave → List ChunkNote
marks_after marks leave = with_left leave.place.0 (Some leave.left) marks

-- what is kept are the standings of what was noted
abbrev pub AreMarks : List ChunkNote → Option (Listing Standing) → Type 0
AreMarks marks kept = MatchOption kept (Unit {0}) (λ list. list.items ≡ map standing_by marks)

-- what is kept goes on so
abbrev pub LeavesMarks : Leave → Option (Listing Standing) → Option (Listing Standing) → Type 0
LeavesMarks leave old new = (marks : List ChunkNote) → AreMarks marks old → AreMarks (marks_after marks leave) new

abbrev pub are_kept : Option (Listing Standing) → Bool
are_kept kept = option_map_or (λ list. true) kept false

abbrev pub marked : List ChunkNote → Option (Listing Standing) → Noted ChunkNote
marked marks kept = record { items = marks; keeps = are_kept kept; room = option_map_or (λ list. list.room) kept 0 }

-- ---- pages

abbrev pub bytes_in : Contents → List ℕ
bytes_in chunk = option_map_or page_bytes chunk.page []

-- the notes go on by the bytes of a chunk's page
abbrev pub pages_after : List (Listing ℕ) → Contents → List (Listing ℕ)
pages_after pages chunk = pages ++ record { items = bytes_in chunk; room = 0 } ∷ []

abbrev pub texts : List (Listing ℕ) → List (List ℕ)
texts pages = map (λ (page : Listing ℕ). page.items) pages

-- what is kept are the bytes of what was noted
abbrev pub ArePages : List (Listing ℕ) → Option (Listing (Listing ℕ)) → Type 0
ArePages pages kept = MatchOption kept (Unit {0}) (λ list. texts list.items ≡ texts pages)

pub record NotedPages : Type 0 where
  pub items : List (List ℕ)
  pub keeps : Bool

abbrev pub paged : List (Listing ℕ) → Option (Listing (Listing ℕ)) → NotedPages
paged pages kept = record { items = texts pages; keeps = option_map_or (λ list. true) kept false }

-- ---- claims

-- the notes go on by a group that is forgotten
abbrev pub claims_after : List Claim → Group → List Claim
claims_after claims group = filter (λ (claim : Claim). not (same_group group claim.group)) claims
