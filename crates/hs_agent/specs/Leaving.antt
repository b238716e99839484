-- Why a chunk left the index or the pins, and what is noted of each chunk that was taken: its client, its page, and why it left,
-- if it did.
use Rattle.std.specs.Prelude.{◌≡◌, ◌<◌, ℕ, Bool, true, false, List, [], ◌∷◌, length, map, fold, Option, Some, None, slice_get, slice_set, refl}
use Rattle.std.specs.Option.{option_map_or, option_and_then}
use Rattle.hs_base.specs.Ranks.{trace_rank}
use Rattle.hs_base.specs.declared.told.Fate.{Fate}
use Rattle.hs_base.specs.declared.told.Fate.TheVariants as fates
use Rattle.hs_base.specs.declared.told.Group.{Group}
use Rattle.hs_records.specs.declared.books.Standing.{Standing}
use Rattle.hs_records.specs.declared.journal.Step.{Step}
use Rattle.hs_records.specs.declared.journal.Step.TheVariants as steps
use Rattle.hs_law_agent.specs.Standings.{ChunkStanding, Taken, is_among, sample_group}
use Rattle.hs_law_agent.specs.Standings as standings
use Rattle.hs_agent.specs.declared.hand.Left.{Left}
use Rattle.hs_agent.specs.declared.hand.Left.TheVariants.{Reported, Evicted, Abandoned}
use Rattle.hs_agent.specs.declared.hand.ChunkNote.{ChunkNote}

abbrev pub reported_for : Group → Left
reported_for group = Reported group

abbrev pub abandoned_for : Group → Left
abandoned_for group = Abandoned group

-- while so many chunks of so many traces were indexed
abbrev pub evicted_of : ℕ → ℕ → Left
evicted_of chunks traces = Evicted chunks traces

-- how a chunk stands in the model that left so
abbrev pub standing_of : Left → ChunkStanding
standing_of (Reported group) = standings.Reported group
standing_of (Evicted chunks traces) = standings.Evicted chunks traces
standing_of (Abandoned group) = standings.Abandoned group

-- why a chunk left that stands so, if it did
abbrev pub left_of : ChunkStanding → Option Left
left_of standings.Indexed = None
left_of (standings.Pinned group) = None
left_of (standings.Reported group) = Some (Reported group)
left_of (standings.Evicted chunks traces) = Some (Evicted chunks traces)
left_of (standings.Abandoned group) = Some (Abandoned group)

-- the fate of its pieces, which are live while it has not left
abbrev pub fate_by : Option Left → Fate
fate_by None = fates.Live
fate_by (Some (Reported group)) = fates.Reported group.trigger group.lead
fate_by (Some (Evicted chunks traces)) = fates.Evicted chunks traces
fate_by (Some (Abandoned group)) = fates.Abandoned group.trigger group.lead (trace_rank group.lead)

-- what is noted of a chunk
abbrev pub mark_of : Taken → ChunkNote
mark_of chunk = record { client = chunk.sheet.header.client; page = chunk.sheet.header.page; left = left_of chunk.standing }

-- what stands in a book of it
abbrev pub standing_by : ChunkNote → Standing
standing_by mark = record { client = mark.client; page = mark.page; fate = fate_by mark.left }

-- the notes where the chunk at the place left so
abbrev pub with_left : ℕ → Option Left → List ChunkNote → List ChunkNote
with_left place left marks = option_map_or (λ (mark : ChunkNote). slice_set marks place (record mark { left = left })) (slice_get marks place) marks

-- the standings where the one at the place has this fate
abbrev pub with_fate : ℕ → Fate → List Standing → List Standing
with_fate place fate standings = option_map_or (λ (standing : Standing). slice_set standings place (record standing { fate = fate })) (slice_get standings place) standings

-- why the chunk at a place left, as it is noted
abbrev pub left_at : List ChunkNote → ℕ → Option Left
left_at marks place = option_and_then (λ (mark : ChunkNote). mark.left) (slice_get marks place)

-- The chunks at these places left so, one after another: what is noted of each is why it left last.
abbrev pub AreLeft : List ChunkNote → List ℕ → List Left → Type 0
AreLeft marks [] lefts = lefts ≡ []
AreLeft marks (place ∷ places) [] = ⊥
AreLeft marks (place ∷ places) (left ∷ lefts) = (place < length marks) × (is_among places place ≡ false → left_at marks place ≡ Some left) × AreLeft marks places lefts

-- ---- offers that came to nothing

-- whether the first of the hand came back from the pool, where this is what was known before the step
abbrev pub back_after : Bool → Step → Bool
back_after before (steps.Chunk client) = before
back_after before (steps.Crumb client) = before
back_after before (steps.Trigger client) = before
back_after before steps.Ask = before
back_after before steps.Turn = before
back_after before (steps.Given stamp) = false
back_after before (steps.Missed stamp) = true
back_after before steps.Unread = true

-- The first of the hand came back where the last offer of all was not given.
abbrev pub came_back : List Step → Bool
came_back log = fold back_after false log

-- ---- examples

a_miss_comes_back : (came_back (steps.Chunk 0 ∷ steps.Missed 3 ∷ steps.Turn ∷ []) ≡ true) × (came_back (steps.Missed 3 ∷ steps.Given 4 ∷ steps.Turn ∷ []) ≡ false)
a_miss_comes_back = (refl, refl)

abbrev marks : List ChunkNote
marks = record { client = record { node = 0; number = 0 }; page = 5; left = None } ∷ record { client = record { node = 0; number = 1 }; page = 6; left = None } ∷ []

the_second_left : with_left 1 (Some (Reported (sample_group 7))) marks
    ≡ record { client = record { node = 0; number = 0 }; page = 5; left = None } ∷ record { client = record { node = 0; number = 1 }; page = 6; left = Some (Reported (sample_group 7)) } ∷ []
the_second_left = refl

it_is_reported : map standing_by (with_left 1 (Some (Reported (sample_group 7))) marks)
    ≡ record { client = record { node = 0; number = 0 }; page = 5; fate = fates.Live } ∷ record { client = record { node = 0; number = 1 }; page = 6; fate = fates.Reported (record { 0 = 1 }) (record { 0 = 7 }) } ∷ []
it_is_reported = refl
