-- Where chunks go in when they are pinned, and which one comes out next: two groups of one trigger id, and chunks that
-- carry their numbers.
use Rattle.std.specs.Prelude.{◌≡◌, ℕ, [], ◌∷◌, Some, None, refl}
use Rattle.hs_words.specs.Chunks.{clear_chunk}
use Rattle.hs_pins.specs.declared.priority.Priority.{Priority}
use Rattle.hs_words.specs.Buffers.{Buffer}
use Rattle.hs_pins.specs.Groups.{Groups, count_of, chunks_of, pinned, greatest_of, next_of, without_next}

abbrev chunk : ℕ → Buffer (Unit {0})
chunk number = record { chunk = clear_chunk 64 number; lease = tt }

-- of two groups of node 0, by the words of their leads' ranks
abbrev low : Priority
low = record { word = 3; lead = 9; node = 0; number = 0 }

abbrev high : Priority
high = record { word = 5; lead = 1; node = 0; number = 1 }

abbrev two_groups : Groups (Unit {0})
two_groups = (low, chunk 4 ∷ []) ∷ (high, chunk 2 ∷ chunk 3 ∷ []) ∷ []

-- groups stand in rising priority, in whatever order they come
in_rising_priority : (pinned (pinned {L = Unit {0}} [] high (chunk 2 ∷ chunk 3 ∷ [])) low (chunk 4 ∷ []) ≡ two_groups) × (pinned (pinned {L = Unit {0}} [] low (chunk 4 ∷ [])) high (chunk 2 ∷ chunk 3 ∷ []) ≡ two_groups)
in_rising_priority = (refl, refl)

-- later chunks of a group stand behind its earlier ones, and no chunks make no group
later_chunks_stand_behind : (chunks_of (pinned two_groups low (chunk 5 ∷ [])) low ≡ chunk 4 ∷ chunk 5 ∷ []) × (pinned {L = Unit {0}} [] low [] ≡ [])
later_chunks_stand_behind = (refl, refl)

-- what comes out next is the oldest chunk of the greatest group, and a group without chunks is gone
first_of_the_greatest : (next_of two_groups ≡ Some (high, chunk 2)) × (without_next two_groups (greatest_of two_groups) ≡ (low, chunk 4 ∷ []) ∷ (high, chunk 3 ∷ []) ∷ [])
first_of_the_greatest = (refl, refl)

a_group_goes_with_its_last_chunk : without_next ((low, chunk 4 ∷ []) ∷ (high, chunk 3 ∷ []) ∷ []) (Some high) ≡ (low, chunk 4 ∷ []) ∷ []
a_group_goes_with_its_last_chunk = refl

counted : (count_of two_groups ≡ 3) × (next_of {L = Unit {0}} [] ≡ None)
counted = (refl, refl)
