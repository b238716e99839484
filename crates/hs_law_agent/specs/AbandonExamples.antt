-- Abandonment with few pins, and the turns behind it. The three leads 0, g and 2g have ranks that rise otherwise than they do.
use Rattle.std.specs.Prelude.{◌≡◌, ℕ, List, [], ◌∷◌, map, Some, None, refl}
use Rattle.hs_base.specs.declared.told.Fate.TheVariants as fates
use Rattle.hs_base.specs.declared.told.Told.{Told}
use Rattle.hs_base.specs.declared.told.Why.TheVariants.{Fired}
use Rattle.hs_base.specs.Samples.{one_rule, t, golden as g, twice as g2}
use Rattle.hs_records.specs.declared.books.Standing.{Standing}
use Rattle.hs_records.specs.declared.journal.Step.TheVariants as steps
use Rattle.hs_law_agent.specs.Standings.{Pinned, Reported, Abandoned}
use Rattle.hs_law_agent.specs.State.{AgentState}
use Rattle.hs_law_agent.specs.Stepping.{AgentEvent, after}
use Rattle.hs_law_agent.specs.Abandoning.{fullest_id, next_to_go}
use Rattle.hs_law_agent.specs.Books.{book_of}
use Rattle.hs_law_agent.specs.Samples.{settings_with, chunk, trigger, group, turned, given, standings, deficits}

abbrev run : ℕ → List AgentEvent → AgentState
run pins events = after (settings_with 4 8 pins one_rule) 0 events

three_chunks : List AgentEvent
three_chunks = chunk 0 0 ∷ chunk g 1 ∷ chunk g2 2 ∷ trigger 1 1 0 [] ∷ trigger 2 1 g [] ∷ trigger 3 1 g2 [] ∷ []

-- the third claim makes three pinned chunks, and 2g, whose rank is least, is abandoned at once
least_rank_goes : (standings (run 2 three_chunks) ≡ Pinned (group 0 0 1 0) ∷ Pinned (group 0 1 1 g) ∷ Abandoned (group 0 2 1 g2) ∷ []) × ((run 2 three_chunks).hand ≡ 2 ∷ [])
unfolding three_chunks
least_rank_goes = (refl, refl)

-- whatever the order of the triggers, and wherever they were admitted
least_rank_goes_anyway : standings (run 2 (chunk g2 0 ∷ chunk g 1 ∷ chunk 0 2 ∷ trigger 1 1 g2 [] ∷ trigger 2 1 g [] ∷ trigger 3 1 0 [] ∷ []))
    ≡ Abandoned (group 0 0 1 g2) ∷ Pinned (group 0 1 1 g) ∷ Pinned (group 0 2 1 0) ∷ []
least_rank_goes_anyway = refl

-- The first turn pays for one page of 35 bytes of 64, the one of greatest rank; the rest stays, and pays with the next
-- turn's budget for the other. An id for which nothing waits has no deficit.
whole_run : List AgentEvent
whole_run =
    chunk 0 0 ∷ chunk g 1 ∷ chunk g2 2 ∷ trigger 1 1 0 [] ∷ trigger 2 1 g [] ∷ trigger 3 1 g2 [] ∷ turned ∷ given 3 ∷ given 4 ∷ turned ∷ given 5 ∷ []

turns_behind_it : (standings (run 2 whole_run) ≡ Reported (group 0 0 1 0) ∷ Reported (group 0 1 1 g) ∷ Abandoned (group 0 2 1 g2) ∷ [])
    × ((run 2 whole_run).reported ≡ 0 ∷ 1 ∷ [])
    × (map (λ (m : Told). m.why) (run 2 whole_run).said ≡ Fired ∷ Fired ∷ Fired ∷ [])
    × ((run 2 whole_run).given ≡ record { place = 2; stamp = 3 } ∷ record { place = 0; stamp = 4 } ∷ record { place = 1; stamp = 5 } ∷ [])
    × (deficits (run 2 whole_run) ≡ 0 ∷ [])
unfolding whole_run
turns_behind_it = (refl, refl, refl, refl, refl)

a_deficit_is_left : deficits (run 2 (chunk 0 0 ∷ chunk g 1 ∷ trigger 1 1 0 (t g ∷ []) ∷ turned ∷ [])) ≡ 29 ∷ []
a_deficit_is_left = refl

-- the fates in the book, with the word of the lead's rank
fates_in_the_book : map (λ (s : Standing). s.fate) (book_of 0 (run 2 whole_run)).standings
    ≡ fates.Reported (record { 0 = 1 }) (t 0) ∷ fates.Reported (record { 0 = 1 }) (t g) ∷ fates.Abandoned (record { 0 = 1 }) (t g2) (record { word = 0x06c45d188009454f; trace = g2 }) ∷ []
unfolding whole_run
fates_in_the_book = refl

-- with no pins a group is abandoned with its first chunk, and its later chunk as it comes
no_pins : List AgentEvent
no_pins = chunk 0 0 ∷ trigger 2 1 0 [] ∷ turned ∷ given 1 ∷ chunk 0 1 ∷ turned ∷ given 3 ∷ []

later_chunk_of_an_abandoned_group : (standings (run 0 no_pins) ≡ Abandoned (group 0 0 1 0) ∷ Abandoned (group 0 0 1 0) ∷ [])
    × ((run 0 no_pins).abandoned ≡ group 0 0 1 0 ∷ [])
    × ((run 0 no_pins).log ≡ steps.Chunk 0 ∷ steps.Trigger 0 ∷ steps.Turn ∷ steps.Given 1 ∷ steps.Chunk 0 ∷ steps.Turn ∷ steps.Given 3 ∷ [])
    × (map (λ (m : Told). m.why) (run 0 no_pins).said ≡ Fired ∷ [])
unfolding no_pins
later_chunk_of_an_abandoned_group = (refl, refl, refl, refl)

-- the id with most pinned chunks is chosen, the smallest among equals, and of its groups the one of least priority
chosen_ids : (fullest_id (group 0 0 2 9 ∷ group 0 1 1 8 ∷ group 0 0 2 9 ∷ []) ≡ Some 2)
    × (fullest_id (group 0 0 2 9 ∷ group 0 1 1 8 ∷ []) ≡ Some 1)
    × (next_to_go (group 0 0 2 0 ∷ group 0 1 1 g2 ∷ group 0 2 2 g ∷ []) ≡ Some (group 0 2 2 g))
    × (next_to_go [] ≡ None)
chosen_ids = (refl, refl, refl, refl)

-- of equal leads the lower node goes, and at one node the lower number
equal_leads : (next_to_go (group 1 0 1 0 ∷ group 0 9 1 0 ∷ []) ≡ Some (group 0 9 1 0)) × (next_to_go (group 1 3 1 0 ∷ group 1 2 1 0 ∷ []) ≡ Some (group 1 2 1 0))
equal_leads = (refl, refl)
