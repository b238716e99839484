-- Evictions of small indexes: at a limit, above it, and above both; and traces with crumbs alone.
use Rattle.std.specs.Prelude.{◌≡◌, ℕ, List, [], ◌∷◌, refl}
use Rattle.hs_base.specs.Samples.{t}
use Rattle.hs_law_agent.specs.Standings.{Indexed, Evicted}
use Rattle.hs_law_agent.specs.State.{AgentState}
use Rattle.hs_law_agent.specs.Stepping.{AgentEvent, after}
use Rattle.hs_law_agent.specs.Samples.{settings_with, chunk, crumb, turned, given, missed, unread, standings}

abbrev run : (threshold traces : ℕ) → List AgentEvent → AgentState
run threshold traces events = after (settings_with threshold traces 4 []) 0 events

-- at the threshold nothing goes; the third chunk makes three, and the trace touched longest ago goes
at_the_threshold : standings (run 2 8 (chunk 1 0 ∷ chunk 2 1 ∷ [])) ≡ Indexed ∷ Indexed ∷ []
at_the_threshold = refl

above_the_threshold : (standings (run 2 8 (chunk 1 0 ∷ chunk 2 1 ∷ chunk 3 2 ∷ turned ∷ [])) ≡ Evicted 3 3 ∷ Indexed ∷ Indexed ∷ [])
    × ((run 2 8 (chunk 1 0 ∷ chunk 2 1 ∷ chunk 3 2 ∷ turned ∷ [])).hand ≡ 0 ∷ [])
    × ((run 2 8 (chunk 1 0 ∷ chunk 2 1 ∷ chunk 3 2 ∷ turned ∷ given 3 ∷ [])).hand ≡ [])
    × ((run 2 8 (chunk 1 0 ∷ chunk 2 1 ∷ chunk 3 2 ∷ turned ∷ given 3 ∷ [])).given ≡ record { place = 0; stamp = 3 } ∷ [])
above_the_threshold = (refl, refl, refl, refl)

-- the trace that was touched longest ago goes, and not the one that was seen first
the_longest_untouched_goes : standings (run 3 8 (chunk 1 0 ∷ chunk 2 1 ∷ chunk 1 2 ∷ chunk 3 3 ∷ [])) ≡ Indexed ∷ Evicted 4 3 ∷ Indexed ∷ Indexed ∷ []
the_longest_untouched_goes = refl

-- a trace goes with all its chunks, in the order of arrival
all_its_chunks_go : (standings (run 2 8 (chunk 1 0 ∷ chunk 1 1 ∷ chunk 2 2 ∷ [])) ≡ Evicted 3 2 ∷ Evicted 3 2 ∷ Indexed ∷ [])
    × ((run 2 8 (chunk 1 0 ∷ chunk 1 1 ∷ chunk 2 2 ∷ [])).hand ≡ 0 ∷ 1 ∷ [])
all_its_chunks_go = (refl, refl)

-- at both limits nothing goes, and above the limit of traces the first goes, though there are few chunks
at_both_limits : standings (run 2 2 (chunk 1 0 ∷ chunk 2 1 ∷ [])) ≡ Indexed ∷ Indexed ∷ []
at_both_limits = refl

too_many_traces : (standings (run 9 2 (chunk 1 0 ∷ chunk 2 1 ∷ chunk 3 2 ∷ [])) ≡ Evicted 3 3 ∷ Indexed ∷ Indexed ∷ [])
    × ((run 9 2 (chunk 1 0 ∷ chunk 2 1 ∷ chunk 3 2 ∷ [])).touched ≡ t 2 ∷ t 3 ∷ [])
too_many_traces = (refl, refl)

-- with no room for a chunk each goes at once
it_goes_at_once : (standings (run 0 8 (chunk 1 0 ∷ [])) ≡ Evicted 1 1 ∷ []) × ((run 0 8 (chunk 1 0 ∷ [])).touched ≡ [])
it_goes_at_once = (refl, refl)

-- A trace with a crumb alone counts. Over the threshold it goes first, which frees no chunk; the next one goes with the
-- counts as they are by then, and the crumb is forgotten.
a_crumb_alone_counts : (standings (run 2 8 (crumb 4 5 ∷ chunk 1 0 ∷ chunk 2 1 ∷ chunk 3 2 ∷ [])) ≡ Evicted 3 3 ∷ Indexed ∷ Indexed ∷ [])
    × ((run 2 8 (crumb 4 5 ∷ chunk 1 0 ∷ chunk 2 1 ∷ [])).touched ≡ t 4 ∷ t 1 ∷ t 2 ∷ [])
    × ((run 2 8 (crumb 4 5 ∷ chunk 1 0 ∷ chunk 2 1 ∷ chunk 3 2 ∷ [])).touched ≡ t 2 ∷ t 3 ∷ [])
    × ((run 2 8 (crumb 4 5 ∷ chunk 1 0 ∷ chunk 2 1 ∷ chunk 3 2 ∷ [])).crumbs ≡ [])
a_crumb_alone_counts = (refl, refl, refl, refl)

-- a crumb touches a trace that has chunks
a_crumb_touches : standings (run 2 8 (chunk 1 0 ∷ chunk 2 1 ∷ crumb 1 5 ∷ chunk 3 2 ∷ [])) ≡ Indexed ∷ Evicted 3 3 ∷ Indexed ∷ []
a_crumb_touches = refl

-- a buffer that missed or was left unread stays first in the hand
it_stays_first : ((run 1 8 (chunk 1 0 ∷ chunk 2 1 ∷ chunk 3 2 ∷ turned ∷ missed 3 ∷ unread ∷ [])).hand ≡ 0 ∷ 1 ∷ [])
    × ((run 1 8 (chunk 1 0 ∷ chunk 2 1 ∷ chunk 3 2 ∷ turned ∷ missed 3 ∷ given 4 ∷ unread ∷ [])).hand ≡ 1 ∷ [])
it_stays_first = (refl, refl)
