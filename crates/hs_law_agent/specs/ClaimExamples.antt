-- Claims by triggers and asks: what they pin, what they tell the coordinator, and what becomes of later chunks and crumbs.
use Rattle.std.specs.Prelude.{◌≡◌, List, [], ◌∷◌, map, refl}
use Rattle.hs_base.specs.declared.told.Told.{Told}
use Rattle.hs_base.specs.declared.told.Why.TheVariants.{Fired, Answer, Late}
use Rattle.hs_base.specs.Samples.{rule, one_rule, t}
use Rattle.hs_records.specs.declared.journal.Step.TheVariants as steps
use Rattle.hs_law_agent.specs.Standings.{Indexed, Pinned, Reported, Evicted}
use Rattle.hs_law_agent.specs.State.{AgentState, ClaimedTrace}
use Rattle.hs_law_agent.specs.Stepping.{AgentEvent, after}
use Rattle.hs_law_agent.specs.Samples.{settings_with, chunk, crumb, trigger, group, asked, turned, given, standings}

abbrev run : List AgentEvent → AgentState
run events = after (settings_with 4 8 4 one_rule) 0 events

-- a trigger comes before the chunk of its trace, which is pinned as it comes and reported in the next turn
before_its_chunk : List AgentEvent
before_its_chunk = trigger 1 1 1 [] ∷ turned ∷ turned ∷ turned ∷ chunk 1 0 ∷ turned ∷ given 1 ∷ []

trigger_before_its_chunk : (standings (run (trigger 1 1 1 [] ∷ turned ∷ chunk 1 0 ∷ [])) ≡ Pinned (group 0 0 1 1) ∷ [])
    × (standings (run before_its_chunk) ≡ Reported (group 0 0 1 1) ∷ [])
    × ((run before_its_chunk).said ≡ record { group = group 0 0 1 1; laterals = []; crumbs = record { 0 = 0 }; why = Fired } ∷ [])
    × ((run before_its_chunk).log ≡ steps.Trigger 0 ∷ steps.Turn ∷ steps.Turn ∷ steps.Turn ∷ steps.Chunk 0 ∷ steps.Turn ∷ steps.Given 1 ∷ [])
unfolding before_its_chunk
trigger_before_its_chunk = (refl, refl, refl, refl)

-- a trace whose first chunk was evicted is claimed all the same, and its next chunk reported
evicted_before_the_claim : List AgentEvent
evicted_before_the_claim = turned ∷ turned ∷ chunk 1 0 ∷ turned ∷ given 1 ∷ trigger 2 1 1 [] ∷ turned ∷ turned ∷ turned ∷ chunk 1 1 ∷ turned ∷ given 3 ∷ []

claim_after_an_eviction : (standings (after (settings_with 0 8 4 one_rule) 0 evicted_before_the_claim) ≡ Evicted 1 1 ∷ Reported (group 0 0 1 1) ∷ [])
    × ((after (settings_with 0 8 4 one_rule) 0 evicted_before_the_claim).reported ≡ 1 ∷ [])
    × (map (λ (m : Told). m.why) (after (settings_with 0 8 4 one_rule) 0 evicted_before_the_claim).said ≡ Fired ∷ [])
unfolding evicted_before_the_claim
claim_after_an_eviction = (refl, refl, refl)

-- two ids trigger for one trace: both are admitted and told, the second claims nothing
two_ids : AgentState
two_ids = after (settings_with 4 8 4 (rule 1 10 0 ∷ rule 2 10 0 ∷ [])) 0 (chunk 1 0 ∷ trigger 5 1 1 [] ∷ trigger 6 2 1 [] ∷ turned ∷ given 1 ∷ [])

second_claims_nothing : (standings two_ids ≡ Reported (group 0 0 1 1) ∷ [])
    × (map (λ (c : ClaimedTrace). c.group) two_ids.claims ≡ group 0 0 1 1 ∷ [])
    × (map (λ (m : Told). m.group) two_ids.said ≡ group 0 0 1 1 ∷ group 0 1 2 1 ∷ [])
unfolding two_ids
second_claims_nothing = (refl, refl, refl)

-- with one token that comes back in a second, the second of three triggers is limited, and claims and tells nothing
one_token : AgentState
one_token =
    after (settings_with 4 8 4 (rule 1 1 1 ∷ [])) 0
    (chunk 1 0 ∷ chunk 2 1 ∷ chunk 3 2 ∷ trigger 0 1 1 [] ∷ trigger 999999 1 2 [] ∷ trigger 1000000 1 3 [] ∷ turned ∷ turned ∷ [])

limited_trigger : (standings one_token ≡ Reported (group 0 0 1 1) ∷ Indexed ∷ Reported (group 0 1 1 3) ∷ [])
    × (map (λ (m : Told). m.group) one_token.said ≡ group 0 0 1 1 ∷ group 0 1 1 3 ∷ [])
unfolding one_token
limited_trigger = (refl, refl)

-- the laterals are claimed behind the lead, each with its indexed chunks in the order of arrival
laterals_are_claimed : ((run (chunk 3 0 ∷ chunk 1 1 ∷ chunk 2 2 ∷ chunk 3 3 ∷ trigger 1 1 1 (t 2 ∷ t 3 ∷ t 2 ∷ []) ∷ [])).pinned ≡ 1 ∷ 2 ∷ 0 ∷ 3 ∷ [])
    × (map (λ (c : ClaimedTrace). c.trace) (run (chunk 3 0 ∷ chunk 1 1 ∷ trigger 1 1 1 (t 2 ∷ t 3 ∷ t 2 ∷ []) ∷ [])).claims ≡ t 1 ∷ t 2 ∷ t 3 ∷ [])
    × ((run (chunk 3 0 ∷ chunk 1 1 ∷ chunk 4 2 ∷ trigger 1 1 1 (t 3 ∷ []) ∷ [])).touched ≡ t 4 ∷ [])
laterals_are_claimed = (refl, refl, refl)

-- a trigger that claims nothing is told all the same
nothing_to_claim : (run (trigger 1 1 1 [] ∷ turned ∷ [])).said ≡ record { group = group 0 0 1 1; laterals = []; crumbs = record { 0 = 0 }; why = Fired } ∷ []
nothing_to_claim = refl

-- A crumb that came before is in the message of the trigger; one that comes late, to another node, is told by itself, and
-- the second time it is nothing. A crumb to the own node is told too.
late_crumbs : (map (λ (m : Told). m.crumbs) (run (chunk 1 0 ∷ crumb 1 1 ∷ trigger 1 1 1 [] ∷ [])).said ≡ record { 0 = 2 } ∷ [])
    × ((run (trigger 1 1 1 [] ∷ crumb 1 2 ∷ crumb 1 2 ∷ [])).said
    ≡ record { group = group 0 0 1 1; laterals = []; crumbs = record { 0 = 0 }; why = Fired } ∷ record { group = group 0 0 1 1; laterals = []; crumbs = record { 0 = 4 }; why = Late } ∷ [])
    × (map (λ (m : Told). m.crumbs) (run (crumb 1 1 ∷ trigger 1 1 1 [] ∷ crumb 1 1 ∷ crumb 1 0 ∷ [])).said ≡ record { 0 = 2 } ∷ record { 0 = 1 } ∷ [])
late_crumbs = (refl, refl, refl)

-- the message has the crumbs of all the group's traces, also of one that another group claimed
crumbs_of_others : map (λ (m : Told). m.crumbs) (run (crumb 1 1 ∷ crumb 2 2 ∷ trigger 1 1 1 [] ∷ trigger 2 1 2 (t 1 ∷ []) ∷ [])).said ≡ record { 0 = 2 } ∷ record { 0 = 6 } ∷ []
crumbs_of_others = refl

-- what was evicted is forgotten: the trigger asks nobody
forgotten_crumbs : map (λ (m : Told). m.crumbs) (after (settings_with 4 1 4 one_rule) 0 (crumb 1 1 ∷ crumb 2 2 ∷ trigger 1 1 1 (t 2 ∷ []) ∷ [])).said ≡ record { 0 = 4 } ∷ []
forgotten_crumbs = refl

-- node 1 is asked by node 0's group: its chunk is pinned, and the answer has its crumb
asked_by_another : AgentState
asked_by_another = after (settings_with 4 8 4 one_rule) 1 (chunk 1 0 ∷ crumb 1 2 ∷ turned ∷ asked (group 0 0 1 1) [] ∷ turned ∷ given 1 ∷ [])

answered_ask : (standings asked_by_another ≡ Reported (group 0 0 1 1) ∷ [])
    × (asked_by_another.said ≡ record { group = group 0 0 1 1; laterals = []; crumbs = record { 0 = 4 }; why = Answer } ∷ [])
    × (asked_by_another.admitted ≡ 0)
unfolding asked_by_another
answered_ask = (refl, refl, refl)

-- a trigger of another node's group for a trace that is claimed claims nothing, and its chunks keep the first group's fate
claims_hold_for_good : standings (run (chunk 1 0 ∷ trigger 1 1 1 [] ∷ asked (group 3 0 1 2) (t 1 ∷ []) ∷ chunk 1 1 ∷ [])) ≡ Pinned (group 0 0 1 1) ∷ Pinned (group 0 0 1 1) ∷ []
claims_hold_for_good = refl
