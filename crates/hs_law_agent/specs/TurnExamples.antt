-- What waits for a trigger id, and what turns over two ids report. Each page has 35 used bytes, and a weight counts in
-- pages of 64 bytes.
use Rattle.std.specs.Prelude.{◌≡◌, ℕ, List, [], ◌∷◌, refl}
use Rattle.hs_base.specs.declared.settings.TriggerRule.{TriggerRule}
use Rattle.hs_base.specs.Samples.{t}
use Rattle.hs_law_agent.specs.State.{AgentState}
use Rattle.hs_law_agent.specs.Turning.{order_of}
use Rattle.hs_law_agent.specs.Stepping.{AgentEvent, after}
use Rattle.hs_law_agent.specs.Samples.{settings_with, chunk, trigger, turned, deficits}

-- id 1 with weight 2 and id 2 with weight 1
abbrev two_rules : List TriggerRule
two_rules =
    record { id = record { 0 = 1 }; weight = 2; burst = 10; rate = 0 } ∷ record { id = record { 0 = 2 }; weight = 1; burst = 10; rate = 0 } ∷ []

abbrev run : List AgentEvent → AgentState
run events = after (settings_with 9 9 9 two_rules) 0 events

-- the rank of 0 is greater than that of 0x3c6ef372fe94f82a
abbrev low : ℕ
low = 0x3c6ef372fe94f82a

-- two chunks of the trace `low`, which id 1 claims first, two of 0 and one of the lateral 5, and one of 7 for id 2
waiting : List AgentEvent
waiting = chunk low 0 ∷ chunk 0 1 ∷ chunk 5 2 ∷ chunk 7 3 ∷ trigger 1 1 low [] ∷ trigger 2 1 0 (t 5 ∷ []) ∷ trigger 3 2 7 [] ∷ chunk 0 4 ∷ chunk low 5 ∷ []

-- the group of the greater lead comes first, its lead's chunk before that of its lateral, and a later chunk behind both
by_falling_priority : (order_of (run waiting) 1 ≡ 1 ∷ 2 ∷ 4 ∷ 0 ∷ 5 ∷ []) × (order_of (run waiting) 2 ≡ 3 ∷ []) × (order_of (run waiting) 3 ≡ [])
unfolding waiting
by_falling_priority = (refl, refl, refl)

two_turns : List AgentEvent
two_turns = chunk low 0 ∷ chunk 0 1 ∷ chunk 5 2 ∷ chunk 7 3 ∷ trigger 1 1 low [] ∷ trigger 2 1 0 (t 5 ∷ []) ∷ trigger 3 2 7 [] ∷ chunk 0 4 ∷ chunk low 5 ∷ turned ∷ []

-- 128 bytes pay for three of five chunks of id 1, and leave 23; id 2 is emptied, and has no deficit
one_turn : ((run two_turns).reported ≡ 1 ∷ 2 ∷ 4 ∷ 3 ∷ []) × (deficits (run two_turns) ≡ 23 ∷ 0 ∷ []) × ((run two_turns).pinned ≡ 0 ∷ 5 ∷ []) × ((run two_turns).hand ≡ 1 ∷ 2 ∷ 4 ∷ 3 ∷ [])
unfolding two_turns
one_turn = (refl, refl, refl, refl)
