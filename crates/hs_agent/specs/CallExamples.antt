-- Calls of an agent, with leases that are numbers: what it offers, and what came back.
use Rattle.std.specs.Prelude.{◌≡◌, ℕ, List, [], ◌∷◌, Some, None, refl}
use Rattle.hs_base.specs.declared.told.Why.TheVariants.{Fired}
use Rattle.hs_base.specs.Samples.{one_rule, t}
use Rattle.hs_words.specs.Buffers.{Buffer}
use Rattle.hs_law_agent.specs.Standings.{sample_sheet}
use Rattle.hs_law_agent.specs.Stepping.{Chunk, Triggered, Turn, Given, Missed, Unread}
use Rattle.hs_law_agent.specs.Samples.{settings_with, group}
use Rattle.hs_agent.specs.Points.{buffers_left}
use Rattle.hs_agent.specs.Runs.{AgentRun, new_run, point_of, offered_next}
use Rattle.hs_agent.specs.Calls.{Call, Takes, Offers, Answers, run_after, told_from}

-- the buffer of this number with client 0's page of this number, of the trace 1
abbrev page_in : (number lease : ℕ) → Buffer ℕ
page_in number lease = record { chunk = record { number = number; size = 64; page = Some (sample_sheet 0 0 1 number) }; lease = lease }

-- the same buffer, clear
abbrev clear : (number lease : ℕ) → Buffer ℕ
clear number lease = record { chunk = record { number = number; size = 64; page = None }; lease = lease }

abbrev comes : (number lease : ℕ) → Call ℕ
comes number lease = Takes (Chunk 0 (sample_sheet 0 0 1 number)) (page_in number lease ∷ [])

-- no chunk may stay indexed, so that each goes at once
abbrev run : List (Call ℕ) → AgentRun ℕ
run calls = run_after (settings_with 0 8 4 one_rule) 0 calls

-- the first of the hand is offered, with the lease with which it came
first_is_offered : (offered_next (run (comes 0 10 ∷ comes 1 11 ∷ [])) ≡ Some (page_in 0 10)) × ((run (comes 0 10 ∷ comes 1 11 ∷ Offers ∷ [])).offered ≡ Some 0)
first_is_offered = (refl, refl)

-- what missed comes back clear, with a lease that is new, and is offered first again
a_miss_comes_back : (offered_next (run (comes 0 10 ∷ comes 1 11 ∷ Offers ∷ Answers (Missed 3) (Some (clear 0 20)) ∷ [])) ≡ Some (clear 0 20))
    × (offered_next (run (comes 0 10 ∷ comes 1 11 ∷ Offers ∷ Answers (Missed 3) (Some (clear 0 20)) ∷ Offers ∷ Answers (Given 4) None ∷ [])) ≡ Some (page_in 1 11))
a_miss_comes_back = (refl, refl)

-- so does what was not read
an_unread_comes_back : (offered_next (run (comes 0 10 ∷ Offers ∷ Answers Unread (Some (clear 0 21)) ∷ [])) ≡ Some (clear 0 21))
    × (offered_next (run (comes 0 10 ∷ Offers ∷ Answers Unread (Some (clear 0 21)) ∷ Offers ∷ Answers (Given 4) None ∷ [])) ≡ None)
an_unread_comes_back = (refl, refl)

-- what is left at the end has the leases that came last
leases_at_the_end : buffers_left (point_of (run (comes 0 10 ∷ comes 1 11 ∷ Offers ∷ Answers (Missed 3) (Some (clear 0 20)) ∷ []))) ≡ clear 0 20 ∷ page_in 1 11 ∷ []
leases_at_the_end = refl

-- a trigger is told once, and offers are not told
one_is_told : told_from (new_run {L = ℕ} (settings_with 0 8 4 one_rule) 0)
    (comes 0 10 ∷ Takes (Triggered 0 (record { moment = 1; trigger = record { 0 = 1 }; lead = t 1; laterals = [] })) [] ∷ Takes Turn [] ∷ Offers ∷ Answers (Given 4) None ∷ [])
    ≡ record { group = group 0 0 1 1; laterals = []; crumbs = record { 0 = 0 }; why = Fired } ∷ []
one_is_told = refl
