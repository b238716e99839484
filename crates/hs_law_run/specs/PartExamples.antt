-- Parts of a round in small workloads: what a client draws, what its agent comes to step by step, what the coordinator hears, and where
-- the closing stops.
use Rattle.std.specs.Prelude.{◌≡◌, true, false, List, [], ◌∷◌, length, Option, Some, None, option_map, refl}
use Rattle.std.specs.Option.{option_and_then}
use Rattle.std.proofs.Common.{arith}
use Rattle.hs_records.specs.declared.journal.Step.{Step}
use Rattle.hs_records.specs.declared.journal.Step.TheVariants as steps
use Rattle.hs_law_agent.specs.State.{start}
use Rattle.hs_law_agent.specs.Stepping.{Crumbed, Triggered}
use Rattle.hs_words.specs.PoolHistory.{Got, Empty, Given}
use Rattle.hs_law_journal.specs.Ends.{is_bare, rounds_of}
use Rattle.hs_law_journal.specs.Following.{NodeRun, followed}
use Rattle.hs_law_journal.specs.Journals
use Rattle.hs_law_journal.specs.Played.{played}
use Rattle.hs_law_journal.specs.Pooled.{given_buffer, pool_history}
use Rattle.hs_law_journal.specs.Workloads.{three_points, three_traces, trigger_first, short_of_pins, four_nodes}
use Rattle.hs_law_journal.specs.Fitting.{MayTake}
use Rattle.hs_law_run.specs.Ending.{behind_rounds, passed}
use Rattle.hs_law_run.specs.Lockstep.{Machine, machine_start, clients_go, agents_take, agents_give, coordinator_hears}
use Rattle.hs_law_run.specs.Parts.{node_at, heard_in, next_done, next_pages}
use Rattle.hs_law_journal.specs.Performing.{after_steps, after_names}

-- ---- a client's turn

-- all five operations, and the two pages of three points
one_turn : (next_done three_points (machine_start three_points) 0 ≡ 5) × (next_pages three_points (machine_start three_points) 0 ≡ 2)
one_turn = (refl, refl)

-- the pool of one buffer is empty at the second draw
two_draws : option_map pool_history (node_at three_points (clients_go three_points (machine_start three_points)).journal 0) ≡ Some (Got 0 ∷ Empty ∷ [])
two_draws = refl

-- ---- what an agent takes and gives

abbrev drawn : Machine
drawn = clients_go three_traces (machine_start three_traces)

-- the node behind these steps
abbrev behind : List Step → Option NodeRun
behind taken = option_and_then (after_steps three_traces.settings [] taken) (node_at three_traces drawn.journal 0)

abbrev three_chunks : List Step
three_chunks = steps.Chunk 0 ∷ steps.Chunk 0 ∷ steps.Chunk 0 ∷ []

-- two traces may stay, and the third sends the first into the hand
hand_of_three : option_map (λ (run : NodeRun). run.state.hand) (behind three_chunks) ≡ Some (0 ∷ [])
hand_of_three = refl

-- there is no fourth chunk, and no offer while the hand is empty
not_ready : (behind (steps.Chunk 0 ∷ three_chunks) ≡ None) × (behind (steps.Chunk 0 ∷ steps.Given 3 ∷ []) ≡ None)
not_ready = (refl, refl)

-- the first page's buffer goes back
buffer_of_first : option_and_then (λ (run : NodeRun). given_buffer run 0) (behind three_chunks) ≡ Some 0
buffer_of_first = refl

history_then : option_map pool_history (node_at three_traces (agents_give three_traces (agents_take three_traces drawn)).journal 0) ≡ Some (Got 0 ∷ Got 1 ∷ Got 2 ∷ Given 0 ∷ [])
history_then = refl

-- ---- what the coordinator hears

abbrev told : Machine
told = agents_take trigger_first (clients_go trigger_first (machine_start trigger_first))

-- the trigger's message is there to be heard, once
one_message : (option_map length (after_names (followed trigger_first told.journal).nodes (record { 0 = 0 } ∷ []) []) ≡ Some 1)
    × (option_map length (after_names (followed trigger_first told.journal).nodes (record { 0 = 0 } ∷ record { 0 = 0 } ∷ []) []) ≡ None)
one_message = (refl, refl)

heard_then : length (heard_in trigger_first (coordinator_hears trigger_first told).journal) ≡ 1
heard_then = refl

-- ---- the end

-- one round, and one pass more for the chunks that a turn cannot report
one_more_pass : (rounds_of short_of_pins ≡ 1) × (is_bare (played short_of_pins (passed 0 short_of_pins (behind_rounds short_of_pins)).journal) ≡ false)
    × (is_bare (played short_of_pins (passed 1 short_of_pins (behind_rounds short_of_pins)).journal) ≡ true)
    × ((passed 1 short_of_pins (behind_rounds short_of_pins)).journal ≡ Journals.of_short_of_pins)
one_more_pass = (refl, refl, refl, refl)

-- the crumbs of four nodes are followed in two passes
two_more_passes : (is_bare (played four_nodes (passed 1 four_nodes (behind_rounds four_nodes)).journal) ≡ false)
    × (is_bare (played four_nodes (passed 2 four_nodes (behind_rounds four_nodes)).journal) ≡ true)
two_more_passes = (refl, refl)

-- ---- what may be taken

-- a declared id at a new agent
declared_trigger : MayTake trigger_first.settings 0 (start trigger_first.settings) (Triggered 0 (record { moment = 1; trigger = record { 0 = 1 }; lead = record { 0 = 1 }; laterals = [] }))
declared_trigger = (refl, omega arith)

-- nodes 0 to 3 are there
near_crumb : MayTake four_nodes.settings 0 (start four_nodes.settings) (Crumbed 0 (record { trace = record { 0 = 1 }; node = record { 0 = 3 } }))
near_crumb = omega arith

far_crumb : MayTake four_nodes.settings 0 (start four_nodes.settings) (Crumbed 0 (record { trace = record { 0 = 1 }; node = record { 0 = 4 } })) → ⊥
far_crumb h = omega (arith, h)

undeclared_trigger : MayTake trigger_first.settings 0 (start trigger_first.settings) (Triggered 0 (record { moment = 1; trigger = record { 0 = 2 }; lead = record { 0 = 1 }; laterals = [] })) → ⊥
undeclared_trigger h = let never : false ≡ true = h.0 in absurd cc
