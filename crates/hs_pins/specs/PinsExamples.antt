-- What a node remembers after some calls. The trigger ids 1 and 2 are declared, with a bucket of one token at one token a
-- second each, and two chunks may stay pinned. The leads 0, g and 2g have ranks that rise otherwise than they do.
use Rattle.std.specs.Prelude.{◌≡◌, ℕ, true, false, List, [], ◌∷◌, map, Some, None, refl}
use Rattle.hs_base.specs.declared.ids.TriggerId.{TriggerId}
use Rattle.hs_base.specs.declared.settings.TriggerRule.{TriggerRule}
use Rattle.hs_base.specs.declared.told.Group.{Group}
use Rattle.hs_base.specs.NodeSets.{no_nodes}
use Rattle.hs_base.specs.Samples.{golden as g, twice as g2, t}
use Rattle.hs_words.specs.Buffers.{Buffer}
use Rattle.hs_words.specs.Chunks.{clear_chunk, with_page}
use Rattle.hs_pins.specs.declared.claim.Admitted.TheVariants.{Admitted, Limited}
use Rattle.hs_pins.specs.Remembered.{Pin, Remembered, fresh, has_crumb, pin_for, answered, tried_at, claimed, comes_back, handed_back, arrived, crumbed}
use Rattle.hs_pins.specs.Abandoning.{fullest_id, next_to_go, leaving, going, staying, drops, relieved}
use Rattle.hs_pins.specs.Waiting.{order_of, taken}

abbrev id : ℕ → TriggerId
id number = record { 0 = number }

abbrev rule : ℕ → TriggerRule
rule number = record { id = id number; weight = 1; burst = 1; rate = 1 }

abbrev start : Remembered ℕ
start = fresh 0 2 (rule 1 ∷ rule 2 ∷ [])

-- a group of node, number, trigger id and lead
abbrev group : ℕ → ℕ → ℕ → ℕ → Group
group node number trigger lead = record { id = record { node = node; number = number }; trigger = id trigger; lead = t lead }

-- a chunk with a page of the trace
abbrev chunk : ℕ → ℕ → Buffer ℕ
chunk trace number =
    record {
      chunk = with_page (clear_chunk 64 number) (Some (record { header = record { trace = t trace; client = record { node = 0; number = 0 }; page = 0; first = 0 }; pieces = [] }));
      lease = 7;
    }

-- the numbers of the chunks
abbrev numbers : List (Pin ℕ) → List ℕ
numbers pins = map (λ (pin : Pin ℕ). pin.chunk.chunk.number) pins

-- ---- triggers

-- each id has its own bucket, and the admitted triggers of all ids are counted together
admissions : (answered start (id 1) 0 ≡ Some (Admitted 0)) × (answered (tried_at start (id 1) 0) (id 1) 999999 ≡ Some (Limited 999999)) × (answered (tried_at start (id 1) 0) (id 2) 5 ≡ Some (Admitted 1)) × (answered start (id 3) 0 ≡ None)
admissions = (refl, refl, refl, refl)

-- ---- claims

-- the trace 7 is claimed with a chunk, a lateral and no crumb
abbrev seven : Remembered ℕ
seven = claimed start (group 0 0 1 7) (t 8 ∷ []) (t 7) (chunk 7 0 ∷ []) no_nodes

-- a later chunk of the trace is pinned behind its first
later_chunks_are_pinned : (comes_back seven (chunk 7 1) ≡ false) × ((arrived seven (chunk 7 1)).pinned ≡ pin_for (group 0 0 1 7) (chunk 7 0) ∷ pin_for (group 0 0 1 7) (chunk 7 1) ∷ [])
later_chunks_are_pinned = (refl, refl)

-- and is handed back once the group was abandoned
abbrev given_up : Remembered ℕ
given_up = relieved (record seven { most = 0 })

later_chunks_come_back : (given_up.pinned ≡ []) × (given_up.abandoned ≡ group 0 0 1 7 ∷ []) × (handed_back given_up (chunk 7 1) ≡ Some (chunk 7 1)) × ((arrived given_up (chunk 7 1)).pinned ≡ [])
later_chunks_come_back = (refl, refl, refl, refl)

-- a crumb is of its trace alone
a_crumb_is_added : (has_crumb seven.claims (t 7) 3 ≡ false) × (has_crumb (crumbed seven (t 7) (record { 0 = 3 })).claims (t 7) 3 ≡ true) × (has_crumb (crumbed seven (t 8) (record { 0 = 3 })).claims (t 7) 3 ≡ false)
a_crumb_is_added = (refl, refl, refl)

-- ---- what waits

-- of two groups of one id the one whose lead has the greater rank goes first, each with its chunks in order; other ids have their own
abbrev mixed : List (Pin ℕ)
mixed = pin_for (group 0 0 1 g2) (chunk 1 0) ∷ pin_for (group 0 1 1 0) (chunk 2 1) ∷ pin_for (group 0 2 2 g) (chunk 3 2) ∷ pin_for (group 0 1 1 0) (chunk 2 3) ∷ pin_for (group 0 0 1 g2) (chunk 1 4) ∷ []

by_falling_priority : (numbers (order_of mixed (id 1)) ≡ 1 ∷ 3 ∷ 0 ∷ 4 ∷ []) × (numbers (order_of mixed (id 2)) ≡ 2 ∷ []) × (numbers (order_of mixed (id 3)) ≡ [])
by_falling_priority = (refl, refl, refl)

the_first_is_taken : (numbers (taken (record start { pinned = mixed }) (id 1)).pinned ≡ 0 ∷ 2 ∷ 3 ∷ 4 ∷ []) × (numbers (taken (record start { pinned = mixed }) (id 3)).pinned ≡ 0 ∷ 1 ∷ 2 ∷ 3 ∷ 4 ∷ [])
the_first_is_taken = (refl, refl)

-- ---- abandonment

-- three groups of one id with a chunk each: the one of least rank goes, which is neither the first nor that of the least trace
abbrev three : List (Pin ℕ)
three = pin_for (group 0 0 1 0) (chunk 0 0) ∷ pin_for (group 0 1 1 g) (chunk 1 1) ∷ pin_for (group 0 2 1 g2) (chunk 2 2) ∷ []

least_rank_goes : (leaving 2 three ≡ group 0 2 1 g2 ∷ []) × (numbers (going (leaving 2 three) three) ≡ 2 ∷ []) × (numbers (staying (leaving 2 three) three) ≡ 0 ∷ 1 ∷ [])
least_rank_goes = (refl, refl, refl)

-- at the limit nobody goes; below it one after another, by rising rank
as_many_as_must : (leaving 3 three ≡ []) × (leaving 1 three ≡ group 0 2 1 g2 ∷ group 0 1 1 g ∷ []) × (numbers (going (leaving 0 three) three) ≡ 2 ∷ 1 ∷ 0 ∷ [])
as_many_as_must = (refl, refl, refl)

-- a group goes with all its chunks, in their order
whole_groups_go : (numbers (drops (record start { pinned = mixed })) ≡ 0 ∷ 4 ∷ 1 ∷ 3 ∷ []) × (numbers (relieved (record start { pinned = mixed })).pinned ≡ 2 ∷ [])
whole_groups_go = (refl, refl)

-- the id with most pinned chunks gives way, the smallest of equal ones
chosen_ids : (fullest_id (group 0 0 2 9 ∷ group 0 1 1 8 ∷ group 0 0 2 9 ∷ []) ≡ Some 2) × (fullest_id (group 0 0 2 9 ∷ group 0 1 1 8 ∷ []) ≡ Some 1) × (next_to_go (group 0 0 2 0 ∷ group 0 1 1 g2 ∷ group 0 2 2 g ∷ []) ≡ Some (group 0 2 2 g)) × (next_to_go [] ≡ None)
chosen_ids = (refl, refl, refl, refl)

-- of equal leads the lower node goes, and at one node the lower number
equal_leads : (next_to_go (group 1 0 1 0 ∷ group 0 9 1 0 ∷ []) ≡ Some (group 0 9 1 0)) × (next_to_go (group 1 3 1 0 ∷ group 1 2 1 0 ∷ []) ≡ Some (group 1 2 1 0))
equal_leads = (refl, refl)
