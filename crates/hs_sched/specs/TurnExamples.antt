-- Three turns over two ids that items of 44 bytes wait for, six of weight 2 and three of weight 1, with pages of 64
-- bytes; and the corners of a visit.
use Rattle.std.specs.Prelude.{◌≡◌, ℕ, List, [], ◌∷◌, replicate, if◌then◌else◌, ◌==◌, None, refl}
use Rattle.hs_sched.specs.Visits.{rest_within}
use Rattle.hs_sched.specs.Turns.{Schedule, share_of, deficit_of, after_turn, sent_for, left_after, sent_ids}

-- ids 1 and 2 with these deficits
abbrev with_deficits : ℕ → ℕ → Schedule
with_deficits one two =
    record { shares = record { trigger = record { 0 = 1 }; weight = 2; deficit = one } ∷ record { trigger = record { 0 = 2 }; weight = 1; deficit = two } ∷ []; size = 64 }

-- so many items of each id, and some of an id that is not declared
abbrev waits : ℕ → ℕ → ℕ → List ℕ
waits one two id = if id == 1 then replicate one 44 else (if id == 2 then replicate two 44 else replicate 5 1)

first_turn : (after_turn (with_deficits 0 0) (waits 6 3) ≡ with_deficits 40 20) × (sent_ids (with_deficits 0 0) (waits 6 3) ≡ 1 ∷ 1 ∷ 2 ∷ [])
first_turn = (refl, refl)

second_turn : (after_turn (with_deficits 40 20) (waits 4 2) ≡ with_deficits 36 40) × (sent_ids (with_deficits 40 20) (waits 4 2) ≡ 1 ∷ 1 ∷ 1 ∷ 2 ∷ [])
second_turn = (refl, refl)

third_turn : (after_turn (with_deficits 36 40) (waits 1 1) ≡ with_deficits 0 0) × (sent_ids (with_deficits 36 40) (waits 1 1) ≡ 1 ∷ 2 ∷ [])
third_turn = (refl, refl)

-- what the first turn leaves waiting
left_of_first : (left_after (with_deficits 0 0) (waits 6 3) 1 ≡ replicate 4 44) × (left_after (with_deficits 0 0) (waits 6 3) 2 ≡ replicate 2 44)
left_of_first = (refl, refl)

-- an id that is not declared keeps what waits for it
undeclared : (share_of (with_deficits 40 20) 3 ≡ None) × (sent_for (with_deficits 40 20) (waits 6 3) 3 ≡ 0) × (left_after (with_deficits 40 20) (waits 6 3) 3 ≡ replicate 5 1)
undeclared = (refl, refl, refl)

deficits_by_id : (deficit_of (with_deficits 40 20) 1 ≡ 40) × (deficit_of (with_deficits 40 20) 2 ≡ 20)
deficits_by_id = (refl, refl)

-- a deficit is lost where nothing waits
nothing_waits : (after_turn (with_deficits 40 20) (waits 0 0) ≡ with_deficits 0 0) × (sent_ids (with_deficits 40 20) (waits 0 0) ≡ [])
nothing_waits = (refl, refl)

-- what is left of the budget stays where an item is left, and else it is lost
rests : (rest_within 80 (30 ∷ 40 ∷ 50 ∷ []) ≡ 10) × (rest_within 130 (30 ∷ 40 ∷ 50 ∷ []) ≡ 0) × (rest_within 80 [] ≡ 0) × (rest_within 40 (50 ∷ []) ≡ 40)
rests = (refl, refl, refl, refl)
