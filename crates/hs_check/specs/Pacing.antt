-- Whether passes take enough of a queue, by how many items are sent in each round and how many were taken behind each pass.
use Rattle.std.specs.Prelude.{◌≡◌, ℕ, ◌+◌, ◌-◌, ◌*◌, ◌/◌, Bool, ◌==◌, nat_le, nat_lt, min, List, [], ◌∷◌, length, take, sum, slice_index, count_by, refl, true, false}
use Rattle.std.specs.List.{range_with_len, list_all}
use Rattle.hs_base.specs.declared.limits.TheConstants.{MAX_TAKEN}
use Rattle.hs_records.specs.declared.journal.Step.{Step}
use Rattle.hs_check.specs.Counting.{count_in}

-- how many of these operations are of a round, from 0, where a round has so many
abbrev pub sent_in : ℕ → List ℕ → ℕ → ℕ
sent_in stride numbers round = count_by (λ number. (number / stride) == round) numbers

-- whether the pass behind this one takes enough, where so many items were taken before the first pass and behind each
abbrev pub enough_at : (taken sent : List ℕ) → ℕ → Bool
enough_at taken sent k = nat_le (min (sum (take k sent)) (slice_index taken (k - 1) + MAX_TAKEN)) (slice_index taken (k + 1))

abbrev pub all_enough : (taken sent : List ℕ) → Bool
all_enough taken sent = list_all (enough_at taken sent) (range_with_len 1 (length taken - 2))

-- whether passes take enough of what operations send, each of which is told by its number and sends an item
abbrev pub numbers_in_pace : (Step → Bool) → ℕ → List (List Step) → List ℕ → Bool
numbers_in_pace test stride passes numbers =
    list_all (λ k. nat_le (min (count_by (λ n. nat_lt n (k * stride)) numbers) (count_in test passes (k - 1) + MAX_TAKEN)) (count_in test passes (k + 1))) (range_with_len 1 (length passes - 1))

-- 100 items of the first round: 64 behind the second pass are enough, and 63 are not
hundred : (all_enough (0 ∷ 0 ∷ 64 ∷ 100 ∷ []) (100 ∷ 0 ∷ 0 ∷ []) ≡ true) × (all_enough (0 ∷ 0 ∷ 63 ∷ 100 ∷ []) (100 ∷ 0 ∷ 0 ∷ []) ≡ false)
hundred = (refl, refl)
