-- What a budget pays for when things are taken in order: the longest front of their costs that sums to no more than it.
-- The next page takes such a front of the pieces that are left, and a turn such a front of what waits.
use Rattle.std.specs.Prelude.{◌≡◌, ℕ, ◌+◌, List, [], ◌∷◌, nat_le, scan, refl}
use Rattle.std.specs.List.{prefix_len}

-- the cost of the first item, of the first two, and so on, each beside what was spent before
abbrev pub running_totals : ℕ → List ℕ → List ℕ
running_totals spent costs = scan ◌+◌ ◌+◌ spent costs

-- how many costs the front has where so much was spent before: totals only rise
abbrev pub count_beside : (budget spent : ℕ) → List ℕ → ℕ
count_beside budget spent costs = prefix_len (λ total. nat_le total budget) (running_totals spent costs)

abbrev pub count_within : ℕ → List ℕ → ℕ
count_within budget costs = count_beside budget 0 costs

-- worked examples
totals : running_totals 5 (30 ∷ 40 ∷ []) ≡ 35 ∷ 75 ∷ []
totals = refl

exactly_paid : (count_within 70 (30 ∷ 40 ∷ 50 ∷ []) ≡ 2) × (count_within 69 (30 ∷ 40 ∷ 50 ∷ []) ≡ 1)
exactly_paid = (refl, refl)

-- nothing is taken past an item that costs too much
none_is_skipped : (count_within 40 (50 ∷ 30 ∷ []) ≡ 0) × (count_within 0 (0 ∷ 1 ∷ []) ≡ 1)
none_is_skipped = (refl, refl)
