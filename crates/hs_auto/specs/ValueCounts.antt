-- A window's values counted by value: each value that stands there has one entry, which says how often, and the
-- counts stand in the order of their values.
use Rattle.std.specs.Prelude.{ℕ, ◌<◌, ◌≤◌, List, length, sum_by, if◌then◌else◌, ◌==◌, All, AllPairs, slice_index_or}
use Rattle.hs_auto.specs.declared.value_counts.ValueCount.{ValueCount}

-- how often a value stands there
abbrev pub times : List ValueCount → ℕ → ℕ
times counts value = sum_by (λ entry. if entry.value == value then entry.count else 0) counts

-- how many values stand there
abbrev pub total : List ValueCount → ℕ
total counts = sum_by (λ entry. entry.count) counts

-- rising, and each at least once
pub record AreValueCounts (counts : List ValueCount) : Type 0 where
  pub rising : AllPairs (λ (a b : ValueCount). a.value < b.value) counts
  pub positive : All (λ entry. 0 < entry.count) counts

-- those before the place are less than the value, and those from it on are not
pub record IsPlace (counts : List ValueCount) (value place : ℕ) : Type 0 where
  pub within : place ≤ length counts
  pub below : (k : ℕ) (d : ValueCount) → k < place → (slice_index_or counts k d).value < value
  pub above : (k : ℕ) (d : ValueCount) → place ≤ k → k < length counts → value ≤ (slice_index_or counts k d).value
