-- A window's values also stand sorted, each as often as in the window.
use Rattle.std.specs.Prelude.{◌≡◌, ℕ, Bool, ◌<◌, ◌≤◌, List, length, slice_index, count_by, vec_capacity}
use Rattle.std.specs.List.Sorted.{IsNonDecreasing}
use Rattle.hs_auto.specs.declared.ranked.RankedWindow.TheInside.{Inside}

-- as many pass each test in one list as in the other
abbrev pub SameCounts : List ℕ → List ℕ → Type 0
SameCounts xs ys = (p : ℕ → Bool) → count_by p xs ≡ count_by p ys

-- the first list has the values of the second in rising order
pub record StandsSorted (sorted values : List ℕ) : Type 0 where
  pub rising : IsNonDecreasing sorted
  pub counts : SameCounts sorted values

-- those before the place are less than the value, and those from it on are not
pub record IsPlace (sorted : List ℕ) (value place : ℕ) : Type 0 where
  pub within : place ≤ length sorted
  pub below : (k : ℕ) → k < place → slice_index sorted k < value
  pub above : (k : ℕ) → place ≤ k → k < length sorted → value ≤ slice_index sorted k

pub record IsRanked (a : Inside) : Type 0 where
  pub within : length a.arrived.items ≤ a.arrived.capacity
  pub order : StandsSorted a.sorted.items a.arrived.items
  pub room : a.arrived.capacity ≤ vec_capacity a.sorted
