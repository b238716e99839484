-- A window's values are also counted by value, each as often as it stands in the window.
use Rattle.std.specs.Prelude.{◌≡◌, ℕ, ◌<◌, ◌≤◌, ◌^◌, ◌==◌, length, count_by, vec_capacity}
use Rattle.hs_auto.specs.ValueCounts.{AreValueCounts, times, total}
use Rattle.hs_auto.specs.declared.counted.CountedWindow.TheInside.{Inside}

pub record IsCountedWindow (a : Inside) : Type 0 where
  pub within : length a.arrived.items ≤ a.arrived.capacity
  pub small : a.arrived.capacity < 2 ^ 32
  pub ordered : AreValueCounts a.counts.items
  pub counts : (v : ℕ) → times a.counts.items v ≡ count_by (λ earlier. earlier == v) a.arrived.items
  pub total : total a.counts.items ≡ length a.arrived.items
  pub room : a.arrived.capacity < vec_capacity a.counts
