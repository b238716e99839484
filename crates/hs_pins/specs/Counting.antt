-- What the pinned chunks of a trigger id keep: their number is counted, each group has a chunk, and the groups rise.
use Rattle.std.specs.Prelude.{◌≡◌, ℕ, ◌<◌, length}
use Rattle.std.specs.List.Sorted.{IsStrictlySortedBy}
use Rattle.std.specs.Map.{keys_of}
use Rattle.hs_pins.specs.Priorities.{priority_cmp}
use Rattle.std.specs.List.{AllByRecursion}
use Rattle.hs_pins.specs.Groups.{Groups, count_of}

abbrev pub HaveChunks : {L : Type 0} → Groups L → Type 0
HaveChunks groups = AllByRecursion (λ e. 0 < length e.1) groups

pub record IsCounted {L : Type 0} (groups : Groups L) (count : ℕ) : Type 0 where
  pub counted : count ≡ count_of groups
  pub some : HaveChunks groups

pub record IsKept {L : Type 0} (groups : Groups L) (count : ℕ) : Type 0 where
  pub counted : IsCounted groups count
  pub rising : IsStrictlySortedBy priority_cmp (keys_of groups)
