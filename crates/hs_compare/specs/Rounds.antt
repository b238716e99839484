-- What a ring meets when the scripts of all clients are gone through round by round.
use Rattle.std.specs.Prelude.{ℕ, ◌+◌, ◌-◌, ◌*◌, ◌<◌, ◌≤◌, min, List, length, take, drop, get_or}
use Rattle.std.specs.List.{flat_map, range_with_len}
use Rattle.hs_compare.specs.declared.happening.ScriptEvent.{ScriptEvent}
use Rattle.hs_compare.specs.declared.script.Script.{Script}

-- Where the events of each operation end rises, up to the end of all.
pub record IsSound (script : Script) : Type 0 where
  pub some : 0 < length script.ends.items
  pub rise : (k l : ℕ) → k ≤ l → l < length script.ends.items → get_or script.ends.items k 0 ≤ get_or script.ends.items l 0
  pub within : (k : ℕ) → k < length script.ends.items → get_or script.ends.items k 0 ≤ length script.events.items

-- how many events there are before an operation, and before one past the last as before the end
abbrev pub events_before : Script → ℕ → ℕ
events_before script operation = get_or script.ends.items (min operation (length script.ends.items - 1)) 0

-- the events of so many operations from one on
abbrev pub part_of : ℕ → ℕ → Script → List ScriptEvent
part_of from count script =
    take (events_before script (from + count) - events_before script from) (drop (events_before script from) script.events.items)

-- the events of a round of so many operations a client
abbrev pub round_of : ℕ → List Script → ℕ → List ScriptEvent
round_of stride scripts round = flat_map (part_of (round * stride) stride) scripts

abbrev pub all_rounds : ℕ → List Script → ℕ → List ScriptEvent
all_rounds stride scripts rounds = flat_map (round_of stride scripts) (range_with_len 0 rounds)
