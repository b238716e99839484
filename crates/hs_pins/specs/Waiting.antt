-- What waits to be reported for a trigger id: the chunks that are pinned for its groups, the groups by falling priority, and
-- each group's chunks as they were pinned, first to last. The front of these is the next one.
use Rattle.std.specs.Prelude.{ℕ, Bool, List, Option, slice_get}
use Rattle.std.specs.Option.{option_map_or}
use Rattle.hs_base.specs.declared.ids.TriggerId.{TriggerId}
use Rattle.hs_words.specs.Buffers.{Buffer}
use Rattle.hs_words.specs.Chunks.{used_in}
use Rattle.hs_pins.specs.Choosing.{ordered_by}
use Rattle.hs_pins.specs.Priorities.{is_no_greater}
use Rattle.hs_pins.specs.Remembered.{Pin, Remembered, pins_under, without_first}

-- whether one chunk may stand behind another: its group is of no greater priority
abbrev pub goes_behind : {L : Type 0} → Pin L → Pin L → Bool
goes_behind pin other = is_no_greater pin.group other.group

abbrev pub order_of : {L : Type 0} → List (Pin L) → TriggerId → List (Pin L)
order_of pinned id = ordered_by goes_behind (pins_under id pinned)

abbrev pub next_of : {L : Type 0} → List (Pin L) → TriggerId → Option (Pin L)
next_of pinned id = slice_get (order_of pinned id) 0

-- how much of a chunk's size its page takes, in bytes
abbrev pub used_bytes : {L : Type 0} → Buffer L → ℕ
used_bytes buffer = used_in buffer.chunk

-- without the next chunk of the id
abbrev pub without_next : {L : Type 0} → List (Pin L) → TriggerId → List (Pin L)
without_next pinned id = option_map_or (λ pin. without_first pin.group pinned) (next_of pinned id) pinned

-- after the next chunk of the id was taken
abbrev pub taken : {L : Type 0} → Remembered L → TriggerId → Remembered L
taken memory id = record memory { pinned = without_next memory.pinned id }
