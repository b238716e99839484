-- How many pages operations start. Pieces go into the page that is open as long as it has room for what they cost, and the next
-- one opens a page of its own. Where a trace begins or ends no page is open, which is as if an open one had no room.
use Rattle.std.specs.Prelude.{◌≡◌, ℕ, ◌+◌, ◌-◌, nat_le, List, [], ◌∷◌, length, map, if◌then◌else◌, refl}
use Rattle.hs_base.specs.declared.limits.TheConstants.{PIECE_COST}
use Rattle.hs_records.specs.Pages.{page_room}
use Rattle.hs_records.specs.Plain.{Operation, Begin, Point, End}
use Rattle.hs_records.specs.Records.{payload_pieces}

-- how many pages these costs open where so much room is left
abbrev pub opened : (size room : ℕ) → List ℕ → ℕ
opened size room [] = 0
opened size room (cost ∷ costs) = if nat_le cost room then opened size (room - cost) costs else opened size (page_room size - cost) costs + 1

-- and the room that is left behind them
abbrev pub room_behind : (size room : ℕ) → List ℕ → ℕ
room_behind size room [] = room
room_behind size room (cost ∷ costs) = if nat_le cost room then room_behind size (room - cost) costs else room_behind size (page_room size - cost) costs

-- what the pieces of a payload cost
abbrev pub payload_costs : ℕ → List ℕ → List ℕ
payload_costs size payload = map (λ (bytes : List ℕ). PIECE_COST + length bytes) (payload_pieces size payload)

-- how many pages an operation starts
abbrev pub started_by : (size room : ℕ) → Operation → ℕ
started_by size room (Point moment payload) = opened size room (payload_costs size payload)
started_by size room operation = 0

-- and the room that is left behind it
abbrev pub room_left : (size room : ℕ) → Operation → ℕ
room_left size room (Begin trace) = 0
room_left size room End = 0
room_left size room (Point moment payload) = room_behind size room (payload_costs size payload)
room_left size room operation = room

-- how many pages these operations start
abbrev pub started_from : (size room : ℕ) → List Operation → ℕ
started_from size room [] = 0
started_from size room (operation ∷ ops) = started_by size room operation + started_from size (room_left size room operation) ops

-- costs of 20 and 10 have room in one page of the least size, and one of 30 not beside that of 20
one_by_one : (opened 64 0 (20 ∷ 30 ∷ 10 ∷ []) ≡ 2) × (room_behind 64 0 (20 ∷ 30 ∷ 10 ∷ []) ≡ 0) × (opened 64 5 (5 ∷ 6 ∷ []) ≡ 1)
one_by_one = (refl, refl, refl)
