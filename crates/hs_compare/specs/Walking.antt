-- What happens in the operations of a client, in their order, and the script that has it. Each thing that happens stands beside
-- the number of its operation.
use Rattle.std.specs.Prelude.{◌≡◌, ℕ, ◌+◌, ◌<◌, ◌≤◌, ◌==◌, List, [], ◌∷◌, ◌++◌, length, map, filter, fold, get_or, if◌then◌else◌}
use Rattle.std.specs.List.{flat_map, range_with_len, AllByRecursion}
use Rattle.hs_compare.specs.Ringing.{Ringing, comes, names}
use Rattle.hs_compare.specs.declared.happening.ScriptEvent.{ScriptEvent}
use Rattle.hs_compare.specs.declared.happening.ScriptEvent.TheVariants.{Comes, Names}
use Rattle.hs_compare.specs.declared.happening.NumberedEvent.{NumberedEvent}
use Rattle.hs_compare.specs.declared.script.Script.{Script}

-- ---- a ring

-- the ring after an event
abbrev pub ring_after : Ringing → ScriptEvent → Ringing
ring_after ring (Comes id trace) = comes (record { id = id; trace = trace }) ring
ring_after ring (Names trace) = names trace ring

abbrev pub rings_after : Ringing → List ScriptEvent → Ringing
rings_after ring events = fold ring_after ring events

-- ---- operations

-- the numbers do not fall, from this one on
abbrev pub AreInTurn : ℕ → List NumberedEvent → Type 0
AreInTurn number [] = Unit {0}
AreInTurn number (h ∷ happenings) = (number ≤ h.number) × AreInTurn h.number happenings

abbrev pub AreOf : ℕ → List NumberedEvent → Type 0
AreOf operations happenings = AllByRecursion (λ (h : NumberedEvent). h.number < operations) happenings

abbrev pub events_in : List NumberedEvent → List ScriptEvent
events_in happenings = map (λ (h : NumberedEvent). h.event) happenings

-- the events of one operation
abbrev pub events_of : List NumberedEvent → ℕ → List ScriptEvent
events_of happenings n = events_in (filter (λ (h : NumberedEvent). h.number == n) happenings)

-- records before names
abbrev pub both_of : List NumberedEvent → List NumberedEvent → ℕ → List ScriptEvent
both_of points names n = events_of points n ++ events_of names n

-- the events of so many operations from one on
abbrev pub events_from : List NumberedEvent → List NumberedEvent → ℕ → ℕ → List ScriptEvent
events_from points names from count = flat_map (both_of points names) (range_with_len from count)

-- The events of the first so many operations, with where those of each operation end.
pub record IsScript (points names : List NumberedEvent) (operations : ℕ) (script : Script) : Type 0 where
  pub events : script.events.items ≡ events_from points names 0 operations
  pub ends : (n : ℕ) → n ≤ operations → get_or script.ends.items n 0 ≡ length (events_from points names 0 n)
  pub count : length script.ends.items ≡ operations + 1

-- ---- happenings that are taken in turn

-- those that stand first and are of this operation, and the rest
abbrev pub run_of : ℕ → List NumberedEvent → List NumberedEvent
run_of n [] = []
run_of n (h ∷ happenings) = if h.number == n then h ∷ run_of n happenings else []

abbrev pub rest_of : ℕ → List NumberedEvent → List NumberedEvent
rest_of n [] = []
rest_of n (h ∷ happenings) = if h.number == n then rest_of n happenings else h ∷ happenings

-- From operation n on, these are left of all.
pub record AreLeft (all left : List NumberedEvent) (n : ℕ) : Type 0 where
  pub turn : AreInTurn n left
  pub same : (m : ℕ) → n ≤ m → events_of left m ≡ events_of all m
