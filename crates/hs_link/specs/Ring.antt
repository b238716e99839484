-- The rule of the table that the two ends of a link share, and what each step at it tells. Item p of all that was put belongs to
-- entry p % n of the n entries. Word 16 * e is 1 while the item of entry e was put and not taken. Its slot e is at home with that
-- item, or empty where the entry is free. The sender has the slot of the next free entry in hand between its look and its put,
-- and the receiver that of the next item between its look and the taking.
use Rattle.std.specs.Prelude.{◌≡◌, ◌≢◌, ℕ, ◌+◌, ◌*◌, ◌%◌, ◌^◌, ◌<◌, ◌≤◌, List, [], ◌∷◌, ◌++◌, length, slice_index, Option, Some, None}
use mathlib.Core.Option.{some}
use mathlib.Core.Option as maybe
use lib.ListN.{get_elem?}
use Rattle.atomic_table.specs.Table.{State, Me, Step, rest}
use Rattle.atomic_table.specs.Seated.{TableId}
use Rattle.atomic_table.specs.declared.shared.Seat.{Seat}
use Rattle.hs_link.specs.declared.board.View.{View}
use Rattle.hs_link.specs.declared.board.View.TheVariants.{Nobody, Whole, Sending, Laying, Meeting, Receiving, Taking, TellsPut, TellsTaken}
use Rattle.hs_link.specs.Contents.{IsBeginning, OneBegins}

module _ {T : Type 0} where
  -- each item of xs stands at its place in ys
  abbrev pub Begins : List T → List T → Type 0
  Begins xs ys = (p : ℕ) (x : T) → get_elem? xs p ≡ some x → get_elem? ys p ≡ some x

  -- a cursor of this capacity stands behind these items
  abbrev pub IsCounted : TableId → ℕ → ℕ → List T → Type 0
  IsCounted table capacity count xs = (capacity ≡ table.slots) × (count ≡ length xs)

  -- the item in the slot that was taken last
  abbrev pub carried_item : List (ℕ × Option T) → Option T
  carried_item [] = None
  carried_item (c ∷ cs) = c.1

  -- the entry of the next item after these
  abbrev pub IsNextEntry : TableId → List T → ℕ → Type 0
  IsNextEntry table xs entry = entry ≡ length xs % table.slots

  -- the condition is true of each item
  abbrev pub AllHold : (T → Type 0) → List T → Type 0
  AllHold P xs = (p : ℕ) (x : T) → get_elem? xs p ≡ some x → P x

-- the entry of item p, where `taken` items were taken; `laying` and `taking` are 1 while a slot is in the hand of that end
pub record EntryOk {T : Type 0} (n : ℕ) (log : List T) (taken laying taking : ℕ) (words : List ℕ) (homes : List (maybe.Option (Option T))) (p : ℕ) : Type 0 where
  pub full : p < length log → slice_index words (16 * (p % n)) ≡ 1
  pub free : length log ≤ p → slice_index words (16 * (p % n)) ≡ 0
  pub item : taken + taking ≤ p → (x : T) → get_elem? log p ≡ some x → get_elem? homes (p % n) ≡ some (some (Some x))
  pub empty : length log + laying ≤ p → get_elem? homes (p % n) ≡ some (some None)

-- what the seat j knows is true
module _ {T F : Type 0} (key : F) (log : List T) (taken laying taking sender receiver j : ℕ) where
  abbrev pub Knows : View T F → Type 0
  Knows Nobody = Unit {0}
  Knows (Whole k) = (j ≡ sender) × (j ≡ receiver) × (k ≡ key) × (log ≡ []) × (laying ≡ 0) × (taking ≡ 0)
  Knows (Sending k put h) = (j ≡ sender) × (k ≡ key) × (put ≡ log) × (h ≤ taken) × (laying ≡ 0)
  Knows (Laying k put h) = (j ≡ sender) × (k ≡ key) × (put ≡ log) × (h ≤ taken) × (laying ≡ 1)
  Knows (Meeting k put h k' r) = (j ≡ sender) × (k ≡ key) × (put ≡ log) × (h ≤ taken) × (laying ≡ 0) × (k' ≡ key) × Begins r log × (length r ≤ taken)
  Knows (Receiving k r told) = (j ≡ receiver) × (k ≡ key) × Begins r log × (length r ≡ taken) × Begins told log × (taking ≡ 0)
  Knows (Taking k r told x) = (j ≡ receiver) × (k ≡ key) × Begins r log × (length r ≡ taken) × Begins told log × (taking ≡ 1) × (get_elem? log taken ≡ some x)
  Knows (TellsPut k told) = (k ≡ key) × Begins told log
  Knows (TellsTaken k r) = (k ≡ key) × Begins r log × (length r ≤ taken)

pub record LinkRule {T F : Type 0} (holds : F → T → Type 0) (key : F) (s : State (Option T) (View T F)) : Type 0 where
  pub log : List T
  pub taken : ℕ
  pub laying : ℕ
  pub taking : ℕ
  pub sender : ℕ
  pub receiver : ℕ
  pub some_entry : 0 < length s.homes
  pub wide : length s.words ≡ 16 * length s.homes
  pub behind : taken + taking ≤ length log
  pub within : length log + laying ≤ taken + length s.homes
  pub few : length log < 2 ^ 64
  pub all_hold : AllHold (holds key) log
  pub each_entry : (p : ℕ) → taken ≤ p → p < taken + length s.homes → EntryOk (length s.homes) log taken laying taking s.words s.homes p
  pub each_seat : (j : ℕ) (v : View T F) → get_elem? s.views j ≡ some v → Knows key log taken laying taking sender receiver j v

abbrev Seated : Type 0 → Type 0 → Type 0
Seated T F = Me (Option T) (View T F)

module _ {T F : Type 0} where
  -- what a sender's view has: what it put, and how many it heard were taken
  abbrev pub put_by : View T F → List T
  put_by (Sending k put h) = put
  put_by (Laying k put h) = put
  put_by (Meeting k put h k' r) = put
  put_by _ = []

  abbrev pub heard_by : View T F → ℕ
  heard_by (Sending k put h) = h
  heard_by (Laying k put h) = h
  heard_by (Meeting k put h k' r) = h
  heard_by _ = 0

  -- what a receiver's view has: what it received, and what it was told was put
  abbrev pub received_by : View T F → List T
  received_by (Receiving k r told) = r
  received_by (Taking k r told x) = r
  received_by _ = []

  abbrev pub told_by : View T F → List T
  told_by (Receiving k r told) = told
  told_by (Taking k r told x) = told
  told_by _ = []

  -- the condition, at the key of a receiver's view
  abbrev pub AtKey : (F → Type 0) → View T F → Type 0
  AtKey P (Receiving k r told) = P k
  AtKey P _ = Unit {0}

  -- the views that follow
  abbrev pub grasping : View T F → View T F
  grasping (Sending k put h) = Laying k put h
  grasping v = v

  abbrev pub having_put : View T F → Option T → View T F
  having_put (Laying k put h) (Some x) = Sending k (put ++ x ∷ []) h
  having_put v _ = v

  abbrev pub holding : View T F → T → View T F
  holding (Receiving k r told) x = Taking k r told x
  holding v _ = v

  abbrev pub having_taken : View T F → View T F
  having_taken (Taking k r told x) = Receiving k (r ++ x ∷ []) told
  having_taken v = v

  abbrev pub first_sender : View T F → View T F
  first_sender (Whole k) = Sending k [] 0
  first_sender v = v

  abbrev pub first_receiver : View T F → View T F
  first_receiver (Whole k) = Receiving k [] []
  first_receiver v = Nobody

  abbrev pub told_put : View T F → View T F
  told_put (Sending k put h) = TellsPut k put
  told_put v = Nobody

  abbrev pub told_taken : View T F → View T F
  told_taken (Receiving k r told) = TellsTaken k r
  told_taken v = Nobody

  abbrev pub heard : View T F → View T F → View T F
  heard (Receiving k r told) (TellsPut k' put) = Receiving k r put
  heard v w = v

  abbrev pub met : View T F → View T F → View T F
  met (Sending k put h) (TellsTaken k' r) = Meeting k put h k' r
  met v w = v

  abbrev pub parted : View T F → View T F
  parted (Meeting k put h k' r) = Sending k put h
  parted v = v

  abbrev pub parted_wiser : View T F → View T F
  parted_wiser (Meeting k put h k' r) = Sending k put (length r)
  parted_wiser v = v

  -- the two ends that met have one key, and what was received is the beginning of what was put
  abbrev pub Fits : View T F → Type 0
  Fits (Meeting k put h k' r) = (k' ≡ k) × IsBeginning r put
  Fits v = Unit {0}

  abbrev pub looked_to_put : Step (Option T) → Seated T F → ℕ → Seated T F → Type 0
  looked_to_put st m found m' = (found ≡ 0 → m' ≡ (grasping m.0, (length (put_by m.0) % st.slots, None) ∷ m.1)) × (found ≢ 0 → (m' ≡ m) × (heard_by m.0 + st.slots ≤ length (put_by m.0)))

  abbrev pub did_put : Step (Option T) → Seated T F → ℕ → Seated T F → Type 0
  did_put st m found m' = m' ≡ (having_put m.0 (carried_item m.1), rest m.1)

  abbrev pub looked_to_take : (F → T → Type 0) → Step (Option T) → Seated T F → ℕ → Seated T F → Type 0
  looked_to_take holds st m found m' =
      (found ≢ 0 → (x : T) × (m' ≡ (holding m.0 x, (length (received_by m.0) % st.slots, Some x) ∷ m.1)) × AtKey (λ k. holds k x) m.0 × OneBegins (received_by m.0 ++ x ∷ []) (told_by m.0) × (length (received_by m.0) + 1 < 2 ^ 64))
      × (found ≡ 0 → (m' ≡ m) × IsBeginning (told_by m.0) (received_by m.0))

  abbrev pub did_take : Step (Option T) → Seated T F → ℕ → Seated T F → Type 0
  did_take st m found m' = m' ≡ (having_taken m.0, rest m.1)

  abbrev pub passed : Step (Option T) → Seated T F → ℕ → Seated T F → Type 0
  passed st m found m' = (m' ≡ (parted m.0, m.1)) × Fits m.0

  abbrev pub settled : Step (Option T) → Seated T F → ℕ → Seated T F → Type 0
  settled st m found m' = (m' ≡ (parted_wiser m.0, m.1)) × Fits m.0

  abbrev pub put_of : Seat (Option T) (View T F) → List T
  put_of s = put_by s.me.0

  abbrev pub heard_of : Seat (Option T) (View T F) → ℕ
  heard_of s = heard_by s.me.0

  abbrev pub received_of : Seat (Option T) (View T F) → List T
  received_of s = received_by s.me.0

  abbrev pub told_of : Seat (Option T) (View T F) → List T
  told_of s = told_by s.me.0

  abbrev pub IsSameSeat : Seat (Option T) (View T F) → Seat (Option T) (View T F) → Type 0
  IsSameSeat s t = (t.table_id ≡ s.table_id) × (t.id ≡ s.id)

  module _ (table : TableId) (key : F) (s : Seat (Option T) (View T F)) where
    -- the seat is at this table, which has 16 words and a slot for each entry, and at least one entry
    abbrev pub IsAt : Type 0
    IsAt = (s.table_id ≡ table) × (table.words ≡ 16 * table.slots) × ((0 < table.slots) × (table.slots < 2 ^ 32))

    abbrev pub IsSender : List T → ℕ → Type 0
    IsSender put h = IsAt × (s.me ≡ (Sending key put h, []))

    abbrev pub IsLaying : ℕ → List T → ℕ → Type 0
    IsLaying entry put h = IsAt × (s.me ≡ (Laying key put h, (entry, None) ∷ []))

    abbrev pub IsReceiver : List T → List T → Type 0
    IsReceiver r told = IsAt × (s.me ≡ (Receiving key r told, []))
