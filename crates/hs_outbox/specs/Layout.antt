-- How an outbox lies in memory: entries with rising numbers, each with its slot, and the slots that are free.
use Rattle.std.specs.Prelude.{◌≡◌, ℕ, suc, ◌+◌, ◌<◌, ◌≤◌, ◌^◌, nat_lt, List, [], ◌∷◌, length, map, vec_capacity, if◌then◌else◌}
use Rattle.std.specs.List.{AllByRecursion}
use Rattle.hs_wire.specs.declared.message.WriteFault.{WriteFault}
use Rattle.hs_wire.specs.declared.message.WriteFault.TheVariants as faults
use Rattle.hs_outbox.specs.Slots.{Written}
use Rattle.hs_outbox.specs.Queue.{Pending, Queue}
use Rattle.hs_outbox.specs.Lives.{Rises}
use Rattle.hs_outbox.specs.declared.outbox.Put.{Put}
use Rattle.hs_outbox.specs.declared.outbox.Put.TheVariants.{TooLong, NoSpelling}
use Rattle.hs_outbox.specs.declared.outbox.OutboxEntry.{OutboxEntry}
use Rattle.hs_outbox.specs.declared.outbox.Outbox.TheInside.{Inside}

abbrev pub entry_of : OutboxEntry → Pending
entry_of e = record { number = e.number; bytes = e.slot.bytes }

abbrev pub waiting_in : List OutboxEntry → List Pending
waiting_in entries = map entry_of entries

-- how many at the front have numbers below this one
abbrev pub place_of : ℕ → List Pending → ℕ
place_of number [] = 0
place_of number (p ∷ ps) = if nat_lt p.number number then suc (place_of number ps) else 0

-- numbers rise
abbrev pub AreRising : List Pending → Type 0
AreRising = Rises 0 (2 ^ 64)

abbrev pub HaveRoom : ℕ → List Written → Type 0
HaveRoom room = AllByRecursion (λ (slot : Written). slot.room ≡ room)

abbrev pub slots_of : List OutboxEntry → List Written
slots_of entries = map (λ (e : OutboxEntry). e.slot) entries

-- what a put answers for a fault of writing
abbrev pub answer_for : WriteFault → Put
answer_for faults.NoSpelling = NoSpelling
answer_for (faults.Short wanted) = TooLong

abbrev pub queue_in : Inside → Queue
queue_in o =
    record {
      pending = waiting_in o.entries.items;
      handed = o.handed;
      fresh = o.fresh;
      places = length o.free.items + length o.entries.items;
      room = o.room;
    }

pub record IsOutbox (o : Inside) : Type 0 where
  pub rising : Rises 0 o.fresh (waiting_in o.entries.items)
  pub fresh : o.fresh ≤ 2 ^ 64
  pub handed : o.handed ≤ 2 ^ 64
  pub few : length o.free.items + length o.entries.items < 2 ^ 32
  pub free_room : HaveRoom o.room o.free.items
  pub entry_room : HaveRoom o.room (slots_of o.entries.items)
  pub free_capacity : length o.free.items + length o.entries.items ≤ vec_capacity o.free
  pub entry_capacity : length o.free.items + length o.entries.items ≤ vec_capacity o.entries
