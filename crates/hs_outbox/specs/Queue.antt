-- The messages of an outbox: those that wait for their acknowledgement, with rising numbers, of which the first ones are handed out.
-- What each call makes of them.
use Rattle.std.specs.Prelude.{ℕ, ◌+◌, ◌<◌, ◌≤◌, ◌==◌, nat_lt, nat_le, Bool, false, not, ◌&&◌, List, [], ◌∷◌, ◌++◌, length, filter, Option, Some, None, option_map, slice_get, if◌then◌else◌}
use Rattle.std.specs.List.{find, list_any}
use Rattle.hs_wire.specs.Messages.{PlainMessage, message_bytes}
use Rattle.hs_wire.specs.Writing.{HasSpelling}
use Rattle.hs_outbox.specs.declared.outbox.Put.{Put}
use Rattle.hs_outbox.specs.declared.outbox.Put.TheVariants.{Done, Full, TooLong, NoSpelling, Stale}

-- a message that waits: its number and its bytes
pub record Pending : Type 0 where
  pub number : ℕ
  pub bytes : List ℕ

pub record Queue : Type 0 where
  -- what waits, in rising order of numbers
  pub pending : List Pending
  -- those below this number are handed out
  pub handed : ℕ
  -- the least number that may still be put
  pub fresh : ℕ
  -- how many may wait, and how many bytes each may have
  pub places : ℕ
  pub room : ℕ

-- one in which nothing was put yet
abbrev pub empty : ℕ → ℕ → Queue
empty places room = record { pending = []; handed = 0; fresh = 0; places = places; room = room }

abbrev pub pending_of : PlainMessage → Pending
pending_of m = record { number = m.head.number; bytes = message_bytes m }

-- ---- what waits

abbrev pub is_numbered : ℕ → Pending → Bool
is_numbered number p = p.number == number

-- whether a message of this number waits
abbrev pub waits : Queue → ℕ → Bool
waits q number = list_any (is_numbered number) q.pending

abbrev pub is_handed_out : Queue → Pending → Bool
is_handed_out q p = nat_lt p.number q.handed

-- the first that is not handed out
abbrev pub first_offered : Queue → Option Pending
first_offered q = find (λ p. not (is_handed_out q p)) q.pending

-- the least number of a message that waits
abbrev pub oldest_in : Queue → Option ℕ
oldest_in q = option_map (λ (p : Pending). p.number) (slice_get q.pending 0)

abbrev pub has_number : Option Pending → ℕ → Bool
has_number None number = false
has_number (Some p) number = is_numbered number p

-- ---- what calls do

pub data OutboxAct : Type 0 where
  Puts : (message : Pending) → OutboxAct
  HandsOut : (number : ℕ) → OutboxAct
  Acknowledges : (number : ℕ) → OutboxAct
  OffersAgain : OutboxAct

-- whether there is a place for a message of this number and this length, and no earlier one had this number or a greater one
abbrev pub may_put : Queue → Pending → Bool
may_put q p = nat_le q.fresh p.number && nat_lt (length q.pending) q.places && nat_le (length p.bytes) q.room

abbrev pub with : Queue → Pending → Queue
with q p = record q { pending = q.pending ++ p ∷ []; fresh = p.number + 1 }

abbrev pub after : Queue → OutboxAct → Queue
after q (Puts p) = if may_put q p then with q p else q
after q (HandsOut number) = if has_number (first_offered q) number then record q { handed = number + 1 } else q
after q (Acknowledges number) = record q { pending = filter (λ p. not (is_numbered number p)) q.pending }
after q OffersAgain = record q { handed = 0 }

-- ---- when each answer of a put comes

-- a place is free, and the number is above all that were put
pub record IsOpen (q : Queue) (m : PlainMessage) : Type 0 where
  pub fresh : q.fresh ≤ m.head.number
  pub place : length q.pending < q.places

abbrev pub Causes : Queue → PlainMessage → Put → Type 0
Causes q m Stale = m.head.number < q.fresh
Causes q m Full = (q.fresh ≤ m.head.number) × (q.places ≤ length q.pending)
Causes q m NoSpelling = IsOpen q m × ¬ HasSpelling m
Causes q m TooLong = IsOpen q m × (HasSpelling m × (q.room < length (message_bytes m)))
Causes q m Done = IsOpen q m × (HasSpelling m × (length (message_bytes m) ≤ q.room))
