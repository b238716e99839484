-- What contracts see of the ends of a ring and of its leases. All name their pool. A drawer has a number of its own, and an
-- end has a floor, which is above every stamp that it was told or heard of. The last answer or turn stands first.
use Rattle.std.specs.Prelude.{◌≡◌, ℕ, suc, ◌-◌, ◌<◌, ◌≤◌, List, [], ◌∷◌, length, max, count_by, None, Bool, MatchBool, refl}
use Rattle.std.specs.List.{AllByRecursion}
use Rattle.hs_words.specs.Pools.{PoolName}
use Rattle.hs_words.specs.Chunks.{clear_chunk, with_page}
use Rattle.hs_words.specs.PoolHistory.{PoolEvent, Got, Empty, Given, Missed, is_missed, is_empty}
use Rattle.hs_words.specs.Ends.{Deed, Answer, GiverTurn, answered, unread, met, answers_in, stamps_in, events_of, IsTogether, Counts}
use Rattle.hs_words.specs.declared.token.Held.{Held}
use Rattle.hs_words.specs.declared.token.Drawn.{Drawn}
use Rattle.hs_words.specs.declared.token.Drawn.TheVariants as drawn
use Rattle.hs_words.specs.declared.token.Given.{Given as Answered}
use Rattle.hs_words.specs.declared.token.Given.TheVariants as given
use Rattle.hs_words.specs.declared.token.Tally.{Tally}

-- a lease: the buffer that it lets write, the stamp of the draw that made it, and a number that it was drawn with, or 0
pub record Leased : Type 0 where
  pub pool : PoolName
  pub buffer : ℕ
  pub draw : ℕ
  pub mark : ℕ

-- a drawer, whose allowance has so many draws left of the most that it has when it is full
pub record Drawing : Type 0 where
  pub pool : PoolName
  pub buffers : ℕ
  pub size : ℕ
  pub number : ℕ
  pub most : ℕ
  pub left : ℕ
  pub floor : ℕ
  pub answers : List Answer

pub record Giving : Type 0 where
  pub pool : PoolName
  pub buffers : ℕ
  pub size : ℕ
  pub drawers : ℕ
  pub floor : ℕ
  pub turns : List GiverTurn

-- ---- a draw

-- the drawer after it was told of this event
abbrev pub after_draw : Drawing → ℕ → PoolEvent → Drawing
after_draw old stamp event =
    record {
      pool = old.pool;
      buffers = old.buffers;
      size = old.size;
      number = old.number;
      most = old.most;
      left = old.left - 1;
      floor = suc stamp;
      answers = record { stamp = stamp; event = event; draw = 0 } ∷ old.answers;
    }

-- The answer's stamp is not below the floor. A chunk that was got is clear, and has the pool's size and a lease of its own with
-- this mark.
abbrev pub DrawsAs : {g : _} → ℕ → Drawing → Drawn Leased g → Drawing → Type 0
DrawsAs mark old (drawn.Got held stamp) new =
    (new ≡ after_draw old stamp (Got held.chunk.number)) × (old.floor ≤ stamp)
    × (held.chunk ≡ clear_chunk old.size held.chunk.number) × (held.lease ≡ record { pool = old.pool; buffer = held.chunk.number; draw = stamp; mark = mark })
DrawsAs mark old (drawn.Empty stamp) new = (new ≡ after_draw old stamp Empty) × (old.floor ≤ stamp)

-- the same with the mark 0
abbrev pub Draws : {g : _} → Drawing → Drawn Leased g → Drawing → Type 0
Draws old draw new = DrawsAs 0 old draw new

-- ---- an allowance

-- the drawer with its whole allowance
abbrev pub refilled : Drawing → Drawing
refilled old =
    record {
      pool = old.pool;
      buffers = old.buffers;
      size = old.size;
      number = old.number;
      most = old.most;
      left = old.most;
      floor = old.floor;
      answers = old.answers;
    }

-- The allowance is whole again, or nothing changed.
abbrev pub Refills : Drawing → Bool → Drawing → Type 0
Refills old is_whole new = MatchBool is_whole (new ≡ refilled old) (new ≡ old)

-- ---- a give

-- the giver after this turn, with this floor
abbrev pub after_turn : Giving → GiverTurn → ℕ → Giving
after_turn old turn floor =
    record {
      pool = old.pool;
      buffers = old.buffers;
      size = old.size;
      drawers = old.drawers;
      floor = floor;
      turns = turn ∷ old.turns;
    }

-- The chunk was given, later by its stamp than the draw to which its lease is owed; or it comes back with that lease.
abbrev pub Gives : {g h : _} → Giving → Held Leased g → Answered Leased h → Giving → Type 0
Gives old held (given.Given stamp) new =
    (new ≡ after_turn old (answered (record { stamp = stamp; event = Given held.chunk.number; draw = held.lease.draw })) (suc stamp)) × (old.floor ≤ stamp) × (held.lease.draw < stamp)
Gives old held (given.Missed back stamp) new =
    (new ≡ after_turn old (answered (record { stamp = stamp; event = Missed; draw = 0 })) (suc stamp)) × (old.floor ≤ stamp)
    × (back.chunk ≡ with_page held.chunk None) × (back.lease ≡ held.lease)
Gives old held (given.Unread back) new = (new ≡ after_turn old unread old.floor) × (back.chunk ≡ held.chunk) × (back.lease ≡ held.lease)

-- ---- a meeting

abbrev pub with_floor : Drawing → ℕ → Drawing
with_floor old floor =
    record {
      pool = old.pool;
      buffers = old.buffers;
      size = old.size;
      number = old.number;
      most = old.most;
      left = old.left;
      floor = floor;
      answers = old.answers;
    }

-- every answer has a stamp below the floor
abbrev pub AllBelow : ℕ → List Answer → Type 0
AllBelow floor answers = AllByRecursion (λ (a : Answer). a.stamp < floor) answers

-- Both have the greater of their floors, which is above every stamp that either was answered, and the giver was told of the
-- drawer's draws.
pub record Meets (giver : Giving) (drawer : Drawing) (giver' : Giving) (drawer' : Drawing) : Type 0 where
  pub giver_hears : giver' ≡ after_turn giver (met (stamps_in drawer.answers)) (max giver.floor drawer.floor)
  pub drawer_hears : drawer' ≡ with_floor drawer (max giver.floor drawer.floor)
  pub above_given : AllBelow (max giver.floor drawer.floor) (answers_in giver.turns)
  pub above_drawn : AllBelow (max giver.floor drawer.floor) drawer.answers

-- ---- all ends

-- the drawers of a new pool, with their allowances, from this number on
abbrev pub new_drawers : PoolName → ℕ → ℕ → ℕ → List ℕ → List Drawing
new_drawers pool buffers size number [] = []
new_drawers pool buffers size number (left ∷ lefts) =
    record { pool = pool; buffers = buffers; size = size; number = number; most = left; left = left; floor = 0; answers = [] } ∷ new_drawers pool buffers size (suc number) lefts

-- A new pool of so many chunks of this size.
pub record AreNewEnds (buffers size : ℕ) (allowances : List ℕ) (giver : Giving) (drawers : List Drawing) : Type 0 where
  pub giver_is : giver ≡ record { pool = giver.pool; buffers = buffers; size = size; drawers = length allowances; floor = 0; turns = [] }
  pub drawers_are : drawers ≡ new_drawers giver.pool buffers size 0 allowances

-- these are drawers of the pool, in the order of their numbers from this one on
abbrev pub AreInOrder : PoolName → ℕ → List Drawing → Type 0
AreInOrder pool number [] = Unit {0}
AreInOrder pool number (drawer ∷ drawers) = (drawer.pool ≡ pool) × (drawer.number ≡ number) × AreInOrder pool (suc number) drawers

-- these are all the ends of the pool, the drawers in the order in which they were made
pub record AreAllEnds (giver : Giving) (drawers : List Drawing) : Type 0 where
  pub in_order : AreInOrder giver.pool 0 drawers
  pub all : length drawers ≡ giver.drawers

abbrev pub answers_of : Drawing → List Answer
answers_of drawer = drawer.answers

abbrev pub answers_of_all : List Drawing → List (List Answer)
answers_of_all [] = []
answers_of_all (drawer ∷ drawers) = drawer.answers ∷ answers_of_all drawers

-- A give puts its buffer into the pool only where each empty draw before it has had its miss. The latest event stands first.
abbrev pub GivesInTurn : List PoolEvent → Type 0
GivesInTurn [] = Unit {0}
GivesInTurn (Given buffer ∷ before) = (count_by is_missed before ≡ count_by is_empty before) × GivesInTurn before
GivesInTurn (Got buffer ∷ before) = GivesInTurn before
GivesInTurn (Empty ∷ before) = GivesInTurn before
GivesInTurn (Missed ∷ before) = GivesInTurn before

-- All that the ends did is one history of the pool, and the tally counts it.
abbrev pub Closes : Giving → List Drawing → Tally → Type 0
Closes giver drawers tally = (log : List Deed) × IsTogether giver.buffers giver.turns (answers_of_all drawers) log × Counts log tally

-- The same, and in that history the giver misses once for each empty draw before it gives again.
abbrev pub ClosesInTurn : Giving → List Drawing → Tally → Type 0
ClosesInTurn giver drawers tally =
    (log : List Deed) × IsTogether giver.buffers giver.turns (answers_of_all drawers) log × Counts log tally × GivesInTurn (events_of log)

-- ---- examples, the latest event first

missed_before : GivesInTurn (Given 0 ∷ Missed ∷ Empty ∷ Got 0 ∷ [])
missed_before = (refl, tt)

not_missed : GivesInTurn (Given 0 ∷ Empty ∷ Got 0 ∷ []) → ◌≡◌ {A = ℕ} 0 1
not_missed (even, rest) = even
