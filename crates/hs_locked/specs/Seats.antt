-- What a seat can do at the table of a locked pool, and what contracts see of a lease, of a drawer and of the giver between two
-- calls. The ends and leases are seen as those of a ring.
use Rattle.std.specs.Prelude.{◌≡◌, ℕ, ◌≤◌, []}
use Rattle.atomic_table.specs.Seated.{TableId}
use Rattle.atomic_table.specs.declared.shared.Seat.{Seat}
use Rattle.hs_words.specs.Ends.{answers_in}
use Rattle.hs_words.specs.declared.token.Given.{Given as Answered}
use Rattle.hs_words.specs.declared.token.Given.TheVariants as given
use Rattle.hs_ring.specs.Parts.{Leased, Drawing, Giving, AllBelow}
use Rattle.hs_ring.specs.Seats.{name_of}
use Rattle.hs_locked.specs.declared.store.Store.{Store}
use Rattle.hs_locked.specs.Views.{DrawerSeat, Hand, nothing, kept, GiverSeat, Palm, bare, holds, Stand, away, queued, inside, closing, View, nobody, drawing, leasing, giving, drawer_note, giver_note, buffer_of, draw_of, drawer_seat_of, giver_seat_of}

abbrev pub PoolSeat : Type 0
PoolSeat = Seat Store View

-- the seat is at this table, which has a word for the tickets, one for the turn, and a slot
abbrev pub IsSeatAt : TableId → PoolSeat → Type 0
IsSeatAt table s = (s.table_id ≡ table) × (table.words ≡ 2) × (table.slots ≡ 1)

-- ---- what a view can do next

-- a drawer may draw, and the giver has a buffer to give
abbrev pub HandMay : DrawerSeat → Hand → Type 0
HandMay desk nothing = 1 ≤ desk.left
HandMay desk (kept buffer stamp) = ⊥

abbrev pub PalmMay : Palm → Type 0
PalmMay bare = ⊥
PalmMay (holds buffer draw) = Unit {0}

abbrev pub MayTurn : View → Type 0
MayTurn nobody = ⊥
MayTurn (drawing desk hand stand) = HandMay desk hand
MayTurn (leasing buffer draw) = ⊥
MayTurn (giving post palm stand) = PalmMay palm
MayTurn (drawer_note floor stamps) = ⊥
MayTurn (giver_note floor) = ⊥

abbrev pub StandsAway : Stand → Type 0
StandsAway away = Unit {0}
StandsAway (queued ticket) = ⊥
StandsAway (inside store) = ⊥
StandsAway (closing store) = ⊥

abbrev pub StandsQueued : Stand → Type 0
StandsQueued away = ⊥
StandsQueued (queued ticket) = Unit {0}
StandsQueued (inside store) = ⊥
StandsQueued (closing store) = ⊥

abbrev pub StandsInside : Store → Stand → Type 0
StandsInside store away = ⊥
StandsInside store (queued ticket) = ⊥
StandsInside store (inside other) = other ≡ store
StandsInside store (closing other) = ⊥

-- the stand of an end
abbrev pub stand_of : View → Stand
stand_of (drawing desk hand stand) = stand
stand_of (giving post palm stand) = stand
stand_of _ = away

abbrev pub HandCanLease : Hand → Type 0
HandCanLease nothing = ⊥
HandCanLease (kept buffer stamp) = Unit {0}

abbrev pub CanLease : View → Type 0
CanLease nobody = ⊥
CanLease (drawing desk hand stand) = HandCanLease hand
CanLease (leasing buffer draw) = ⊥
CanLease (giving post palm stand) = ⊥
CanLease (drawer_note floor stamps) = ⊥
CanLease (giver_note floor) = ⊥

abbrev pub IsLease : View → Type 0
IsLease nobody = ⊥
IsLease (drawing desk hand stand) = ⊥
IsLease (leasing buffer draw) = Unit {0}
IsLease (giving post palm stand) = ⊥
IsLease (drawer_note floor stamps) = ⊥
IsLease (giver_note floor) = ⊥

-- ---- between two calls

abbrev pub lease_at : PoolSeat → Leased
lease_at s = record { pool = name_of s.table_id; buffer = buffer_of s.me.0; draw = draw_of s.me.0; mark = 0 }

abbrev pub IsLeaseSeat : PoolSeat → Type 0
IsLeaseSeat s = s.me ≡ (leasing (buffer_of s.me.0) (draw_of s.me.0), [])

-- what contracts see of a drawer whose seat knows this
abbrev pub drawing_of : TableId → DrawerSeat → Drawing
drawing_of table desk =
    record {
      pool = name_of table;
      buffers = desk.buffers;
      size = desk.size;
      number = desk.number;
      most = desk.most;
      left = desk.left;
      floor = desk.floor;
      answers = desk.answers;
    }

abbrev pub IsIdle : PoolSeat → Type 0
IsIdle s = s.me ≡ (drawing (drawer_seat_of s.me.0) nothing away, [])

pub record IsDrawerSeat (table : TableId) (s : PoolSeat) (left : ℕ) : Type 0 where
  pub at : IsSeatAt table s
  pub idle : IsIdle s
  pub left_is : left ≡ (drawer_seat_of s.me.0).left
  pub above : AllBelow (drawer_seat_of s.me.0).floor (drawer_seat_of s.me.0).answers

-- what contracts see of a giver whose seat knows this
abbrev pub giving_of : TableId → GiverSeat → Giving
giving_of table post =
    record {
      pool = name_of table;
      buffers = post.buffers;
      size = post.size;
      drawers = post.made;
      floor = post.floor;
      turns = post.turns;
    }

abbrev pub IsFree : PoolSeat → Type 0
IsFree s = s.me ≡ (giving (giver_seat_of s.me.0) bare away, [])

pub record IsGiverSeat (table : TableId) (s : PoolSeat) : Type 0 where
  pub at : IsSeatAt table s
  pub free : IsFree s
  pub none_closed : (giver_seat_of s.me.0).closed ≡ []
  pub above : AllBelow (giver_seat_of s.me.0).floor (answers_in (giver_seat_of s.me.0).turns)

-- The answer is that the chunk was given; a locked pool has no other.
abbrev pub IsGiven : {L : Type 0} {g : _} → Answered L g → Type 0
IsGiven (given.Given stamp) = Unit {0}
IsGiven (given.Missed held stamp) = ⊥
IsGiven (given.Unread held) = ⊥
