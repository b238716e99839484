-- What a seat can do, and what contracts see of the seat of a lease, of a drawer and of the giver between two calls.
use Rattle.std.specs.Prelude.{◌≡◌, ℕ, suc, ◌+◌, ◌*◌, ◌%◌, ◌<◌, ◌≤◌, [], ◌∷◌, length, Option, None}
use Rattle.atomic_table.specs.Seated.{TableId}
use Rattle.atomic_table.specs.declared.shared.Seat.{Seat}
use Rattle.hs_base.specs.declared.limits.TheConstants.{MOST_BUFFERS}
use Rattle.hs_words.specs.Chunks.{Contents, clear_chunk}
use Rattle.hs_words.specs.Pools.{PoolName}
use Rattle.hs_words.specs.PoolHistory.{Given, Missed}
use Rattle.hs_words.specs.Ends.{answered, answers_in}
use Rattle.hs_words.specs.declared.token.TheConstants.{MAX_PUBLISHED}
use Rattle.hs_words.specs.declared.token.Given.{Given as Answered}
use Rattle.hs_words.specs.declared.token.Given.TheVariants as given
use Rattle.hs_ring.specs.Parts.{Leased, Drawing, Giving, AllBelow}
use Rattle.hs_ring.specs.Views.{DrawerSeat, Hand, nothing, drew, kept, GiverSeat, Palm, bare, holds, lays, retakes, View, nobody, drawing, leasing, giving, drawer_note, giver_note, buffer_of, draw_of, drawer_seat_of, giver_seat_of, giver_seat_after, buffer_held, draw_held}

abbrev pub PoolSeat : Type 0
PoolSeat = Seat (Option Contents) View

-- the two are one seat at the same table
abbrev pub IsSameSeat : {T V : Type 0} → Seat T V → Seat T V → Type 0
IsSameSeat s t = (t.table_id ≡ s.table_id) × (t.id ≡ s.id)

-- the seat is at this table, which has a word for the counts and a word and a slot for each entry
abbrev pub IsSeatAt : TableId → PoolSeat → Type 0
IsSeatAt table s = (s.table_id ≡ table) × (table.words ≡ table.slots + 1) × (0 < table.slots) × (table.slots ≤ 2 * MOST_BUFFERS)

-- the name of a pool is that of its table
abbrev pub name_of : TableId → PoolName
name_of t = t.words ∷ t.slots ∷ t.views_name ∷ t.atom ∷ t.block ∷ t.offset ∷ t.slot_names

-- ---- what a view can do next

-- the number that the giver publishes next
abbrev pub IsNext : ℕ → ℕ → GiverSeat → Type 0
IsNext entries number post = 2 * number ≡ entries + 2 * length (answers_in post.turns)

abbrev pub HandCanDraw : DrawerSeat → Hand → Type 0
HandCanDraw desk nothing = 1 ≤ desk.left
HandCanDraw desk (drew number buffer stamp) = ⊥
HandCanDraw desk (kept buffer stamp) = ⊥

abbrev pub CanDraw : View → Type 0
CanDraw nobody = ⊥
CanDraw (drawing desk hand) = HandCanDraw desk hand
CanDraw (leasing buffer draw) = ⊥
CanDraw (giving post palm) = ⊥
CanDraw (drawer_note floor stamps) = ⊥
CanDraw (giver_note floor) = ⊥

abbrev pub HandCanCollect : ℕ → ℕ → Hand → Type 0
HandCanCollect entries entry nothing = ⊥
HandCanCollect entries entry (drew number buffer stamp) = entry ≡ number % entries
HandCanCollect entries entry (kept buffer stamp) = ⊥

abbrev pub CanCollect : ℕ → ℕ → View → Type 0
CanCollect entries entry nobody = ⊥
CanCollect entries entry (drawing desk hand) = HandCanCollect entries entry hand
CanCollect entries entry (leasing buffer draw) = ⊥
CanCollect entries entry (giving post palm) = ⊥
CanCollect entries entry (drawer_note floor stamps) = ⊥
CanCollect entries entry (giver_note floor) = ⊥

abbrev pub HandCanLease : Hand → Type 0
HandCanLease nothing = ⊥
HandCanLease (drew number buffer stamp) = ⊥
HandCanLease (kept buffer stamp) = Unit {0}

abbrev pub PalmCanLease : Palm → Type 0
PalmCanLease bare = ⊥
PalmCanLease (holds buffer draw) = Unit {0}
PalmCanLease (lays buffer draw) = ⊥
PalmCanLease (retakes buffer draw) = ⊥

abbrev pub CanLease : View → Type 0
CanLease nobody = ⊥
CanLease (drawing desk hand) = HandCanLease hand
CanLease (leasing buffer draw) = ⊥
CanLease (giving post palm) = PalmCanLease palm
CanLease (drawer_note floor stamps) = ⊥
CanLease (giver_note floor) = ⊥

abbrev pub IsLease : View → Type 0
IsLease nobody = ⊥
IsLease (drawing desk hand) = ⊥
IsLease (leasing buffer draw) = Unit {0}
IsLease (giving post palm) = ⊥
IsLease (drawer_note floor stamps) = ⊥
IsLease (giver_note floor) = ⊥

abbrev pub IsPalmBare : Palm → Type 0
IsPalmBare bare = Unit {0}
IsPalmBare (holds buffer draw) = ⊥
IsPalmBare (lays buffer draw) = ⊥
IsPalmBare (retakes buffer draw) = ⊥

abbrev pub CanTake : View → Type 0
CanTake nobody = ⊥
CanTake (drawing desk hand) = ⊥
CanTake (leasing buffer draw) = ⊥
CanTake (giving post palm) = IsPalmBare palm
CanTake (drawer_note floor stamps) = ⊥
CanTake (giver_note floor) = ⊥

abbrev pub PalmCanLay : ℕ → ℕ → GiverSeat → Palm → Type 0
PalmCanLay entries number post bare = ⊥
PalmCanLay entries number post (holds buffer draw) = IsNext entries number post
PalmCanLay entries number post (lays buffer draw) = ⊥
PalmCanLay entries number post (retakes buffer draw) = ⊥

abbrev pub CanLay : ℕ → ℕ → View → Type 0
CanLay entries number nobody = ⊥
CanLay entries number (drawing desk hand) = ⊥
CanLay entries number (leasing buffer draw) = ⊥
CanLay entries number (giving post palm) = PalmCanLay entries number post palm
CanLay entries number (drawer_note floor stamps) = ⊥
CanLay entries number (giver_note floor) = ⊥

abbrev pub PalmCanPublish : ℕ → ℕ → Contents → GiverSeat → Palm → Type 0
PalmCanPublish entries number chunk post bare = ⊥
PalmCanPublish entries number chunk post (holds buffer draw) = ⊥
PalmCanPublish entries number chunk post (lays buffer draw) = IsNext entries number post × (chunk ≡ clear_chunk post.size buffer)
PalmCanPublish entries number chunk post (retakes buffer draw) = ⊥

abbrev pub CanPublish : ℕ → ℕ → Contents → View → Type 0
CanPublish entries number chunk nobody = ⊥
CanPublish entries number chunk (drawing desk hand) = ⊥
CanPublish entries number chunk (leasing buffer draw) = ⊥
CanPublish entries number chunk (giving post palm) = PalmCanPublish entries number chunk post palm
CanPublish entries number chunk (drawer_note floor stamps) = ⊥
CanPublish entries number chunk (giver_note floor) = ⊥

abbrev pub PalmCanRetake : ℕ → ℕ → GiverSeat → Palm → Type 0
PalmCanRetake entries number post bare = ⊥
PalmCanRetake entries number post (holds buffer draw) = ⊥
PalmCanRetake entries number post (lays buffer draw) = ⊥
PalmCanRetake entries number post (retakes buffer draw) = IsNext entries (suc number) post

abbrev pub CanRetake : ℕ → ℕ → View → Type 0
CanRetake entries number nobody = ⊥
CanRetake entries number (drawing desk hand) = ⊥
CanRetake entries number (leasing buffer draw) = ⊥
CanRetake entries number (giving post palm) = PalmCanRetake entries number post palm
CanRetake entries number (drawer_note floor stamps) = ⊥
CanRetake entries number (giver_note floor) = ⊥

-- ---- between two calls

abbrev pub lease_at : ℕ → PoolSeat → Leased
lease_at mark s = record { pool = name_of s.table_id; buffer = buffer_of s.me.0; draw = draw_of s.me.0; mark = mark }

abbrev pub IsLeaseSeat : PoolSeat → Type 0
IsLeaseSeat s = s.me ≡ (leasing (buffer_of s.me.0) (draw_of s.me.0), [])

-- what contracts see of a drawer whose seat knows this
abbrev pub drawing_of : TableId → ℕ → DrawerSeat → Drawing
drawing_of table buffers desk =
    record {
      pool = name_of table;
      buffers = buffers;
      size = desk.size;
      number = desk.number;
      most = desk.most;
      left = desk.left;
      floor = desk.floor;
      answers = desk.answers;
    }

abbrev pub IsIdle : PoolSeat → Type 0
IsIdle s = s.me ≡ (drawing (drawer_seat_of s.me.0) nothing, [])

pub record IsDrawerSeat (table : TableId) (s : PoolSeat) (buffers most left : ℕ) : Type 0 where
  pub at : IsSeatAt table s
  pub idle : IsIdle s
  pub halves : 2 * buffers ≡ table.slots
  pub most_is : most ≡ (drawer_seat_of s.me.0).most
  pub left_is : left ≡ (drawer_seat_of s.me.0).left
  pub above : AllBelow (drawer_seat_of s.me.0).floor (drawer_seat_of s.me.0).answers

-- what contracts see of a giver whose seat knows this
abbrev pub giving_of : TableId → ℕ → GiverSeat → Giving
giving_of table buffers post =
    record {
      pool = name_of table;
      buffers = buffers;
      size = post.size;
      drawers = post.made;
      floor = post.floor;
      turns = post.turns;
    }

abbrev pub IsFree : PoolSeat → Type 0
IsFree s = s.me ≡ (giving (giver_seat_of s.me.0) bare, [])

pub record IsGiverSeat (table : TableId) (s : PoolSeat) (buffers published : ℕ) : Type 0 where
  pub at : IsSeatAt table s
  pub free : IsFree s
  pub halves : 2 * buffers ≡ table.slots
  pub published_is : published ≡ buffers + length (answers_in (giver_seat_of s.me.0).turns)
  pub none_closed : (giver_seat_of s.me.0).closed ≡ []
  -- the counts are far from their type's end
  pub few : published ≤ MAX_PUBLISHED
  pub few_misses : (giver_seat_of s.me.0).misses ≤ MAX_PUBLISHED
  pub above : AllBelow (giver_seat_of s.me.0).floor (answers_in (giver_seat_of s.me.0).turns)

-- ---- in the middle of a give

abbrev pub IsLaying : PoolSeat → ℕ → Type 0
IsLaying s entry = s.me ≡ (giving (giver_seat_of s.me.0) (lays (buffer_held s.me.0) (draw_held s.me.0)), (entry, None) ∷ [])

abbrev pub lease_held_at : ℕ → PoolSeat → Leased
lease_held_at mark s = record { pool = name_of s.table_id; buffer = buffer_held s.me.0; draw = draw_held s.me.0; mark = mark }

-- what the giver's seat is after an answer
abbrev pub given_giver_seat : View → ℕ → GiverSeat
given_giver_seat v stamp = giver_seat_after (giver_seat_of v) (answered (record { stamp = stamp; event = Given (buffer_held v); draw = draw_held v })) (suc stamp) (giver_seat_of v).misses

abbrev pub missed_giver_seat : View → ℕ → GiverSeat
missed_giver_seat v stamp = giver_seat_after (giver_seat_of v) (answered (record { stamp = stamp; event = Missed; draw = 0 })) (suc stamp) (suc (giver_seat_of v).misses)

-- a chunk that was laid is given, or comes back with the number that its lease had
abbrev pub Publishes : {g : _} → ℕ → PoolSeat → Contents → Answered Leased g → PoolSeat → Type 0
Publishes mark old chunk (given.Given stamp) new = (new.me ≡ (giving (given_giver_seat old.me.0 stamp) bare, [])) × ((giver_seat_of old.me.0).floor ≤ stamp) × (draw_held old.me.0 < stamp)
Publishes mark old chunk (given.Missed back stamp) new =
    (new.me ≡ (giving (missed_giver_seat old.me.0 stamp) bare, [])) × ((giver_seat_of old.me.0).floor ≤ stamp) × (back.chunk ≡ chunk) × (back.lease ≡ lease_held_at mark old)
Publishes mark old chunk (given.Unread back) new = ⊥

-- the counts of a giver after an answer
abbrev pub published_after : {g : _} → ℕ → Answered Leased g → ℕ
published_after published (given.Given stamp) = published + 1
published_after published (given.Missed back stamp) = published + 1
published_after published (given.Unread back) = published

abbrev pub misses_after : {g : _} → ℕ → Answered Leased g → ℕ
misses_after misses (given.Given stamp) = misses
misses_after misses (given.Missed back stamp) = misses + 1
misses_after misses (given.Unread back) = misses
