-- What each seat at the table of a locked pool knows, and how a step changes it. A drawer's seat and the giver's know their
-- answers, their floor, which is above every stamp that they know, and how they stand at the lock. A lease is a seat of its
-- own, and so is a note that one end hands to another when they meet.
use Rattle.std.specs.Prelude.{◌≡◌, ℕ, suc, ◌+◌, ◌-◌, ◌*◌, List, [], ◌∷◌, max}
use Rattle.hs_words.specs.PoolHistory.{PoolEvent, Got, Empty, Given}
use Rattle.hs_words.specs.Ends.{Answer, GiverTurn, answered, met, stamps_in}
use Rattle.hs_words.specs.Plans.{first_of, rest_of, total}
use Rattle.hs_pool.specs.Pool.{waiting}
use Rattle.hs_locked.specs.declared.store.Store.{Store}
use Rattle.hs_locked.specs.Stored.{next_draw}

pub record DrawerSeat : Type 0 where
  pub buffers : ℕ
  pub size : ℕ
  pub number : ℕ
  pub most : ℕ
  pub left : ℕ
  pub floor : ℕ
  pub answers : List Answer

-- what a drawer has in hand: nothing, or a buffer that it got, with the stamp
pub data Hand : Type 0 where
  nothing : Hand
  kept : ℕ → ℕ → Hand

-- the allowances that no drawer has yet, the drawers that were made, and the answers of those that were closed
pub record GiverSeat : Type 0 where
  pub buffers : ℕ
  pub size : ℕ
  pub spare : List ℕ
  pub made : ℕ
  pub closed : List (List Answer)
  pub floor : ℕ
  pub turns : List GiverTurn

-- what the giver has in hand: nothing, or a buffer with the stamp of the draw that got it
pub data Palm : Type 0 where
  bare : Palm
  holds : ℕ → ℕ → Palm

-- how an end stands at the lock: it has no ticket; it waits with a ticket; its turn has come, and then it knows the store as it
-- was when the turn came; or the pool is closed, and the store was taken for good
pub data Stand : Type 0 where
  away : Stand
  queued : ℕ → Stand
  inside : Store → Stand
  closing : Store → Stand

pub data View : Type 0 where
  nobody : View
  drawing : DrawerSeat → Hand → Stand → View
  leasing : ℕ → ℕ → View
  giving : GiverSeat → Palm → Stand → View
  drawer_note : ℕ → List ℕ → View
  giver_note : ℕ → View

-- ---- parts

abbrev pub drawer_seat_of : View → DrawerSeat
drawer_seat_of (drawing desk hand stand) = desk
drawer_seat_of _ = record { buffers = 0; size = 0; number = 0; most = 0; left = 0; floor = 0; answers = [] }

abbrev pub giver_seat_of : View → GiverSeat
giver_seat_of (giving post palm stand) = post
giver_seat_of _ = record { buffers = 0; size = 0; spare = []; made = 0; closed = []; floor = 0; turns = [] }

-- the buffer and the stamp of a lease
abbrev pub buffer_of : View → ℕ
buffer_of (leasing buffer draw) = buffer
buffer_of _ = 0

abbrev pub draw_of : View → ℕ
draw_of (leasing buffer draw) = draw
draw_of _ = 0

-- the buffer that the giver has, and the stamp of the draw that got it
abbrev pub buffer_in : Palm → ℕ
buffer_in bare = 0
buffer_in (holds buffer draw) = buffer

abbrev pub draw_in : Palm → ℕ
draw_in bare = 0
draw_in (holds buffer draw) = draw

abbrev pub buffer_held : View → ℕ
buffer_held (giving post palm stand) = buffer_in palm
buffer_held _ = 0

abbrev pub draw_held : View → ℕ
draw_held (giving post palm stand) = draw_in palm
draw_held _ = 0

abbrev pub size_of : View → ℕ
size_of (drawing desk hand stand) = desk.size
size_of (giving post palm stand) = post.size
size_of _ = 0

-- the least stamp that an end may be told next
abbrev pub floor_of : View → ℕ
floor_of (drawing desk hand stand) = desk.floor
floor_of (giving post palm stand) = post.floor
floor_of _ = 0

-- ---- what a seat has

-- a buffer: a drawer's in hand, a lease's, or the giver's
abbrev pub InHand : ℕ → Hand → Type 0
InHand buffer nothing = ⊥
InHand buffer (kept b stamp) = b ≡ buffer

abbrev pub InPalm : ℕ → Palm → Type 0
InPalm buffer bare = ⊥
InPalm buffer (holds b draw) = b ≡ buffer

abbrev pub Has : ℕ → View → Type 0
Has buffer nobody = ⊥
Has buffer (drawing desk hand stand) = InHand buffer hand
Has buffer (leasing b draw) = b ≡ buffer
Has buffer (giving post palm stand) = InPalm buffer palm
Has buffer (drawer_note floor stamps) = ⊥
Has buffer (giver_note floor) = ⊥

-- the store, while its turn lasts or for good
abbrev pub StandHas : Store → Stand → Type 0
StandHas store away = ⊥
StandHas store (queued ticket) = ⊥
StandHas store (inside st) = st ≡ store
StandHas store (closing st) = st ≡ store

abbrev pub HasStore : Store → View → Type 0
HasStore store nobody = ⊥
HasStore store (drawing desk hand stand) = StandHas store stand
HasStore store (leasing buffer draw) = ⊥
HasStore store (giving post palm stand) = StandHas store stand
HasStore store (drawer_note floor stamps) = ⊥
HasStore store (giver_note floor) = ⊥

-- ---- at the lock

abbrev pub ticket_in : Stand → ℕ
ticket_in away = 0
ticket_in (queued ticket) = ticket
ticket_in (inside store) = 0
ticket_in (closing store) = 0

abbrev pub ticket_of : View → ℕ
ticket_of (drawing desk hand stand) = ticket_in stand
ticket_of (giving post palm stand) = ticket_in stand
ticket_of _ = 0

abbrev pub standing : View → Stand → View
standing (drawing desk hand before) stand = drawing desk hand stand
standing (giving post palm before) stand = giving post palm stand
standing view stand = view

abbrev pub drawer_seat_after : DrawerSeat → ℕ → PoolEvent → DrawerSeat
drawer_seat_after desk stamp event =
    record {
      buffers = desk.buffers;
      size = desk.size;
      number = desk.number;
      most = desk.most;
      left = desk.left - 1;
      floor = suc stamp;
      answers = record { stamp = stamp; event = event; draw = 0 } ∷ desk.answers;
    }

abbrev pub hand_after : PoolEvent → ℕ → Hand
hand_after (Got buffer) stamp = kept buffer stamp
hand_after _ stamp = nothing

abbrev pub giver_seat_after : GiverSeat → GiverTurn → ℕ → GiverSeat
giver_seat_after post turn floor =
    record {
      buffers = post.buffers;
      size = post.size;
      spare = post.spare;
      made = post.made;
      closed = post.closed;
      floor = floor;
      turns = turn ∷ post.turns;
    }

abbrev pub given_answer : Palm → ℕ → Answer
given_answer palm stamp = record { stamp = stamp; event = Given (buffer_in palm); draw = draw_in palm }

-- the event of an end whose turn has come
abbrev pub drawn_from : Stand → PoolEvent
drawn_from (inside store) = next_draw (waiting store.pool)
drawn_from _ = Empty

abbrev pub event_of : View → PoolEvent
event_of (drawing desk hand stand) = drawn_from stand
event_of (giving post palm stand) = Given (buffer_in palm)
event_of _ = Empty

-- its stamp
abbrev pub stamp_at : Stand → ℕ
stamp_at (inside store) = store.pool.events
stamp_at _ = 0

-- the view of an end after its turn
abbrev pub having_left : View → View
having_left (drawing desk hand stand) = drawing (drawer_seat_after desk (stamp_at stand) (drawn_from stand)) (hand_after (drawn_from stand) (stamp_at stand)) away
having_left (giving post palm stand) = giving (giver_seat_after post (answered (given_answer palm (stamp_at stand))) (suc (stamp_at stand))) bare away
having_left view = view

-- ---- leases are split off and joined

abbrev pub lease_in : Hand → View
lease_in nothing = nobody
lease_in (kept buffer stamp) = leasing buffer stamp

abbrev pub without_lease : View → View
without_lease (drawing desk hand stand) = drawing desk nothing stand
without_lease view = view

abbrev pub lease_of : View → View
lease_of (drawing desk hand stand) = lease_in hand
lease_of view = nobody

abbrev pub with_lease : View → View → View
with_lease (giving post palm stand) (leasing buffer draw) = giving post (holds buffer draw) stand
with_lease view other = view

-- ---- notes

abbrev pub same : View → View
same view = view

abbrev pub note_of : View → View
note_of (drawing desk hand stand) = drawer_note desk.floor (stamps_in desk.answers)
note_of (giving post palm stand) = giver_note post.floor
note_of view = nobody

abbrev pub with_floor : DrawerSeat → ℕ → DrawerSeat
with_floor desk floor = record { buffers = desk.buffers; size = desk.size; number = desk.number; most = desk.most; left = desk.left; floor = floor; answers = desk.answers }

abbrev pub having_heard : View → View → View
having_heard (drawing desk hand stand) (giver_note floor) = drawing (with_floor desk (max desk.floor floor)) hand stand
having_heard (giving post palm stand) (drawer_note floor stamps) = giving (giver_seat_after post (met stamps) (max post.floor floor)) palm stand
having_heard view note = view

-- ---- drawers are made and closed

abbrev pub with_drawer : View → View
with_drawer (giving post palm stand) =
    giving (record {
      buffers = post.buffers;
      size = post.size;
      spare = rest_of post.spare;
      made = suc post.made;
      closed = post.closed;
      floor = post.floor;
      turns = post.turns;
    }) palm stand
with_drawer view = view

abbrev pub new_drawer : View → View
new_drawer (giving post palm stand) =
    drawing (record { buffers = post.buffers; size = post.size; number = post.made; most = first_of post.spare; left = first_of post.spare; floor = 0; answers = [] }) nothing away
new_drawer view = nobody

abbrev pub having_closed : View → View → View
having_closed (giving post palm stand) (drawing desk hand stand') =
    giving (record {
      buffers = post.buffers;
      size = post.size;
      spare = post.spare;
      made = post.made;
      closed = desk.answers ∷ post.closed;
      floor = post.floor;
      turns = post.turns;
    }) palm stand
having_closed view other = view

-- ---- the right to make events

-- 1 for a buffer in hand, which may be given
abbrev pub in_hand : Hand → ℕ
in_hand nothing = 0
in_hand (kept buffer stamp) = 1

abbrev pub in_palm : Palm → ℕ
in_palm bare = 0
in_palm (holds buffer draw) = 1

-- 1 for a ticket, which is an event to come
abbrev pub spent_at : Stand → ℕ
spent_at away = 0
spent_at (queued ticket) = 1
spent_at (inside store) = 1
spent_at (closing store) = 0

-- How many more tickets a seat may take, or hand on the right to: two for each draw that is left, one to draw and one to give
-- what was got.
abbrev pub left_in : View → ℕ
left_in nobody = 0
left_in (drawing desk hand stand) = (2 * desk.left + in_hand hand) - spent_at stand
left_in (leasing buffer draw) = 1
left_in (giving post palm stand) = (2 * total post.spare + in_palm palm) - spent_at stand
left_in (drawer_note floor stamps) = 0
left_in (giver_note floor) = 0

abbrev pub all_left : List View → ℕ
all_left [] = 0
all_left (view ∷ views) = left_in view + all_left views
