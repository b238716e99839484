-- What each seat at the ring's table knows, and how a step changes it. A drawer's seat knows its number, its whole
-- allowance and what that has left, its floor, which is above every stamp that it knows, and its answers. The giver's seat knows
-- its turns beside its floor. A lease is a seat of its own, and so is a note that one end hands to another when they meet.
use Rattle.std.specs.Prelude.{◌≡◌, ℕ, suc, ◌+◌, ◌-◌, List, [], ◌∷◌, max}
use Rattle.hs_words.specs.PoolHistory.{PoolEvent, Got, Empty, Given, Missed}
use Rattle.hs_words.specs.Ends.{Answer, GiverTurn, answered, unread, met, stamps_in}
use Rattle.hs_words.specs.Plans.{first_of, rest_of, total}

pub record DrawerSeat : Type 0 where
  pub size : ℕ
  pub number : ℕ
  pub most : ℕ
  pub left : ℕ
  pub floor : ℕ
  pub answers : List Answer

-- what a drawer has in hand: a number that it drew, with its buffer and stamp; or the buffer that it collected
pub data Hand : Type 0 where
  nothing : Hand
  drew : ℕ → ℕ → ℕ → Hand
  kept : ℕ → ℕ → Hand

-- the allowances that no drawer has yet, the drawers that were made, the answers of those that were closed, and the misses
pub record GiverSeat : Type 0 where
  pub size : ℕ
  pub spare : List ℕ
  pub made : ℕ
  pub closed : List (List Answer)
  pub floor : ℕ
  pub misses : ℕ
  pub turns : List GiverTurn

-- what the giver has in hand: a buffer with the stamp of the draw that got it; the same while it lies in an entry
pub data Palm : Type 0 where
  bare : Palm
  holds : ℕ → ℕ → Palm
  lays : ℕ → ℕ → Palm
  retakes : ℕ → ℕ → Palm

pub data View : Type 0 where
  nobody : View
  drawing : DrawerSeat → Hand → View
  leasing : ℕ → ℕ → View
  giving : GiverSeat → Palm → View
  drawer_note : ℕ → List ℕ → View
  giver_note : ℕ → View

-- ---- parts

abbrev pub drawer_seat_of : View → DrawerSeat
drawer_seat_of (drawing desk hand) = desk
drawer_seat_of _ = record { size = 0; number = 0; most = 0; left = 0; floor = 0; answers = [] }

abbrev pub giver_seat_of : View → GiverSeat
giver_seat_of (giving post palm) = post
giver_seat_of _ = record { size = 0; spare = []; made = 0; closed = []; floor = 0; misses = 0; turns = [] }

-- the buffer and the stamp of a lease
abbrev pub buffer_of : View → ℕ
buffer_of (leasing buffer draw) = buffer
buffer_of _ = 0

abbrev pub draw_of : View → ℕ
draw_of (leasing buffer draw) = draw
draw_of _ = 0

-- ---- after a draw

abbrev pub drawer_seat_after : DrawerSeat → ℕ → PoolEvent → DrawerSeat
drawer_seat_after desk stamp event =
    record {
      size = desk.size;
      number = desk.number;
      most = desk.most;
      left = desk.left - 1;
      floor = suc stamp;
      answers = record { stamp = stamp; event = event; draw = 0 } ∷ desk.answers;
    }

abbrev pub having_got : View → ℕ → ℕ → ℕ → View
having_got (drawing desk hand) number buffer stamp = drawing (drawer_seat_after desk stamp (Got buffer)) (drew number buffer stamp)
having_got view number buffer stamp = view

abbrev pub having_missed_out : View → ℕ → View
having_missed_out (drawing desk hand) stamp = drawing (drawer_seat_after desk stamp Empty) nothing
having_missed_out view stamp = view

abbrev pub keeping : Hand → Hand
keeping (drew number buffer stamp) = kept buffer stamp
keeping hand = hand

abbrev pub having_collected : View → View
having_collected (drawing desk hand) = drawing desk (keeping hand)
having_collected view = view

-- ---- a look that makes an allowance whole again

abbrev pub refilled_seat : DrawerSeat → DrawerSeat
refilled_seat desk = record { size = desk.size; number = desk.number; most = desk.most; left = desk.most; floor = desk.floor; answers = desk.answers }

abbrev pub having_refilled : View → View
having_refilled (drawing desk hand) = drawing (refilled_seat desk) hand
having_refilled view = view

-- ---- leases are split off and joined

abbrev pub lease_in : Hand → View
lease_in (kept buffer stamp) = leasing buffer stamp
lease_in hand = nobody

abbrev pub lease_held : Palm → View
lease_held (holds buffer draw) = leasing buffer draw
lease_held palm = nobody

abbrev pub without_lease : View → View
without_lease (drawing desk hand) = drawing desk nothing
without_lease (giving post palm) = giving post bare
without_lease view = view

abbrev pub lease_of : View → View
lease_of (drawing desk hand) = lease_in hand
lease_of (giving post palm) = lease_held palm
lease_of view = nobody

abbrev pub with_lease : View → View → View
with_lease (giving post palm) (leasing buffer draw) = giving post (holds buffer draw)
with_lease view other = view

-- ---- after a give

abbrev pub giver_seat_after : GiverSeat → GiverTurn → ℕ → ℕ → GiverSeat
giver_seat_after post turn floor misses =
    record {
      size = post.size;
      spare = post.spare;
      made = post.made;
      closed = post.closed;
      floor = floor;
      misses = misses;
      turns = turn ∷ post.turns;
    }

abbrev pub laying : Palm → Palm
laying (holds buffer draw) = lays buffer draw
laying palm = palm

abbrev pub having_laid : View → View
having_laid (giving post palm) = giving post (laying palm)
having_laid view = view

abbrev pub having_unread : View → View
having_unread (giving post palm) = giving (giver_seat_after post unread post.floor post.misses) palm
having_unread view = view

abbrev pub given_answer : Palm → ℕ → Answer
given_answer (lays buffer draw) stamp = record { stamp = stamp; event = Given buffer; draw = draw }
given_answer palm stamp = record { stamp = stamp; event = Missed; draw = 0 }

abbrev pub having_given : View → ℕ → View
having_given (giving post palm) stamp = giving (giver_seat_after post (answered (given_answer palm stamp)) (suc stamp) post.misses) bare
having_given view stamp = view

abbrev pub retaking : Palm → Palm
retaking (lays buffer draw) = retakes buffer draw
retaking palm = palm

abbrev pub missed_answer : ℕ → Answer
missed_answer stamp = record { stamp = stamp; event = Missed; draw = 0 }

abbrev pub having_missed : View → ℕ → View
having_missed (giving post palm) stamp = giving (giver_seat_after post (answered (missed_answer stamp)) (suc stamp) (suc post.misses)) (retaking palm)
having_missed view stamp = view

abbrev pub retaken : Palm → Palm
retaken (retakes buffer draw) = holds buffer draw
retaken palm = palm

abbrev pub having_retaken : View → View
having_retaken (giving post palm) = giving post (retaken palm)
having_retaken view = view

-- the stamp of the draw whose lease the giver has
abbrev pub draw_in : Palm → ℕ
draw_in bare = 0
draw_in (holds buffer draw) = draw
draw_in (lays buffer draw) = draw
draw_in (retakes buffer draw) = draw

abbrev pub draw_held : View → ℕ
draw_held (giving post palm) = draw_in palm
draw_held view = 0

-- the buffer that the giver has
abbrev pub buffer_in : Palm → ℕ
buffer_in bare = 0
buffer_in (holds buffer draw) = buffer
buffer_in (lays buffer draw) = buffer
buffer_in (retakes buffer draw) = buffer

abbrev pub buffer_held : View → ℕ
buffer_held (giving post palm) = buffer_in palm
buffer_held view = 0

-- a seat has a buffer: a drawer's in hand, a lease's, or the giver's
abbrev pub InHand : ℕ → Hand → Type 0
InHand buffer nothing = ⊥
InHand buffer (drew number b stamp) = b ≡ buffer
InHand buffer (kept b stamp) = b ≡ buffer

abbrev pub InPalm : ℕ → Palm → Type 0
InPalm buffer bare = ⊥
InPalm buffer (holds b draw) = b ≡ buffer
InPalm buffer (lays b draw) = b ≡ buffer
InPalm buffer (retakes b draw) = b ≡ buffer

abbrev pub Has : ℕ → View → Type 0
Has buffer nobody = ⊥
Has buffer (drawing desk hand) = InHand buffer hand
Has buffer (leasing b draw) = b ≡ buffer
Has buffer (giving post palm) = InPalm buffer palm
Has buffer (drawer_note floor stamps) = ⊥
Has buffer (giver_note floor) = ⊥

-- the least stamp that an end may be told next
abbrev pub floor_of : View → ℕ
floor_of (drawing desk hand) = desk.floor
floor_of (giving post palm) = post.floor
floor_of view = 0

-- ---- notes

abbrev pub same : View → View
same view = view

abbrev pub note_of : View → View
note_of (drawing desk hand) = drawer_note desk.floor (stamps_in desk.answers)
note_of (giving post palm) = giver_note post.floor
note_of view = nobody

abbrev pub having_heard : View → View → View
having_heard (drawing desk hand) (giver_note floor) = drawing (record { size = desk.size; number = desk.number; most = desk.most; left = desk.left; floor = max desk.floor floor; answers = desk.answers }) hand
having_heard (giving post palm) (drawer_note floor stamps) = giving (giver_seat_after post (met stamps) (max post.floor floor) post.misses) palm
having_heard view note = view

-- ---- drawers are made and closed

abbrev pub with_drawer : View → View
with_drawer (giving post palm) =
    giving (record {
      size = post.size;
      spare = rest_of post.spare;
      made = suc post.made;
      closed = post.closed;
      floor = post.floor;
      misses = post.misses;
      turns = post.turns;
    }) palm
with_drawer view = view

abbrev pub new_drawer : View → View
new_drawer (giving post palm) = drawing (record { size = post.size; number = post.made; most = first_of post.spare; left = first_of post.spare; floor = 0; answers = [] }) nothing
new_drawer view = nobody

abbrev pub having_closed : View → View → View
having_closed (giving post palm) (drawing desk hand) =
    giving (record {
      size = post.size;
      spare = post.spare;
      made = post.made;
      closed = desk.answers ∷ post.closed;
      floor = post.floor;
      misses = post.misses;
      turns = post.turns;
    }) palm
having_closed view other = view

-- ---- allowances

-- the draws that a seat may still make or hand out
abbrev pub left_in : View → ℕ
left_in (drawing desk hand) = desk.left
left_in (giving post palm) = total post.spare
left_in view = 0

abbrev pub all_left : List View → ℕ
all_left [] = 0
all_left (view ∷ views) = left_in view + all_left views

-- its whole allowance, and what it hands out
abbrev pub most_in : View → ℕ
most_in (drawing desk hand) = desk.most
most_in (giving post palm) = total post.spare
most_in view = 0

abbrev pub all_most : List View → ℕ
all_most [] = 0
all_most (view ∷ views) = most_in view + all_most views
