-- The rule of the table of a locked pool. Word 0 is how many tickets were taken, word 1 how many turns are over. Each turn is one
-- event of the pool, so the number of a ticket is the stamp of its event. Slot 0 is the store, at home or with the end whose
-- turn it is.
use Rattle.std.specs.Prelude.{◌≡◌, ℕ, suc, ◌+◌, ◌*◌, ◌<◌, ◌≤◌, List, [], length, reverse, slice_index, count_by}
use Rattle.std.specs.List.{AllByRecursion}
use mathlib.Core.Option.{some, none}
use mathlib.Core.Option as maybe
use lib.ListN.{get_elem?}
use Rattle.atomic_table.specs.Table.{State}
use Rattle.hs_words.specs.Ends.{Deed, events_of, answers_by, answers_in, is_any_got, EachSpends, EachUnread, AreAnswers, Counts, queue_of}
use Rattle.hs_words.specs.Plans.{total, Plan, Within}
use Rattle.hs_words.specs.Seats.{AtSeat}
use Rattle.hs_words.specs.Spots.{Spot, in_queue, with_drawer, leased, with_giver, HasLease}
use Rattle.hs_pool.specs.Pool.{IsAfter, HasSize}
use Rattle.hs_locked.specs.declared.store.Store.{Store}
use Rattle.hs_locked.specs.Views.{DrawerSeat, Hand, nothing, kept, GiverSeat, Palm, bare, holds, Stand, away, queued, inside, closing, View, nobody, drawing, leasing, giving, drawer_note, giver_note, Has, HasStore, all_left}

-- the store is in its slot, or with an end
pub data Slot : Type 0 where
  home : Slot
  out : ℕ → Slot

-- what the rule knows beside the table: all deeds, the tickets and the end that has each, the store as it was when it was in its
-- slot, the places, what each end has in hand and how it stands, their seats, how many drawers were made, and how many of
-- these are not closed. End 0 is the giver, and end d + 1 the drawer d.
pub record Facts : Type 0 where
  pub log : List Deed
  pub tickets : ℕ
  pub holder : ℕ → ℕ
  pub stored : Store
  pub slot : Slot
  pub stands : ℕ → Stand
  pub spots : ℕ → Spot
  pub hands : ℕ → Hand
  pub seats : ℕ → ℕ
  pub palm : Palm
  pub giver : ℕ
  pub made : ℕ
  pub opened : ℕ

-- how many buffers left the queue
abbrev pub gots_in : List Deed → ℕ
gots_in log = count_by is_any_got (events_of log)

-- ---- the store

-- The store is as these deeds leave it.
pub record StoreOk (plan : Plan) (log : List Deed) (store : Store) : Type 0 where
  pub buffers : store.pool.buffers ≡ plan.buffers
  pub after : IsAfter (reverse (events_of log)) store.pool
  pub sized : HasSize plan.size store.pool
  pub counted : Counts log store.tally
  pub none_missed : store.tally.misses ≡ 0

abbrev pub HasTheStore : Stand → Type 0
HasTheStore away = ⊥
HasTheStore (queued ticket) = ⊥
HasTheStore (inside store) = Unit {0}
HasTheStore (closing store) = Unit {0}

abbrev pub SlotOk : maybe.Option (maybe.Option Store) → Store → (ℕ → Stand) → Slot → Type 0
SlotOk place stored stands home = place ≡ some (some stored)
SlotOk place stored stands (out end) = HasTheStore (stands end)

-- where an end has the store, the slot is empty, and some seat has it
abbrev pub OutOk : maybe.Option (maybe.Option Store) → List View → Store → Slot → Type 0
OutOk place views stored home = Unit {0}
OutOk place views stored (out end) = (place ≡ some none) × ((j : ℕ) × AtSeat views (HasStore stored) j)

-- ---- the lock

module _ (f : Facts) (end : ℕ) where
  abbrev pub StandOk : Stand → Type 0
  StandOk away = Unit {0}
  StandOk (queued ticket) = (f.holder ticket ≡ end) × (length f.log ≤ ticket) × (ticket < f.tickets)
  StandOk (inside store) = (f.holder (length f.log) ≡ end) × (length f.log < f.tickets) × (f.slot ≡ out end) × (store ≡ f.stored)
  StandOk (closing store) = (f.opened ≡ 0) × (end ≡ 0) × (f.slot ≡ out end) × (store ≡ f.stored)

-- ---- hands

abbrev pub HandOk : ℕ → List Deed → (ℕ → Spot) → ℕ → Hand → Type 0
HandOk n log spots drawer nothing = Unit {0}
HandOk n log spots drawer (kept buffer stamp) = HasLease n log spots buffer stamp (with_drawer drawer)

abbrev pub PalmOk : ℕ → List Deed → (ℕ → Spot) → Palm → Type 0
PalmOk n log spots bare = Unit {0}
PalmOk n log spots (holds buffer draw) = HasLease n log spots buffer draw with_giver

-- ---- buffers

-- the buffer waits, and leaves the queue under this number
abbrev pub InLine : ℕ → List Deed → ℕ → ℕ → Type 0
InLine n log buffer number = (i : ℕ) × (number ≡ gots_in log + i) × (get_elem? (queue_of n log) i ≡ some buffer)

-- the buffer is in its place: it waits, or the place's seat has it
module _ (n : ℕ) (log : List Deed) (seats : ℕ → ℕ) (giver : ℕ) (views : List View) (buffer : ℕ) where
  abbrev pub SpotOk : Spot → Type 0
  SpotOk (in_queue number) = InLine n log buffer number
  SpotOk (with_drawer drawer) = AtSeat views (Has buffer) (seats drawer)
  SpotOk (leased j) = AtSeat views (Has buffer) j
  SpotOk with_giver = AtSeat views (Has buffer) giver

-- ---- views

-- what the seat j knows is true
module _ (plan : Plan) (f : Facts) (j : ℕ) where
  pub record DeskOk (desk : DrawerSeat) (hand : Hand) (stand : Stand) : Type 0 where
    pub buffers : desk.buffers ≡ plan.buffers
    pub size : desk.size ≡ plan.size
    pub active : desk.number < f.opened
    pub seat : f.seats desk.number ≡ j
    pub hand_is : f.hands desk.number ≡ hand
    pub stand_is : f.stands (suc desk.number) ≡ stand
    pub answers : desk.answers ≡ answers_by (suc desk.number) f.log
    pub floor : desk.floor ≤ length f.log

  pub record PostOk (post : GiverSeat) (palm : Palm) (stand : Stand) : Type 0 where
    pub buffers : post.buffers ≡ plan.buffers
    pub size : post.size ≡ plan.size
    pub seat : f.giver ≡ j
    pub palm_is : f.palm ≡ palm
    pub stand_is : f.stands 0 ≡ stand
    pub made : post.made ≡ f.made
    pub closed : f.opened + length post.closed ≡ f.made
    pub closed_answers : AreAnswers (suc f.opened) f.log post.closed
    pub answers : answers_in post.turns ≡ answers_by 0 f.log
    pub floor : post.floor ≤ length f.log
    pub unread : EachUnread plan.buffers f.log post.turns

  abbrev pub Knows : View → Type 0
  Knows nobody = Unit {0}
  Knows (drawing desk hand stand) = DeskOk desk hand stand
  Knows (leasing buffer draw) = HasLease plan.buffers f.log f.spots buffer draw (leased j)
  Knows (giving post palm stand) = PostOk post palm stand
  Knows (drawer_note floor stamps) = floor ≤ length f.log
  Knows (giver_note floor) = floor ≤ length f.log

-- ---- the whole

pub record Kept (plan : Plan) (s : State Store View) (f : Facts) : Type 0 where
  pub within : Within plan
  pub homes : length s.homes ≡ 1
  pub words : length s.words ≡ 2
  pub taken : slice_index s.words 0 ≡ f.tickets
  pub turn : slice_index s.words 1 ≡ length f.log
  pub ahead : length f.log ≤ f.tickets
  pub store_ok : StoreOk plan f.log f.stored
  pub slot_ok : SlotOk (get_elem? s.homes 0) f.stored f.stands f.slot
  pub out_ok : OutOk (get_elem? s.homes 0) s.views f.stored f.slot
  pub spent : EachSpends f.log
  pub each_queued : (i buffer : ℕ) → get_elem? (queue_of plan.buffers f.log) i ≡ some buffer → f.spots buffer ≡ in_queue (gots_in f.log + i)
  pub each_hand : (drawer : ℕ) → HandOk plan.buffers f.log f.spots drawer (f.hands drawer)
  pub in_palm : PalmOk plan.buffers f.log f.spots f.palm
  pub each_spot : (buffer : ℕ) → buffer < plan.buffers → SpotOk plan.buffers f.log f.seats f.giver s.views buffer (f.spots buffer)
  pub each_stand : (end : ℕ) → StandOk f end (f.stands end)
  pub left : f.tickets + all_left s.views ≤ 2 * total plan.allowances
  pub all_made : AllByRecursion (λ (deed : Deed). deed.by ≤ f.made) f.log
  pub still_open : f.opened ≤ f.made
  -- a drawer that is not made yet, or closed, has nothing and waits for nothing
  pub gone : (drawer : ℕ) → f.opened ≤ drawer → (f.hands drawer ≡ nothing) × (f.stands (suc drawer) ≡ away)
  pub each_seat : (j : ℕ) (v : View) → get_elem? s.views j ≡ some v → Knows plan f j v

abbrev pub LockedRule : Plan → State Store View → Type 0
LockedRule plan s = (f : Facts) × Kept plan s f

-- the giver's seat before any drawer is made
abbrev pub first_giver_seat : Plan → GiverSeat
first_giver_seat plan = record { buffers = plan.buffers; size = plan.size; spare = plan.allowances; made = 0; closed = []; floor = 0; turns = [] }

abbrev pub first_view : Plan → View
first_view plan = giving (first_giver_seat plan) bare away
