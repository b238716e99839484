-- The rule of the ring's table, for n buffers. The buffers lie under numbers, n of them are published at first, each give that
-- has a stamp publishes one more, and each draw draws one. Word 0 has both counts: 2^24 times the number drawn, and the lead of
-- the number published over it, with 2^23 added. Number h belongs to the entry h mod 2 n; word e + 1 is 0 or one more than the
-- number that was laid there, and slot e is that entry's chunk. An empty draw draws a number that is void, and the give that
-- would publish it misses. No more void numbers stand out than the lead has room for, since each drawer has an allowance.
use Rattle.std.specs.Prelude.{◌≡◌, ℕ, suc, ◌+◌, ◌-◌, ◌*◌, ◌%◌, ◌<◌, ◌≤◌, List, [], ◌∷◌, length, slice_index, count_by, Option, Some, None}
use Rattle.std.specs.List.{AllByRecursion}
use mathlib.Core.Option.{some}
use mathlib.Core.Option as maybe
use lib.ListN.{get_elem?}
use Rattle.atomic_table.specs.Table.{State}
use Rattle.hs_base.specs.declared.limits.TheConstants.{MOST_AHEAD, MOST_DRAWS}
use Rattle.hs_words.specs.Chunks.{Contents, clear_chunk}
use Rattle.hs_words.specs.PoolHistory.{is_missed, is_empty, IsHistoryBack}
use Rattle.hs_words.specs.Ends.{Deed, got_by, events_of, drawn_in, given_in, answers_by, answers_in, told_in, IsDraw, IsGot, NoneSince, EachSpends, EachUnread, AreAnswers, queue_of}
use Rattle.hs_words.specs.Plans.{total, Plan, Within}
use Rattle.hs_words.specs.Seats.{AtSeat}
use Rattle.hs_words.specs.Spots.{Spot, in_queue, with_drawer, leased, with_giver, HasLease}
use Rattle.hs_ring.specs.Parts.{GivesInTurn}
use Rattle.hs_ring.specs.Steps.{packed}
use Rattle.hs_ring.specs.Views.{DrawerSeat, Hand, nothing, drew, kept, GiverSeat, Palm, bare, holds, lays, retakes, View, nobody, drawing, leasing, giving, drawer_note, giver_note, all_left, all_most, Has}

-- an entry is free; or it holds a number whose buffer waits, or was drawn by a drawer that has not collected it; or the
-- giver has laid it. Where it was drawn or laid, its slot is with that end's seat.
pub data Cell : Type 0 where
  free : Cell
  waits : ℕ → ℕ → Cell
  drawn : ℕ → ℕ → ℕ → Cell
  laid : ℕ → Cell

-- what the rule knows beside the table: all deeds, the entries, the places, what each drawer and the giver have in hand, their seats,
-- how many drawers were made, and how many of these are not closed
pub record Facts : Type 0 where
  pub log : List Deed
  pub cells : ℕ → Cell
  pub spots : ℕ → Spot
  pub hands : ℕ → Hand
  pub seats : ℕ → ℕ
  pub palm : Palm
  pub giver : ℕ
  pub made : ℕ
  pub opened : ℕ

abbrev pub published : ℕ → List Deed → ℕ
published n log = n + given_in log

-- ---- entries

-- the number that the giver has laid
abbrev pub IsLaid : ℕ → ℕ → Palm → Type 0
IsLaid next number bare = ⊥
IsLaid next number (holds buffer draw) = ⊥
IsLaid next number (lays buffer draw) = number ≡ next
IsLaid next number (retakes buffer draw) = suc number ≡ next

module _ (n size : ℕ) (log : List Deed) (spots : ℕ → Spot) (hands : ℕ → Hand) (palm : Palm) (e word : ℕ) (home : maybe.Option (maybe.Option (Option Contents))) where
  abbrev pub CellOk : Cell → Type 0
  CellOk free = (word ≡ 0) × (home ≡ some (some None))
  CellOk (waits number buffer) =
      (e ≡ number % (2 * n)) × (word ≡ suc number) × (home ≡ some (some (Some (clear_chunk size buffer))))
      × (drawn_in log ≤ number) × (number < published n log) × (spots buffer ≡ in_queue number)
  CellOk (drawn number buffer drawer) =
      (e ≡ number % (2 * n)) × (word ≡ suc number) × (home ≡ some maybe.none)
      × (number < drawn_in log) × (number < published n log) × (published n log ≤ number + 2 * n) × ((stamp : ℕ) × (hands drawer ≡ drew number buffer stamp))
  CellOk (laid number) = (e ≡ number % (2 * n)) × (word ≡ suc number) × (home ≡ some maybe.none) × IsLaid (published n log) number palm

-- ---- hands

-- every deed of the drawer has a stamp of at most this
abbrev pub IsLastOf : ℕ → ℕ → List Deed → Type 0
IsLastOf end stamp [] = Unit {0}
IsLastOf end stamp (deed ∷ earlier) = (deed.by ≡ end → length earlier ≤ stamp) × IsLastOf end stamp earlier

module _ (n : ℕ) (log : List Deed) (cells : ℕ → Cell) (spots : ℕ → Spot) where
  abbrev pub HandOk : ℕ → Hand → Type 0
  HandOk drawer nothing = Unit {0}
  HandOk drawer (drew number buffer stamp) =
      (cells (number % (2 * n)) ≡ drawn number buffer drawer) × (spots buffer ≡ with_drawer drawer) × IsDraw log number stamp (got_by (suc drawer) buffer)
      × NoneSince buffer stamp log × IsLastOf (suc drawer) stamp log × (buffer < n)
  HandOk drawer (kept buffer stamp) = (spots buffer ≡ with_drawer drawer) × IsGot log stamp buffer × NoneSince buffer stamp log × (buffer < n)

  abbrev pub PalmOk : Palm → Type 0
  PalmOk bare = Unit {0}
  PalmOk (holds buffer draw) = HasLease n log spots buffer draw with_giver
  PalmOk (lays buffer draw) = HasLease n log spots buffer draw with_giver × (cells (published n log % (2 * n)) ≡ laid (published n log))
  PalmOk (retakes buffer draw) = HasLease n log spots buffer draw with_giver × ((number : ℕ) × (suc number ≡ published n log) × (cells (number % (2 * n)) ≡ laid number))

-- ---- buffers

-- the buffer is in its place: its number's entry waits with it, or the place's seat has it
module _ (n : ℕ) (cells : ℕ → Cell) (seats : ℕ → ℕ) (giver : ℕ) (views : List View) (buffer : ℕ) where
  abbrev pub SpotOk : Spot → Type 0
  SpotOk (in_queue number) = cells (number % (2 * n)) ≡ waits number buffer
  SpotOk (with_drawer drawer) = AtSeat views (Has buffer) (seats drawer)
  SpotOk (leased j) = AtSeat views (Has buffer) j
  SpotOk with_giver = AtSeat views (Has buffer) giver

-- ---- views

-- the draw with this stamp was collected, or it was empty
abbrev pub IsSettled : List Deed → (ℕ → Hand) → ℕ → Type 0
IsSettled log hands told = (told < length log) × ((drawer number buffer stamp : ℕ) → hands drawer ≡ drew number buffer stamp → told ≡ stamp → ⊥)

-- what the seat j knows is true
module _ (plan : Plan) (f : Facts) (j : ℕ) where
  pub record DeskOk (desk : DrawerSeat) (hand : Hand) : Type 0 where
    pub size : desk.size ≡ plan.size
    pub active : desk.number < f.opened
    pub seat : f.seats desk.number ≡ j
    pub hand_is : f.hands desk.number ≡ hand
    pub within : desk.left ≤ desk.most
    pub answers : desk.answers ≡ answers_by (suc desk.number) f.log
    pub floor : desk.floor ≤ length f.log

  pub record PostOk (post : GiverSeat) (palm : Palm) : Type 0 where
    pub size : post.size ≡ plan.size
    pub seat : f.giver ≡ j
    pub palm_is : f.palm ≡ palm
    pub made : post.made ≡ f.made
    pub closed : f.opened + length post.closed ≡ f.made
    pub closed_answers : AreAnswers (suc f.opened) f.log post.closed
    pub answers : answers_in post.turns ≡ answers_by 0 f.log
    pub misses : post.misses ≡ count_by is_missed (events_of f.log)
    pub floor : post.floor ≤ length f.log
    pub unread : EachUnread plan.buffers f.log post.turns
    pub told : AllByRecursion (IsSettled f.log f.hands) (told_in post.turns)

  abbrev pub Knows : View → Type 0
  Knows nobody = Unit {0}
  Knows (drawing desk hand) = DeskOk desk hand
  Knows (leasing buffer draw) = HasLease plan.buffers f.log f.spots buffer draw (leased j)
  Knows (giving post palm) = PostOk post palm
  Knows (drawer_note floor stamps) = (floor ≤ length f.log) × AllByRecursion (IsSettled f.log f.hands) stamps
  Knows (giver_note floor) = floor ≤ length f.log

-- ---- allowances

-- What the drawers may still draw fits: with it, the numbers drawn are ahead of those published by no more than the lead has room
-- for, and come to no more than a pool's life has.
pub record Allowed (plan : Plan) (log : List Deed) (views : List View) : Type 0 where
  pub ahead : all_left views + drawn_in log ≤ published plan.buffers log + MOST_AHEAD
  pub life : all_left views + drawn_in log ≤ MOST_DRAWS
  pub most : all_most views ≤ total plan.allowances

-- ---- the whole

pub record Kept (plan : Plan) (s : State (Option Contents) View) (f : Facts) : Type 0 where
  pub within : Within plan
  pub homes : length s.homes ≡ 2 * plan.buffers
  pub words : length s.words ≡ suc (2 * plan.buffers)
  -- the counts, in one word
  pub counts : slice_index s.words 0 ≡ packed (published plan.buffers f.log) (drawn_in f.log)
  pub lawful : IsHistoryBack plan.buffers (events_of f.log)
  pub spent : EachSpends f.log
  -- the misses, and the void numbers that were not published, are the empty draws
  pub voids : count_by is_missed (events_of f.log) + (drawn_in f.log - published plan.buffers f.log) ≡ count_by is_empty (events_of f.log)
  pub gives : GivesInTurn (events_of f.log)
  pub each_cell : (e : ℕ) → e < 2 * plan.buffers → CellOk plan.buffers plan.size f.log f.spots f.hands f.palm e (slice_index s.words (suc e)) (get_elem? s.homes e) (f.cells e)
  pub each_queued : (i buffer : ℕ) → get_elem? (queue_of plan.buffers f.log) i ≡ some buffer
      → f.cells ((drawn_in f.log + i) % (2 * plan.buffers)) ≡ waits (drawn_in f.log + i) buffer
  pub each_hand : (drawer : ℕ) → HandOk plan.buffers f.log f.cells f.spots drawer (f.hands drawer)
  pub in_palm : PalmOk plan.buffers f.log f.cells f.spots f.palm
  pub each_spot : (buffer : ℕ) → buffer < plan.buffers → SpotOk plan.buffers f.cells f.seats f.giver s.views buffer (f.spots buffer)
  pub allowed : Allowed plan f.log s.views
  pub by_giver : length (answers_by 0 f.log) ≡ given_in f.log
  pub all_made : AllByRecursion (λ (deed : Deed). deed.by ≤ f.made) f.log
  pub still_open : f.opened ≤ f.made
  pub unmade : (drawer : ℕ) → f.made ≤ drawer → f.hands drawer ≡ nothing
  pub each_seat : (j : ℕ) (v : View) → get_elem? s.views j ≡ some v → Knows plan f j v

abbrev pub RingRule : Plan → State (Option Contents) View → Type 0
RingRule plan s = (f : Facts) × Kept plan s f

-- the giver's seat before any drawer is made
abbrev pub first_giver_seat : Plan → GiverSeat
first_giver_seat plan = record { size = plan.size; spare = plan.allowances; made = 0; closed = []; floor = 0; misses = 0; turns = [] }

abbrev pub first_view : Plan → View
first_view plan = giving (first_giver_seat plan) bare
