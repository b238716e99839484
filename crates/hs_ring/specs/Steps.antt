-- What each step at the ring's table tells the end that makes it. A step tells what it found and how the seat's view goes on.
use Rattle.std.proofs.Common.{arith, refl}
use Rattle.std.specs.Prelude.{◌≡◌, ◌≢◌, ℕ, ◌+◌, ◌-◌, ◌*◌, ◌/◌, ◌%◌, ◌<◌, ◌≤◌, List, [], ◌∷◌, length, count_by, Option, Some, None}
use mathlib.Core.Option.{none}
use Rattle.atomic_table.specs.Table.{Me, Step, rest, step}
use Rattle.hs_base.specs.declared.limits.TheConstants.{MOST_AHEAD, MOST_DRAWS}
use Rattle.hs_ring.specs.declared.board.TheConstants.{DRAWN, LEVEL}
use Rattle.hs_words.specs.declared.token.TheConstants.{MAX_PUBLISHED}
use Rattle.hs_words.specs.Chunks.{Contents, clear_chunk}
use Rattle.hs_words.specs.PoolHistory.{is_missed, is_empty}
use Rattle.hs_words.specs.Ends.{Deed, events_of, drawn_in, given_in, answers_in, IsTogether}
use Rattle.hs_ring.specs.Parts.{GivesInTurn}
use Rattle.hs_ring.specs.Views.{DrawerSeat, GiverSeat, View, nothing, drawing, giving, drawer_seat_of, giver_seat_of, having_got, having_missed_out, having_refilled, having_collected, having_laid, having_unread, having_given, having_missed, having_retaken, draw_held, floor_of}

abbrev pub Seated : Type 0
Seated = Me (Option Contents) View

-- the word of two counts: 2^24 times the number drawn, and the lead of the number published over it, with 2^23 added
abbrev pub packed : (published drawn : ℕ) → ℕ
packed published drawn = drawn * DRAWN + ((published + LEVEL) - drawn)

-- the two counts in a word
abbrev pub drawn_of : ℕ → ℕ
drawn_of word = word / DRAWN

abbrev pub published_of : ℕ → ℕ
published_of word = (drawn_of word + word % DRAWN) - LEVEL

-- A table of `entries` entries has half as many buffers, and so the stamp is drawn + published less that half.
abbrev pub IsStamp : ℕ → ℕ → ℕ → Type 0
IsStamp entries word stamp = 2 * stamp + entries ≡ 2 * (drawn_of word + published_of word)

abbrev pub did_draw : Step (Option Contents) → Seated → ℕ → Seated → Type 0
did_draw st m found m' =
    (stamp : ℕ) × IsStamp st.slots found stamp × (floor_of m.0 ≤ stamp)
    × (drawn_of found < published_of found → (buffer : ℕ)
    × (m' ≡ (having_got m.0 (drawn_of found) buffer stamp, (drawn_of found % st.slots, Some (clear_chunk (drawer_seat_of m.0).size buffer)) ∷ m.1)))
    × (published_of found ≤ drawn_of found → m' ≡ (having_missed_out m.0 stamp, m.1))

abbrev pub did_collect : Step (Option Contents) → Seated → ℕ → Seated → Type 0
did_collect st m found m' = m' ≡ (having_collected m.0, rest m.1)

abbrev pub did_lay : Step (Option Contents) → Seated → ℕ → Seated → Type 0
did_lay st m found m' = (found ≡ 0 → m' ≡ (having_laid m.0, (st.word - 1, None) ∷ m.1)) × (found ≢ 0 → m' ≡ (having_unread m.0, m.1))

abbrev pub did_publish : Step (Option Contents) → Seated → ℕ → Seated → Type 0
did_publish st m found m' =
    (stamp : ℕ) × IsStamp st.slots found stamp × (floor_of m.0 ≤ stamp) × (draw_held m.0 < stamp)
    × (2 * published_of found ≡ st.slots + 2 * length (answers_in (giver_seat_of m.0).turns)) × ((giver_seat_of m.0).misses ≤ published_of found) × (published_of found < MAX_PUBLISHED)
    × (drawn_of found ≤ published_of found → m' ≡ (having_given m.0 stamp, rest m.1))
    × (published_of found < drawn_of found → m' ≡ (having_missed m.0 stamp, m.1))

-- The allowance is whole again where no number is void, and where the pool's life still has draws for all allowances.
abbrev pub did_refill : Step (Option Contents) → Seated → ℕ → Seated → Type 0
did_refill st m found m' =
    (drawn_of found ≤ published_of found → drawn_of found + MOST_AHEAD ≤ MOST_DRAWS → m' ≡ (having_refilled m.0, m.1))
    × (published_of found < drawn_of found → m' ≡ m)
    × (MOST_DRAWS < drawn_of found + MOST_AHEAD → m' ≡ m)

abbrev pub did_retake : Step (Option Contents) → Seated → ℕ → Seated → Type 0
did_retake st m found m' = m' ≡ (having_retaken m.0, rest m.1)

-- What is known when all drawers were closed: the deeds of all ends, and the counts.
pub record IsOver (entries word : ℕ) (post : GiverSeat) (n : ℕ) (log : List Deed) : Type 0 where
  pub buffers : 2 * n ≡ entries
  pub together : IsTogether n post.turns post.closed log
  pub drawn : drawn_of word ≡ drawn_in log
  pub published : published_of word ≡ n + given_in log
  pub misses : post.misses ≡ count_by is_missed (events_of log)
  pub voids : count_by is_missed (events_of log) + (drawn_in log - (n + given_in log)) ≡ count_by is_empty (events_of log)
  pub gives : GivesInTurn (events_of log)

abbrev pub Over : ℕ → ℕ → View → Type 0
Over entries word (giving post palm) = post.made ≡ length post.closed → (n : ℕ) × (log : List Deed) × IsOver entries word post n log
Over entries word view = Unit {0}

abbrev pub did_look : Step (Option Contents) → Seated → ℕ → Seated → Type 0
did_look st m found m' = (m' ≡ m) × Over st.slots found m.0

-- ---- examples

-- 5 numbers were drawn and 8 published, so three buffers wait
three_wait : packed 8 5 ≡ 92274691
three_wait = refl

drawn_there : drawn_of 92274691 ≡ 5
drawn_there = refl

published_there : published_of 92274691 ≡ 8
published_there = refl

-- 8 were drawn and 5 published, so three numbers are void
three_void : packed 5 8 ≡ 142606333
three_void = refl

drawn_before : drawn_of 142606333 ≡ 8
drawn_before = refl

published_since : published_of 142606333 ≡ 5
published_since = refl

-- a drawer with one draw left of four
abbrev tired : DrawerSeat
tired = record { size = 64; number = 0; most = 4; left = 1; floor = 0; answers = [] }

abbrev rested : DrawerSeat
rested = record { size = 64; number = 0; most = 4; left = 4; floor = 0; answers = [] }

-- it has four again where none is void
is_rested : (m : Seated) → did_refill (step 8 0 0 0 none) (drawing tired nothing, []) 92274691 m → m ≡ (drawing rested nothing, [])
is_rested m (whole, void, ended) = whole (omega arith) (omega arith)

-- and still one where a number is void
stays_tired : (m : Seated) → did_refill (step 8 0 0 0 none) (drawing tired nothing, []) 142606333 m → m ≡ (drawing tired nothing, [])
stays_tired m (whole, void, ended) = void (omega arith)
