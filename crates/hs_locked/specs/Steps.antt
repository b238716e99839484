-- What each step at the table of a locked pool tells the end that makes it: what it found, and how the seat's view goes on.
use Rattle.std.specs.Prelude.{◌≡◌, ◌≢◌, ℕ, ◌*◌, ◌<◌, ◌≤◌, List, ◌∷◌}
use Rattle.atomic_table.specs.Table.{Me, Step, rest}
use Rattle.hs_base.specs.declared.limits.TheConstants.{MOST_AHEAD}
use Rattle.hs_words.specs.Ends.{Deed, IsTogether, Counts}
use Rattle.hs_pool.specs.Pool.{HasSize, IsOut}
use Rattle.hs_locked.specs.declared.store.Store.{Store}
use Rattle.hs_locked.specs.Stored.{IsCounted}
use Rattle.hs_locked.specs.Views.{Palm, bare, holds, queued, inside, closing, View, nobody, drawing, leasing, giving, drawer_note, giver_note, size_of, floor_of, ticket_of, standing, having_left, giver_seat_of}

abbrev pub Seated : Type 0
Seated = Me Store View

-- the buffer that the giver has may be given, and its draw came before
abbrev pub PalmFits : Store → Palm → Type 0
PalmFits store bare = Unit {0}
PalmFits store (holds buffer draw) = IsOut store.pool buffer × (draw < store.pool.events)

abbrev pub Fits : Store → View → Type 0
Fits store nobody = Unit {0}
Fits store (drawing desk hand stand) = Unit {0}
Fits store (leasing buffer draw) = Unit {0}
Fits store (giving post palm stand) = PalmFits store palm
Fits store (drawer_note floor stamps) = Unit {0}
Fits store (giver_note floor) = Unit {0}

-- what an end finds when its turn comes
pub record Finds (view : View) (store : Store) : Type 0 where
  pub sized : HasSize (size_of view) store.pool
  pub floor : floor_of view ≤ store.pool.events
  pub few : store.pool.events ≤ 2 * MOST_AHEAD
  pub counted : IsCounted store
  pub fits : Fits store view

-- what is known when all drawers were closed
pub record IsOver (view : View) (store : Store) : Type 0 where
  pub together : (log : List Deed) × IsTogether (giver_seat_of view).buffers (giver_seat_of view).turns (giver_seat_of view).closed log × Counts log store.tally
  pub counted : IsCounted store

abbrev pub did_take_ticket : Step Store → Seated → ℕ → Seated → Type 0
did_take_ticket st m found m' = m' ≡ (standing m.0 (queued found), m.1)

abbrev pub did_look : Step Store → Seated → ℕ → Seated → Type 0
did_look st m found m' =
    (found ≡ ticket_of m.0 → (store : Store) × (m' ≡ (standing m.0 (inside store), (0, store) ∷ m.1)) × Finds m.0 store)
    × (found ≢ ticket_of m.0 → m' ≡ m)

abbrev pub did_leave : Step Store → Seated → ℕ → Seated → Type 0
did_leave st m found m' = m' ≡ (having_left m.0, rest m.1)

abbrev pub did_close : Step Store → Seated → ℕ → Seated → Type 0
did_close st m found m' = (store : Store) × (m' ≡ (standing m.0 (closing store), (0, store) ∷ m.1)) × IsOver m.0 store
